-- `text::name::name` meets its contract: at each exit the tests passed say what the definition's tests say.
use Rattle.std.proofs.Common.{length, arith, le-leb}
use borrow.Author.Tests.{lt-leb}
use Rattle.text.specs.Name.{name_most, is_name}
use Rattle.text.proofs.name.name.Goals as goal

pub returns-then-s-eq0 : goal.returns-then-s-eq0
unfolding is_name
returns-then-s-eq0 c = rw (lt-leb 1 (length c.args.s.now) (omega arith))

pub returns-then-s-gt-NAME_MOST : goal.returns-then-s-gt-NAME_MOST
unfolding is_name
returns-then-s-gt-NAME_MOST c =
    let n = length c.args.s.now in
    rw (le-leb 1 n (omega arith), lt-leb n name_most (omega arith))

pub returns : goal.returns
unfolding is_name
returns c =
    let n = length c.args.s.now in
    rw (le-leb 1 n (omega arith), le-leb n name_most (omega arith)) c.name_bytes.ensures
