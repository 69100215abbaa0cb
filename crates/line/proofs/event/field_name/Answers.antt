-- `line::event::field_name` meets its contract: the whole test, or the length alone where the bytes are known to be a name's.
use mathlib.Core.Bool.{and-true}
use native.Mathlib.Omega.{arith}
use borrow.Author.Tests.{le-leb, lt-leb}
use lib.ListN.{length}
use Rattle.text.specs.Name.{is_name}
use Rattle.line.proofs.event.field_name.Goals as goal

pub returns-then-s-eq0 : goal.returns-then-s-eq0
unfolding is_name
returns-then-s-eq0 c = rw (lt-leb 1 (length c.args.s.now) (omega arith))

pub returns : goal.returns
unfolding is_name
returns c = rw (le-leb 1 (length c.args.s.now) (omega arith), c.requires c.if-not-plain.false, and-true)
