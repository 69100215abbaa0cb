-- `try_sheets::say_pair` meets its contract: the next pair begins behind this one's header.
use native.Mathlib.Omega.{arith}
use borrow.Author.Rules.{rules}
use Rattle.try_sheets.proofs.say_pair.Goals as goal

pub returns : goal.returns
returns c =
    let further = c.number_to-first.ensures.further c.requires in
    (omega arith, omega arith)
