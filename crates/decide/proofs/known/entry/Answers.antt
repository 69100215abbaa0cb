-- `decide::known::entry` meets its contract: 0 without a row or for a row past the column, else the entry.
use borrow.Author.Tests.{lt-ltb, le-ltb}
use Rattle.decide.specs.Known.{entry_of}
use Rattle.decide.proofs.known.entry.Goals as goal

pub returns-in_default : goal.returns-in_default
unfolding entry_of
returns-in_default c = rw c.in_default.is

pub returns-then-rows-i : goal.returns-then-rows-i
unfolding entry_of
returns-then-rows-i c = rw (c.in-Some.is, le-ltb _ _ c.if-rows-i.true)

pub returns : goal.returns
unfolding entry_of
returns c = rw (c.in-Some.is, lt-ltb _ _ c.if-rows-i.false)
