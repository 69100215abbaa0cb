-- `tables::fresh::fresh` meets its contract: 15 by the sizes, with nothing written, else every entry of the three tables is 0.
use Rattle.std.proofs.Common.{sym, ◌∙◌}
use Rattle.tables.specs.Fresh.{cleared_of}
use Rattle.tables.proofs.Zeros.{clear_all}
use Rattle.tables.proofs.fresh.fresh.Goals as goal

pub returns-then-not-sized : goal.returns-then-not-sized
unfolding cleared_of
returns-then-not-sized c = rw (← c.sized.ensures, c.if-not-sized.true)

pub returns : goal.returns
returns c =
    clear_all _ _ _ _ _ _ (sym c.sized.ensures ∙ c.if-not-sized.false)
    (c.fill.ensures.after (λ y e. e))
    (c.fill-2.ensures.after (λ y e. e))
    (c.fill-3.ensures.after (λ y e. e))
