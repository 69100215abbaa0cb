use mathlib.Core.Path.{sym, ap, ◌∙◌}
use native.Mathlib.Omega.{arith}
use borrow.Author.Count.{below_more}
use Rattle.tables.proofs.Chains.{pass, stop}
use Rattle.index.proofs.Folds.{home_at_lt}
use Rattle.ranges.specs.IndexCode.{row_placed}
use Rattle.ranges.proofs.UpTo.{up_all, up_not}
use Rattle.ranges.proofs.Valid.{name_mean}
use Rattle.ranges.proofs.range.names_ok.Goals as goal

pub returns-then-not-name_ok : goal.returns-then-not-name_ok
returns-then-not-name_ok c = sym (up_not _ _ _ c.loop-i-test.true (sym (stop _ (sym c.name_ok.ensures ∙ c.if-not-name_ok.true))))

pub home_at-home-requires : goal.home_at-home-requires
home_at-home-requires c =
    let row = (name_mean c.args.names.now c.args.nums.now c.args.ticks.now c.loop-i.i).holds (sym c.name_ok.ensures ∙ c.if-not-name_ok.false) in
    (omega (arith, c.requires.0), row.length_most)

pub row_placed-requires : goal.row_placed-requires
row_placed-requires c =
    let h = home_at_lt c.args.names.now c.args.nums.now c.loop-i.i in
    (omega (arith, c.home_at-home.ensures), omega (arith, c.requires.0))

pub returns-then-not-row_placed : goal.returns-then-not-row_placed
returns-then-not-row_placed c = sym (up_not _ _ _ c.loop-i-test.true (sym (pass (sym c.name_ok.ensures ∙ c.if-not-name_ok.false) (c.row_placed.ensures ∙ ap (λ h. row_placed c.args.index.now h c.loop-i.i) c.home_at-home.ensures)) ∙ c.if-not-row_placed.true))

pub loop-i-preserved : goal.loop-i-preserved
loop-i-preserved c = below_more _ _ c.loop-i.invariant (sym (pass (sym c.name_ok.ensures ∙ c.if-not-name_ok.false) (c.row_placed.ensures ∙ ap (λ h. row_placed c.args.index.now h c.loop-i.i) c.home_at-home.ensures)) ∙ c.if-not-row_placed.false)

pub returns : goal.returns
returns c = sym (up_all _ _ (λ k h. c.loop-i.invariant k (omega arith)))
