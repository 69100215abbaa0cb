-- `ranges::range::standing_ok` meets its contract: at each exit the tests passed say what the definition's tests say.
use mathlib.Core.Path.{◌≡◌, refl, sym, ap, ◌∙◌}
use mathlib.Core.Bool.{Bool, true, false, not, cond}
use mathlib.Core.List.{List}
use Prim.Native.Nat.{ℕ}
use lib.Dec.{eqb}
use borrow.Author.Tests.{eq-eqb, ne_eqb}
use Rattle.rules.specs.Words.{core, semaphore}
use Rattle.ranges.specs.Range.{core_ok, standing_ok}
use Rattle.ranges.proofs.States.{semaphore_chart_lem}
use Rattle.ranges.proofs.range.standing_ok.Goals as goal

-- a core is never without a state, and any other name may be
none_yet : (nums : List ℕ) (kind : ℕ) → not (eqb kind core) ≡ standing_ok nums kind 0
unfolding standing_ok core_ok
none_yet nums kind = by_kind (eqb kind core) (eqb kind semaphore)
  where
    by_kind : (a b : Bool) → not a ≡ cond a (core_ok nums 0) (cond b true true)
    by_kind true b = refl
    by_kind false true = refl
    by_kind false false = refl

pub returns-then-standing-eq0 : goal.returns-then-standing-eq0
returns-then-standing-eq0 c = none_yet c.args.nums.now c.args.kind ∙ ap (standing_ok c.args.nums.now c.args.kind) (sym c.if-standing-eq0.true)

pub returns-then-kind-eq-CORE : goal.returns-then-kind-eq-CORE
unfolding standing_ok
returns-then-kind-eq-CORE c = rw (eq-eqb _ core c.if-kind-eq-CORE.true) c.core_ok.ensures

pub returns-then-kind-eq-SEMAPHORE : goal.returns-then-kind-eq-SEMAPHORE
unfolding standing_ok
returns-then-kind-eq-SEMAPHORE c =
    rw (
      ne_eqb _ core c.if-kind-eq-CORE.false,
      eq-eqb _ semaphore c.if-kind-eq-SEMAPHORE.true,
      ne_eqb _ 0 c.if-standing-eq0.false,
      c.of_semaphore.ensures,
      semaphore_chart_lem,
    )

pub returns : goal.returns
unfolding standing_ok
returns c = rw (ne_eqb _ core c.if-kind-eq-CORE.false, ne_eqb _ semaphore c.if-kind-eq-SEMAPHORE.false, ne_eqb _ 0 c.if-standing-eq0.false)
