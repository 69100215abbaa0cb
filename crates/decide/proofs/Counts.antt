-- What single numbers of the tables say: a row that is named, the least count of an event word.
use mathlib.Core.Path.{◌≡◌, refl, sym}
use mathlib.Core.Bool.{Bool, true, false, cond, ◌||◌}
use mathlib.Core.List.{[], ◌∷◌}
use Prim.Native.Nat.{ℕ, ◌-◌, ◌≤◌, ◌<◌}
use native.Mathlib.Omega.{arith}
use lib.Dec.{eqb, leb, leb-zero}
use borrow.Author.Tests.{eqb-true, eqb-false, eq-eqb, ne_eqb}
use Rattle.rules.specs.Lists.{member}
use Rattle.rules.specs.Words.{increment, lock_used, full, overfull, unlock_full, used}
use Rattle.rules.specs.Refusals.{count_allowed}
use Rattle.rules.specs.Words.{free, unlock, lock}
use Rattle.tables.specs.Entry.{held_from, held_by}
use Rattle.decide.specs.PlanCode.{least_count}

-- a core's state is 2 more than the row of the process whose instance holds it
pub row_named : (m j : ℕ) → held_from ≤ m → eqb (m - held_from) j ≡ eqb m (held_by j)
row_named m j h = by_test (eqb (m - held_from) j) refl
  where
    by_test : (b : Bool) → eqb (m - held_from) j ≡ b → b ≡ eqb m (held_by j)
    by_test true q = sym (eq-eqb m (held_by j) (omega (arith, eqb-true (m - held_from) j q)))
    by_test false q = sym (ne_eqb m (held_by j) (λ e. eqb-false (m - held_from) j q (omega arith)))

pub row_unnamed : (m j : ℕ) → m < held_from → false ≡ eqb m (held_by j)
row_unnamed m j h = sym (ne_eqb m (held_by j) (λ q. omega arith))

-- but for the three words that fix the count
pub least_fits : (a n : ℕ) → eqb a free ≡ false → eqb a unlock ≡ false → eqb a lock ≡ false → leb (least_count a) n ≡ count_allowed a n
unfolding least_count count_allowed
least_fits a n p q r = rw (p, q, r) (by_test (eqb a increment) (member a (used ∷ unlock_full ∷ lock_used ∷ full ∷ [])) (eqb a overfull))
  where
    by_test : (i m o : Bool) → leb (cond (i || m) 1 (cond o 2 0)) n ≡ cond i (leb 1 n) (cond m (leb 1 n) (cond o (leb 2 n) true))
    by_test true m o = refl
    by_test false true o = refl
    by_test false false true = refl
    by_test false false false = leb-zero n
