-- A test means a statement: it is true exactly where the statement holds. So a definition by tests is taken apart and put together at once.
use mathlib.Core.Path.{◌≡◌, sym}
use mathlib.Core.Bool.{Bool, true, false, ◌&&◌}
use Prim.Native.Nat.{ℕ, ◌≤◌, ◌<◌}
use lib.Dec.{leb, ltb, eqb}
use borrow.Author.Tests.{le-leb, leb-true, lt-ltb, ltb-true, eq-eqb, eqb-true}
use Rattle.text.proofs.Bools.{and_l, and_r, is_false}
use Rattle.tables.proofs.Chains.{pass}

pub record Means (t : Bool) (P : Type 0) : Type 0 where
  pub holds : t ≡ true → P
  pub shows : P → t ≡ true

pub means_le : (a b : ℕ) → Means (leb a b) (a ≤ b)
means_le a b = record { holds = leb-true a b; shows = le-leb a b }

pub means_lt : (a b : ℕ) → Means (ltb a b) (a < b)
means_lt a b = record { holds = ltb-true a b; shows = lt-ltb a b }

pub means_eq : (a b : ℕ) → Means (eqb a b) (a ≡ b)
means_eq a b = record { holds = eqb-true a b; shows = eq-eqb a b }

pub means_true : (t : Bool) → Means t (t ≡ true)
means_true t = record { holds = λ e. e; shows = λ e. e }

pub means_and : {t r : Bool} {P Q : Type 0} → Means t P → Means r Q → Means (t && r) (P × Q)
means_and {t} {r} m n =
    record {
      holds = λ e. (m.holds (and_l t r e), n.holds (and_r t r e));
      shows = λ p. sym (pass (m.shows p.0) (sym (n.shows p.1)));
    }

-- the same statement in another form
pub means_as : {t : Bool} {P Q : Type 0} → Means t P → (P → Q) → (Q → P) → Means t Q
means_as m f g = record { holds = λ e. f (m.holds e); shows = λ q. m.shows (g q) }

-- a statement that does not hold
pub fails : {t : Bool} {P : Type 0} → Means t P → (P → ⊥) → t ≡ false
fails {t} m h = is_false t (λ e. h (m.holds e))
