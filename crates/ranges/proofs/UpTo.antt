-- A test at each of a number of rows: each passes, or one fails; two tests; and what the whole means.
use mathlib.Core.Path.{◌≡◌, refl, sym, ap, ◌∙◌}
use mathlib.Core.Bool.{Bool, true, false, ◌&&◌, and-false}
use mathlib.Core.Logic.{⊎_elim}
use Prim.Native.Nat.{ℕ, zero, suc, ◌<◌}
use native.Mathlib.Nat.{le_of_suc-le-suc, not-suc-le-zero, eq-or-lt_of_le}
use native.Mathlib.Omega.{arith}
use Rattle.text.proofs.Bools.{and_l, and_r, is_false}
use Rattle.tables.proofs.Chains.{pass}
use Rattle.tables.proofs.Means.{Means}
use Rattle.ranges.specs.Range.{up_to}

-- the test at each number below n
pub up_each : (f : ℕ → Bool) (n : ℕ) → up_to f n ≡ true → (k : ℕ) → k < n → f k ≡ true
unfolding up_to
up_each f zero e k h = absurd (not-suc-le-zero h)
up_each f (suc n) e k h =
    ⊎_elim (λ q. rw q (and_r (up_to f n) (f n) e)) (λ l. up_each f n (and_l (up_to f n) (f n) e) k l) (eq-or-lt_of_le (le_of_suc-le-suc h))

pub up_all : (f : ℕ → Bool) (n : ℕ) → ((k : ℕ) → k < n → f k ≡ true) → up_to f n ≡ true
unfolding up_to
up_all f zero h = refl
up_all f (suc n) h = sym (pass (up_all f n (λ k l. h k (omega arith))) (sym (h n (omega arith))))

pub up_not : (f : ℕ → Bool) (n k : ℕ) → k < n → f k ≡ false → up_to f n ≡ false
up_not f n k h e = is_false (up_to f n) (λ u. let z : true ≡ false = sym (up_each f n u k h) ∙ e in let o : ◌≡◌ {A = ℕ} 0 1 = cc in omega arith)

-- of four tests the middle ones change places
pub crossed : (a b c d : Bool) → (a && b) && (c && d) ≡ (a && c) && (b && d)
crossed true true c d = refl
crossed true false c d = sym (and-false c)
crossed false b c d = refl

-- two tests made of each row in turn
pub up_and : (f g : ℕ → Bool) (n : ℕ) → up_to (λ k. f k && g k) n ≡ up_to f n && up_to g n
unfolding up_to
up_and f g zero = refl
up_and f g (suc n) = ap (λ b. b && (f n && g n)) (up_and f g n) ∙ crossed (up_to f n) (up_to g n) (f n) (g n)

pub means_up : {f : ℕ → Bool} {P : ℕ → Type 0} (n : ℕ) → ((k : ℕ) → Means (f k) (P k)) → Means (up_to f n) ((k : ℕ) → k < n → P k)
means_up {f} n m = record { holds = λ e k h. (m k).holds (up_each f n e k h); shows = λ p. up_all f n (λ k h. (m k).shows (p k h)) }
