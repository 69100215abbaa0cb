-- The search over rows of numbers that the code makes is the chart's own step, for any chart whose words have one step each and enter no state 0.
use Rattle.std.proofs.Common.{None, Some, Option}
use mathlib.Core.Path.{◌≡◌, refl, ◌∙◌}
use mathlib.Core.Bool.{Bool, true, false, not, ◌&&◌, ◌||◌, cond}
use mathlib.Core.List.{List, [], ◌∷◌}
use Prim.Native.Nat.{ℕ, zero, suc, ◌+◌, ◌≤◌, ◌<◌}
use native.Mathlib.Numerals.{add-one}
use native.Mathlib.Omega.{arith}
use lib.Dec.{eqb}
use lib.ListN.{length, get_or, drop, drop_of_length-le}
use lib.Seq.{drop-cons}
use borrow.Author.Tests.{eqb-true, ne_eqb, not-true}
use Rattle.rules.specs.Lists.{member, or_else, when}
use Rattle.rules.specs.Chart.{Step, leaves, step_for, allowed_by}
use Rattle.rules.proofs.Tests.{both}
use Rattle.steps.specs.Rows.{opened, leads_to, move_if, move_by, rows_for, flat, row_serves, entered_in, move_in, lacks, plain}

-- ---- the loop: one row more, and the end

pub row_turn : (l : List (List ℕ)) (i a s : ℕ) → i < length l →
    entered_in (drop i l) a s ≡ cond (row_serves (get_or l i []) a s) (get_or (get_or l i []) 2 0) (entered_in (drop (i + 1) l) a s)
unfolding entered_in
row_turn l i a s h = rw (add-one, drop-cons l i [])

pub row_end : (l : List (List ℕ)) (i a s : ℕ) → length l ≤ i → entered_in (drop i l) a s ≡ 0
unfolding entered_in
row_end l i a s h = rw (drop_of_length-le l h)

-- ---- the rows of a chart

-- two rows of one step in a row are as one test
two_tests : (p q r m : Bool) (n k : ℕ) → cond (p && (q || r)) n (cond (p && (q || m)) n k) ≡ cond (p && (q || (r || m))) n k
two_tests false q r m n k = refl
two_tests true true r m n k = refl
two_tests true false true m n k = refl
two_tests true false false m n k = refl

rows_for_lem : (w x : ℕ) (xs : List ℕ) (n : ℕ) (rest : List (List ℕ)) (a s : ℕ) →
    entered_in (rows_for w (x ∷ xs) n rest) a s ≡ cond (eqb a w && (eqb s 0 || member s (x ∷ xs))) n (entered_in rest a s)
unfolding entered_in row_serves
rows_for_lem w x [] n rest a s = one_test (eqb a w) (eqb s 0) (eqb s x)
  where
    one_test : (p q r : Bool) → cond (p && (q || r)) n (entered_in rest a s) ≡ cond (p && (q || (r || false))) n (entered_in rest a s)
    one_test false q r = refl
    one_test true true r = refl
    one_test true false true = refl
    one_test true false false = refl
rows_for_lem w x (y ∷ ys) n rest a s = rw (rows_for_lem w y ys n rest a s) (two_tests (eqb a w) (eqb s 0) (eqb s x) (member s (y ∷ ys)) n (entered_in rest a s))

lacks_none : (o : Option Step) → lacks o ≡ true → o ≡ None
lacks_none None q = refl
lacks_none (Some r) q = cc

abbrev entered_by : Option Step → ℕ → ℕ
entered_by None s = 0
entered_by (Some r) s = cond (eqb s 0 || leaves r s) r.enters 0

flat_search : (t : List Step) → plain t ≡ true → (a s : ℕ) → entered_in (flat t) a s ≡ entered_by (step_for t a) s
unfolding flat plain entered_in
flat_search [] p a s = refl
flat_search (r ∷ rs) p a s =
    let k = both (lacks (step_for rs r.word) && not (eqb r.enters 0)) (plain rs) p in
    rows_for_lem r.word r.first r.others r.enters (flat rs) a s
    ∙ by_word (eqb a r.word) refl (lacks_none (step_for rs r.word) (both _ (not (eqb r.enters 0)) k.0).0) (flat_search rs k.1 a s)
  where
    by_word : (b : Bool) → eqb a r.word ≡ b → step_for rs r.word ≡ None → entered_in (flat rs) a s ≡ entered_by (step_for rs a) s →
        cond (b && (eqb s 0 || leaves r s)) r.enters (entered_in (flat rs) a s) ≡ entered_by (or_else (when b r) (step_for rs a)) s
    by_word true q z i = rw (i, eqb-true a r.word q, z)
    by_word false q z i = i

-- a step of the chart enters no 0
abbrev pub Enters : Option Step → Type 0
Enters None = Unit {0}
Enters (Some r) = eqb r.enters 0 ≡ false

pub enters : (t : List Step) → plain t ≡ true → (a : ℕ) → Enters (step_for t a)
unfolding plain
enters [] p a = tt
enters (r ∷ rs) p a =
    let k = both (lacks (step_for rs r.word) && not (eqb r.enters 0)) (plain rs) p in
    by_word (eqb a r.word) (not-true _ (both (lacks (step_for rs r.word)) _ k.0).1) (enters rs k.1 a)
  where
    by_word : (b : Bool) → eqb r.enters 0 ≡ false → Enters (step_for rs a) → Enters (or_else (when b r) (step_for rs a))
    by_word true q i = q
    by_word false q i = i

-- the rows say what the chart says
pub moves : (t : List Step) → plain t ≡ true → (a s : ℕ) → move_in (flat t) a s ≡ move_by t a s
unfolding move_in move_by
moves t p a s = rw (flat_search t p a s, flat_search t p a 0) (by_step (step_for t a) (enters t p a) s)
  where
    by_step : (o : Option Step) → Enters o → (n : ℕ) →
        cond (eqb (entered_by o n) 0) (cond (eqb (entered_by o 0) 0) (Some n) None) (Some (entered_by o n)) ≡ move_if (allowed_by o (opened n)) (leads_to o n)
    by_step None q n = refl
    by_step (Some r) q zero = rw q
    by_step (Some r) q (suc n) = rw (ne_eqb (suc n) 0 (λ z. omega (arith, z))) (by_state (leaves r (suc n)))
      where
        by_state : (b : Bool) → cond (eqb (cond b r.enters 0) 0) (cond (eqb r.enters 0) (Some (suc n)) None) (Some (cond b r.enters 0)) ≡ move_if b r.enters
        by_state true = rw q
        by_state false = rw q
