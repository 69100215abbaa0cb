-- The rows of a section, tested one after the other: what those from here on come to, with what was found before them.
use Rattle.std.proofs.Common.{None, Some, Option}
use mathlib.Core.Path.{◌≡◌, sym, ap}
use mathlib.Core.Bool.{false, ◌&&◌}
use mathlib.Core.Logic.{⊎_elim}
use mathlib.Core.List.{List, [], ◌∷◌, map}
use Prim.Native.Nat.{ℕ, ◌+◌, ◌-◌, ◌≤◌, ◌<◌}
use native.Mathlib.Numerals.{add-one}
use native.Mathlib.Omega.{arith}
use lib.Dec.{eqb, leb}
use lib.ListN.{length, get_or, drop, drop_of_length-le}
use lib.Seq.{drop-cons}
use borrow.Author.Tests.{eqb-true, eq-eqb, ne_eqb, leb-false}
use Rattle.text.specs.Number.{number_if}
use Rattle.text.specs.Lists.{all}
use Rattle.text.proofs.Bools.{and_l, and_r, is_false, same_or_not}
use Rattle.bill.specs.Reading.{row_from}
use Rattle.shifts.specs.Sound.{first, firsts}
use Rattle.paper.specs.Lines.{line_from}
use Rattle.paper.specs.Rows.{row_of, core_ok, core_held, process_charge}
use Rattle.paper.proofs.Numbers.{if_value, if_bad, bad_if}
use Rattle.paper.proofs.RowTests.{charged, charge_small}
use Rattle.adding.specs.RowCode.{all_held, charges_make}

pub rows_next : (text places : List ℕ) (i : ℕ) → i < length places → map (line_from text) (drop i places) ≡ line_from text (get_or places i 0) ∷ map (line_from text) (drop (i + 1) places)
rows_next text places i h = rw (drop-cons places i 0, add-one)

rows_end : (text places : List ℕ) (i : ℕ) → length places ≤ i → map (line_from text) (drop i places) ≡ []
rows_end text places i h = rw (drop_of_length-le places h)

unfoldable pub held_with : ℕ → ℕ → List (List ℕ) → Option ℕ
held_with span sum ls = number_if (all (core_ok span) ls) (sum + firsts (map row_from ls))

pub held_start : (span : ℕ) (ls : List (List ℕ)) → all_held span ls ≡ held_with span 0 ls
unfolding all_held held_with
held_start span ls = let z : 0 + firsts (map row_from ls) ≡ firsts (map row_from ls) = omega arith in rw z

pub held_end : (span sum : ℕ) (text places : List ℕ) (i : ℕ) → length places ≤ i → held_with span sum (map (line_from text) (drop i places)) ≡ Some sum
unfolding held_with
held_end span sum text places i h = let z : sum + 0 ≡ sum = omega arith in rw (rows_end text places i h, z)

module _ (span : ℕ) (l : List ℕ) (ls : List (List ℕ)) where
  pub held_bad : (sum : ℕ) → core_held span l ≡ None → held_with span sum (l ∷ ls) ≡ None
  unfolding core_held held_with
  held_bad sum e = rw (if_bad (core_ok span l) (first (row_from l).figures) e)

  pub held_turn : (sum h : ℕ) → core_held span l ≡ Some h → held_with span sum (l ∷ ls) ≡ held_with span (sum + h) ls
  unfolding core_held held_with
  held_turn sum h e =
      let w = if_value (core_ok span l) (first (row_from l).figures) h e in
      let z : sum + (h + firsts (map row_from ls)) ≡ sum + h + firsts (map row_from ls) = omega arith in
      rw (w.0, w.1, z)

eqb_alike : (m n a b : ℕ) → (m ≡ n → a ≡ b) → (a ≡ b → m ≡ n) → eqb m n ≡ eqb a b
eqb_alike m n a b f g = ⊎_elim (λ e. rw (eq-eqb m n e, eq-eqb a b (f e))) (λ e. rw (ne_eqb m n e, ne_eqb a b (λ d. e (g d)))) (same_or_not m n)

pub charges_end : (left : ℕ) (text places : List ℕ) (i : ℕ) → length places ≤ i → charges_make left (map (line_from text) (drop i places)) ≡ eqb left 0
unfolding charges_make
charges_end left text places i h = rw (rows_end text places i h) (eqb_alike 0 left left 0 sym sym)

module _ (left : ℕ) (l : List ℕ) (ls : List (List ℕ)) where
  pub charge_bad : process_charge left l ≡ None → charges_make left (l ∷ ls) ≡ false
  unfolding process_charge charges_make
  charge_bad e = is_false (charges_make left (l ∷ ls)) (λ t.
      let r = and_l (row_of 1 l) (all (row_of 1) ls) (and_l (all (row_of 1) (l ∷ ls)) _ t) in
      let s = eqb-true (first (row_from l).figures + firsts (map row_from ls)) left (and_r (all (row_of 1) (l ∷ ls)) _ t) in
      omega (arith, leb-false (first (row_from l).figures) left (bad_if (row_of 1 l) (leb (first (row_from l).figures) left) (first (row_from l).figures) e r)))

  pub charge_turn : (n : ℕ) → process_charge left l ≡ Some n → charges_make left (l ∷ ls) ≡ charges_make (left - n) ls
  unfolding charges_make
  charge_turn n e =
      let w = charged left l n e in
      let h = charge_small left l n e in
      rw (and_l (row_of 1 l) (leb (first (row_from l).figures) left) w.0, w.1)
      (ap (λ t. all (row_of 1) ls && t) (eqb_alike (n + firsts (map row_from ls)) left (firsts (map row_from ls)) (left - n) (λ p. omega arith) (λ p. omega arith)))
