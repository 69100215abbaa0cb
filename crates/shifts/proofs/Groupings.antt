-- Sheets added in any grouping come to what all of them come to together (`grouped`), and have a sum exactly if all of them fit (`added_exactly`). 02, No. 12: "either way
-- of adding three sheets gives the same bytes or both ways refuse, though perhaps with different reasons".
use Rattle.std.proofs.Common.{Option, None, Some, is_some}
use mathlib.Core.Path.{◌≡◌, refl, sym, ap, ◌∙◌}
use mathlib.Core.Bool.{Bool, true, false}
use mathlib.Core.Logic.{◌↔◌}
use mathlib.Core.List.{List, [], ◌∷◌, ◌++◌, append-nil, append_assoc}
use Prim.Native.Nat.{ℕ, zero, suc}
use native.Mathlib.Omega.{arith}
use Rattle.bill.specs.Reading.{Bill, bill_text}
use Rattle.shifts.specs.Sound.{sound_sheet}
use Rattle.shifts.specs.Sum.{sum, refusal, Total, Text, Refusal, total_by, add_sound, add_texts, add_totals, add_next, add_all}
use Rattle.shifts.specs.Many.{is_sound, text_if, alone, sum_from, HasText}
use Rattle.shifts.specs.Together.{with_next, bills_of, together}
use Rattle.shifts.specs.Grouping.{Grouping, Sheet, Sum, sheets_of, comes_to, bytes_of, from_left}
use Rattle.shifts.proofs.Fine.{sound_is}
use Rattle.shifts.proofs.Refusals.{addable_exactly}
use Rattle.shifts.proofs.Many.{sum_sound, add_alone}
use Rattle.shifts.proofs.Sums.{SumOf, alone_sum, both_sum, sum_is}
use Rattle.shifts.proofs.Fits.{Fit, alone_fit, both_fit, parts_fit}
use Rattle.shifts.proofs.AllFits.{AllFit, fit_together, unfit_together, bills_more, fewer_sheets}

-- ---- what a grouping of sheets that has a sum came from, and what its sum is

-- the bills of its sheets, and the bill of its text, which is their sum
pub record CameTo (g : Grouping) (t : List ℕ) : Type 0 where
  pub first : Bill
  pub others : List Bill
  pub read : bills_of (sheets_of g) ≡ Some (first ∷ others)
  pub fit : Fit (first ∷ others)
  pub bill : Bill
  pub sound : sound_sheet t ≡ Some bill
  pub sums : SumOf (first ∷ others) bill

-- what a total says of the sheets that come to it
abbrev Says : Grouping → Total → Type 0
Says g (Text t) = CameTo g t
Says g (Refusal n) = AllFit (sheets_of g) → ⊥

of_sheet : (t : List ℕ) → Says (Sheet t) (alone t)
unfolding alone is_sound
of_sheet t = by_bill (sound_sheet t) refl
  where
    by_bill : (o : Option Bill) → sound_sheet t ≡ o → Says (Sheet t) (text_if (is_some o) t)
    by_bill None r = λ w. let e : None ≡ Some w.bills = sym (ap (λ (o : Option Bill). with_next o (Some [])) r) ∙ w.read in cc
    by_bill (Some b) r = record { first = b; others = []; read = rw r; fit = alone_fit b (sound_is t b r).1; bill = b; sound = r; sums = alone_sum b }

module _ (g h : Grouping) where
  -- and of those of two groupings, with its bytes
  abbrev SaysSum : Total → Type 0
  SaysSum x = Says (Sum g h) x × (bytes_of x ≡ together (sheets_of g ++ sheets_of h))

  unfit : (n : ℕ) → (AllFit (sheets_of g ++ sheets_of h) → ⊥) → SaysSum (Refusal n)
  unfit n k = (k, sym (unfit_together (sheets_of g ++ sheets_of h) k))

  module _ (t u : List ℕ) (c : CameTo g t) (d : CameTo h u) where
    abbrev a : Bill
    a = c.bill

    abbrev b : Bill
    b = d.bill

    abbrev all : List Bill
    all = c.first ∷ c.others ++ d.first ∷ d.others

    all_read : bills_of (sheets_of g ++ sheets_of h) ≡ Some all
    all_read = bills_more (sheets_of g) (sheets_of h) ∙ rw (c.read, d.read)

    all_fit : (refusal a b ≡ 0) ↔ Fit all
    all_fit = (
      λ e. both_fit c.first c.others d.first d.others a b c.sums d.sums c.fit d.fit ((addable_exactly a b).0 e),
      λ k. (addable_exactly a b).1 (parts_fit c.first c.others d.first d.others a b c.sums d.sums k).1.1,
    )

    came_both : refusal a b ≡ 0 → CameTo (Sum g h) (bill_text (sum a b))
    came_both e = record {
      first = c.first;
      others = c.others ++ d.first ∷ d.others;
      read = all_read;
      fit = all_fit.0 e;
      bill = sum a b;
      sound = sum_sound a b (sound_is t a c.sound).1 (sound_is u b d.sound).1 e;
      sums = both_sum c.first c.others (d.first ∷ d.others) a b c.sums d.sums;
    }

    both_bytes : refusal a b ≡ 0 → Some (bill_text (sum a b)) ≡ together (sheets_of g ++ sheets_of h)
    both_bytes e =
        rw (sum_is c.first c.others (d.first ∷ d.others) a b c.sums d.sums)
        (sym (fit_together (sheets_of g ++ sheets_of h) (record { bills = all; read = all_read; fit = all_fit.0 e })))

    fit_added : AllFit (sheets_of g ++ sheets_of h) → refusal a b ≡ 0
    fit_added w = let same : w.bills ≡ all = cc all_read in all_fit.1 (rw (← same) w.fit)

    two_texts : SaysSum (add_texts t u)
    unfolding add_texts
    two_texts = rw (c.sound, d.sound) (by_number (refusal a b) refl)
      where
        by_number : (n : ℕ) → refusal a b ≡ n → SaysSum (total_by n (sum a b))
        by_number zero e = (came_both e, both_bytes e)
        by_number (suc n) e = unfit (suc n) (λ w. omega (arith, fit_added w))

  two_totals : (x y : Total) → Says g x → Says h y → SaysSum (add_totals x y)
  two_totals (Refusal n) y r s = unfit n (λ w. r (fewer_sheets (sheets_of g) (sheets_of h) w).0)
  two_totals (Text t) (Refusal n) c s = unfit n (λ w. s (fewer_sheets (sheets_of g) (sheets_of h) w).1)
  two_totals (Text t) (Text u) c d = two_texts t u c d

said : (g : Grouping) → Says g (comes_to g)
said (Sheet t) = of_sheet t
said (Sum g h) = (two_totals g h (comes_to g) (comes_to h) (said g) (said h)).0

pub grouped : (g h : Grouping) → bytes_of (comes_to (Sum g h)) ≡ together (sheets_of g ++ sheets_of h)
grouped g h = (two_totals g h (comes_to g) (comes_to h) (said g) (said h)).1

-- ---- added from the left

-- one that may not be added is 21 by itself and in a sum of two
add_sheet : (x : Total) (u : List ℕ) → add_totals x (alone u) ≡ add_next x u
unfolding alone is_sound add_texts
add_sheet (Text t) u = by_bill (sound_sheet u) refl
  where
    unread : (o : Option Bill) → Refusal 21 ≡ add_sound o None
    unread None = refl
    unread (Some a) = refl

    by_bill : (o : Option Bill) → sound_sheet u ≡ o → add_totals (Text t) (text_if (is_some o) u) ≡ add_sound (sound_sheet t) o
    by_bill None r = unread (sound_sheet t)
    by_bill (Some b) r = rw r
add_sheet (Refusal n) u = refl

from_left_lem : (g : Grouping) (us : List (List ℕ)) → add_all (comes_to g) us ≡ comes_to (from_left g us)
from_left_lem g [] = refl
from_left_lem g (u ∷ us) = rw (← (add_sheet (comes_to g) u)) (from_left_lem (Sum g (Sheet u)) us)

-- the refusal's number too
pub left_grouped : (t : List ℕ) (us : List (List ℕ)) → sum_from t us ≡ comes_to (from_left (Sheet t) us)
left_grouped t us = from_left_lem (Sheet t) us

pub sheets_left : (g : Grouping) (us : List (List ℕ)) → sheets_of (from_left g us) ≡ sheets_of g ++ us
sheets_left g [] = rw append-nil
sheets_left g (u ∷ us) = sheets_left (Sum g (Sheet u)) us ∙ append_assoc (sheets_of g) (u ∷ []) us

left_together : (g h : Grouping) (us : List (List ℕ)) → bytes_of (comes_to (from_left (Sum g h) us)) ≡ together (sheets_of (from_left (Sum g h) us))
left_together g h [] = grouped g h
left_together g h (u ∷ us) = left_together (Sum g h) (Sheet u) us

pub all_together : (t u : List ℕ) (us : List (List ℕ)) → bytes_of (sum_from t (u ∷ us)) ≡ together (t ∷ u ∷ us)
all_together t u us =
    ap bytes_of (left_grouped t (u ∷ us)) ∙ left_together (Sheet t) (Sheet u) us ∙ ap together (sheets_left (Sum (Sheet t) (Sheet u)) us)

sum_exactly : (g : Grouping) → HasText (comes_to g) ↔ AllFit (sheets_of g)
sum_exactly g = by_total (comes_to g) (said g)
  where
    by_total : (x : Total) → Says g x → HasText x ↔ AllFit (sheets_of g)
    by_total (Text t) c = (λ h. record { bills = c.first ∷ c.others; read = c.read; fit = c.fit }, λ w. tt)
    by_total (Refusal n) r = (λ h. absurd h, r)

pub added_exactly : (t : List ℕ) (us : List (List ℕ)) → HasText (sum_from t us) ↔ AllFit (t ∷ us)
added_exactly t us = rw (left_grouped t us, ← (sheets_left (Sheet t) us)) (sum_exactly (from_left (Sheet t) us))

-- ---- three sheets, either way

two_sheets : (t u : List ℕ) → comes_to (Sum (Sheet t) (Sheet u)) ≡ add_texts t u
two_sheets t u = add_sheet (alone t) u ∙ add_alone t u

next_totals : (x : Total) (u : List ℕ) → add_next x u ≡ add_totals x (Text u)
next_totals (Text t) u = refl
next_totals (Refusal n) u = refl

-- here the first is tested last, so the number of a refusal may be another
sheet_added : (t : List ℕ) (y : Total) → bytes_of (add_totals (alone t) y) ≡ bytes_of (add_totals (Text t) y)
unfolding alone
sheet_added t (Text u) = ap bytes_of (sym (next_totals (alone t) u) ∙ add_alone t u)
sheet_added t (Refusal n) = by_test (is_sound t)
  where
    by_test : (c : Bool) → bytes_of (add_totals (text_if c t) (Refusal n)) ≡ None
    by_test true = refl
    by_test false = refl

pub texts_grouped : (t u v : List ℕ) → bytes_of (add_totals (add_texts t u) (Text v)) ≡ bytes_of (add_totals (Text t) (add_texts u v))
texts_grouped t u v =
    rw (← (next_totals (add_texts t u) v), ← (add_sheet (add_texts t u) v), ← (two_sheets t u), ← (two_sheets u v))
    (grouped (Sum (Sheet t) (Sheet u)) (Sheet v) ∙ sym (grouped (Sheet t) (Sum (Sheet u) (Sheet v))) ∙ sheet_added t (comes_to (Sum (Sheet u) (Sheet v))))
