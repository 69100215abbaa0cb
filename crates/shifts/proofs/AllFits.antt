-- Sheets that may all be added and that no condition on all of them refuses (`AllFit`): exactly these come to a text together, and where all of some sheets fit, fewer of
-- them do.
use Rattle.std.proofs.Common.{Option, None, Some}
use mathlib.Core.Path.{◌≡◌, refl, sym, ap, ◌∙◌}
use mathlib.Core.Bool.{Bool, true, false, cond}
use mathlib.Core.List.{List, [], ◌∷◌, ◌++◌, append-nil}
use Prim.Native.Nat.{ℕ}
use Rattle.bill.specs.Reading.{Bill, bill_text}
use Rattle.sorting.specs.Sets.{gather_by}
use Rattle.shifts.specs.Sound.{names, too_many, any_of, sound_sheet}
use Rattle.shifts.specs.Sum.{rows_of, sum}
use Rattle.shifts.specs.Together.{all_rows, sum_of, all_tests, with_next, bills_of, text_of, together}
use Rattle.shifts.proofs.Sums.{SumOf, alone_sum, both_sum}
use Rattle.shifts.proofs.Fits.{Fit, fit_exactly, parts_fit}

pub record AllFit (ts : List (List ℕ)) : Type 0 where
  pub bills : List Bill
  pub read : bills_of ts ≡ Some bills
  pub fit : Fit bills

pub fit_together : (ts : List (List ℕ)) (w : AllFit ts) → together ts ≡ Some (bill_text (sum_of w.bills))
unfolding together
fit_together ts w = rw (w.read, (fit_exactly w.bills).1 w.fit)

pub unfit_together : (ts : List (List ℕ)) → (AllFit ts → ⊥) → together ts ≡ None
unfolding together
unfit_together ts h = by_bills (bills_of ts) refl
  where
    by_tests : (bs : List Bill) (c : Bool) → bills_of ts ≡ Some bs → any_of (all_tests bs) ≡ c → cond c None (Some (bill_text (sum_of bs))) ≡ None
    by_tests bs true r e = refl
    by_tests bs false r e = absurd (h (record { bills = bs; read = r; fit = (fit_exactly bs).0 e }))

    by_bills : (o : Option (List Bill)) → bills_of ts ≡ o → text_of o ≡ None
    by_bills None r = refl
    by_bills (Some bs) r = by_tests bs (any_of (all_tests bs)) r refl

-- ---- the bills of some sheets and of more

abbrev pub both_of : Option (List Bill) → Option (List Bill) → Option (List Bill)
both_of None p = None
both_of (Some bs) None = None
both_of (Some bs) (Some cs) = Some (bs ++ cs)

pub bills_more : (ts us : List (List ℕ)) → bills_of (ts ++ us) ≡ both_of (bills_of ts) (bills_of us)
bills_more [] us = no_more (bills_of us)
  where
    no_more : (p : Option (List Bill)) → p ≡ both_of (Some []) p
    no_more None = refl
    no_more (Some cs) = refl
bills_more (t ∷ ts) us = ap (with_next (sound_sheet t)) (bills_more ts us) ∙ one_more (sound_sheet t) (bills_of ts) (bills_of us)
  where
    one_more : (b : Option Bill) (o p : Option (List Bill)) → with_next b (both_of o p) ≡ both_of (with_next b o) p
    one_more None o p = refl
    one_more (Some b) None p = refl
    one_more (Some b) (Some bs) None = refl
    one_more (Some b) (Some bs) (Some cs) = refl

-- ---- where all fit, fewer of them fit

-- one bill or more have a sum
some_sum : (x : Bill) (xs : List Bill) → (a : Bill) × SumOf (x ∷ xs) a
some_sum x [] = (x, alone_sum x)
some_sum x (y ∷ ys) = let w = some_sum y ys in (sum x w.0, both_sum x [] (y ∷ ys) x w.0 (alone_sum x) w.1)

none_fit : Fit []
unfolding all_tests all_rows too_many gather_by names rows_of
none_fit = (fit_exactly []).0 refl

fewer_fit : (bs cs : List Bill) → Fit (bs ++ cs) → Fit bs × Fit cs
fewer_fit [] cs k = (none_fit, k)
fewer_fit (x ∷ xs) [] k = (rw append-nil at k, none_fit)
fewer_fit (x ∷ xs) (y ∷ ys) k =
    let a = some_sum x xs in
    let b = some_sum y ys in
    let w = parts_fit x xs y ys a.0 b.0 a.1 b.1 k in
    (w.0, w.1.0)

pub fewer_sheets : (ts us : List (List ℕ)) → AllFit (ts ++ us) → AllFit ts × AllFit us
fewer_sheets ts us w = by_bills (bills_of ts) (bills_of us) refl refl (sym (bills_more ts us) ∙ w.read)
  where
    by_bills : (o p : Option (List Bill)) → bills_of ts ≡ o → bills_of us ≡ p → both_of o p ≡ Some w.bills → AllFit ts × AllFit us
    by_bills None p r s e = cc
    by_bills (Some bs) None r s e = cc
    by_bills (Some bs) (Some cs) r s e =
        let same : bs ++ cs ≡ w.bills = cc in
        let k = fewer_fit bs cs (rw same w.fit) in
        (record { bills = bs; read = r; fit = k.0 }, record { bills = cs; read = s; fit = k.1 })
