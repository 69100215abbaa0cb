-- What of the answer may be written: a sum, or a refusal, in the words of `add_all`.
use mathlib.Core.Path.{◌≡◌, sym, ap, ◌∙◌}
use mathlib.Core.Bool.{true, false}
use mathlib.Core.List.{List, [], ◌∷◌, ◌++◌}
use Rattle.std.specs.Prelude.{Result, Ok, Err}
use Prim.Native.Nat.{ℕ, ◌≤◌, ◌<◌}
use native.Mathlib.Omega.{arith}
use lib.ListN.{length}
use borrow.Author.Tests.{le-ltb}
use Rattle.text.proofs.Writes.{length_written, take_written}
use Rattle.shifts.specs.Sum.{Total, Text, add_all}
use Rattle.shifts.specs.Sizes.{sheet_most}
use Rattle.shifts.specs.Many.{alone, sum_from}
use Rattle.shifts.proofs.Many.{stays, add_more, all_added, total_short}
use Rattle.adding.specs.declared.refusal.Refusal.{Refusal as Why}
use Rattle.adding.specs.Adding.{number_of}
use Rattle.ledger.specs.declared.total.SheetError.{SheetError}
use Rattle.ledger.specs.declared.total.SheetError.TheVariants.{Refused}
use Rattle.ledger.specs.declared.total.SumError.{SumError}
use Rattle.ledger.specs.declared.total.SumError.TheVariants.{Sheet, WrongSize}
use Rattle.ledger.specs.Totals.{RefusedAt, Summed, Answered, IsSum, IsRefusal}

-- the first need not be tested by itself
pub by_others : (t : List ℕ) (us : List (List ℕ)) → 0 < length us → sum_from t us ≡ add_all (Text t) us
by_others t [] h = absurd (omega arith)
by_others t (u ∷ us) h = all_added t u us

refusal_is : {n k : ℕ} → RefusedAt n k → IsRefusal n
refusal_is {n} w =
    let c = w.came in
    record {
      first = c.first;
      others = c.others;
      each = c.each;
      refused =
          λ more h. sym (by_others c.first (c.others ++ more) h)
          ∙ add_more (alone c.first) c.others more
          ∙ ap (λ (x : Total). add_all x more) c.total
          ∙ stays n more;
    }

sum_is : {n count : ℕ} (l m : List ℕ) → 3 ≤ count → sheet_most ≤ length l → Summed n count l m → IsSum n m
sum_is l m h room w =
    let c = w.sum.came in
    let t = w.sum.text in
    let others : 0 < length c.others = omega (arith, c.counted) in
    let short : length t ≤ length l = omega (arith, total_short c.first c.others c.total) in
    record {
      first = c.first;
      others = c.others;
      each = c.each;
      some = others;
      sum = sym (by_others c.first c.others others) ∙ c.total ∙ ap Text (sym (rw (w.size, w.output) (take_written l t short)));
      fits = rw (w.size, w.output) (omega (arith, length_written l 0 t));
    }

-- ---- by the answer, where the output has room

module _ (count : ℕ) (l m : List ℕ) (room : sheet_most ≤ length l) {r : Result ℕ SumError} (w : Answered r count l m) where
  pub sum_told : {n : ℕ} → r ≡ Ok n → IsSum n m
  sum_told e = sum_is l m (rw e at w.enough) room (rw e at w.leaves)

  -- an error is taken apart one step after the other
  module _ {y : SumError} (p : r ≡ Err y) where
    pub refusal_told : {k : ℕ} {e : SheetError} {x : Why} → y ≡ Sheet k e → e ≡ Refused x → IsRefusal (number_of x)
    refusal_told {k} {e} {x} q f =
        let same : r ≡ Err (Sheet k (Refused x)) = cc in
        refusal_is (rw same at w.leaves).1.0

    pub size_right : y ≡ WrongSize → ⊥
    size_right q =
        let same : r ≡ Err WrongSize = cc in
        let z : true ≡ false = (rw same at w.number) ∙ le-ltb (length l) sheet_most room in
        cc
