-- The answer for all sheets, by what is held at the end; and what of it may be written.
use mathlib.Core.Path.{◌≡◌, sym, ap, ◌∙◌}
use mathlib.Core.Bool.{false}
use mathlib.Core.List.{List}
use Rattle.std.specs.Prelude.{Result, Ok, Err}
use Prim.Native.Nat.{ℕ, ◌-◌, ◌≤◌}
use native.Mathlib.Omega.{arith}
use lib.Dec.{eqb, ltb}
use lib.ListN.{length, take}
use lib.Seq.{length-take-le}
use borrow.Author.Tests.{le-ltb, ne_eqb}
use Rattle.text.specs.Put.{Put, after, put}
use Rattle.text.proofs.Writes.{put_fits}
use Rattle.shifts.specs.Sizes.{sheet_most}
use Rattle.shifts.proofs.Many.{from_21}
use Rattle.adding.specs.Adding.{number_of}
use Rattle.ledger.specs.declared.total.SheetError.TheVariants.{Refused, Unread}
use Rattle.ledger.specs.declared.total.SumError.{SumError}
use Rattle.ledger.specs.declared.total.SumError.TheVariants.{Sheet, TooFew, WrongSize}
use Rattle.ledger.specs.Totals.{RefusedAt, Summed, Answered, Holding, Ended}

-- ---- by the sheets

module _ (count : ℕ) (l : List ℕ) (room : sheet_most ≤ length l) where
  long : false ≡ ltb (length l) sheet_most
  long = sym (le-ltb (length l) sheet_most room)

  other : (n k : ℕ) → RefusedAt n k → eqb n 15 ≡ ltb (length l) sheet_most
  other n k w = let c = w.came in ne_eqb n 15 (λ e. omega (arith, from_21 c.first c.others c.total)) ∙ long

  pub answered : (r : Result ℕ SumError) (m : List ℕ) → 3 ≤ count → Ended r count l m → Answered r count l m
  answered (Ok n) m h w = record { number = long; enough = h; leaves = w.1 }
  answered (Err (Sheet k (Refused r))) m h w = record { number = other (number_of r) k w.1.1.0; enough = h; leaves = w.1 }
  answered (Err (Sheet k Unread)) m h w = record { number = long; enough = h; leaves = w.1 }
  answered (Err TooFew) m h w = absurd w.0
  answered (Err WrongSize) m h w = absurd w.0

-- ---- what is held at the end is put

pub text_put : {count n k : ℕ} (c l : List ℕ) {m : List ℕ} → Holding count n c → after k m ≡ put l 0 (take (n - 0) c) → length c ≡ sheet_most → sheet_most ≤ length l → Summed n count l m
text_put {n = n} {k = k} c l {m} w p size room =
    let t = take n c in
    let z : n - 0 ≡ n = omega arith in
    let e = length-take-le n c w.fits in
    let q : after k m ≡ put l 0 t = rw z at p in
    record {
      sum = record { text = t; came = w.came };
      size = sym e;
      output = ap (λ (x : Put). x.output) (q ∙ put_fits l 0 t (omega (arith, w.fits)));
    }
