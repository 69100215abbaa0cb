-- How tight the contract is: one answer where no sheet is read, one for the sheets that were read, and the same one for all that begin so.
use Rattle.std.proofs.Common.{None, Some}
use mathlib.Core.Path.{◌≡◌, refl, sym, ap, ap₂, ◌∙◌}
use mathlib.Core.Bool.{true, false}
use mathlib.Core.List.{List, [], ◌∷◌, ◌++◌, Perm}
use Rattle.std.specs.Prelude.{Result, Ok, Err}
use Prim.Native.Nat.{ℕ, ◌≤◌, ◌<◌}
use native.Mathlib.Omega.{arith}
use lib.ListN.{length, take, length-append}
use lib.Seq.{take-append_seam}
use borrow.Author.Tests.{eqb-true, lt-ltb, le-ltb}
use Rattle.text.specs.Put.{written}
use Rattle.shifts.specs.Sum.{Total, Text, Refusal, add_all}
use Rattle.shifts.specs.Sizes.{sheet_most}
use Rattle.shifts.specs.Many.{alone, sum_from}
use Rattle.shifts.specs.Grouping.{bytes_of}
use Rattle.shifts.proofs.Many.{stays, add_more, from_21, ReadAs, AllReadAs, same_sum}
use Rattle.shifts.proofs.AnyOrder.{left_any_order}
use Rattle.adding.specs.Adding.{number_of}
use Rattle.ledger.specs.declared.total.SheetError.TheVariants.{Refused, Unread}
use Rattle.ledger.specs.declared.total.SumError.{SumError}
use Rattle.ledger.specs.declared.total.SumError.TheVariants.{Sheet, TooFew, WrongSize}
use Rattle.ledger.specs.Totals.{sheets_in, RefusedAt, Summed, Answered}
use Rattle.ledger.proofs.Printing.{by_others}

-- ---- where no sheet is read

never : {A : Type 0} → false ≡ true → A
never e = absurd (let z : ◌≡◌ {A = ℕ} 0 1 = cc in omega arith)

-- an output too short: 15, and nothing changed
pub wrong_size_unique : (r : Result ℕ SumError) (count : ℕ) (l m : List ℕ) → Answered r count l m → length l < sheet_most → (r ≡ Err WrongSize) × (m ≡ l)
wrong_size_unique (Ok n) count l m w h = never (w.number ∙ lt-ltb (length l) sheet_most h)
wrong_size_unique (Err (Sheet k (Refused r))) count l m w h =
    let c = w.leaves.1.0.came in
    absurd (omega (arith, from_21 c.first c.others c.total, eqb-true (number_of r) 15 (w.number ∙ lt-ltb (length l) sheet_most h)))
wrong_size_unique (Err (Sheet k Unread)) count l m w h = never (w.number ∙ lt-ltb (length l) sheet_most h)
wrong_size_unique (Err TooFew) count l m w h = never (w.number ∙ lt-ltb (length l) sheet_most h)
wrong_size_unique (Err WrongSize) count l m w h = (refl, w.leaves)

-- one with room: too few sheets, and nothing changed
pub too_few_unique : (r : Result ℕ SumError) (count : ℕ) (l m : List ℕ) → Answered r count l m → sheet_most ≤ length l → count < 3 → (r ≡ Err TooFew) × (m ≡ l)
too_few_unique (Ok n) count l m w room h = absurd (omega (arith, w.enough))
too_few_unique (Err (Sheet k (Refused r))) count l m w room h = absurd (omega (arith, w.enough))
too_few_unique (Err (Sheet k Unread)) count l m w room h = absurd (omega (arith, w.enough))
too_few_unique (Err TooFew) count l m w room h = (refl, w.leaves)
too_few_unique (Err WrongSize) count l m w room h = never (sym (w.number ∙ le-ltb (length l) sheet_most room))

-- ---- for the sheets that were read

-- a sum
pub sum_unique : {n k count : ℕ} {l a b : List ℕ} (v : Summed n count l a) (w : Summed k count l b) → v.sum.came.first ≡ w.sum.came.first →
    v.sum.came.others ≡ w.sum.came.others → (n ≡ k) × (a ≡ b)
sum_unique {l = l} v w e f =
    let both : Text v.sum.text ≡ Text w.sum.text = sym v.sum.came.total ∙ ap₂ sum_from e f ∙ w.sum.came.total in
    let same : v.sum.text ≡ w.sum.text = cc in
    (v.size ∙ ap length same ∙ sym w.size, v.output ∙ ap (written l 0) same ∙ sym w.output)

-- in whatever order they stand: 02, No. 12
pub sum_in_any_order : {n k count : ℕ} {l a b : List ℕ} (v : Summed n count l a) (w : Summed k count l b) → Perm (sheets_in v.sum.came) (sheets_in w.sum.came) →
    (n ≡ k) × (a ≡ b)
sum_in_any_order {l = l} v w p =
    let c = v.sum.came in
    let d = w.sum.came in
    let both : Some v.sum.text ≡ Some w.sum.text =
    ap bytes_of (sym c.total) ∙ left_any_order c.first d.first c.others d.others p ∙ ap bytes_of d.total in
    let same : v.sum.text ≡ w.sum.text = cc in
    (v.size ∙ ap length same ∙ sym w.size, v.output ∙ ap (written l 0) same ∙ sym w.output)

pub refused_at : {n k : ℕ} (w : RefusedAt n k) (more : List (List ℕ)) → sum_from w.came.first (w.came.others ++ more) ≡ Refusal n
refused_at {n} w more =
    let c = w.came in
    add_more (alone c.first) c.others more ∙ ap (λ (x : Total). add_all x more) c.total ∙ stays n more

-- where a beginning of the sheets is refused, no sum is told of all
pub refused_no_sum : {n k i count : ℕ} {l m : List ℕ} (v : RefusedAt n k) (w : Summed i count l m) (more : List (List ℕ)) → w.sum.came.first ≡ v.came.first →
    w.sum.came.others ≡ v.came.others ++ more → ⊥
refused_no_sum {n} v w more e f =
    let both : Text w.sum.text ≡ Refusal n = sym w.sum.came.total ∙ ap₂ sum_from e f ∙ refused_at v more in
    let z : ◌≡◌ {A = ℕ} 0 1 = cc in
    omega arith

-- in whatever order
pub refused_in_any_order : {n k i count : ℕ} {l m : List ℕ} (v : RefusedAt n k) (w : Summed i count l m) (more : List (List ℕ)) →
    Perm (sheets_in w.sum.came) (sheets_in v.came ++ more) → ⊥
refused_in_any_order v w more p =
    let c = w.sum.came in
    let d = v.came in
    let e : None ≡ Some w.sum.text =
    ap bytes_of (sym (refused_at v more)) ∙ sym (left_any_order c.first d.first c.others (d.others ++ more) p) ∙ ap bytes_of c.total in
    cc

-- of two refusals of the same sheets, one read no further than the other: both are the same
pub refused_unique : {n k i j : ℕ} (v : RefusedAt n k) (w : RefusedAt i j) (more : List (List ℕ)) → w.came.first ≡ v.came.first →
    w.came.others ≡ v.came.others ++ more → (n ≡ i) × (k ≡ j)
refused_unique {n} {k} {i} {j} v w [] e f =
    let both : Refusal i ≡ Refusal n = sym w.came.total ∙ ap₂ sum_from e f ∙ refused_at v [] in
    (cc, omega (arith, v.came.counted, w.came.counted, ap length f, length-append v.came.others []))
refused_unique {n} v w (u ∷ us) e f =
    let had = v.came.others in
    let h : length had < length w.came.others = omega (arith, ap length f, length-append had (u ∷ us)) in
    let same : take (length had) w.came.others ≡ had = ap (take (length had)) f ∙ take-append_seam had (u ∷ us) in
    let refused : sum_from w.came.first (take (length had) w.came.others) ≡ Refusal n = ap₂ sum_from e same ∙ v.came.total in
    absurd (rw refused at (w.before (length had) h))

-- ---- and for all that begin so: of a sheet longer than any that may be added only the beginning was read

pub refused_further : {n k : ℕ} (w : RefusedAt n k) (u : List ℕ) (us more : List (List ℕ)) → ReadAs w.came.first u → AllReadAs w.came.others us →
    0 < length (us ++ more) → add_all (Text u) (us ++ more) ≡ Refusal n
refused_further {n} w u us more r rs h =
    sym (by_others u (us ++ more) h)
    ∙ add_more (alone u) us more
    ∙ ap (λ (x : Total). add_all x more) (same_sum w.came.first u r rs ∙ w.came.total)
    ∙ stays n more

pub sum_further : {n count : ℕ} {l m : List ℕ} (w : Summed n count l m) (u : List ℕ) (us : List (List ℕ)) → ReadAs w.sum.came.first u →
    AllReadAs w.sum.came.others us → 0 < length us → add_all (Text u) us ≡ Text w.sum.text
sum_further w u us r rs h = sym (by_others u us h) ∙ same_sum w.sum.came.first u r rs ∙ w.sum.came.total
