-- One sheet as it was read, by itself or added to the total so far: what the code comes to is what the sheet comes to.
use mathlib.Core.Path.{◌≡◌, refl, sym, ap, ◌∙◌}
use mathlib.Core.Bool.{Bool, true, false}
use mathlib.Core.List.{List}
use Prim.Native.Nat.{ℕ, ◌+◌, ◌-◌, ◌≤◌, ◌<◌}
use native.Mathlib.Omega.{arith}
use lib.ListN.{length, take, get_or}
use lib.Seq.{get_or-take, length-take-le}
use borrow.Author.Tests.{le-leb}
use Rattle.text.specs.Put.{Put, written, after, put}
use Rattle.text.proofs.Writes.{put_fits, put_front}
use Rattle.shifts.specs.Sum.{Total, Text, Refusal, add_texts}
use Rattle.shifts.specs.Sizes.{sheet_most}
use Rattle.shifts.specs.Many.{is_sound, alone}
use Rattle.shifts.proofs.Many.{sound_short, sum_short}
use Rattle.std.specs.Prelude.{IsErrAnd, MatchResult}
use Rattle.std.specs.declared.result.Result.{Result}
use Rattle.std.specs.declared.result.Result.TheVariants.{Ok, Err}
use Rattle.adding.specs.declared.refusal.Refusal.{Refusal as Why}
use Rattle.adding.specs.Adding.{number_of, Summed, summed, told_as, into_output, add_into}
use Rattle.ledger.specs.declared.total.SheetError.{SheetError}
use Rattle.ledger.specs.declared.total.SheetError.TheVariants.{Refused}
use Rattle.ledger.specs.Totals.{read_most, ASheet, Comes}

-- ---- a file at the front of the buffer

a_sheet : (c : List ℕ) (n : ℕ) → n ≤ length c → length c ≡ read_most → ((i : ℕ) → get_or c i 0 < 256) → ASheet (take (n - 0) c)
a_sheet c n h e bytes =
    let l : length (take (n - 0) c) ≡ n = omega (arith, length-take-le (n - 0) c (omega arith)) in
    record { size = omega arith; bytes = λ i q. rw (get_or-take (n - 0) c i 0 (omega arith)) (bytes i) }

-- ---- what is held: a text put at its front

held_whole : {m : List ℕ} {k : ℕ} (l t : List ℕ) (n : ℕ) → after k m ≡ put l 0 t → length t ≤ length l → n ≡ length t → (n ≤ length m) × (take n m ≡ t)
held_whole {k = k} l t n p h e =
    let w = put_front l t p h in
    let q : n ≡ k - 0 = omega (arith, ap (λ (x : Put). x.next) (p ∙ put_fits l 0 t (omega arith))) in
    (omega (arith, w.1), rw q w.0)

-- ---- the first

module _ (b : List ℕ) (n : ℕ) (fit : n ≤ length b) (sized : length b ≡ read_most) (bytes : (i : ℕ) → get_or b i 0 < 256) {r : Bool} (s : r ≡ is_sound (take (n - 0) b)) where
  pub first_held : {m : List ℕ} {k : ℕ} (l : List ℕ) → r ≡ true → length l ≡ sheet_most → after k m ≡ put l 0 (take (n - 0) b) → (n ≤ length m) × Comes alone (Text (take n m))
  unfolding alone
  first_held l e1 size p =
      let t = take (n - 0) b in
      let e : is_sound t ≡ true = sym s ∙ e1 in
      let w = held_whole l t n p (omega (arith, sound_short t e)) (omega (arith, length-take-le (n - 0) b (omega arith))) in
      (w.0, record { sheet = t; each = a_sheet b n fit sized bytes; comes_to = rw (e, w.1) })

  pub first_refused : r ≡ false → Comes alone (Refusal 21)
  unfolding alone
  first_refused e1 = record { sheet = take (n - 0) b; each = a_sheet b n fit sized bytes; comes_to = rw (sym s ∙ e1) }

-- ---- another: what `add` leaves in an output that every sum fits into

module _ (s u out : List ℕ) (room : length out ≡ sheet_most) (x : Result ℕ Why) {m : List ℕ} (w : told_as x m ≡ add_into s u out) where
  by_total : (y : Total) → add_texts s u ≡ y → told_as x m ≡ into_output y out
  unfolding add_into
  by_total y e = rw e at w

  as_text : (v : List ℕ) → add_texts s u ≡ Text v → told_as x m ≡ summed (Ok (length v)) (written out 0 v)
  as_text v e = by_total (Text v) e ∙ rw (le-leb (length v) (length out) (omega (arith, sum_short s u v e)))

  sum_added : {k : ℕ} → x ≡ Ok k → (k ≤ length m) × (add_texts s u ≡ Text (take k m))
  sum_added {k} a = by_cases (add_texts s u) refl
    where
      by_cases : (y : Total) → add_texts s u ≡ y → (k ≤ length m) × (add_texts s u ≡ Text (take k m))
      by_cases (Text v) e =
          let f = as_text v e in
          let answer : ◌≡◌ {A = Result ℕ ℕ} (Ok k) (Ok (length v)) = sym (ap (λ r. (told_as r m).answer) a) ∙ ap (λ (z : Summed). z.answer) f in
          let size : k ≡ length v = cc in
          let h : length v ≤ length out = omega (arith, sum_short s u v e) in
          let p : after (0 + length v) m ≡ put out 0 v = rw (ap (λ (z : Summed). z.output) f) (sym (put_fits out 0 v (omega arith))) in
          let q = held_whole out v k p h size in
          (q.0, e ∙ ap Text (sym q.1))
      by_cases (Refusal n) e =
          let answer : ◌≡◌ {A = Result ℕ ℕ} (Ok k) (Err n) = sym (ap (λ r. (told_as r m).answer) a) ∙ ap (λ (z : Summed). z.answer) (by_total (Refusal n) e) in
          let z : ◌≡◌ {A = ℕ} 0 1 = cc in
          absurd (omega arith)

  sum_refused : (r : Why) → x ≡ Err r → add_texts s u ≡ Refusal (number_of r)
  sum_refused r a = by_cases (add_texts s u) refl
    where
      by_cases : (y : Total) → add_texts s u ≡ y → add_texts s u ≡ Refusal (number_of r)
      by_cases (Text v) e =
          let answer : ◌≡◌ {A = Result ℕ ℕ} (Err (number_of r)) (Ok (length v)) = sym (ap (λ r. (told_as r m).answer) a) ∙ ap (λ (z : Summed). z.answer) (as_text v e) in
          let z : ◌≡◌ {A = ℕ} 0 1 = cc in
          absurd (omega arith)
      by_cases (Refusal k) e =
          let answer : ◌≡◌ {A = Result ℕ ℕ} (Err (number_of r)) (Err k) = sym (ap (λ r. (told_as r m).answer) a) ∙ ap (λ (z : Summed). z.answer) (by_total (Refusal k) e) in
          let same : k ≡ number_of r = cc in
          e ∙ ap Refusal same

module _ (l : List ℕ) (n : ℕ) (b : List ℕ) (i : ℕ) (fit : i ≤ length b) (sized : length b ≡ read_most) (bytes : (j : ℕ) → get_or b j 0 < 256)
    (out : List ℕ) (x : Result ℕ Why) {m : List ℕ} (w : told_as x m ≡ add_into (take (n - 0) l) (take (i - 0) b) out) (room : length out ≡ sheet_most) where
  to_held : {y : Total} → add_texts (take (n - 0) l) (take (i - 0) b) ≡ y → Comes (add_texts (take n l)) y
  to_held e =
      let z : n - 0 ≡ n = omega arith in
      record { sheet = take (i - 0) b; each = a_sheet b i fit sized bytes; comes_to = rw z at e }

  pub sum_fits : {k : ℕ} → x ≡ Ok k → k ≤ length m
  sum_fits a = (sum_added (take (n - 0) l) (take (i - 0) b) out room x w a).0

  pub more_held : {k j : ℕ} {d : List ℕ} → x ≡ Ok k → after j d ≡ put l 0 (take (k - 0) m) → length l ≡ sheet_most → length m ≡ sheet_most
      → (k ≤ length d) × Comes (add_texts (take n l)) (Text (take k d))
  more_held {k} {j} {d} a p size same =
      let v = sum_added (take (n - 0) l) (take (i - 0) b) out room x w a in
      let e : length (take (k - 0) m) ≡ k = omega (arith, length-take-le (k - 0) m (omega (arith, v.0))) in
      let q = held_whole l (take (k - 0) m) k p (omega (arith, v.0)) (omega arith) in
      let z : k - 0 ≡ k = omega arith in
      (q.0, to_held (v.1 ∙ ap Text (rw z at (sym q.1))))

  pub more_refused : (r : Why) → x ≡ Err r → Comes (add_texts (take n l)) (Refusal (number_of r))
  more_refused r a = to_held (sum_refused (take (n - 0) l) (take (i - 0) b) out room x w r a)

-- ---- what `add` answers, its refusal handed on as an error

abbrev Passed : Result ℕ Why → Result ℕ SheetError → Type 0
Passed x y = MatchResult x (λ k. y ≡ Ok k) (λ r. IsErrAnd y (λ e. e ≡ Refused r))

pub sum_passed : (x : Result ℕ Why) {y : Result ℕ SheetError} {k : ℕ} → Passed x y → y ≡ Ok k → x ≡ Ok k
sum_passed (Ok j) {y} {k} h e =
    let z : ◌≡◌ {A = Result ℕ SheetError} (Ok j) (Ok k) = sym h ∙ e in
    cc
sum_passed (Err r) h e = absurd (rw e at h)

pub refusal_passed : (x : Result ℕ Why) {y : Result ℕ SheetError} {e : SheetError} → Passed x y → y ≡ Err e → (r : Why) × (x ≡ Err r) × (e ≡ Refused r)
refusal_passed (Ok j) {y} {e} h q =
    let z : ◌≡◌ {A = Result ℕ SheetError} (Ok j) (Err e) = sym h ∙ q in
    cc
refusal_passed (Err r) h q = (r, refl, rw q at h)
