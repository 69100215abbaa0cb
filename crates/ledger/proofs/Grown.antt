-- Sheets that grow at their end by one a turn, and what they come to.
use mathlib.Core.Path.{◌≡◌, refl, ap, ◌∙◌}
use mathlib.Core.List.{List, [], ◌∷◌, ◌++◌}
use Rattle.std.specs.Prelude.{Ok, Err}
use Prim.Native.Nat.{ℕ, ◌+◌, ◌-◌, ◌≤◌, ◌<◌}
use native.Mathlib.Omega.{arith}
use lib.ListN.{length, take, length-append}
use lib.Seq.{take-append-le}
use Rattle.shifts.specs.Sum.{Total, Text, Refusal, add_texts, add_next}
use Rattle.shifts.specs.Many.{alone, sum_from, HasText}
use Rattle.shifts.proofs.Many.{add_more, fewer}
use Rattle.ledger.specs.declared.total.SumError.TheVariants.{Sheet}
use Rattle.ledger.specs.declared.total.SheetError.{SheetError}
use Rattle.ledger.specs.declared.total.SheetError.TheVariants.{Refused, Unread}
use Rattle.ledger.specs.Totals.{ASheet, AllSheets, Came, RefusedAt, Comes, Stepped, Holding, Ended}

-- ---- the first

abbrev came_first : {x : Total} → Comes alone x → Came 1 x
came_first w = record { first = w.sheet; others = []; each = (w.each, tt); counted = refl; total = w.comes_to }

-- ---- one more

sheets_more : (ts : List (List ℕ)) (u : List ℕ) → AllSheets ts → ASheet u → AllSheets (ts ++ u ∷ [])
sheets_more [] u s a = (a, tt)
sheets_more (t ∷ ts) u s a = (s.0, sheets_more ts u s.1 a)

module _ {k : ℕ} {s : List ℕ} (c : Came k (Text s)) {x : Total} (w : Comes (add_texts s) x) where
  abbrev came_more : Came (k + 1) x
  came_more = record {
    first = c.first;
    others = c.others ++ w.sheet ∷ [];
    each = sheets_more (c.first ∷ c.others) w.sheet c.each w.each;
    counted = omega (arith, length-append c.others (w.sheet ∷ []), c.counted);
    total = add_more (alone c.first) c.others (w.sheet ∷ []) ∙ ap (λ (y : Total). add_next y w.sheet) c.total ∙ w.comes_to;
  }

  -- all fewer than those have a sum
  before_more : (j : ℕ) → j < length came_more.others → HasText (sum_from c.first (take j came_more.others))
  before_more j h =
      let l : j ≤ length c.others = omega (arith, length-append c.others (w.sheet ∷ [])) in
      rw (take-append-le j c.others (w.sheet ∷ []) l) (fewer (alone c.first) c.others j (rw c.total tt))

-- ---- by the answer of a turn: the total is held, or why a sheet does not come to it

pub holds_first : {n : ℕ} (d : List ℕ) → Stepped (Ok n) alone d → Holding 2 n d
holds_first d h = record { fits = h.0; came = came_first h.1 }

pub first_not : {count : ℕ} (l d : List ℕ) (e : SheetError) → 1 < count → Stepped (Err e) alone d → Ended (Err (Sheet 1 e)) count l l
first_not l d (Refused r) h w = (tt, (h, (record { came = came_first w; before = λ j p. absurd (omega arith) }, refl)))
first_not l d Unread h w = (tt, (h, (record { from = omega arith; before = λ p. absurd (omega arith) }, refl)))

module _ {i n : ℕ} (c : List ℕ) (from : 2 ≤ i) (s : Holding i n c) (d : List ℕ) where
  pub holds_more : {k : ℕ} → Stepped (Ok k) (add_texts (take n c)) d → Holding (i + 1) k d
  holds_more h =
      let q : i - 1 + 1 ≡ i + 1 - 1 = omega arith in
      record { fits = h.0; came = rw q at (came_more s.came h.1) }

  pub refuses_next : {k : ℕ} → Comes (add_texts (take n c)) (Refusal k) → RefusedAt k i
  refuses_next {k} h =
      let q : i - 1 + 1 ≡ i = omega arith in
      rw q at refused_more
    where
      refused_more : RefusedAt k (i - 1 + 1)
      refused_more = record { came = came_more s.came h; before = before_more s.came h }

  pub next_not : {count : ℕ} (l : List ℕ) (e : SheetError) → i < count → Stepped (Err e) (add_texts (take n c)) d → Ended (Err (Sheet i e)) count l l
  next_not l (Refused r) h w = (tt, (h, (refuses_next w, refl)))
  next_not l Unread h w = (tt, (h, (record { from = omega arith; before = λ p. record { text = take n c; came = s.came } }, refl)))

pub holds_all : {i count n : ℕ} {c : List ℕ} → i ≡ count → Holding i n c → Holding count n c
holds_all e s = rw e at s
