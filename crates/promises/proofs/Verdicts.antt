-- The verdict if the trace ended now, from the tables that lines leave: the number and the line of the list of lines alone.
use mathlib.Core.Path.{◌≡◌, refl, sym, ap, ◌∙◌}
use mathlib.Core.Bool.{Bool, true, false, cond}
use mathlib.Core.List.{List, [], ◌∷◌}
use Prim.Native.Nat.{ℕ, zero, suc, ◌+◌, ◌-◌, ◌%◌, ◌^◌}
use native.Mathlib.Omega.{arith}
use lib.Dec.{eqb}
use lib.ListN.{length}
use borrow.Author.Tests.{eqb-true, eq-eqb, ne_eqb}
use Rattle.bill.specs.declared.verdict.Verdict.{Verdict}
use Rattle.rules.specs.declared.place.Place.{Place}
use Rattle.rules.specs.Lists.{if_zero}
use Rattle.rules.specs.Sheet.{span}
use Rattle.rules.specs.Lines.{events_of}
use Rattle.rules.specs.Trace.{place_of, at_end}
use Rattle.rules.proofs.Traces.{Kept}
use Rattle.tables.specs.Entry.{verdict_number, line_count, scale_entry, first_time, last_time}
use Rattle.judge.specs.Feed.{Tables, place_in}
use Rattle.outcome.specs.AtEnd.{verdict, verdict_in}
use Rattle.promises.specs.Shown.{Shows}
use Rattle.promises.proofs.Bounds.{span_shown}
use Rattle.promises.proofs.PlaceAnswers.{lines_fit}
use Rattle.promises.proofs.Traces.{Both}

-- what a verdict tells of lines
pub record Tells (v : Verdict) (n : ℕ × ℕ) (h : List (List ℕ)) : Type 0 where
  pub verdict : (v.number, v.line) ≡ n
  pub scale : v.scale ≡ (place_of h).scale
  pub span : v.span ≡ span (events_of h)

module _ (h : List (List ℕ)) (t : Tables) (s : Shows h t) where
  abbrev nums : List ℕ
  nums = t.nums

  same_span : last_time t.ticks - first_time t.ticks ≡ span (events_of h)
  same_span = span_shown (events_of h) nums t.ticks s.events.singles

  same_scale : scale_entry nums ≡ (place_of h).scale
  unfolding place_in
  same_scale = ap (λ (p : Place). p.scale) s.place

  same_lines : line_count nums ≡ length h
  unfolding place_in place_of
  same_lines = ap (λ (p : Place). p.lines) s.place

-- after lines that were all taken
end_tells : (h : List (List ℕ)) → Kept h → (t : Tables) → Shows h t → verdict_number t.nums ≡ 0 → Tells (verdict_in t.nums t.ticks) (at_end h) h
unfolding verdict_in at_end place_of
end_tells [] k t s v =
    rw (eq-eqb (verdict_number t.nums) 0 v, eq-eqb (line_count t.nums) 0 (same_lines [] t s))
    (record { verdict = refl; scale = refl; span = same_span [] t s })
end_tells (l ∷ h) k t s v =
    let e = same_scale (l ∷ h) t s in
    let n = same_lines (l ∷ h) t s in
    rw (eq-eqb (verdict_number t.nums) 0 v, ne_eqb (line_count t.nums) 0 (λ q. omega arith), ← e) (by_scale (eqb (scale_entry t.nums) 0) refl)
  where
    by_scale : (b : Bool) → eqb (scale_entry t.nums) 0 ≡ b →
        let w = last_time t.ticks - first_time t.ticks in
        let v = cond b (verdict 4 ((line_count t.nums + 1) % 2 ^ 32) 0 w) (verdict 0 0 (scale_entry t.nums) w) in
        Tells v (cond b (4, length (l ∷ h) + 1) (0, 0)) (l ∷ h)
    by_scale true q =
        let n = same_lines (l ∷ h) t s in
        let f = lines_fit (l ∷ h) k.in_place in
        let m : (line_count t.nums + 1) % 2 ^ 32 ≡ length (l ∷ h) + 1 = omega arith in
        record { verdict = rw m; scale = sym (eqb-true (scale_entry t.nums) 0 q) ∙ same_scale (l ∷ h) t s; span = same_span (l ∷ h) t s }
    by_scale false q = record { verdict = refl; scale = same_scale (l ∷ h) t s; span = same_span (l ∷ h) t s }

-- and after any
pub now_tells : (h : List (List ℕ)) → Kept h → (t : Tables) (r : ℕ × ℕ) → Both h r t → Tells (verdict_in t.nums t.ticks) (if_zero r.0 (at_end h) r) h
unfolding verdict_in
now_tells h k t r b = by_number r.0 refl
  where
    number : verdict_number t.nums ≡ r.0
    number = ap (λ (p : ℕ × ℕ). p.0) b.remembers

    by_number : (n : ℕ) → r.0 ≡ n → Tells (verdict_in t.nums t.ticks) (if_zero n (at_end h) r) h
    by_number zero q = end_tells h k t b.shows (number ∙ q)
    by_number (suc n) q =
        rw (ne_eqb (verdict_number t.nums) 0 (λ e. omega (arith, number, q)))
        (record { verdict = b.remembers; scale = same_scale h t b.shows; span = same_span h t b.shows })
