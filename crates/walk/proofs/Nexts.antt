-- Laws of the next line: what the code finds is what the definition says, and what a caller's loop over the lines of a chunk goes by.
use Rattle.std.proofs.Common.{None, Some}
use mathlib.Core.Path.{◌≡◌, refl, sym, ap, ◌∙◌}
use mathlib.Core.Bool.{and-false}
use mathlib.Core.Logic.{⊎_elim}
use mathlib.Core.List.{List, [], ◌∷◌}
use Prim.Native.Nat.{ℕ, suc, ◌+◌, ◌-◌, ◌≤◌, ◌<◌}
use native.Mathlib.Nat.{not-suc-le-zero}
use native.Mathlib.Omega.{arith}
use lib.Dec.{ltb}
use lib.ListN.{length, take, drop, length-drop}
use lib.Seq.{length-take-le, take-take, drop-drop}
use borrow.Author.Tests.{lt-ltb, le-ltb, le-leb, lt-leb}
use Rattle.text.proofs.Pairs.{same_parts}
use Rattle.text.specs.Bytes.{to_byte, find_from}
use Rattle.text.specs.Pieces.{pieces}
use Rattle.text.proofs.Bools.{lt_or_ge}
use Rattle.text.proofs.Pieces.{pieces_cut, pieces_one, pieces_some}
use Rattle.walk.specs.Lines.{line_text, whole_lines, rest_of, used_up, last_line, lines_of, next_of, next_from, start_from, line_between}
use Rattle.walk.proofs.Cuts.{text_front, cut_whole, cut_rest, cut_used, none_whole, none_rest, none_used}

-- ---- with a byte 10 from the index on, and with none

next_step : (p : List ℕ) (ps : List (List ℕ)) (at : ℕ) → 1 ≤ length ps → next_of (p ∷ ps) at ≡ Some (at + length (line_text p), at + suc (length p))
next_step p [] at h = absurd (not-suc-le-zero h)
next_step p (q ∷ ps) at h = refl

module _ (s : List ℕ) (at : ℕ) where
  -- what stands from the index on, and how much of it before a byte 10
  abbrev left : List ℕ
  left = drop at s

  abbrev before : ℕ
  before = to_byte 10 left

  next_some : before < length left → next_from s at ≡ Some (at + length (line_text (take before left)), at + suc before)
  unfolding next_from
  next_some h =
      let e : length (take before left) ≡ before = length-take-le before left (omega arith) in
      ap (λ (ps : List (List ℕ)). next_of ps at) (pieces_cut 10 left h) ∙ next_step (take before left) (pieces 10 (drop (suc before) left)) at (pieces_some 10 (drop (suc before) left)) ∙ rw e

  next_none : length left ≤ before → next_from s at ≡ None
  unfolding next_from
  next_none h = rw (pieces_one 10 left h)

  start_some : before < length left → start_from s at ≡ at + suc before
  unfolding start_from
  start_some h = rw (next_some h)

  start_none : length left ≤ before → start_from s at ≡ at
  unfolding start_from
  start_none h = rw (next_none h)

-- ---- what `next_start` does, with the place n that it found

module _ (s : List ℕ) (at n : ℕ) (e : n ≡ find_from 10 s at) where
  pub found_none : length s ≤ n → at ≡ start_from s at
  unfolding find_from
  found_none h = sym (start_none s at (omega (arith, length-drop at s)))

  pub found_some : n < length s → n + 1 ≡ start_from s at
  unfolding find_from
  found_some h = rw (start_some s at (omega (arith, length-drop at s))) (omega arith)

-- ---- what lies between two places

module _ (s : List ℕ) (at start : ℕ) where
  pub between_back : start ≤ at → None ≡ line_between s at start
  unfolding line_between
  between_back h = rw (le-ltb at start h)

  pub between_past : length s < start → None ≡ line_between s at start
  unfolding line_between
  between_past h = rw (lt-leb start (length s) h, and-false (ltb at start))

  module _ (n : ℕ) (h : at < start) (k : start ≤ length s) (e : n ≡ length (line_text (take (start - 1 - at) (drop at s)))) where
    pub between_some : Some (at + n, start) ≡ line_between s at start
    unfolding line_between
    between_some = rw (lt-ltb at start h, le-leb start (length s) k, e)

    pub between_ends : at + n < start
    between_ends = omega (arith, (text_front (take (start - 1 - at) (drop at s))).0, length-take-le (start - 1 - at) (drop at s) (omega (arith, length-drop at s)))

-- between a place and the start found from it lies the next line
pub between_next : (s : List ℕ) (at : ℕ) → line_between s at (start_from s at) ≡ next_from s at
between_next s at =
    ⊎_elim
    (λ h. let z : at + suc (before s at) - 1 - at ≡ before s at = omega arith in
    let f : at < at + suc (before s at) = omega arith in
    let w : at + suc (before s at) ≤ length s = omega (arith, length-drop at s) in
    rw (start_some s at h, next_some s at h) (sym (between_some s at (at + suc (before s at)) _ f w (rw z))))
    (λ h. rw (start_none s at h, next_none s at h) (sym (between_back s at at (omega arith))))
    (lt_or_ge (before s at) (length (left s at)))

-- ---- what a loop over the lines goes by

-- a line from `at` to `e`, and the next from `n` on
pub record Stepped (s : List ℕ) (at e n : ℕ) : Type 0 where
  pub starts : at ≤ e
  pub ends : e < n
  pub within : n ≤ length s
  pub after : start_from s at ≡ n
  pub whole : whole_lines (drop at s) ≡ take (e - at) (drop at s) ∷ whole_lines (drop n s)
  pub lines : lines_of (drop at s) ≡ take (e - at) (drop at s) ∷ lines_of (drop n s)
  pub rest : rest_of (drop at s) ≡ rest_of (drop n s)
  pub used : at + used_up (drop at s) ≡ n + used_up (drop n s)

-- no whole line from `at` on
pub record Rested (s : List ℕ) (at : ℕ) : Type 0 where
  pub after : start_from s at ≡ at
  pub whole : whole_lines (drop at s) ≡ []
  pub lines : lines_of (drop at s) ≡ last_line (drop at s)
  pub rest : rest_of (drop at s) ≡ drop at s
  pub used : used_up (drop at s) ≡ 0

module _ (s : List ℕ) (at : ℕ) (h : before s at < length (left s at)) where
  abbrev text : List ℕ
  text = line_text (take (before s at) (left s at))

  stepped : Stepped s at (at + length text) (at + suc (before s at))
  unfolding lines_of
  stepped =
      let p = take (before s at) (left s at) in
      let l : length p ≡ before s at = length-take-le (before s at) (left s at) (omega arith) in
      let f = text_front p in
      let z : at + length text - at ≡ length text = omega arith in
      let t : text ≡ take (at + length text - at) (left s at) = f.1 ∙ take-take (length text) (before s at) (left s at) (omega arith) ∙ rw z in
      let d : drop (suc (before s at)) (left s at) ≡ drop (at + suc (before s at)) s = drop-drop (suc (before s at)) at s in
      let w : whole_lines (left s at) ≡ take (at + length text - at) (left s at) ∷ whole_lines (drop (at + suc (before s at)) s) = rw (← d, ← t) (cut_whole (left s at) h) in
      let r : rest_of (left s at) ≡ rest_of (drop (at + suc (before s at)) s) = rw (← d) (cut_rest (left s at) h) in
      record {
        starts = omega arith;
        ends = omega arith;
        within = omega (arith, length-drop at s);
        after = start_some s at h;
        whole = w;
        lines = rw (w, r);
        rest = r;
        used = rw (← d) (omega (arith, cut_used (left s at) h));
      }

pub line_step : (s : List ℕ) (at e n : ℕ) → next_from s at ≡ Some (e, n) → Stepped s at e n
line_step s at e n q =
    ⊎_elim
    (λ h. let p = next_some s at h in
    let w = same_parts (sym q ∙ p) in
    rw (w.0, w.1) (stepped s at h))
    (λ h. let p = next_none s at h in
    let z : ◌≡◌ {A = ℕ} 0 1 = cc in
    let no_line : ⊥ = omega arith in absurd no_line)
    (lt_or_ge (before s at) (length (left s at)))

pub rest_step : (s : List ℕ) (at : ℕ) → next_from s at ≡ None → Rested s at
unfolding lines_of
rest_step s at q =
    ⊎_elim
    (λ h. let p = next_some s at h in
    let z : ◌≡◌ {A = ℕ} 0 1 = cc in
    let no_rest : ⊥ = omega arith in absurd no_rest)
    (λ h. record {
      after = start_none s at h;
      whole = none_whole (left s at) h;
      lines = rw (none_whole (left s at) h, none_rest (left s at) h);
      rest = none_rest (left s at) h;
      used = none_used (left s at) h;
    })
    (lt_or_ge (before s at) (length (left s at)))
