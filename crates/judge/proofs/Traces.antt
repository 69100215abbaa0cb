-- Many lines against the tables: what the loop over the lines of a chunk goes by, and lines after lines.
use Rattle.std.proofs.Common.{◌≡◌, ℕ, ◌+◌, ◌-◌, ◌<◌, ◌≤◌, Bool, true, false, ◌||◌, eqb, List, [], ◌∷◌, ◌++◌, length, take, drop, sym, refl, ap, ◌∙◌, arith, take_all, eqb-true, le-leb, None, Some, Option}
use borrow.Author.Tests.{eqb-false}
use Rattle.text.proofs.Bools.{clash}
use Rattle.walk.specs.Lines.{whole_lines, used_up, next_from}
use Rattle.walk.proofs.Nexts.{Stepped, Rested, line_step, rest_step}
use Rattle.fields.specs.Part.{part_from}
use Rattle.scan.specs.Ahead.{line_from}
use Rattle.judge.specs.Feed.{Tables, After, AfterChunk, judged_line, fed_next, judged_lines, fed_lines}

-- ---- the loop over the lines of a chunk: what is left to do from the index on gives what all lines give; where all of it is one line, nothing is done before

pub record Going (whole : Bool) (t u : Tables) (s : List ℕ) (at : ℕ) : Type 0 where
  pub inside : at ≤ length s
  pub used : at + used_up (drop at s) ≡ used_up s
  pub lines : judged_lines u (whole_lines (drop at s)) ≡ judged_lines t (whole_lines s)
  pub first : whole ≡ true → (at ≡ 0) × (u ≡ t)

going_on : {t u : Tables} {s : List ℕ} {at e n : ℕ} {x : After} → Going false t u s at → Stepped s at e n
    → x ≡ judged_line u (take (e - at) (drop at s)) → Going false t x.left s n
unfolding judged_lines
going_on {t} {u} {s} {at} {e} {n} {x} g d p =
    record {
      inside = d.within;
      used = sym d.used ∙ g.used;
      lines = rw p (sym (ap (judged_lines u) d.whole) ∙ g.lines);
      first = λ e. absurd (clash false e refl);
    }

going_end : {t u : Tables} {s : List ℕ} {at : ℕ} → Going false t u s at → Rested s at → (at ≡ used_up s) × (u ≡ judged_lines t (whole_lines s))
unfolding judged_lines
going_end {t} {u} g r = (omega (arith, r.used, g.used), sym (ap (judged_lines u) r.whole) ∙ g.lines)

-- all of it as one line
fed_whole : (t : Tables) (s : List ℕ) → fed_next t s 0 (line_from true s 0) ≡ fed_lines true t s
unfolding line_from part_from
fed_whole t s =
    let n : length s - 0 ≡ length s = omega arith in
    rw (le-leb 0 (length s) (omega arith), n, take_all (length s) s (omega arith))

-- a turn of the loop: it ends where all of it is one line, and where the place stays, since nothing is left; else one line more is done
module _ {t u : Tables} {s : List ℕ} {at : ℕ} {x : AfterChunk} where
  ends_by : Going false t u s at → (n : Option (ℕ × ℕ)) → next_from s at ≡ n → x ≡ fed_next u s at n → x.fed.used ≡ at → x ≡ fed_lines false t s
  ends_by g (Some (e, n)) q p h =
      let d = line_step s at e n q in
      let k : n ≡ at = rw p at h in
      let on : ⊥ = omega arith in absurd on
  ends_by g None q p h = let e = going_end g (rest_step s at q) in rw (p, e.0, e.1)

  goes_by : Going false t u s at → (n : Option (ℕ × ℕ)) → next_from s at ≡ n → x ≡ fed_next u s at n → (x.fed.used ≡ at → ⊥)
      → (at < x.fed.used) × Going false t x.left s x.fed.used
  unfolding part_from
  goes_by g (Some (e, n)) q p h =
      let d = line_step s at e n q in
      let less : at < n = omega arith in
      rw p (less, going_on {x = judged_line u (take (e - at) (drop at s))} g d refl)
  goes_by g None q p h = absurd (h (rw p))

  pub loop-ends : (whole : Bool) → Going whole t u s at → x ≡ fed_next u s at (line_from whole s at) → whole || eqb x.fed.used at ≡ true → x ≡ fed_lines whole t s
  unfolding line_from
  loop-ends true g p h =
      let one = g.first refl in
      p ∙ rw (one.0, one.1) (fed_whole t s)
  loop-ends false g p h = ends_by g (next_from s at) refl p (eqb-true x.fed.used at h)

  pub loop-goes : (whole : Bool) → Going whole t u s at → x ≡ fed_next u s at (line_from whole s at) → whole || eqb x.fed.used at ≡ false
      → (at < x.fed.used) × Going whole t x.left s x.fed.used
  unfolding line_from
  loop-goes true g p h = absurd (clash true refl h)
  loop-goes false g p h = goes_by g (next_from s at) refl p (eqb-false x.fed.used at h)

-- ---- lines after lines

pub judged_lines_append : (t : Tables) (ls ms : List (List ℕ)) → judged_lines t (ls ++ ms) ≡ judged_lines (judged_lines t ls) ms
unfolding judged_lines
judged_lines_append t [] ms = refl
judged_lines_append t (l ∷ ls) ms = judged_lines_append (judged_line t l).left ls ms
