-- DEMAND 2 OF THE JUDGE, over any lines, and over the bytes of any trace in tables of the right sizes, whatever they held.
-- `demand_2`: the verdict on a trace is 0 exactly if the trace is lawful. `Lawful` (rules/specs/Lawful) has a field for each thing that is asked of the lines
-- and of the list of their events; of tables, and of how the judge decides, it does not speak.
-- `demand_2_refused`: any other verdict names the first line that breaks this. The lines before it break nothing, with it they do, and the number is the
-- lowest that applies to it after them: of 1 to 7 from the line in its place, or else of 8 to 14 from its event. Or no line breaks anything: the verdict is
-- 2 at line 1 for a trace without a line, and 4 at the line after the last for one without a time scale.
use mathlib.Core.Path.{◌≡◌, refl, sym, ap, ◌∙◌}
use mathlib.Core.Logic.{◌↔◌}
use mathlib.Core.Bool.{Bool, true, false, cond}
use mathlib.Core.List.{List, [], ◌∷◌, ◌++◌, reverse, reverse-reverse}
use Prim.Native.Nat.{ℕ, ◌+◌, ◌≤◌}
use native.Mathlib.Omega.{arith}
use lib.Dec.{eqb}
use lib.ListN.{length, length-reverse}
use borrow.Author.Tests.{eqb-true}
use Rattle.walk.specs.Lines.{lines_of}
use Rattle.bill.specs.declared.verdict.Verdict.{Verdict}
use Rattle.bill.specs.Text.{sheet_text}
use Rattle.rules.specs.First.{FirstRefused}
use Rattle.rules.specs.Trace.{place_of, answer_at, at_end, taken_lines}
use Rattle.rules.specs.Lawful.{SoFar, Lawful}
use Rattle.rules.proofs.Traces.{Kept, kept_before, Why, Names, at_line, at_end_lem, number_sound, verdict_names_first, taken_sound}
use Rattle.rules.proofs.Lawful.{kept_so_far, sound_lawful}
use Rattle.tables.specs.Sized.{is_sized}
use Rattle.judge.specs.Feed.{Tables}
use Rattle.outcome.specs.Outcome.{Asked, AfterTrace, trace_outcome}
use Rattle.promises.specs.Sheets.{sheet_of}
use Rattle.promises.specs.Outcomes.{verdict_of}
use Rattle.promises.proofs.Outcomes.{answered, trace_outcome_lem}

-- the first line of a list, THE OLDEST FIRST, that breaks what is asked, and why
pub record FirstBroken (ls : List (List ℕ)) (number line : ℕ) : Type 0 where
  pub before : List (List ℕ)
  pub broken : List ℕ
  pub after : List (List ℕ)
  pub splits : ls ≡ before ++ (broken ∷ after)
  pub counted : line ≡ length before + 1
  pub lawful_before : SoFar (reverse before)
  pub breaks : SoFar (broken ∷ reverse before) → ⊥
  pub lowest : Why (reverse before) broken number

pub data Refusal (ls : List (List ℕ)) (number line : ℕ) : Type 0 where
  first_broken : FirstBroken ls number line → Refusal ls number line
  -- "An empty trace is refusal 2 at line 1."
  no_line : ls ≡ [] → number ≡ 2 → line ≡ 1 → Refusal ls number line
  -- "A trace of n taken lines that ends without a scale is refusal 4 at line n + 1."
  no_scale : SoFar (reverse ls) → (place_of (reverse ls)).scale ≡ 0 → number ≡ 4 → line ≡ length ls + 1 → Refusal ls number line

-- ---- what a verdict names

module _ (ls : List (List ℕ)) (number line : ℕ) where
  by_line : (r : FirstRefused answer_at [] ls (number, line) (taken_lines [] ls)) → Why (taken_lines [] ls) r.first number → FirstBroken ls number line
  by_line r why =
      let kept : Kept (reverse r.before) = rw r.all_taken at (taken_sound r.before).kept in
      record {
        before = r.before;
        broken = r.first;
        after = r.after;
        splits = r.splits;
        counted = omega (arith, r.place);
        lawful_before = (kept_so_far (reverse r.before)).0 kept;
        breaks =
            λ s. let z = (kept_before (reverse r.before) r.first ((kept_so_far (r.first ∷ reverse r.before)).1 s)).0 in
            omega (arith, r.refused, sym z ∙ (rw r.no_other at r.answered));
        lowest = rw r.no_other at why;
      }

  at_its_end : (number ≡ 0 → ⊥) → SoFar (reverse ls) → (h : List (List ℕ)) → reverse ls ≡ h → (number, line) ≡ at_end h → Refusal ls number line
  unfolding at_end
  at_its_end n s [] q v = no_line (sym (reverse-reverse ls) ∙ ap reverse q) (ap (λ (p : ℕ × ℕ). p.0) v) (ap (λ (p : ℕ × ℕ). p.1) v)
  at_its_end n s (l ∷ h) q v = by_scale (eqb (place_of (l ∷ h)).scale 0) refl v
    where
      by_scale : (b : Bool) → eqb (place_of (l ∷ h)).scale 0 ≡ b → ◌≡◌ {A = ℕ × ℕ} (number, line) (cond b (4, length (l ∷ h) + 1) (0, 0)) →
          Refusal ls number line
      by_scale true e v =
          no_scale s (rw q (eqb-true _ 0 e)) (ap (λ (p : ℕ × ℕ). p.0) v) (omega (arith, ap (λ (p : ℕ × ℕ). p.1) v, ap length q, length-reverse ls))
      by_scale false e v = absurd (n (ap (λ (p : ℕ × ℕ). p.0) v))

  named : Names ls (number, line) (taken_lines [] ls) → (number ≡ 0 → ⊥) → Refusal ls number line
  named (at_line r why) n = first_broken (by_line r why)
  named (at_end_lem q v) n = at_its_end n ((kept_so_far (reverse ls)).0 (rw q at (taken_sound ls).kept)) (reverse ls) refl (rw q at v)

-- ---- any lines

module _ (ls : List (List ℕ)) where
  pub lawful_exactly : ((verdict_of ls).number ≡ 0) ↔ Lawful (reverse ls)
  lawful_exactly =
      let s = number_sound ls in
      let l = sound_lawful (reverse ls) in
      (λ q. l.0 (s.0 q), λ w. s.1 (l.1 w))

  pub refused_first : ((verdict_of ls).number ≡ 0 → ⊥) → Refusal ls (verdict_of ls).number (verdict_of ls).line
  refused_first = named ls (verdict_of ls).number (verdict_of ls).line (verdict_names_first ls)

-- ---- a whole trace, where its sheet has room

module _ (t : Tables) (fits : is_sized (length t.names) (length t.nums) (length t.ticks) ≡ true) (trace out : List ℕ)
    (room : length (sheet_text (sheet_of (lines_of trace))) ≤ length out) where
  abbrev pub told : Verdict
  told = (trace_outcome t trace out).told.outcome.verdict

  pub told_right : told ≡ verdict_of (lines_of trace)
  told_right =
      ap (λ (x : AfterTrace). x.told.outcome.verdict) (trace_outcome_lem t trace fits out)
      ∙ ap (λ (x : Asked). x.outcome.verdict) (answered (lines_of trace) out room)

  pub demand_2 : (told.number ≡ 0) ↔ Lawful (reverse (lines_of trace))
  demand_2 = rw told_right (lawful_exactly (lines_of trace))

  pub demand_2_refused : (told.number ≡ 0 → ⊥) → Refusal (lines_of trace) told.number told.line
  demand_2_refused = rw told_right (refused_first (lines_of trace))
