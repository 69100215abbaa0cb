-- "Whenever the old judge didn't answer 10, the new one gives the same verdict, and the same sheet." (02, No. 7) For an event, for a line after others, and for lists of lines.
use Rattle.std.proofs.Common.{Option, None, Some}
use mathlib.Core.Path.{◌≡◌, refl, sym, ap, ap₂, ◌∙◌}
use mathlib.Core.Bool.{Bool, true, false, ◌&&◌, cond}
use mathlib.Core.List.{List, [], ◌∷◌}
use Prim.Native.Nat.{ℕ, zero, suc, ◌+◌, ◌≤◌}
use native.Mathlib.Omega.{arith}
use lib.Dec.{leb, ltb}
use lib.ListN.{length, length-append}
use borrow.Author.Tests.{ltb-false, leb-true}
use Rattle.text.specs.Sizes.{name_limit, core_limit}
use Rattle.text.specs.Lists.{any}
use Rattle.text.proofs.Bools.{is_false}
use Rattle.rules.specs.Lists.{if_zero}
use Rattle.rules.specs.Limits.{instance_limit}
use Rattle.rules.specs.First.{first_refusal}
use Rattle.rules.specs.Event.{Event, same_instance, instance_of}
use Rattle.rules.specs.History.{has_instances, names, cores, instances, needs_entry, entries}
use Rattle.rules.specs.Refusals.{look, time_falls, second_kind, needs_one, no_room, event_tests, answer_to}
use Rattle.rules.specs.Verdict.{answer}
use Rattle.rules.specs.Sheet.{sheet}
use Rattle.rules.specs.Lines.{event_of_line, events_of}
use Rattle.rules.specs.Trace.{place_of, answer_in_place, event_answer_by, answer_by, answer_at, at_end, taken_lines, verdict_on}
use Rattle.rules.specs.Text.{text_by, trace_text}
use Rattle.rules.specs.OldJudge.{old_no_room, old_answer, old_taken, old_verdict, old_text}
use Rattle.rules.proofs.Tests.{both, neither, if_some, instance_true, instance_refl}
use Rattle.rules.proofs.Sums.{only_less, fewer}
use Rattle.rules.proofs.First.{same_first}
use Rattle.rules.proofs.Entries.{entry_exactly}
use Rattle.rules.proofs.Needed.{needing_gains}

-- ---- an event

module _ (h : List Event) (e : Event) where
  -- where one more is needed, there are fewer entries than instances with the line's own
  fewer_entries : needs_one (look h e) e ≡ true → length (entries h) + 1 ≤ length (instances (e ∷ h))
  unfolding needs_one instances
  fewer_entries q =
      let k = (both (has_instances e.kind) _ q).0 in
      by_seen k (any (same_instance (instance_of e)) (instances h)) refl (sym (entry_exactly h (instance_of e)) ∙ (needing_gains h e q).0)
    where
      by_seen : has_instances e.kind ≡ true → (b : Bool) → any (same_instance (instance_of e)) (instances h) ≡ b →
          any (same_instance (instance_of e)) (instances h) && needs_entry h (instance_of e) ≡ false → length (entries h) + 1 ≤ length (instances (e ∷ h))
      by_seen k true l n =
          rw (k, l)
          (omega (arith, fewer same_instance instance_true instance_refl (needs_entry h) (instances h) (instance_of e) l (rw l at n)))
      by_seen k false l n =
          rw (k, l) (omega (arith, only_less (needs_entry h) (instances h), length-append (instances h) (instance_of e ∷ [])))

  more_room : old_no_room h e ≡ false → no_room (look h e) e ≡ false
  unfolding old_no_room no_room
  more_room q =
      let n = neither (ltb name_limit (length (names (e ∷ h)))) _ q in
      let c = neither (ltb core_limit (length (cores (e ∷ h)))) (ltb instance_limit (length (instances (e ∷ h)))) n.1 in
      rw (n.0, c.0)
      (is_false _ (λ f.
      let g = both (leb instance_limit (length (entries h))) _ f in
      omega (arith, leb-true instance_limit (length (entries h)) g.0, fewer_entries g.1, ltb-false instance_limit (length (instances (e ∷ h))) c.1)))

  same_answer : (old_answer h e ≡ 10 → ⊥) → answer h e ≡ old_answer h e
  unfolding old_answer answer_to event_tests
  same_answer q = by_tests (time_falls (look h e) e) (second_kind (look h e) e) (old_no_room h e) (no_room (look h e) e) _ more_room q
    where
      by_tests : (a b c d : Bool) (rest : ℕ) → (c ≡ false → d ≡ false) → (cond a 8 (cond b 9 (cond c 10 rest)) ≡ 10 → ⊥) →
          cond a 8 (cond b 9 (cond d 10 rest)) ≡ cond a 8 (cond b 9 (cond c 10 rest))
      by_tests true b c d rest f q = refl
      by_tests false true c d rest f q = refl
      by_tests false false true d rest f q = absurd (q refl)
      by_tests false false false d rest f q = rw (f refl)

-- ---- a line after others

same_line : (h : List (List ℕ)) (l : List ℕ) → (answer_by old_answer h l ≡ 10 → ⊥) → answer_at h l ≡ answer_by old_answer h l
unfolding answer_at
same_line h l = by_place (answer_in_place (place_of h) l) (event_of_line l)
  where
    by_place : (n : ℕ) (o : Option Event) → (if_zero n (event_answer_by old_answer o (events_of h)) n ≡ 10 → ⊥) →
        if_zero n (event_answer_by answer o (events_of h)) n ≡ if_zero n (event_answer_by old_answer o (events_of h)) n
    by_place (suc n) o q = refl
    by_place zero None q = refl
    by_place zero (Some e) q = same_answer (events_of h) e q

-- ---- lists of lines

-- what the new judge says of a trace is what the old one said
pub record Same (ls : List (List ℕ)) : Type 0 where
  pub verdict : verdict_on [] ls ≡ old_verdict [] ls
  pub taken : taken_lines [] ls ≡ old_taken [] ls
  pub sheets : sheet (events_of (taken_lines [] ls)) ≡ sheet (events_of (old_taken [] ls))
  pub printed : trace_text ls ≡ old_text ls

pub same_verdict : (ls : List (List ℕ)) → ((old_verdict [] ls).0 ≡ 10 → ⊥) → Same ls
unfolding verdict_on trace_text
same_verdict ls q =
    let r = same_first (answer_by old_answer) answer_at 10 (omega arith) same_line ls [] refused in
    let v : verdict_on [] ls ≡ old_verdict [] ls = ap₂ {C = ℕ × ℕ} (λ u t. if_zero u.0 (at_end t) u) r.0 r.1 in
    record { verdict = v; taken = r.1; sheets = ap (λ (t : List (List ℕ)). sheet (events_of t)) r.1; printed = ap₂ {C = List ℕ} text_by r.1 v }
  where
    -- a verdict of 10 is no verdict of the end
    refused : (first_refusal (answer_by old_answer) [] ls).0 ≡ 10 → ⊥
    refused p =
        let r = first_refusal (answer_by old_answer) [] ls in
        q (ap (λ (v : ℕ × ℕ). v.0) (if_some r.0 (at_end (old_taken [] ls)) r (λ z. omega (arith, p, z))) ∙ p)
