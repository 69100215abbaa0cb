-- The verdict on a list of lines (demand 2): 0 exactly if every line is well formed and in its place, there is a time scale, and the events break no rule;
-- otherwise it names the first line that is refused, with the lowest number, or the end. What follows a refused line changes nothing.
use Rattle.std.proofs.Common.{Option, None, Some}
use mathlib.Core.Path.{◌≡◌, refl, ap, ◌∙◌}
use mathlib.Core.Bool.{Bool, true, false, cond}
use mathlib.Core.Logic.{◌↔◌}
use mathlib.Core.List.{List, [], ◌∷◌, ◌++◌, reverse}
use Prim.Native.Nat.{ℕ, zero, suc, ◌+◌, ◌≤◌, ◌<◌}
use native.Mathlib.Omega.{arith}
use lib.Dec.{eqb}
use lib.ListN.{length}
use borrow.Author.Tests.{eqb-false, ne_eqb}
use Rattle.line.specs.Answer.{IsLowest}
use Rattle.rules.specs.Lists.{if_zero}
use Rattle.rules.specs.First.{FirstRefused}
use Rattle.rules.specs.Event.{Event}
use Rattle.rules.specs.Lines.{event_of_line, with_event, events_of}
use Rattle.rules.specs.Refusals.{look, event_tests}
use Rattle.rules.specs.Verdict.{Accepted}
use Rattle.rules.specs.Trace.{place_of, place_tests, answer_in_place, event_answer, answer_at, at_end, taken_lines, refusal_on, verdict_on, InPlace, Sound}
use Rattle.rules.proofs.First.{taken_keeps, zero_takes_all, kept_none, first_refused, stays}
use Rattle.rules.proofs.Answers.{answer_lowest}
use Rattle.rules.proofs.Seen.{Worded}
use Rattle.rules.proofs.Laws.{Holds, accepted_holds}
use Rattle.rules.proofs.Meets.{read_worded}
use Rattle.rules.proofs.Places.{place_exactly}

-- ---- one line

-- the lines of a history are in their places, and their events are accepted
pub record Kept (h : List (List ℕ)) : Type 0 where
  pub in_place : InPlace h
  pub accepted : Accepted (events_of h)

both_zero : (m n : ℕ) → if_zero m n m ≡ 0 → (m ≡ 0) × (n ≡ 0)
both_zero zero n q = (refl, q)
both_zero (suc m) n q = absurd (omega arith)

with_accepted : (o : Option Event) (es : List Event) → Accepted (with_event o es) ↔ ((event_answer o es ≡ 0) × Accepted es)
with_accepted None es = (λ a. (refl, a), λ p. p.1)
with_accepted (Some e) es = (λ a. a, λ p. p)

-- one more line is kept exactly if it is answered 0
module _ (h : List (List ℕ)) (l : List ℕ) where
  pub kept_next : Kept h → answer_at h l ≡ 0 → Kept (l ∷ h)
  unfolding answer_at events_of
  kept_next k q =
      let z = both_zero (answer_in_place (place_of h) l) (event_answer (event_of_line l) (events_of h)) q in
      record { in_place = (z.0, k.in_place); accepted = (with_accepted (event_of_line l) (events_of h)).1 (z.1, k.accepted) }

  pub kept_before : Kept (l ∷ h) → (answer_at h l ≡ 0) × Kept h
  unfolding answer_at events_of
  kept_before k =
      let a = (with_accepted (event_of_line l) (events_of h)).0 k.accepted in
      (rw k.in_place.0 a.0, record { in_place = k.in_place.1; accepted = a.1 })

-- ---- 0 exactly if the trace is sound

scaled : (n : ℕ) (b : Bool) (v : ℕ × ℕ) → eqb n 0 ≡ b → 1 ≤ v.0 → (cond b v (0, 0)).0 ≡ 0 → n ≡ 0 → ⊥
scaled n true v e w q = absurd (omega arith)
scaled n false v e w q = eqb-false n 0 e

end_scaled : (h : List (List ℕ)) → (at_end h).0 ≡ 0 → (place_of h).scale ≡ 0 → ⊥
unfolding at_end
end_scaled [] q = absurd (omega arith)
end_scaled (l ∷ h) q = scaled (place_of (l ∷ h)).scale (eqb (place_of (l ∷ h)).scale 0) (4, length (l ∷ h) + 1) refl (omega arith) q

scaled_end : (h : List (List ℕ)) → ((place_of h).scale ≡ 0 → ⊥) → at_end h ≡ (0, 0)
unfolding at_end place_of
scaled_end [] q = absurd (q refl)
scaled_end (l ∷ h) q = rw (ne_eqb (place_of (l ∷ h)).scale 0 q)

pub nothing_kept : Kept []
unfolding events_of
nothing_kept = record { in_place = tt; accepted = tt }

taken_kept : (ls : List (List ℕ)) → Kept (taken_lines [] ls)
taken_kept ls = taken_keeps answer_at Kept kept_next ls [] nothing_kept

zero_sound : (ls : List (List ℕ)) → (verdict_on [] ls).0 ≡ 0 → Sound (reverse ls)
unfolding verdict_on
zero_sound ls q = by_number (refusal_on [] ls).0 refl q
  where
    by_number : (n : ℕ) → (refusal_on [] ls).0 ≡ n → (if_zero n (at_end (taken_lines [] ls)) (refusal_on [] ls)).0 ≡ 0 → Sound (reverse ls)
    by_number zero e q =
        let k = taken_kept ls in
        let s : Sound (taken_lines [] ls) = record { in_place = k.in_place; scaled = end_scaled (taken_lines [] ls) q; accepted = k.accepted } in
        rw (zero_takes_all answer_at ls [] e) at s
    by_number (suc n) e q = absurd (omega arith)

sound_zero : (ls : List (List ℕ)) → Sound (reverse ls) → verdict_on [] ls ≡ (0, 0)
unfolding verdict_on
sound_zero ls s =
    let z = kept_none answer_at Kept kept_before ls [] (record { in_place = s.in_place; accepted = s.accepted }) in
    let t = zero_takes_all answer_at ls [] (ap (λ (v : ℕ × ℕ). v.0) z) in
    rw (z, t) (scaled_end (reverse ls) s.scaled)

-- The verdict is 0 exactly if the trace is sound; then its line is 0 too.
pub number_sound : (ls : List (List ℕ)) → ((verdict_on [] ls).0 ≡ 0) ↔ Sound (reverse ls)
number_sound ls = (zero_sound ls, λ s. ap (λ (v : ℕ × ℕ). v.0) (sound_zero ls s))

pub verdict_sound : (ls : List (List ℕ)) → (verdict_on [] ls ≡ (0, 0)) ↔ Sound (reverse ls)
verdict_sound ls = (λ q. (number_sound ls).0 (ap (λ (v : ℕ × ℕ). v.0) q), sound_zero ls)

-- ---- any verdict: the first line that is refused, or the end

-- Why a line after the history h is answered n: n is the lowest of 1 to 7 that applies to it in its place; or it is in its place, and its event breaks the
-- rule n of 8 to 14 and none lower.
pub data Why (h : List (List ℕ)) (l : List ℕ) (n : ℕ) : Type 0 where
  misplaced : IsLowest (place_tests (place_of h) l) n → Why h l n
  breaks : (e : Event) → event_of_line l ≡ Some e → answer_in_place (place_of h) l ≡ 0 → IsLowest (event_tests (look (events_of h) e) e) n → Why h l n

why : (h : List (List ℕ)) (l : List ℕ) (n : ℕ) → 0 < n → answer_at h l ≡ n → Why h l n
unfolding answer_at
why h l n pos q = by_place (answer_in_place (place_of h) l) refl q
  where
    by_event : (o : Option Event) → event_of_line l ≡ o → answer_in_place (place_of h) l ≡ 0 → event_answer o (events_of h) ≡ n → Why h l n
    by_event None e p q = absurd (omega arith)
    by_event (Some d) e p q = breaks d e p ((answer_lowest (look (events_of h) d) d n pos).0 q)

    by_place : (m : ℕ) → answer_in_place (place_of h) l ≡ m → if_zero m (event_answer (event_of_line l) (events_of h)) m ≡ n → Why h l n
    by_place zero e q = by_event (event_of_line l) refl e q
    by_place (suc m) e q = misplaced ((place_exactly (place_of h) l n pos).0 (e ∙ q))

-- v is the verdict on ls, and t the lines then taken
pub data Names (ls : List (List ℕ)) (v : ℕ × ℕ) (t : List (List ℕ)) : Type 0 where
  at_line : (r : FirstRefused answer_at [] ls v t) → Why t r.first v.0 → Names ls v t
  -- all lines are taken, and the verdict is that of the end: 2 for none, 4 without a time scale, else 0
  at_end_lem : t ≡ reverse ls → v ≡ at_end t → Names ls v t

pub verdict_names_first : (ls : List (List ℕ)) → Names ls (verdict_on [] ls) (taken_lines [] ls)
unfolding verdict_on
verdict_names_first ls = by_number (refusal_on [] ls).0 refl
  where
    by_number : (n : ℕ) → (refusal_on [] ls).0 ≡ n → Names ls (if_zero n (at_end (taken_lines [] ls)) (refusal_on [] ls)) (taken_lines [] ls)
    by_number zero e = at_end_lem (zero_takes_all answer_at ls [] e) refl
    by_number (suc n) e =
        let r = first_refused answer_at ls [] (omega (arith, e)) in
        at_line r (why (taken_lines [] ls) r.first (refusal_on [] ls).0 r.refused r.answered)

-- ---- what a refused line leaves

-- Once a line is not taken, what follows changes neither the lines taken nor the verdict.
pub refused_stays : (ls more : List (List ℕ)) → (taken_lines [] ls ≡ reverse ls → ⊥) →
    (taken_lines [] (ls ++ more) ≡ taken_lines [] ls) × (verdict_on [] (ls ++ more) ≡ verdict_on [] ls)
unfolding verdict_on
refused_stays ls more q =
    let n : (refusal_on [] ls).0 ≡ 0 → ⊥ = λ e. q (zero_takes_all answer_at ls [] e) in
    let s = stays answer_at ls more [] (omega arith) in
    (s.1, rw (s.0, s.1))

-- ---- the lines taken, whatever the trace

-- They are in their places and their events are accepted; so the words are those of the charts, and the laws of charts, cores and figures hold.
pub record TakenSound (h : List (List ℕ)) : Type 0 where
  pub kept : Kept h
  pub worded : Worded (events_of h)
  pub laws : Holds (events_of h)

pub taken_sound : (ls : List (List ℕ)) → TakenSound (taken_lines [] ls)
taken_sound ls =
    let k = taken_kept ls in
    record { kept = k; worded = read_worded (taken_lines [] ls); laws = accepted_holds (events_of (taken_lines [] ls)) k.accepted }
