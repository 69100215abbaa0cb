-- A trace is sound exactly if it is lawful (demand 2): each rule that is tested event by event against what is known is never broken exactly if its clause
-- holds of the list of all events.
use Rattle.std.proofs.Common.{Option, None, Some}
use mathlib.Core.Path.{◌≡◌, refl, ap}
use mathlib.Core.Logic.{◌↔◌}
use mathlib.Core.Bool.{Bool, true, false, not, ◌&&◌, cond}
use mathlib.Core.List.{List, [], ◌∷◌}
use Prim.Native.Nat.{ℕ, ◌+◌, ◌≤◌}
use lib.Dec.{eqb}
use borrow.Author.Tests.{eqb-true, eq-eqb, ltb-false, le-ltb, not-false}
use Rattle.text.specs.Bytes.{same_bytes}
use Rattle.text.proofs.Words.{same_eq, same_refl}
use Rattle.rules.specs.Lists.{only}
use Rattle.rules.specs.Words.{semaphore}
use Rattle.rules.specs.Event.{Event}
use Rattle.rules.specs.History.{activates, numbers, last_number, last_count}
use Rattle.rules.specs.Refusals.{Known, look, time_falls, second_kind, no_room, not_allowed, off_chart, unseen, is_next, not_next, core_broken, count_follows, count_allowed, count_broken, event_tests}
use Rattle.rules.specs.Verdict.{Accepted, Never}
use Rattle.rules.specs.Lines.{events_of}
use Rattle.rules.specs.Trace.{Sound}
use Rattle.rules.specs.Lawful.{Chain, Each, NumberAfter, Begun, counts, CountAfter, FixedCount, Orderly, SoFar, Lawful}
use Rattle.rules.proofs.Tests.{both, and_true, clash}
use Rattle.rules.proofs.Answers.{accepted_exactly, never_halves, allowed_exactly}
use Rattle.rules.proofs.ChartFact.{chart_runs}
use Rattle.rules.proofs.CoreRuns.{core_runs}
use Rattle.rules.proofs.Chains.{After, Asked, linked_exactly}
use Rattle.rules.proofs.Activations.{what_numbers}
use Rattle.rules.proofs.Begun.{starts_low, begun_exactly}
use Rattle.rules.proofs.OneKind.{one_kind}
use Rattle.rules.proofs.Room.{all_along}
use Rattle.rules.proofs.Traces.{Kept}

-- ---- 8: time

pub time_kept : (h : List Event) → Never time_falls h ↔ Chain (λ d e. d.time ≤ e.time) h
unfolding time_falls
time_kept [] = (λ c. tt, λ l. tt)
time_kept (e ∷ []) = (λ c. tt, λ l. (refl, tt))
time_kept (e ∷ d ∷ h) =
    let rest = time_kept (d ∷ h) in
    (λ c. (ltb-false e.time d.time c.0, rest.0 c.1), λ l. (le-ltb e.time d.time l.0, rest.1 l.1))

-- ---- 12: instance numbers, by kind and name

abbrev NextTo : ℕ → Event → Type 0
NextTo m e = e.target_instance ≡ m + 1

abbrev NumberAsked : List Event → Event → Type 0
NumberAsked = Asked (λ d. d.target_instance) NextTo (λ (p : ℕ × List ℕ). numbers p.0 p.1) (λ d. (d.kind, d.target))

-- the half of the rule that asks for the number before; the other asks the first
out_of_step : Known → Event → Bool
out_of_step k e = activates e.kind e.word && not (is_next k.number true e.target_instance)

number_halves : (k : Known) (e : Event) → (not_next k e ≡ false) ↔ ((out_of_step k e ≡ false) × (starts_low k e ≡ false))
unfolding not_next out_of_step
number_halves k e = by_test (activates e.kind e.word) k.number k.above
  where
    by_test : (b : Bool) (o : Option ℕ) (above : Bool) → (b && not (is_next o above e.target_instance) ≡ false)
        ↔ ((b && not (is_next o true e.target_instance) ≡ false) × (b && (unseen o && not above) ≡ false))
    by_test false o above = (λ q. (refl, refl), λ p. refl)
    by_test true None above = (λ q. (refl, q), λ p. p.1)
    by_test true (Some m) above = (λ q. (q, refl), λ p. p.0)

next_after : (o : Option ℕ) (e : Event) → (is_next o true e.target_instance ≡ true) ↔ After (λ d. d.target_instance) NextTo o e
next_after None e = (λ q. tt, λ a. refl)
next_after (Some m) e = (eqb-true e.target_instance (m + 1), eq-eqb e.target_instance (m + 1))

number_asks : (h : List Event) (e : Event) → (out_of_step (look h e) e ≡ false) ↔ NumberAsked h e
unfolding out_of_step numbers last_number
number_asks h e = rw (eq-eqb e.kind e.kind refl, same_refl e.target) (by_test (activates e.kind e.word) (last_number e.kind e.target h))
  where
    by_test : (b : Bool) (o : Option ℕ) →
        (b && not (is_next o true e.target_instance) ≡ false) ↔ (b && true ≡ true → After (λ d. d.target_instance) NextTo o e)
    by_test true o = (λ q z. (next_after o e).0 (not-false _ q), λ f. ap not ((next_after o e).1 (f refl)))
    by_test false o = (λ q z. absurd (clash false z refl), λ f. refl)

number_own : (p : ℕ × List ℕ) (e : Event) → numbers p.0 p.1 e ≡ true → p ≡ (e.kind, e.target)
number_own p e q = let r = what_numbers p.0 p.1 e q in λ i. (r.of_kind i, r.of_name i)

numbers_follow : (h : List Event) → Never out_of_step h ↔ ((k : ℕ) (n : List ℕ) → Chain NumberAfter (only (numbers k n) h))
numbers_follow h =
    let r = linked_exactly (λ d. d.target_instance) NextTo (λ (p : ℕ × List ℕ). numbers p.0 p.1) (λ d. (d.kind, d.target)) number_own out_of_step number_asks h in
    (λ c k n. r.0 c (k, n), λ f. r.1 (λ p. f p.0 p.1))

-- ---- 11 and 12 together: the second half of each is told of one clause

-- the charts are run through, the numbers follow, and each instance from the first number on begins with an activation
pub record Lives (h : List Event) : Type 0 where
  pub charts : Never off_chart h
  pub numbered : (k : ℕ) (n : List ℕ) → Chain NumberAfter (only (numbers k n) h)
  pub begun : Begun h

pub lives_exactly : (h : List Event) → (Never not_allowed h × Never not_next h) ↔ Lives h
lives_exactly h =
    let numbered = never_halves not_next out_of_step starts_low number_halves h in (
      λ n.
          let c = (allowed_exactly h).0 n.0 in
          let d = numbered.0 n.1 in
          record { charts = c.0; numbered = (numbers_follow h).0 d.0; begun = (begun_exactly h).0 (c.1, d.1) },
      λ l.
          let b = (begun_exactly h).1 l.begun in
          ((allowed_exactly h).1 (l.charts, b.0), numbered.1 ((numbers_follow h).1 l.numbered, b.1)),
    )

-- ---- 14: counts, by name

abbrev CountTo : ℕ → Event → Type 0
CountTo c e = count_follows (Some c) e.word e.count ≡ true

abbrev CountAsked : List Event → Event → Type 0
CountAsked = Asked (λ d. d.count) CountTo counts (λ d. d.target)

-- the half of the rule that asks for the count before
out_of_count : Known → Event → Bool
out_of_count k e = eqb e.kind semaphore && not (count_follows k.count e.word e.count)

count_after : (o : Option ℕ) (e : Event) → (count_follows o e.word e.count ≡ true) ↔ After (λ d. d.count) CountTo o e
unfolding count_follows
count_after None e = (λ q. tt, λ a. refl)
count_after (Some c) e = (λ q. q, λ a. a)

count_asks : (h : List Event) (e : Event) → (out_of_count (look h e) e ≡ false) ↔ CountAsked h e
unfolding out_of_count counts last_count
count_asks h e = rw (same_refl e.target) (by_test (eqb e.kind semaphore) (last_count e.target h))
  where
    by_test : (b : Bool) (o : Option ℕ) → (b && not (count_follows o e.word e.count) ≡ false) ↔ (b && true ≡ true → After (λ d. d.count) CountTo o e)
    by_test true o = (λ q z. (count_after o e).0 (not-false _ q), λ f. ap not ((count_after o e).1 (f refl)))
    by_test false o = (λ q z. absurd (clash false z refl), λ f. refl)

count_own : (n : List ℕ) (e : Event) → counts n e ≡ true → n ≡ e.target
unfolding counts
count_own n e q = same_eq n e.target (both (eqb e.kind semaphore) (same_bytes n e.target) q).1

counts_follow : (h : List Event) → Never out_of_count h ↔ ((n : List ℕ) → Chain CountAfter (only (counts n) h))
counts_follow = linked_exactly (λ d. d.count) CountTo counts (λ d. d.target) count_own out_of_count count_asks

-- the rule is its two halves
count_halves : (k : Known) (e : Event) → (count_broken k e ≡ false) ↔ ((out_of_count k e ≡ false) × FixedCount e)
unfolding count_broken out_of_count
count_halves k e = by_test (eqb e.kind semaphore) refl (count_follows k.count e.word e.count) (count_allowed e.word e.count)
  where
    by_test : (b : Bool) → eqb e.kind semaphore ≡ b → (c f : Bool) → (b && not (c && f) ≡ false) ↔ ((b && not c ≡ false) × (e.kind ≡ semaphore → f ≡ true))
    by_test true s c f =
        (λ q. let r = both c f (not-false _ q) in (ap not r.0, λ z. r.1), λ p. ap not (and_true c f (not-false c p.0) (p.1 (eqb-true e.kind semaphore s))))
    by_test false s c f = (λ q. (refl, λ z. absurd (clash (eqb e.kind semaphore) (eq-eqb e.kind semaphore z) s)), λ p. refl)

pub counts_kept : (h : List Event) → Never count_broken h ↔ (((n : List ℕ) → Chain CountAfter (only (counts n) h)) × Each FixedCount h)
counts_kept h = (λ c. let p = apart h c in ((counts_follow h).0 p.0, p.1), λ p. together h ((counts_follow h).1 p.0) p.1)
  where
    apart : (h : List Event) → Never count_broken h → Never out_of_count h × Each FixedCount h
    apart [] c = (tt, tt)
    apart (e ∷ h) c =
        let p = (count_halves (look h e) e).0 c.0 in
        let r = apart h c.1 in
        ((p.0, r.0), (p.1, r.1))

    together : (h : List Event) → Never out_of_count h → Each FixedCount h → Never count_broken h
    together [] c f = tt
    together (e ∷ h) c f = ((count_halves (look h e) e).1 (c.0, f.0), together h c.1 f.1)

-- ---- the rules together

in_order : (h : List Event) → Accepted h → Orderly h
unfolding event_tests
in_order h a =
    let never = (accepted_exactly h).0 a in
    let lives = (lives_exactly h).0 (never 11, never 12) in
    let counts = (counts_kept h).0 (never 14) in
    record {
      time = (time_kept h).0 (never 8);
      kinds = (one_kind h).0 (never 9);
      room = (all_along h (never 9) (never 11) (never 12)).0 (never 10);
      charts = (chart_runs h).0 lives.charts;
      numbered = lives.numbered;
      begun = lives.begun;
      on_cores = (core_runs h).0 (never 13);
      counted = counts.0;
      fixed_counts = counts.1;
    }

-- neither of two rules is broken, whichever a test tells
either_never : (b : Bool) (f g : Known → Event → Bool) (h : List Event) → Never f h → Never g h → Never (λ k e. cond b (f k e) (g k e)) h
either_never true f g h p q = p
either_never false f g h p q = q

-- there is no other rule
no_rule : (h : List Event) → Never (λ k e. false) h
no_rule [] = tt
no_rule (e ∷ h) = (refl, no_rule h)

-- the rules from a number on, as the tests of an event have them
abbrev from_14 : ℕ → Known → Event → Bool
from_14 n k e = cond (eqb 14 n) (count_broken k e) false

abbrev from_13 : ℕ → Known → Event → Bool
from_13 n k e = cond (eqb 13 n) (core_broken k e) (from_14 n k e)

abbrev from_12 : ℕ → Known → Event → Bool
from_12 n k e = cond (eqb 12 n) (not_next k e) (from_13 n k e)

abbrev from_11 : ℕ → Known → Event → Bool
from_11 n k e = cond (eqb 11 n) (not_allowed k e) (from_12 n k e)

abbrev from_10 : ℕ → Known → Event → Bool
from_10 n k e = cond (eqb 10 n) (no_room k e) (from_11 n k e)

abbrev from_9 : ℕ → Known → Event → Bool
from_9 n k e = cond (eqb 9 n) (second_kind k e) (from_10 n k e)

order_kept : (h : List Event) → Orderly h → Accepted h
unfolding event_tests
order_kept h o = (accepted_exactly h).1 (λ n.
    either_never (eqb 8 n) time_falls (from_9 n) h ((time_kept h).1 o.time)
    (either_never (eqb 9 n) second_kind (from_10 n) h kinds
    (either_never (eqb 10 n) no_room (from_11 n) h ((all_along h kinds lives.0 lives.1).1 o.room)
    (either_never (eqb 11 n) not_allowed (from_12 n) h lives.0
    (either_never (eqb 12 n) not_next (from_13 n) h lives.1
    (either_never (eqb 13 n) core_broken (from_14 n) h ((core_runs h).1 o.on_cores)
    (either_never (eqb 14 n) count_broken (λ k e. false) h ((counts_kept h).1 (o.counted, o.fixed_counts)) (no_rule h))))))))
  where
    kinds : Never second_kind h
    kinds = (one_kind h).1 o.kinds

    lives : Never not_allowed h × Never not_next h
    lives = (lives_exactly h).1 (record { charts = (chart_runs h).1 o.charts; numbered = o.numbered; begun = o.begun })

-- A history is accepted exactly if it is in order.
pub accepted_orderly : (h : List Event) → Accepted h ↔ Orderly h
accepted_orderly h = (in_order h, order_kept h)

-- ---- lines

pub kept_so_far : (h : List (List ℕ)) → Kept h ↔ SoFar h
kept_so_far h = (
  λ k. record { in_place = k.in_place; events = in_order (events_of h) k.accepted },
  λ s. record { in_place = s.in_place; accepted = order_kept (events_of h) s.events },
)

pub sound_lawful : (h : List (List ℕ)) → Sound h ↔ Lawful h
sound_lawful h = (
  λ s. record { in_place = s.in_place; scaled = s.scaled; events = in_order (events_of h) s.accepted },
  λ l. record { in_place = l.in_place; scaled = l.scaled; accepted = order_kept (events_of h) l.events },
)
