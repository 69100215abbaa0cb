-- The rules 11 to 14: where 9 is not broken, they give the same answer to what the tables have and to what the history has. The tables have nothing of an instance that needs
-- no entry, which is terminated or was never activated: its number tells. And the state to which an event leads is the one that the history has after it.
use Rattle.std.proofs.Common.{None, Option, Some}
use mathlib.Core.Path.{◌≡◌, refl, sym, ap, subst, ◌∙◌}
use mathlib.Core.Bool.{Bool, true, false, not, ◌&&◌, ◌||◌, cond}
use mathlib.Core.List.{List, [], ◌∷◌}
use Prim.Native.Nat.{ℕ}
use lib.Dec.{eqb}
use borrow.Author.Tests.{eqb-true, not-false}
use Rattle.text.specs.Bytes.{same_bytes}
use Rattle.text.specs.Lists.{any}
use Rattle.rules.specs.Lists.{when}
use Rattle.rules.specs.Words.{runnable, semaphore}
use Rattle.rules.specs.Chart.{step_for, state_after, allowed}
use Rattle.rules.specs.Charts.{is_process, chart_of}
use Rattle.rules.specs.Event.{Event, Instance, same_instance, instance_of, words_of, state_of}
use Rattle.rules.specs.Core.{takes, on_core, core_at}
use Rattle.rules.specs.History.{has_instances, is_tracked, names, instances, kind_of, activates, numbers, last_number, first_number, above_all, reaches, needs_entry, has_entry, last_count}
use Rattle.rules.specs.Refusals.{Known, look, second_kind, off_chart, unseen, never_activated, not_allowed, is_next, not_next, serves, core_broken, count_follows, count_allowed, count_broken}
use Rattle.rules.specs.Verdict.{Accepted}
use Rattle.rules.proofs.Tests.{neither}
use Rattle.rules.proofs.CoreRuns.{unseen_none}
use Rattle.rules.proofs.Meets.{Met}
use Rattle.rules.proofs.Seen.{own_number, first_seen}
use Rattle.rules.proofs.Terminated.{later, ended_alike}
use Rattle.rules.proofs.Entries.{entry_exactly, GivenBack, given_back}
use Rattle.rules.proofs.Tracked.{target_is, source_is}
use Rattle.rules.proofs.Activations.{none_earlier, activates_instances}
use Rattle.steps.specs.Rows.{opened, leads_to, move_by}
use Rattle.steps.proofs.CoreClasses.{class_on}
use Rattle.steps.proofs.Steps.{step_taken, step_state}
use Rattle.tables.specs.Entry.{number_column, first_number_column, state_column}
use Rattle.lookup.specs.LookedUp.{above_in}
use Rattle.decide.specs.Known.{standing_in, number_in, entry_of, state_in, number_known, core_in, known_by}
use Rattle.decide.specs.Decide.{enters}
use Rattle.judge.specs.Feed.{Tables}
use Rattle.promises.specs.Places.{seek}
use Rattle.promises.specs.Shown.{Shown, the_semaphore, number_of}
use Rattle.promises.specs.Taken.{looked_up_in}
use Rattle.promises.proofs.Choices.{where_true}
use Rattle.promises.proofs.KindTests.{instances_tracked, semaphore_tracked, no_semaphore, core_tracked}
use Rattle.promises.proofs.Listed.{AllMet}
use Rattle.promises.proofs.Lookups.{looked_up_instance}
use Rattle.promises.proofs.Told.{all_worded, Only, core_told, holder_told, semaphore_told, number_told, first_told, state_told}
use Rattle.promises.proofs.Above.{above_told}
use Rattle.promises.proofs.Holders.{serves_shown}

-- ---- kinds

-- any other kind has no chart
chartless : (k : ℕ) → eqb k semaphore ≡ false → has_instances k ≡ false → chart_of k ≡ []
unfolding chart_of has_instances
chartless k q r = let p = neither (is_process k) (eqb k runnable) r in rw (p.0, p.1, q)

stateless : (ws : List ℕ) → state_after [] ws ≡ None
stateless [] = refl
stateless (w ∷ ws) = stateless ws

-- ---- what the tables have for an event, and the rows that it asks for

abbrev pub known : List Event → Tables → Event → Known
known h t e = known_by t.nums t.ticks (looked_up_in h t e) e

module _ (h : List Event) (t : Tables) (e : Event) where
  pub source_asked : on_core e ≡ true → (looked_up_in h t e).source ≡ seek (same_bytes e.source) (names h)
  unfolding looked_up_in
  source_asked o = rw (class_on e ∙ o)

  pub target_asked : is_tracked e.kind ≡ true → (looked_up_in h t e).target ≡ seek (same_bytes e.target) (names h)
  unfolding looked_up_in
  target_asked q = rw q

  instance_unasked : has_instances e.kind ≡ false → (looked_up_in h t e).instance ≡ None
  unfolding looked_up_in
  instance_unasked q = rw q

module _ (h : List Event) (a : Accepted h) (met : AllMet h) (t : Tables) (s : Shown h t) (e : Event) (f : second_kind (look h e) e ≡ false) where
  -- ---- 11

  -- the state that the tables have of the event's semaphore or instance is the history's; or they have none, since it has terminated and needs no entry
  data StateTold : Type 0 where
    told : opened (state_in t.nums (looked_up_in h t e) e.kind) ≡ state_of (instance_of e) h → StateTold
    ended : has_instances e.kind ≡ true → opened (state_in t.nums (looked_up_in h t e) e.kind) ≡ None → GivenBack h (instance_of e) → StateTold

  -- of an instance, by whether it has an entry and whether it was seen
  instance_told : has_instances e.kind ≡ true → opened (state_in t.nums (looked_up_in h t e) e.kind) ≡ cond (has_entry h (instance_of e)) (state_of (instance_of e) h) None → StateTold
  instance_told i q = by_entry (has_entry h (instance_of e)) refl q (any (same_instance (instance_of e)) (instances h)) refl
    where
      by_entry : (b : Bool) → has_entry h (instance_of e) ≡ b → opened (state_in t.nums (looked_up_in h t e) e.kind) ≡ cond b (state_of (instance_of e) h) None →
          (c : Bool) → any (same_instance (instance_of e)) (instances h) ≡ c → StateTold
      by_entry true b q c l = told q
      by_entry false b q true l = ended i q (given_back h (instance_of e) (sym (entry_exactly h (instance_of e) ∙ ap (λ (c : Bool). c && needs_entry h (instance_of e)) l) ∙ b))
      by_entry false b q false l = told (q ∙ sym (unseen_none (state_of (instance_of e) h) (first_seen h (all_worded h met) (instance_of e) i ∙ ap not l)))

  state_shown : StateTold
  unfolding state_in entry_of
  state_shown = by_kind (eqb e.kind semaphore) refl (has_instances e.kind) refl
    where
      the_semaphore_lem : eqb e.kind semaphore ≡ true → the_semaphore e.target ≡ instance_of e
      the_semaphore_lem q = rw (q, eqb-true e.kind semaphore q)

      of_kind : (b : Bool) → eqb e.kind semaphore ≡ b →
          opened (state_in t.nums (looked_up_in h t e) e.kind)
          ≡ opened (cond b (standing_in t.nums (looked_up_in h t e).target) (entry_of state_column t.nums (looked_up_in h t e).instance))
      of_kind b q = ap (λ (c : Bool). opened (cond c (standing_in t.nums (looked_up_in h t e).target) (entry_of state_column t.nums (looked_up_in h t e).instance))) q

      no_state : has_instances e.kind ≡ false → eqb e.kind semaphore ≡ false → opened (entry_of state_column t.nums (looked_up_in h t e).instance) ≡ state_of (instance_of e) h
      no_state r q = rw (instance_unasked h t e r, chartless e.kind q r) (sym (stateless (words_of (instance_of e) h)))

      by_kind : (b : Bool) → eqb e.kind semaphore ≡ b → (i : Bool) → has_instances e.kind ≡ i → StateTold
      by_kind true q i r =
          let k = semaphore_tracked e.kind q in
          told (of_kind true q
          ∙ ap (λ (x : Option ℕ). opened (standing_in t.nums x)) (target_asked h t e k)
          ∙ semaphore_told h a t s e.target (subst (Only (kind_of e.target h)) (eqb-true e.kind semaphore q) (target_is h e f k))
          ∙ ap (λ (x : Instance). state_of x h) (the_semaphore_lem q))
      by_kind false q true r = instance_told r (of_kind false q ∙ state_told h a t s (instance_of e) (looked_up_in h t e).instance (looked_up_instance h a met t s e f r))
      by_kind false q false r = told (of_kind false q ∙ no_state r q)

  pub enters_shown : Met e → off_chart (look h e) e ≡ false → opened (enters t.nums (looked_up_in h t e) e) ≡ state_of (instance_of e) (e ∷ h)
  unfolding enters off_chart move_by
  enters_shown m c = by_state state_shown
    where
      by_state : StateTold → opened (leads_to (step_for (chart_of e.kind) e.word) (state_in t.nums (looked_up_in h t e) e.kind)) ≡ state_of (instance_of e) (e ∷ h)
      by_state (told q) =
          step_state h e (state_in t.nums (looked_up_in h t e) e.kind)
          (leads_to (step_for (chart_of e.kind) e.word) (state_in t.nums (looked_up_in h t e) e.kind)) q
          (rw (q, not-false (allowed (chart_of e.kind) e.word (state_of (instance_of e) h)) c))
      by_state (ended i q g) = step_taken h e (state_in t.nums (looked_up_in h t e) e.kind) (m.worded i)

  pub first_number_shown : has_instances e.kind ≡ true → number_known first_number_column t.nums (looked_up_in h t e).target ≡ first_number e.kind e.target h
  first_number_shown i =
      let k = instances_tracked e.kind i in
      ap (number_known first_number_column t.nums) (target_asked h t e k)
      ∙ first_told h a t s e.target e.kind (target_is h e f k) (no_semaphore e.kind i)

  module _ (q : opened (state_in t.nums (looked_up_in h t e) e.kind) ≡ state_of (instance_of e) h) where
    allowed_agrees : not_allowed (known h t e) e ≡ not_allowed (look h e) e
    unfolding not_allowed off_chart never_activated known_by
    allowed_agrees =
        rw q
        (ap (λ (b : Bool). not (allowed (chart_of e.kind) e.word (state_of (instance_of e) h)) || (unseen (state_of (instance_of e) h) && b))
        (where_true (has_instances e.kind) _ _ (λ i. ap (λ (o : Option ℕ). not (activates e.kind e.word) && reaches o e.target_instance) (first_number_shown i))))

  -- ---- 12 and 14

  number_shown : is_tracked e.kind ≡ true → number_known number_column t.nums (looked_up_in h t e).target ≡ number_of h e.target e.kind
  number_shown k = ap (number_known number_column t.nums) (target_asked h t e k) ∙ number_told h a t s e.target e.kind (target_is h e f k)

  -- the number that the next activation has to bear; where there was none before, all that were seen have rows
  pub next_agrees : has_instances e.kind ≡ true →
      is_next (number_known number_column t.nums (looked_up_in h t e).target) (above_in t.nums (looked_up_in h t e).target e.target_instance) e.target_instance
      ≡ is_next (last_number e.kind e.target h) (above_all e.kind e.target e.target_instance h) e.target_instance
  unfolding first_number last_number
  next_agrees i =
      let k = instances_tracked e.kind i in
      let r = number_shown k in
      let l : number_known number_column t.nums (looked_up_in h t e).target ≡ last_number e.kind e.target h = rw (no_semaphore e.kind i) at r in
      rw l (by_last (last_number e.kind e.target h) refl)
    where
      by_last : (o : Option ℕ) → last_number e.kind e.target h ≡ o →
          is_next o (above_in t.nums (looked_up_in h t e).target e.target_instance) e.target_instance ≡ is_next o (above_all e.kind e.target e.target_instance h) e.target_instance
      by_last (Some m) l = refl
      by_last None l =
          let k = instances_tracked e.kind i in
          let first = none_earlier (λ d. when (numbers e.kind e.target d) d.target_instance) h l in
          rw (target_asked h t e k) (above_told h a t s e.kind e.target e.target_instance first (target_is h e f k))

  number_agrees : not_next (known h t e) e ≡ not_next (look h e) e
  unfolding not_next known_by
  number_agrees =
      where_true (activates e.kind e.word) _ _ (λ q. ap not (next_agrees (activates_instances e.kind e.word q)))

  count_agrees : count_broken (known h t e) e ≡ count_broken (look h e) e
  unfolding count_broken known_by
  count_agrees = by_test (eqb e.kind semaphore) refl
    where
      by_test : (b : Bool) → eqb e.kind semaphore ≡ b →
          b && not (count_follows (number_known number_column t.nums (looked_up_in h t e).target) e.word e.count && count_allowed e.word e.count)
          ≡ b && not (count_follows (last_count e.target h) e.word e.count && count_allowed e.word e.count)
      by_test true q =
          let r = number_shown (semaphore_tracked e.kind q) in
          ap (λ (o : Option ℕ). not (count_follows o e.word e.count && count_allowed e.word e.count)) (rw q at r)
      by_test false q = refl

  -- ---- 13

  core_agrees : opened (state_in t.nums (looked_up_in h t e) e.kind) ≡ state_of (instance_of e) h → core_broken (known h t e) e ≡ core_broken (look h e) e
  unfolding core_broken known_by
  core_agrees q = by_test (on_core e) refl
    where
      x : Instance
      x = instance_of e

      by_test : (b : Bool) → on_core e ≡ b →
          let held = core_in (standing_in t.nums (looked_up_in h t e).source) (number_in t.nums (looked_up_in h t e).source) (looked_up_in h t e).target x in
          b && not (serves held (takes e.word) (unseen (opened (state_in t.nums (looked_up_in h t e) e.kind))) x)
          ≡ b && not (serves (core_at e.source h) (takes e.word) (unseen (state_of x h)) x)
      by_test true o =
          let k = core_tracked e o in
          rw (q, source_asked h t e o, core_told h a t s e.source (source_is h e f o), target_asked h t e k)
          (ap not (serves_shown h a x (target_is h e f k) e.source _ (holder_told h a t s e.source) (takes e.word) (unseen (state_of x h))))
      by_test false o = refl

  -- ---- all four: of an instance that has terminated and has no row, what is no activation is 11 either way, and an activation is on no core

  pub later_agrees : Met e → later (known h t e) e ≡ later (look h e) e
  unfolding known_by
  later_agrees m = by_state state_shown
    where
      by_state : StateTold → later (known h t e) e ≡ later (look h e) e
      by_state (told q) = rw (allowed_agrees q, number_agrees, core_agrees q, count_agrees)
      by_state (ended i q g) =
          ended_alike (known h t e) (look h e) e i (m.worded i) q g.terminated
          (ap (λ (o : Option ℕ). reaches o e.target_instance) (first_number_shown i)
          ∙ ap (reaches (first_number e.kind e.target h)) (sym (own_number e i))
          ∙ g.reached)
          number_agrees count_agrees
