-- What the code decides test after test is what the rules answer at what the tables say.
use Rattle.std.proofs.Common.{None, Some, Option, Err, Ok}
use mathlib.Core.Path.{◌≡◌, refl, sym, ap, ◌∙◌}
use mathlib.Core.Bool.{Bool, true, false, not, ◌&&◌, ◌||◌, cond}
use mathlib.Core.List.{List}
use Prim.Native.Nat.{ℕ, zero, suc, ◌+◌}
use native.Mathlib.Omega.{arith}
use lib.Dec.{eqb, leb, ltb, eqb-suc-zero}
use borrow.Author.Tests.{ne_eqb, lt-leb}
use Rattle.rules.specs.Lists.{if_zero}
use Rattle.rules.specs.Chart.{step_for, allowed}
use Rattle.rules.specs.Charts.{chart_of}
use Rattle.rules.specs.Words.{core, semaphore}
use Rattle.rules.specs.Core.{held, takes, on_core, no_core, takes_core, core_class}
use Rattle.rules.specs.History.{has_instances, reaches}
use Rattle.rules.specs.Event.{Event, Instance, same_instance, instance_of}
use Rattle.rules.specs.Refusals.{
  Known,
  less,
  differs,
  unseen,
  serves,
  time_falls,
  source_clash,
  target_clash,
  second_kind,
  is_next_activation,
  needs_one,
  no_room,
  off_chart,
  never_activated,
  not_allowed,
  is_next,
  not_next,
  core_broken,
  count_follows,
  count_allowed,
  count_broken,
  event_tests,
  answer_to,
}
use Rattle.rules.proofs.Tests.{instance_refl}
use Rattle.rules.proofs.CoreWords.{on_process}
use Rattle.rules.proofs.Seen.{own_number}
use Rattle.steps.specs.Rows.{opened, leads_to, move_if, move_by}
use Rattle.steps.proofs.CoreClasses.{class_on, class_takes}
use Rattle.tables.specs.Entry.{idle_core, held_by, started_entry, last_time}
use Rattle.lookup.specs.declared.look.LookedUp.{LookedUp}
use Rattle.lookup.specs.LookedUp.{looked_up, above_in}
use Rattle.decide.specs.Known.{kind_in, standing_in, number_in, numbered_in, first_number_in, state_in, another, is_holder, core_in, known_by}
use Rattle.decide.specs.Decide.{Plan, enters, plan_by, plan_of}
use Rattle.decide.specs.PlanCode.{
  time_falls_in,
  kind_clash,
  source_clash_in,
  target_clash_in,
  reaches_first,
  is_next_in,
  needs_one_in,
  no_room_in,
  never_activated_in,
  not_next_in,
  core_serves,
  core_broken_in,
  count_follows_in,
  count_broken_in,
  move_plan,
  steps_plan,
  tests_plan,
}

-- ---- entries that are 0 for none

clash_opened : (j k : ℕ) → kind_clash j k ≡ differs (opened j) k
unfolding kind_clash
clash_opened zero k = refl
clash_opened (suc j) k = rw (eqb-suc-zero j)

unseen_opened : (n : ℕ) → eqb n 0 ≡ unseen (opened n)
unseen_opened zero = refl
unseen_opened (suc n) = eqb-suc-zero n

-- ---- the core rule: any core's state, and any class that takes it or not

-- an event on a core is a process's
pub on_instances : (e : Event) → on_core e ≡ true → has_instances e.kind ≡ true
unfolding has_instances
on_instances e o = rw (on_process e o)

pub another_differs : (x : Instance) → same_instance (another x) x ≡ false
another_differs x = rw (ne_eqb (suc x.kind) x.kind (λ q. omega arith))

idle_unheld : (number : ℕ) (f : Option ℕ) (n : ℕ) → is_holder 1 number f n ≡ false
idle_unheld number None n = refl
idle_unheld number (Some p) n = rw (ne_eqb idle_core (held_by p) (λ q. omega arith))

module _ (class number : ℕ) (f : Option ℕ) (x : Instance) (first : Bool) where
  serves_in : (t : Bool) → eqb class takes_core ≡ t → (standing : ℕ) →
      core_serves class standing (is_holder standing number f x.number) first ≡ serves (core_in standing number f x) t first x
  unfolding core_serves core_in
  serves_in true q zero = rw q
  serves_in false q zero = rw q
  serves_in true q (suc zero) = rw q
  serves_in false q (suc zero) = rw (q, idle_unheld number f x.number)
  serves_in t q (suc (suc m)) =
      rw (q, eqb-suc-zero (suc m), ne_eqb (suc (suc m)) 1 (λ e. omega arith), lt-leb (suc (suc m)) 1 (omega arith))
      (by_row t (is_holder (suc (suc m)) number f x.number))
    where
      by_row : (t b : Bool) → cond t false b ≡ serves (cond b (held x) (held (another x))) t first x
      by_row true true = refl
      by_row true false = refl
      by_row false true = sym (instance_refl x)
      by_row false false = sym (another_differs x)

-- ---- each rule

module _ (nums ticks : List ℕ) (s : LookedUp) (e : Event) where
  time_in : time_falls_in nums ticks e.time ≡ time_falls (known_by nums ticks s e) e
  unfolding time_falls_in time_falls known_by
  time_in = by_test (eqb (started_entry nums) 0)
    where
      by_test : (b : Bool) → not b && ltb e.time (last_time ticks) ≡ less e.time (cond b None (Some (last_time ticks)))
      by_test true = refl
      by_test false = refl

  target_in : target_clash_in nums s e.kind ≡ target_clash (known_by nums ticks s e) e
  unfolding target_clash_in target_clash known_by
  target_in = rw (clash_opened (kind_in nums s.target) e.kind)

  first_in : reaches_first nums s.target e.target_instance ≡ reaches (known_by nums ticks s e).first e.target_instance
  unfolding reaches_first known_by
  first_in = by_test (eqb (numbered_in nums s.target) 0)
    where
      by_test : (b : Bool) →
          not b && leb (first_number_in nums s.target) e.target_instance ≡ reaches (cond b None (Some (first_number_in nums s.target))) e.target_instance
      by_test true = refl
      by_test false = refl

  next_in : is_next_in nums s.target e.target_instance
      ≡ is_next (known_by nums ticks s e).number (known_by nums ticks s e).above e.target_instance
  unfolding is_next_in known_by
  next_in = by_test (eqb (numbered_in nums s.target) 0)
    where
      above : Bool
      above = above_in nums s.target e.target_instance

      by_test : (b : Bool) →
          cond b above (eqb e.target_instance (number_in nums s.target + 1))
          ≡ is_next (cond b None (Some (number_in nums s.target))) above e.target_instance
      by_test true = refl
      by_test false = refl

  room_in : no_room_in nums s e.kind e.word e.target_instance ≡ no_room (known_by nums ticks s e) e
  unfolding no_room_in needs_one_in no_room needs_one is_next_activation known_by
  room_in = rw (first_in, next_in)

  activated_in : never_activated_in nums s e.kind e.word e.target_instance ≡ never_activated (known_by nums ticks s e) e
  unfolding never_activated_in never_activated known_by
  activated_in = rw (unseen_opened (state_in nums s e.kind), first_in)

  number_in_lem : not_next_in nums s e.kind e.word e.target_instance ≡ not_next (known_by nums ticks s e) e
  unfolding not_next_in not_next known_by
  number_in_lem = rw next_in

  count_in : count_broken_in nums s e.kind e.word e.count ≡ count_broken (known_by nums ticks s e) e
  unfolding count_broken_in count_broken count_follows_in count_follows known_by
  count_in =
      ap (λ (b : Bool). eqb e.kind semaphore && b)
      (by_test (eqb (numbered_in nums s.target) 0) (count_allowed e.word e.count) (count_follows_in (number_in nums s.target) e.word e.count) refl)
    where
      by_test : (z f g : Bool) → count_follows_in (number_in nums s.target) e.word e.count ≡ g →
          not f || (not z && not g) ≡ not (count_follows (cond z None (Some (number_in nums s.target))) e.word e.count && f)
      by_test true true g q = refl
      by_test true false g q = refl
      by_test false true true q = rw q
      by_test false true false q = rw q
      by_test false false true q = rw q
      by_test false false false q = rw q

  module _ (c : s.class ≡ core_class e.kind e.word) where
    on_in : not (eqb s.class no_core) ≡ on_core e
    on_in = rw c (class_on e)

    source_in : source_clash_in nums s e.source e.target ≡ source_clash (known_by nums ticks s e) e
    unfolding source_clash_in source_clash known_by
    source_in = rw (on_in, clash_opened (kind_in nums s.source) core)

    core_in_lem : core_broken_in nums s e.kind e.target_instance ≡ core_broken (known_by nums ticks s e) e
    unfolding core_broken_in core_broken known_by
    core_in_lem = rw on_in (by_test (on_core e) refl)
      where
        standing : ℕ
        standing = standing_in nums s.source

        state : ℕ
        state = state_in nums s e.kind

        number : ℕ
        number = number_in nums s.source

        by_test : (b : Bool) → on_core e ≡ b →
            b && not (core_serves s.class standing (is_holder standing number s.target e.target_instance) (eqb state 0))
            ≡ b && not (serves (core_in standing number s.target (instance_of e)) (takes e.word) (unseen (opened state)) (instance_of e))
        by_test true o =
            ap not
            (ap (λ (n : ℕ). core_serves s.class standing (is_holder standing number s.target n) (eqb state 0)) (sym (own_number e (on_instances e o)))
            ∙ serves_in s.class number s.target (instance_of e) (eqb state 0) (takes e.word) (rw c (class_takes e o)) standing
            ∙ ap (λ (b : Bool). serves (core_in standing number s.target (instance_of e)) (takes e.word) b (instance_of e)) (unseen_opened state))
        by_test false o = refl

-- ---- the answer as a plan

module _ (s : LookedUp) (t : ℕ) where
  abbrev plan_for : ℕ → Plan
  plan_for n = if_zero n (Ok (s, t)) (Err n)

  -- a test in front of a plan is its number in front of the answer
  tested : (b : Bool) (n a : ℕ) (p : Plan) → p ≡ plan_for a → cond b (Err (suc n)) p ≡ plan_for (cond b (suc n) a)
  tested true n a p q = refl
  tested false n a p q = q

  tested_two : (b d : Bool) (n a : ℕ) (p : Plan) → p ≡ plan_for a → cond b (Err (suc n)) (cond d (Err (suc n)) p) ≡ plan_for (cond (b || d) (suc n) a)
  tested_two true d n a p q = refl
  tested_two false d n a p q = tested d n a p q

module _ (nums ticks : List ℕ) (s : LookedUp) (e : Event) (c : s.class ≡ core_class e.kind e.word) where
  abbrev known : Known
  known = known_by nums ticks s e

  steps : steps_plan nums s e.kind e.word e.target_instance e.count
      ≡ plan_for s (enters nums s e) (cond (not_allowed known e) 11 (cond (not_next known e) 12 (cond (core_broken known e) 13 (cond (count_broken known e) 14 0))))
  unfolding steps_plan move_by enters not_allowed off_chart known_by
  steps = by_test (allowed (chart_of e.kind) e.word (opened (state_in nums s e.kind)))
    where
      t : ℕ
      t = leads_to (step_for (chart_of e.kind) e.word) (state_in nums s e.kind)

      by_test : (b : Bool) → move_plan (move_if b t) nums s e.kind e.word e.target_instance e.count
          ≡ plan_for s t (cond (not b || never_activated known e) 11 (cond (not_next known e) 12 (cond (core_broken known e) 13 (cond (count_broken known e) 14 0))))
      by_test true =
          rw (activated_in nums ticks s e, number_in_lem nums ticks s e, core_in_lem nums ticks s e c, count_in nums ticks s e)
          (tested s t (never_activated known e) 10 _ _
          (tested s t (not_next known e) 11 _ _ (tested s t (core_broken known e) 12 _ _ (tested s t (count_broken known e) 13 0 _ refl))))
      by_test false = refl

  pub tests_plan_lem : tests_plan nums ticks s e ≡ plan_by nums ticks s e
  unfolding tests_plan plan_by answer_to event_tests second_kind
  tests_plan_lem =
      let t = enters nums s e in
      rw (time_in nums ticks s e, source_in nums ticks s e c, target_in nums ticks s e, room_in nums ticks s e)
      (tested s t (time_falls known e) 7 _ _ (tested_two s t (source_clash known e) (target_clash known e) 8 _ _ (tested s t (no_room known e) 9 _ _ steps)))

-- the code's tests on what is looked up are the plan
pub tests_decide : (names nums ticks : List ℕ) (s : LookedUp) (e : Event) → s ≡ looked_up names nums e → tests_plan nums ticks s e ≡ plan_of names nums ticks e
unfolding plan_of looked_up
tests_decide names nums ticks s e q = tests_plan_lem nums ticks s e (ap (λ (x : LookedUp). x.class) q) ∙ ap (λ (x : LookedUp). plan_by nums ticks x e) q
