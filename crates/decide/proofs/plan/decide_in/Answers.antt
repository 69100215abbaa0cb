-- `decide::plan::decide_in` meets its contract: the tests in the order of their numbers, each by its own function, are the plan.
use Rattle.std.proofs.Common.{◌≡◌, ℕ, List, ap, ◌∙◌}
use Rattle.line.specs.declared.event.Event.{Event as ReadEvent}
use Rattle.words.specs.Action.{action_code}
use Rattle.rules.specs.Event.{Event}
use Rattle.rules.specs.Lines.{kind_number, event_from}
use Rattle.lookup.specs.declared.look.LookedUp.{LookedUp}
use Rattle.lookup.specs.LookedUp.{looked_up_for, looked_up}
use Rattle.decide.specs.Decide.{Plan, plan_of}
use Rattle.decide.specs.PlanCode.{tests_plan}
use Rattle.decide.proofs.Plans.{tests_decide}
use Rattle.decide.proofs.plan.decide_in.Goals as goal

-- with the numbers of its type and word, what is looked up decides
by_tests : (names nums ticks : List ℕ) (s : LookedUp) (e : ReadEvent) (source target : List ℕ) (count kind word : ℕ) (p : Plan) → kind ≡ kind_number e.kind → word ≡ action_code e.action → s ≡ looked_up_for names nums kind word e.target_instance source target
    → p ≡ tests_plan nums ticks s (record { time = e.time; source = source; source_instance = e.source_instance; kind = kind; target = target; target_instance = e.target_instance; word = word; count = count })
    → p ≡ plan_of names nums ticks (event_from e source target count)
unfolding looked_up
by_tests names nums ticks s e source target count kind word p k w l h =
    let event : ℕ → ℕ → Event = λ x y. record {
      time = e.time;
      source = source;
      source_instance = e.source_instance;
      kind = x;
      target = target;
      target_instance = e.target_instance;
      word = y;
      count = count;
    } in
    h ∙ tests_decide names nums ticks s (event kind word) l ∙ ap (plan_of names nums ticks) (λ i. event (k i) (w i))

pub returns-then-time_falls : goal.returns-then-time_falls
unfolding tests_plan
returns-then-time_falls c =
    by_tests _ _ _ _ c.args.e _ _ _ _ _ _ c.kind_number-kind.ensures c.action_code-word.ensures c.look-s.ensures
    (rw (← c.time_falls.ensures, c.if-time_falls.true))

pub returns-then-source_clash : goal.returns-then-source_clash
unfolding tests_plan
returns-then-source_clash c =
    by_tests _ _ _ _ c.args.e _ _ _ _ _ _ c.kind_number-kind.ensures c.action_code-word.ensures c.look-s.ensures
    (rw (← c.time_falls.ensures, c.if-time_falls.false, ← c.source_clash.ensures, c.if-source_clash.true))

pub returns-then-target_clash : goal.returns-then-target_clash
unfolding tests_plan
returns-then-target_clash c =
    by_tests _ _ _ _ c.args.e _ _ _ _ _ _ c.kind_number-kind.ensures c.action_code-word.ensures c.look-s.ensures
    (rw (← c.time_falls.ensures, c.if-time_falls.false, ← c.source_clash.ensures, c.if-source_clash.false, ← c.target_clash.ensures, c.if-target_clash.true))

pub returns-then-no_room : goal.returns-then-no_room
unfolding tests_plan
returns-then-no_room c =
    by_tests _ _ _ _ c.args.e _ _ _ _ _ _ c.kind_number-kind.ensures c.action_code-word.ensures c.look-s.ensures
    (rw (← c.time_falls.ensures, c.if-time_falls.false, ← c.source_clash.ensures, c.if-source_clash.false, ← c.target_clash.ensures, c.if-target_clash.false, ← c.no_room.ensures, c.if-no_room.true))

pub returns : goal.returns
unfolding tests_plan
returns c =
    by_tests _ _ _ _ c.args.e _ _ _ _ _ _ c.kind_number-kind.ensures c.action_code-word.ensures c.look-s.ensures
    (rw (← c.time_falls.ensures, c.if-time_falls.false, ← c.source_clash.ensures, c.if-source_clash.false, ← c.target_clash.ensures, c.if-target_clash.false, ← c.no_room.ensures, c.if-no_room.false, ← c.decide_steps.ensures))
