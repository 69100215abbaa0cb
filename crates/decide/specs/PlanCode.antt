-- For the code alone: how it tests each refusal in the tables, and what it decides test after test. What is to be believed is `plan_by` (Decide), by the rules'
-- own answer at what is known; the theorems `tests_plan_lem` and `tests_decide` (proofs/Plans) say that the two are the same.
use Rattle.std.specs.Prelude.{Bool, not, ◌&&◌, ◌||◌, cond, List, [], ◌∷◌, ℕ, ◌+◌, eqb, leb, ltb, None, Some, Option, is_none, Err, Ok}
use Rattle.text.specs.Bytes.{same_bytes}
use Rattle.text.specs.Sizes.{name_limit, core_limit}
use Rattle.rules.specs.Words.{core, semaphore, increment, decrement, lock_used, full, overfull, unlock_full, used}
use Rattle.rules.specs.Lists.{member}
use Rattle.rules.specs.Charts.{chart_of}
use Rattle.rules.specs.Event.{Event}
use Rattle.rules.specs.Limits.{instance_limit}
use Rattle.rules.specs.Core.{no_core, takes_core}
use Rattle.rules.specs.History.{has_instances, is_tracked, activates}
use Rattle.rules.specs.Refusals.{exceeds_limit, count_allowed}
use Rattle.steps.specs.Rows.{move_by}
use Rattle.tables.specs.Entry.{started_entry, last_time, name_count, core_count, instance_count, idle_core}
use Rattle.lookup.specs.declared.look.LookedUp.{LookedUp}
use Rattle.lookup.specs.LookedUp.{new_core, new_name, above_in}
use Rattle.decide.specs.Known.{kind_in, standing_in, number_in, numbered_in, first_number_in, state_in, is_holder}
use Rattle.decide.specs.Decide.{Plan}

-- ---- each refusal

unfoldable pub time_falls_in : List ℕ → List ℕ → ℕ → Bool
time_falls_in nums ticks time = not (eqb (started_entry nums) 0) && ltb time (last_time ticks)

unfoldable pub kind_clash : ℕ → ℕ → Bool
kind_clash j k = not (eqb j 0) && not (eqb j k)

unfoldable pub source_clash_in : List ℕ → LookedUp → List ℕ → List ℕ → Bool
source_clash_in nums s source target = not (eqb s.class no_core) && (kind_clash (kind_in nums s.source) core || same_bytes source target)

unfoldable pub target_clash_in : List ℕ → LookedUp → ℕ → Bool
target_clash_in nums s k = is_tracked k && kind_clash (kind_in nums s.target) k

-- a number at the first number of the name in a row or above it, and one that its next activation has to bear
unfoldable pub reaches_first : List ℕ → Option ℕ → ℕ → Bool
reaches_first nums f n = not (eqb (numbered_in nums f) 0) && leb (first_number_in nums f) n

unfoldable pub is_next_in : List ℕ → Option ℕ → ℕ → Bool
is_next_in nums f n = cond (eqb (numbered_in nums f) 0) (above_in nums f n) (eqb n (number_in nums f + 1))

unfoldable pub needs_one_in : List ℕ → LookedUp → ℕ → ℕ → ℕ → Bool
needs_one_in nums s k a n =
    has_instances k && (is_none s.instance
    && (not (exceeds_limit k a) && (not (reaches_first nums s.target n) || (activates k a && is_next_in nums s.target n))))

unfoldable pub no_room_in : List ℕ → LookedUp → ℕ → ℕ → ℕ → Bool
no_room_in nums s k a n =
    ltb name_limit (name_count nums + new_core s + new_name s k)
    || (ltb core_limit (core_count nums + new_core s) || (leb instance_limit (instance_count nums) && needs_one_in nums s k a n))

unfoldable pub never_activated_in : List ℕ → LookedUp → ℕ → ℕ → ℕ → Bool
never_activated_in nums s k a n =
    eqb (state_in nums s k) 0
    && (has_instances k && (not (activates k a) && reaches_first nums s.target n))

unfoldable pub not_next_in : List ℕ → LookedUp → ℕ → ℕ → ℕ → Bool
not_next_in nums s k a n = activates k a && not (is_next_in nums s.target n)

-- whether a core serves an event of a class: `holder`, the event's instance holds it, and `first`, that instance is seen for the first time
unfoldable pub core_serves : ℕ → ℕ → Bool → Bool → Bool
core_serves class standing holder first = cond (eqb class takes_core) (leb standing idle_core) (cond (eqb standing 0) first holder)

unfoldable pub core_broken_in : List ℕ → LookedUp → ℕ → ℕ → Bool
core_broken_in nums s k n =
    let standing = standing_in nums s.source in
    not (eqb s.class no_core)
    && not (core_serves s.class standing (is_holder standing (number_in nums s.source) s.target n) (eqb (state_in nums s k) 0))

unfoldable pub count_follows_in : ℕ → ℕ → ℕ → Bool
count_follows_in c a n = cond (eqb a increment) (eqb n (c + 1)) (cond (eqb a decrement) (eqb (n + 1) c) (eqb n c))

unfoldable pub least_count : ℕ → ℕ
least_count a = cond (member a (increment ∷ used ∷ unlock_full ∷ lock_used ∷ full ∷ [])) 1 (cond (eqb a overfull) 2 0)

unfoldable pub count_broken_in : List ℕ → LookedUp → ℕ → ℕ → ℕ → Bool
count_broken_in nums s k a n =
    eqb k semaphore
    && (not (count_allowed a n) || (not (eqb (numbered_in nums s.target) 0) && not (count_follows_in (number_in nums s.target) a n)))

-- ---- test after test

abbrev pub move_plan : Option ℕ → List ℕ → LookedUp → ℕ → ℕ → ℕ → ℕ → Plan
move_plan None nums s k a n c = Err 11
move_plan (Some t) nums s k a n c =
    cond (never_activated_in nums s k a n) (Err 11)
    (cond (not_next_in nums s k a n) (Err 12) (cond (core_broken_in nums s k n) (Err 13) (cond (count_broken_in nums s k a c) (Err 14) (Ok (s, t)))))

unfoldable pub steps_plan : List ℕ → LookedUp → ℕ → ℕ → ℕ → ℕ → Plan
steps_plan nums s k a n c = move_plan (move_by (chart_of k) a (state_in nums s k)) nums s k a n c

unfoldable pub tests_plan : List ℕ → List ℕ → LookedUp → Event → Plan
tests_plan nums ticks s e =
    cond (time_falls_in nums ticks e.time) (Err 8)
    (cond (source_clash_in nums s e.source e.target) (Err 9)
    (cond (target_clash_in nums s e.kind) (Err 9)
    (cond (no_room_in nums s e.kind e.word e.target_instance) (Err 10) (steps_plan nums s e.kind e.word e.target_instance e.count))))
