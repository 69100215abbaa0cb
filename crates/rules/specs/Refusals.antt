-- The refusals 8 to 14: what is looked up for an event line, one definition for each number, and the answer.
use Rattle.std.specs.Prelude.{Bool, true, false, not, ◌&&◌, ◌||◌, cond, List, [], ◌∷◌, ℕ, ◌+◌, eqb, ltb, leb, length, Option, None, Some}
use Rattle.text.specs.Bytes.{same_bytes}
use Rattle.text.specs.Sizes.{name_limit, core_limit}
use Rattle.line.specs.Answer.{Test, test, lowest}
use Rattle.rules.specs.Lists.{member}
use Rattle.rules.specs.Chart.{allowed}
use Rattle.rules.specs.Charts.{is_process, chart_of}
use Rattle.rules.specs.Words.{core, semaphore, mtalimitexceeded, increment, decrement, free, unlock, lock, lock_used, full, overfull, unlock_full, used}
use Rattle.rules.specs.Limits.{instance_limit}
use Rattle.rules.specs.Event.{Event, Instance, same_instance, instance_of, state_of}
use Rattle.rules.specs.Core.{Core, unknown, idle, held, takes, on_core, core_at}
use Rattle.rules.specs.History.{has_instances, is_tracked, activates, kind_of, names, cores, last_time, last_number, first_number, above_all, reaches, entries, has_entry, last_count}

-- ---- what is known when an event line comes

pub record Known : Type 0 where
  pub time : Option ℕ  -- of the event line before
  pub source_kind : Option ℕ  -- as what the line's source and its target are tracked
  pub target_kind : Option ℕ
  pub names : ℕ  -- how many names and cores there are with this line
  pub cores : ℕ
  pub entries : ℕ  -- how many instances need an entry, and whether the line's own does
  pub entry : Bool
  pub state : Option ℕ  -- of the line's instance or semaphore
  pub number : Option ℕ  -- of the last activation of its process, or start of its runnable
  pub first : Option ℕ  -- and of the first
  pub above : Bool  -- whether the line's own number is above all seen of that process or runnable
  pub core : Core  -- what the line's source is as a core
  pub count : Option ℕ  -- of its semaphore

abbrev pub look : List Event → Event → Known
look h e = record {
  time = last_time h;
  source_kind = kind_of e.source h;
  target_kind = kind_of e.target h;
  names = length (names (e ∷ h));
  cores = length (cores (e ∷ h));
  entries = length (entries h);
  entry = has_entry h (instance_of e);
  state = state_of (instance_of e) h;
  number = last_number e.kind e.target h;
  first = first_number e.kind e.target h;
  above = above_all e.kind e.target e.target_instance h;
  core = core_at e.source h;
  count = last_count e.target h;
}

-- ---- 8: "time less than the event line before"

abbrev pub less : ℕ → Option ℕ → Bool
less t None = false
less t (Some s) = ltb t s

unfoldable pub time_falls : Known → Event → Bool
time_falls k e = less e.time k.time

-- ---- 9: "a tracked name in a second of the five kinds (core, T, I, R, SEM), source and target of one core line included"

abbrev pub differs : Option ℕ → ℕ → Bool
differs None k = false
differs (Some j) k = not (eqb j k)

unfoldable pub source_clash : Known → Event → Bool
source_clash k e = on_core e && (differs k.source_kind core || same_bytes e.source e.target)

unfoldable pub target_clash : Known → Event → Bool
target_clash k e = is_tracked e.kind && differs k.target_kind e.kind

unfoldable pub second_kind : Known → Event → Bool
second_kind k e = source_clash k e || target_clash k e

-- ---- the number that an activation has to bear
-- "a second or later activate or mtalimitexceeded of one process, or start of one runnable, bears the number of the one before plus 1." And "The first activate or
-- mtalimitexceeded must bear a number above all seen of that process, else 12." (02, No. 5)

abbrev pub is_next : Option ℕ → Bool → ℕ → Bool
is_next None above i = above
is_next (Some m) above i = eqb i (m + 1)

unfoldable pub is_next_activation : Known → Event → Bool
is_next_activation k e = activates e.kind e.word && is_next k.number k.above e.target_instance

-- ---- 10: "the names or instances that the line adds don't fit"

-- "mtalimitexceeded", of a process
unfoldable pub exceeds_limit : ℕ → ℕ → Bool
exceeds_limit k a = is_process k && eqb a mtalimitexceeded

-- "absent means terminated or never activated, so a non-activating event of it is 11, an activating one other than the next 12. Neither needs room, nor does
-- mtalimitexceeded." (02, No. 7) So a line needs one more entry if its instance has none, its word is not mtalimitexceeded, and its process or runnable has no first
-- number, or the instance is below it, or the line is the next activation.
unfoldable pub needs_one : Known → Event → Bool
needs_one k e =
    has_instances e.kind && (not k.entry
    && (not (exceeds_limit e.kind e.word) && (not (reaches k.first e.target_instance) || is_next_activation k e)))

-- "Refusal 10 for instances is then given exactly when 1,024 entries are living or older than their entity's first activation (all are, while it has none) and
-- one more is needed."
unfoldable pub no_room : Known → Event → Bool
no_room k e = ltb name_limit k.names || (ltb core_limit k.cores || (leb instance_limit k.entries && needs_one k e))

-- ---- 11: "chart step not allowed"

unfoldable pub off_chart : Known → Event → Bool
off_chart k e = not (allowed (chart_of e.kind) e.word k.state)

-- Every T, I and R event is a step of its chart, so an instance has a state once it was seen.
abbrev pub unseen : Option ℕ → Bool
unseen None = true
unseen (Some s) = false

-- "Once a process has had an activate or mtalimitexceeded numbered f, a non-activating first event of an instance numbered f or more is 11. .. Runnables the
-- same, with start." (02, No. 5)
unfoldable pub never_activated : Known → Event → Bool
never_activated k e = unseen k.state && (has_instances e.kind && (not (activates e.kind e.word) && reaches k.first e.target_instance))

unfoldable pub not_allowed : Known → Event → Bool
not_allowed k e = off_chart k e || never_activated k e

-- ---- 12: "instance number not the next"

unfoldable pub not_next : Known → Event → Bool
not_next k e = activates e.kind e.word && not (is_next k.number k.above e.target_instance)

-- ---- 13: "core rule broken"
-- "start, resume and poll_parking need it unknown or idle"; the other six "need it held by this instance", and "for these six, an unknown core also
-- serves if the instance is seen for the first time".

abbrev pub serves : Core → Bool → Bool → Instance → Bool
serves unknown taking new x = taking || new
serves idle taking new x = taking
serves (held y) taking new x = not taking && same_instance y x

unfoldable pub core_broken : Known → Event → Bool
core_broken k e = on_core e && not (serves k.core (takes e.word) (unseen k.state) (instance_of e))

-- ---- 14: "semaphore count or fixed count broken"

-- "requestsemaphore, queued, assigned, waiting, released and all state events bear c, increment c + 1, decrement c − 1.
-- The first SEM line of a semaphore may bear any count."
unfoldable pub count_follows : Option ℕ → ℕ → ℕ → Bool
count_follows None a n = true
count_follows (Some c) a n = cond (eqb a increment) (eqb n (c + 1)) (cond (eqb a decrement) (eqb (n + 1) c) (eqb n c))

-- "Always: increment at least 1; free and unlock 0; lock 1; used, unlock_full, lock_used and full at least 1; overfull at least 2."
unfoldable pub count_allowed : ℕ → ℕ → Bool
count_allowed a n =
    cond (eqb a increment) (leb 1 n)
    (cond (member a (free ∷ unlock ∷ [])) (eqb n 0)
    (cond (eqb a lock) (eqb n 1)
    (cond (member a (used ∷ unlock_full ∷ lock_used ∷ full ∷ [])) (leb 1 n)
    (cond (eqb a overfull) (leb 2 n) true))))

unfoldable pub count_broken : Known → Event → Bool
count_broken k e = eqb e.kind semaphore && not (count_follows k.count e.word e.count && count_allowed e.word e.count)

-- ---- the answer: "The lowest number that applies wins", 0 where none does

-- where `full` is what 10 says
abbrev pub tests_with : Bool → Known → Event → List Test
tests_with full k e =
    test 8 (time_falls k e)
    ∷ test 9 (second_kind k e)
    ∷ test 10 full
    ∷ test 11 (not_allowed k e)
    ∷ test 12 (not_next k e)
    ∷ test 13 (core_broken k e)
    ∷ test 14 (count_broken k e)
    ∷ []

unfoldable pub event_tests : Known → Event → List Test
event_tests k e = tests_with (no_room k e) k e

unfoldable pub answer_to : Known → Event → ℕ
answer_to k e = lowest (event_tests k e)
