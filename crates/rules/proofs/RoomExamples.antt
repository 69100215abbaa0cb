-- Document 02, No. 7, at 1,023 and 1,024 entries: an example on each side of each reading. The laws of `ManyInstances` say how many entries there are, and the rest is computed.
use mathlib.Core.Path.{◌≡◌, refl}
use mathlib.Core.List.{List, [], ◌∷◌}
use Prim.Native.Nat.{ℕ}
use native.Mathlib.Omega.{arith}
use Rattle.text.specs.Literal.{bytes}
use Rattle.text.specs.Bytes.{same_bytes}
use Rattle.rules.specs.Words.{task, activate, start, resume, release, terminate, mtalimitexceeded}
use Rattle.rules.specs.Charts.{chart_of, process_chart, runnable_chart, semaphore_chart, is_process}
use Rattle.rules.specs.Event.{Event}
use Rattle.rules.specs.Core.{takes, gives, keeps, on_core}
use Rattle.rules.specs.History.{has_instances, is_tracked, named, kind_in, activates, numbers, last_number, first_number, is_from, needs_entry, last_count, names, instances}
use Rattle.rules.specs.Refusals.{time_falls, second_kind, source_clash, target_clash, is_next_activation, exceeds_limit, needs_one, no_room, off_chart, never_activated, not_allowed, not_next, core_broken, count_follows, count_allowed, count_broken, event_tests, answer_to}
use Rattle.rules.specs.Verdict.{answer}
use Rattle.rules.proofs.ManyNames.{line}
use Rattle.rules.proofs.ManyInstances.{of_runnable, filled, Strange, unstarted, another, ended, new_after_end, ended_again}

-- an event of an instance of a task; where it is on a core, on C
abbrev of_task : ℕ → ℕ → Event
of_task i word = line task 0 (bytes "C") 0 (bytes "Q") i word

-- before the runnable is started: an mtalimitexceeded, one that lives since before the recording, one that has ended, and one that had ended before the first number
abbrev exceeded : List Event
exceeded = of_task 5 mtalimitexceeded ∷ []

abbrev older : List Event
older = of_task 5 release ∷ []

abbrev ended_older : List Event
ended_older = of_task 3 terminate ∷ []

abbrev ended_below : List Event
ended_below = of_task 5 mtalimitexceeded ∷ of_task 3 terminate ∷ []

none_before_strange : Strange []
unfolding instances has_instances is_process is_from same_bytes last_number numbers activates
none_before_strange = record { unlisted = λ m. refl; none_from = refl; unnumbered = refl }

exceeded_strange : Strange exceeded
unfolding instances has_instances is_process is_from same_bytes last_number numbers activates
exceeded_strange = record { unlisted = λ m. refl; none_from = refl; unnumbered = refl }

older_strange : Strange older
unfolding instances has_instances is_process is_from same_bytes last_number numbers activates
older_strange = record { unlisted = λ m. refl; none_from = refl; unnumbered = refl }

ended_older_strange : Strange ended_older
unfolding instances has_instances is_process is_from same_bytes last_number numbers activates
ended_older_strange = record { unlisted = λ m. refl; none_from = refl; unnumbered = refl }

ended_below_strange : Strange ended_below
unfolding instances has_instances is_process is_from same_bytes last_number numbers activates
ended_below_strange = record { unlisted = λ m. refl; none_from = refl; unnumbered = refl }

-- an event after a history, its answer, and that this is its answer
pub record Asked : Type 0 where
  pub history : List Event
  pub event : Event
  pub answered : ℕ
  pub right : answer history event ≡ answered

abbrev asked : (h : List Event) (e : Event) (n : ℕ) → answer h e ≡ n → Asked
asked h e n q = record { history = h; event = e; answered = n; right = q }

pub at_the_limit : List Asked
unfolding same_bytes answer_to event_tests time_falls second_kind source_clash target_clash is_next_activation exceeds_limit needs_one no_room off_chart never_activated not_allowed not_next core_broken count_broken names named instances chart_of process_chart runnable_chart semaphore_chart is_process takes gives keeps on_core has_instances is_tracked kind_in activates numbers last_number first_number is_from needs_entry last_count count_allowed count_follows
at_the_limit =
    -- the next start needs one, and an event of an instance without an entry at the first number or above needs none
    asked (filled [] 1023) (of_runnable 1023 start) 0 (unstarted [] none_before_strange 1023 1023 start (omega arith))
    ∷ asked (filled [] 1024) (of_runnable 1024 start) 10 (unstarted [] none_before_strange 1024 1024 start (omega arith))
    ∷ asked (filled [] 1024) (of_runnable 1024 resume) 11 (unstarted [] none_before_strange 1024 1024 resume (omega arith))
    ∷ asked (filled [] 1024) (of_runnable 1025 start) 12 (unstarted [] none_before_strange 1024 1025 start (omega arith))
    -- an instance of a process that has no first number needs one, but for mtalimitexceeded
    ∷ asked (filled [] 1023) (of_task 0 activate) 0 (another [] none_before_strange 1023 (of_task 0 activate) refl)
    ∷ asked (filled [] 1024) (of_task 0 activate) 10 (another [] none_before_strange 1024 (of_task 0 activate) refl)
    ∷ asked (filled [] 1024) (of_task 0 release) 10 (another [] none_before_strange 1024 (of_task 0 release) refl)
    ∷ asked (filled [] 1024) (of_task 0 mtalimitexceeded) 0 (another [] none_before_strange 1024 (of_task 0 mtalimitexceeded) refl)
    -- after mtalimitexceeded 5, which has no entry: below the first number, above it, and the next
    ∷ asked (filled exceeded 1023) (of_task 3 activate) 12 (another exceeded exceeded_strange 1023 (of_task 3 activate) refl)
    ∷ asked (filled exceeded 1024) (of_task 3 activate) 10 (another exceeded exceeded_strange 1024 (of_task 3 activate) refl)
    ∷ asked (filled exceeded 1023) (of_task 3 release) 0 (another exceeded exceeded_strange 1023 (of_task 3 release) refl)
    ∷ asked (filled exceeded 1024) (of_task 3 release) 10 (another exceeded exceeded_strange 1024 (of_task 3 release) refl)
    ∷ asked (filled exceeded 1024) (of_task 5 release) 11 (another exceeded exceeded_strange 1024 (of_task 5 release) refl)
    ∷ asked (filled exceeded 1024) (of_task 7 release) 11 (another exceeded exceeded_strange 1024 (of_task 7 release) refl)
    ∷ asked (filled exceeded 1024) (of_task 7 activate) 12 (another exceeded exceeded_strange 1024 (of_task 7 activate) refl)
    ∷ asked (filled exceeded 1023) (of_task 6 activate) 0 (another exceeded exceeded_strange 1023 (of_task 6 activate) refl)
    ∷ asked (filled exceeded 1024) (of_task 6 activate) 10 (another exceeded exceeded_strange 1024 (of_task 6 activate) refl)
    ∷ asked (filled exceeded 1024) (of_task 6 mtalimitexceeded) 0 (another exceeded exceeded_strange 1024 (of_task 6 mtalimitexceeded) refl)
    -- while there is no first number: the first activation, not above all seen and above them
    ∷ asked (filled older 1022) (of_task 4 activate) 12 (another older older_strange 1022 (of_task 4 activate) refl)
    ∷ asked (filled older 1023) (of_task 4 activate) 10 (another older older_strange 1023 (of_task 4 activate) refl)
    ∷ asked (filled older 1023) (of_task 4 mtalimitexceeded) 12 (another older older_strange 1023 (of_task 4 mtalimitexceeded) refl)
    ∷ asked (filled older 1022) (of_task 6 activate) 0 (another older older_strange 1022 (of_task 6 activate) refl)
    ∷ asked (filled older 1023) (of_task 6 activate) 10 (another older older_strange 1023 (of_task 6 activate) refl)
    -- and beside one that has ended: it keeps its entry, and needs none itself
    ∷ asked (filled ended_older 1023) (of_task 2 activate) 10 (another ended_older ended_older_strange 1023 (of_task 2 activate) refl)
    ∷ asked (filled ended_older 1023) (of_task 3 activate) 12 (another ended_older ended_older_strange 1023 (of_task 3 activate) refl)
    -- TERMINATED with no first number, and below it also if that came later: the entry stays
    ∷ asked (filled ended_older 1022) (of_runnable 1022 start) 0 (unstarted ended_older ended_older_strange 1022 1022 start (omega arith))
    ∷ asked (filled ended_older 1023) (of_runnable 1023 start) 10 (unstarted ended_older ended_older_strange 1023 1023 start (omega arith))
    ∷ asked (filled ended_below 1022) (of_runnable 1022 start) 0 (unstarted ended_below ended_below_strange 1022 1022 start (omega arith))
    ∷ asked (filled ended_below 1023) (of_runnable 1023 start) 10 (unstarted ended_below ended_below_strange 1023 1023 start (omega arith))
    -- one of 1,024 ends: its room is used for the next, and it is neither a first one again nor the next
    ∷ asked (ended [] 1024 5) (of_runnable 1024 start) 0 (new_after_end [] none_before_strange 1024 5 (omega arith) refl refl 1024 start (omega arith))
    ∷ asked (ended [] 1024 5) (of_runnable 5 resume) 11 (ended_again [] none_before_strange 1024 5 (omega arith) refl refl resume)
    ∷ asked (ended [] 1024 5) (of_runnable 5 start) 12 (ended_again [] none_before_strange 1024 5 (omega arith) refl refl start)
    ∷ []
