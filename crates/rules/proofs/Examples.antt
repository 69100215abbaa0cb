-- Document 01's examples that speak of events, and one on each side of its finer readings, as one statement over one list: the checker computes each
-- verdict and sheet from the definitions, and after hundreds of names by the laws of `ManyNames` too.
use mathlib.Core.Path.{◌≡◌}
use mathlib.Core.Bool.{Bool, true, false, ◌&&◌}
use mathlib.Core.List.{List, [], ◌∷◌}
use Prim.Native.Nat.{ℕ}
use native.Mathlib.Omega.{arith}
use lib.Dec.{T, eqb}
use borrow.Author.Tests.{eq-eqb}
use Rattle.text.specs.Literal.{bytes}
use Rattle.text.specs.Bytes.{same_bytes}
use Rattle.bill.specs.Rows.{Row, Sheet}
use Rattle.rules.specs.Words.{task, interrupt, runnable, semaphore}
use Rattle.rules.specs.Words.{activate, start, preempt, resume, wait, release, terminate, poll, run, park, poll_parking, release_parking, mtalimitexceeded, interrupt_suspended, suspend}
use Rattle.rules.specs.Words.{requestsemaphore, queued, assigned, waiting, released, increment, decrement, free, unlock, lock, lock_used, full, overfull, unlock_full, used}
use Rattle.rules.specs.Charts.{chart_of, process_chart, runnable_chart, semaphore_chart, is_process}
use Rattle.rules.specs.Event.{Event}
use Rattle.rules.specs.Core.{takes, gives, keeps, on_core}
use Rattle.rules.specs.History.{has_instances, is_tracked, named, kind_in, activates, numbers, last_number, first_number, is_from, above_all, needs_entry, last_count, names, instances}
use Rattle.rules.specs.Refusals.{time_falls, second_kind, source_clash, target_clash, is_next_activation, exceeds_limit, needs_one, no_room, off_chart, never_activated, not_allowed, not_next, core_broken, count_follows, count_allowed, count_broken, event_tests, answer_to}
use Rattle.rules.specs.First.{taken_of, first_refusal}
use Rattle.rules.specs.Verdict.{answer, taken, verdict}
use Rattle.rules.specs.Sheet.{ticks, sheet}
use Rattle.rules.proofs.ManyNames.{line, trigger, many, new_name, new_core, name_after, trigger_after, core_after}

-- of a semaphore: time, source, target, event, note
abbrev pub sem : ℕ → List ℕ → List ℕ → ℕ → ℕ → Event
sem t s p a n = record { time = t; source = s; source_instance = 0; kind = semaphore; target = p; target_instance = 0; word = a; count = n }

abbrev pub row : List ℕ → List ℕ → Row
row n fs = record { name = n; figures = fs }

-- The events, the oldest first, and either the number and place of the verdict, or the span and the rows of cores and processes of a trace that is taken;
-- or a history, an event after it, and the answer.
pub data Example : Type 0 where
  says : List Event → ℕ → ℕ → Example
  answers : List Event → Event → ℕ → Example
  shows : List Event → ℕ → List Row → List Row → Example

abbrev pub listing_2_7 : List Event
listing_2_7 =
    line task 6150000 (bytes "TIMER_2ms") 3 (bytes "TASK_InputProcessing") 3 activate
    ∷ line task 6150100 (bytes "Core_1") 0 (bytes "TASK_InputProcessing") 3 start
    ∷ line task 6250000 (bytes "TIMER_1MS") 6 (bytes "TASK_1MS") 6 activate
    ∷ line task 6250100 (bytes "Core_1") 0 (bytes "TASK_InputProcessing") 3 preempt
    ∷ line task 6250100 (bytes "Core_1") 0 (bytes "TASK_1MS") 6 start
    ∷ line task 6721825 (bytes "Core_1") 0 (bytes "TASK_1MS") 6 terminate
    ∷ line task 6721925 (bytes "Core_1") 0 (bytes "TASK_InputProcessing") 3 resume
    ∷ line task 7110175 (bytes "Core_1") 0 (bytes "TASK_InputProcessing") 3 terminate
    ∷ []

abbrev pub listing_2_13 : List Event
listing_2_13 =
    sem 0 (bytes "Sem1") (bytes "Sem1") free 0
    ∷ sem 308 (bytes "Process1") (bytes "Sem1") requestsemaphore 0
    ∷ sem 308 (bytes "Process1") (bytes "Sem1") increment 1
    ∷ sem 308 (bytes "Process1") (bytes "Sem1") queued 1
    ∷ sem 308 (bytes "Sem1") (bytes "Sem1") lock 1
    ∷ sem 308 (bytes "Process1") (bytes "Sem1") assigned 1
    ∷ sem 9539 (bytes "Process2") (bytes "Sem1") requestsemaphore 1
    ∷ sem 9539 (bytes "Process2") (bytes "Sem1") increment 2
    ∷ sem 9539 (bytes "Process2") (bytes "Sem1") queued 2
    ∷ sem 9539 (bytes "Sem1") (bytes "Sem1") overfull 2
    ∷ sem 9539 (bytes "Process2") (bytes "Sem1") waiting 2
    ∷ sem 462154 (bytes "Process1") (bytes "Sem1") released 2
    ∷ sem 462154 (bytes "Process1") (bytes "Sem1") decrement 1
    ∷ sem 462154 (bytes "Sem1") (bytes "Sem1") full 1
    ∷ sem 462154 (bytes "Process2") (bytes "Sem1") assigned 1
    ∷ []

-- document 02, No. 1: "overfull at the second waiter again, and again when one user leaves while others still wait"
abbrev pub crane : List Event
crane =
    sem 0 (bytes "Bus") (bytes "Bus") free 0
    ∷ sem 10 (bytes "Hoist") (bytes "Bus") increment 1
    ∷ sem 10 (bytes "Bus") (bytes "Bus") lock 1
    ∷ sem 20 (bytes "Slew") (bytes "Bus") increment 2
    ∷ sem 20 (bytes "Bus") (bytes "Bus") overfull 2
    ∷ sem 20 (bytes "Slew") (bytes "Bus") waiting 2
    ∷ sem 30 (bytes "Trolley") (bytes "Bus") increment 3
    ∷ sem 30 (bytes "Bus") (bytes "Bus") overfull 3
    ∷ sem 30 (bytes "Trolley") (bytes "Bus") waiting 3
    ∷ sem 40 (bytes "Hoist") (bytes "Bus") decrement 2
    ∷ sem 40 (bytes "Bus") (bytes "Bus") overfull 2
    ∷ sem 40 (bytes "Slew") (bytes "Bus") assigned 2
    ∷ sem 50 (bytes "Slew") (bytes "Bus") decrement 1
    ∷ sem 50 (bytes "Bus") (bytes "Bus") full 1
    ∷ sem 50 (bytes "Trolley") (bytes "Bus") assigned 1
    ∷ sem 60 (bytes "Trolley") (bytes "Bus") decrement 0
    ∷ sem 60 (bytes "Bus") (bytes "Bus") unlock 0
    ∷ []

-- one line after another of the same source: Core_1 and Core_2 with Task_A and Task_B, a stimulus with them, a runnable, an interrupt routine, a semaphore
abbrev pub A : ℕ → ℕ → ℕ → Event
A t j a = line task t (bytes "Core_1") 0 (bytes "Task_A") j a

abbrev pub B : ℕ → ℕ → ℕ → Event
B t j a = line task t (bytes "Core_1") 0 (bytes "Task_B") j a

abbrev pub A2 : ℕ → ℕ → ℕ → Event
A2 t j a = line task t (bytes "Core_2") 0 (bytes "Task_A") j a

abbrev pub S : ℕ → ℕ → ℕ → Event
S t j a = line task t (bytes "Stimulus") 0 (bytes "Task_A") j a

abbrev pub R : ℕ → ℕ → Event
R j a = line runnable 0 (bytes "P") 0 (bytes "r") j a

abbrev pub I : ℕ → ℕ → Event
I j a = line interrupt 0 (bytes "Core_1") 0 (bytes "Isr") j a

abbrev pub Q : ℕ → ℕ → Event
Q a n = sem 0 (bytes "P") (bytes "Sem1") a n

-- those that the definitions alone compute quickly
abbrev computed : List Example
computed =
    -- document 01: "Task_A 0 and then Task_B 0 started on Core_1 with no leaving: 13"; "Task_A 0 started twice on Core_1: 11";
    -- "activate 3, then activate 5 of one task: 12"; "resume as the first event of an instance: taken"; the two listings
    says (A 100 0 start ∷ B 200 0 start ∷ []) 13 2
    ∷ says (A 100 0 start ∷ A 200 0 start ∷ []) 11 2
    ∷ says (S 100 3 activate ∷ S 200 5 activate ∷ []) 12 2
    ∷ shows (A 100 0 resume ∷ []) 0 (row (bytes "Core_1") (0 ∷ 0 ∷ 0 ∷ []) ∷ []) (row (bytes "Task_A") (0 ∷ []) ∷ [])
    ∷ shows listing_2_7 960175 (row (bytes "Core_1") (959975 ∷ 100 ∷ 100 ∷ []) ∷ [])
    (row (bytes "TASK_InputProcessing") (488250 ∷ []) ∷ row (bytes "TASK_1MS") (471725 ∷ []) ∷ [])
    ∷ shows listing_2_13 462154 [] []
    -- no event
    ∷ shows [] 0 [] []
    -- 8: the time may stand still and not fall
    ∷ says (trigger 5 ∷ trigger 5 ∷ trigger 4 ∷ []) 8 3
    -- 9: a second kind, of the target, of the source, and on one core line; T and I are two kinds
    ∷ says (A 0 0 start ∷ sem 0 (bytes "P") (bytes "Core_1") queued 1 ∷ []) 9 2
    ∷ says (S 0 0 activate ∷ line task 0 (bytes "Task_A") 0 (bytes "Task_B") 0 start ∷ []) 9 2
    ∷ says (line task 0 (bytes "Task_A") 0 (bytes "Task_A") 0 start ∷ []) 9 1
    ∷ says (S 0 0 activate ∷ line interrupt 0 (bytes "Stimulus") 0 (bytes "Task_A") 1 activate ∷ []) 9 2
    -- the source of release and release_parking isn't looked up, and that of a runnable or semaphore is no core
    ∷ says (line task 0 (bytes "Task_A") 0 (bytes "Task_A") 0 release ∷ line task 0 (bytes "Task_A") 0 (bytes "Task_B") 0 release_parking ∷ []) 0 0
    ∷ shows (line runnable 0 (bytes "Task_A") 0 (bytes "Task_A") 0 start ∷ trigger 7 ∷ []) 7 [] []
    ∷ says (line runnable 0 (bytes "Task_A") 0 (bytes "Task_B") 0 start ∷ A 0 0 preempt ∷ []) 0 0
    -- a process is first mentioned by the line that tracks it
    ∷ shows (line runnable 0 (bytes "Task_B") 0 (bytes "r") 0 start ∷ S 0 0 activate ∷ line task 0 (bytes "Stimulus") 0 (bytes "Task_B") 0 activate ∷ []) 0 []
    (row (bytes "Task_A") (0 ∷ []) ∷ row (bytes "Task_B") (0 ∷ []) ∷ [])
    -- 10: of the names 64 cores; 9 is lower
    ∷ answers (many new_core 63) (new_core 63) 0
    ∷ answers (many new_core 64) (new_core 64) 10
    ∷ answers (many new_name 255) (line task 0 (bytes "Task_A") 0 (bytes "Task_A") 0 start) 9
    ∷ answers (many new_core 64) (line task 0 (bytes "Task_A") 0 (bytes "Task_B") 0 start) 9
    ∷ answers (many new_core 64) (line task 0 (bytes "Core_65") 0 (bytes "Task_A") 64 release) 0
    -- 11: mtalimitexceeded is in the chart; terminated instances are kept; an instance starts in any state, also one below the first activation
    ∷ says (S 0 0 mtalimitexceeded ∷ A 0 0 start ∷ []) 11 2
    ∷ says (A 0 0 terminate ∷ A 0 0 preempt ∷ []) 11 2
    ∷ says (S 0 4 activate ∷ A 0 3 resume ∷ []) 0 0
    ∷ says (A 0 0 poll ∷ A 0 0 park ∷ A 0 0 poll_parking ∷ A 0 0 run ∷ A 0 0 wait ∷ S 0 0 release ∷ A 0 0 resume ∷ A 0 0 terminate ∷ []) 0 0
    ∷ says (R 0 start ∷ R 0 suspend ∷ R 0 terminate ∷ []) 11 3
    ∷ says (Q queued 1 ∷ Q full 1 ∷ Q unlock_full 1 ∷ Q used 1 ∷ Q used 1 ∷ Q full 1 ∷ []) 11 6
    -- document 02, No. 5: "A trace activated instance 4 of a task and then resumed instance 9"; after mtalimitexceeded too, and whatever was activated since
    ∷ says (S 0 4 activate ∷ A 0 9 resume ∷ []) 11 2
    ∷ says (S 0 4 mtalimitexceeded ∷ A 0 5 preempt ∷ []) 11 2
    ∷ says (S 0 3 activate ∷ S 0 4 activate ∷ A 0 5 start ∷ []) 11 3
    -- 13 would apply too; where the instance was activated, start is taken
    ∷ says (S 0 3 activate ∷ B 0 0 start ∷ A 0 4 resume ∷ []) 11 3
    ∷ says (S 0 3 activate ∷ S 0 4 activate ∷ A 0 4 start ∷ []) 0 0
    -- "Runnables the same, with start"; what is activated of one name binds no other
    ∷ says (R 4 start ∷ R 5 resume ∷ []) 11 2
    ∷ says (R 4 start ∷ R 3 resume ∷ []) 0 0
    ∷ says (S 0 4 activate ∷ B 0 9 resume ∷ R 9 suspend ∷ []) 0 0
    -- a process's start and interrupt_suspended do not activate: they set no first number, and are such events as it shuts out
    ∷ says (A 0 3 start ∷ A2 0 4 start ∷ I 3 interrupt_suspended ∷ I 4 interrupt_suspended ∷ []) 0 0
    ∷ says (I 3 activate ∷ I 4 interrupt_suspended ∷ []) 11 2
    -- document 02, No. 7: an instance that has terminated is no first one again, and its number is not the next
    ∷ says (S 0 3 activate ∷ A 0 3 start ∷ A 0 3 terminate ∷ A 0 3 resume ∷ []) 11 4
    ∷ says (S 0 3 activate ∷ A 0 3 start ∷ A 0 3 terminate ∷ S 0 3 activate ∷ []) 12 4
    ∷ says (S 0 3 activate ∷ A 0 3 start ∷ A 0 3 terminate ∷ S 0 4 activate ∷ A 0 4 start ∷ []) 0 0
    -- "Charges stay with the process": one of two instances ends while the other holds a core
    ∷ shows
    (S 0 3 activate ∷ A 1 3 start ∷ S 2 4 activate ∷ A2 3 4 start ∷ A 5 3 terminate ∷ A2 9 4 terminate ∷ [])
    9
    (row (bytes "Core_1") (4 ∷ 4 ∷ 1 ∷ []) ∷ row (bytes "Core_2") (6 ∷ 0 ∷ 3 ∷ []) ∷ [])
    (row (bytes "Task_A") (10 ∷ []) ∷ [])
    -- overfull comes from FULL and from OVERFULL, first of all too, and from no other state; it leads to OVERFULL
    ∷ shows crane 60 [] []
    ∷ says (Q full 2 ∷ Q overfull 2 ∷ Q full 2 ∷ []) 0 0
    ∷ says (Q overfull 2 ∷ Q overfull 2 ∷ Q full 2 ∷ []) 0 0
    ∷ says (Q overfull 2 ∷ Q overfull 2 ∷ Q lock_used 2 ∷ []) 11 3
    ∷ says (Q used 2 ∷ Q overfull 2 ∷ []) 11 2
    ∷ says (Q free 0 ∷ Q increment 1 ∷ Q increment 2 ∷ Q overfull 2 ∷ []) 11 4
    -- 12: activate and mtalimitexceeded are one series, a process's start is not in it, 11 is lower, and nothing wraps
    ∷ says (S 0 3 activate ∷ S 0 9 mtalimitexceeded ∷ []) 12 2
    ∷ says (A 0 3 start ∷ S 0 9 activate ∷ S 0 10 mtalimitexceeded ∷ []) 0 0
    ∷ says (S 0 3 activate ∷ S 0 3 activate ∷ []) 11 2
    ∷ says (S 0 4294967295 activate ∷ S 0 0 activate ∷ []) 12 2
    ∷ says (R 0 start ∷ R 2 start ∷ []) 12 2
    -- document 02, No. 5: "above all seen of that process, else 12"; one that was seen and lives is 11, and a later one is asked for the next number alone
    ∷ says (A 0 9 resume ∷ S 0 4 activate ∷ []) 12 2
    ∷ says (A 0 9 resume ∷ S 0 10 activate ∷ S 0 11 activate ∷ []) 0 0
    ∷ says (A 0 9 terminate ∷ S 0 9 activate ∷ []) 12 2
    ∷ says (A 0 9 terminate ∷ S 0 9 mtalimitexceeded ∷ []) 12 2
    ∷ says (A 0 9 terminate ∷ A 0 2 resume ∷ S 0 3 mtalimitexceeded ∷ []) 12 3
    ∷ says (A 0 9 resume ∷ S 0 9 activate ∷ []) 11 2
    ∷ says (S 0 4 activate ∷ A 0 3 resume ∷ S 0 5 activate ∷ []) 0 0
    ∷ says (R 9 terminate ∷ R 9 start ∷ []) 12 2
    ∷ says (R 9 terminate ∷ R 10 start ∷ []) 0 0
    ∷ says (B 0 9 preempt ∷ R 9 suspend ∷ S 0 4 activate ∷ []) 0 0
    -- 13: poll keeps the core held; a given core is idle; preempt of an instance seen for the first time serves an unknown core, and of one seen before not
    ∷ shows (A 0 0 poll ∷ trigger 5 ∷ []) 5 (row (bytes "Core_1") (5 ∷ 0 ∷ 0 ∷ []) ∷ []) (row (bytes "Task_A") (5 ∷ []) ∷ [])
    ∷ says (A 0 0 start ∷ A 1 0 poll ∷ B 2 0 start ∷ []) 13 3
    ∷ says (A 0 0 start ∷ A 1 0 wait ∷ B 2 0 start ∷ []) 0 0
    ∷ shows (trigger 0 ∷ A 5 0 preempt ∷ trigger 7 ∷ []) 7 (row (bytes "Core_1") (0 ∷ 2 ∷ 5 ∷ []) ∷ []) (row (bytes "Task_A") (0 ∷ []) ∷ [])
    ∷ says (A 0 0 start ∷ A2 0 0 preempt ∷ []) 13 2
    ∷ says (A 0 0 start ∷ B 0 0 preempt ∷ []) 13 2
    ∷ says (A 0 0 preempt ∷ B 0 0 preempt ∷ []) 13 2
    -- two instances of one process hold two cores
    ∷ shows (A 0 0 start ∷ A2 1 1 start ∷ trigger 3 ∷ []) 3 (row (bytes "Core_1") (3 ∷ 0 ∷ 0 ∷ []) ∷ row (bytes "Core_2") (2 ∷ 0 ∷ 1 ∷ []) ∷ [])
    (row (bytes "Task_A") (5 ∷ []) ∷ [])
    -- 14: the counts, at both ends, and the fixed ones
    ∷ says (Q decrement 4294967295 ∷ Q increment 0 ∷ []) 14 2
    ∷ says (Q queued 4294967294 ∷ Q increment 4294967295 ∷ Q increment 4294967295 ∷ []) 14 3
    ∷ says (Q queued 1 ∷ Q decrement 0 ∷ Q decrement 4294967295 ∷ []) 14 3
    ∷ says (Q queued 0 ∷ Q decrement 0 ∷ []) 14 2
    ∷ says (Q queued 1 ∷ Q queued 2 ∷ []) 14 2
    ∷ says (Q increment 0 ∷ []) 14 1
    ∷ says (Q free 1 ∷ []) 14 1
    ∷ says (Q lock 2 ∷ []) 14 1
    ∷ says (Q used 0 ∷ []) 14 1
    ∷ says (Q overfull 1 ∷ []) 14 1
    ∷ says (Q overfull 2 ∷ Q overfull 3 ∷ []) 14 2
    ∷ says (Q overfull 2 ∷ Q decrement 1 ∷ Q overfull 1 ∷ []) 14 3
    ∷ []

-- 10: "256 names taken, a 257th: 10"
abbrev pub examples : List Example
examples =
    answers (many new_name 255) (new_name 255) 0
    ∷ answers (many new_name 256) (new_name 256) 10
    ∷ answers (many new_name 256) (trigger 0) 0
    ∷ answers (many new_name 255) (new_core 0) 10
    ∷ computed

unfoldable pub same_rows : List Row → List Row → Bool
same_rows [] [] = true
same_rows [] (y ∷ t) = false
same_rows (x ∷ s) [] = false
same_rows (x ∷ s) (y ∷ t) = same_bytes x.name y.name && same_bytes x.figures y.figures && same_rows s t

unfoldable pub same_sheet : Sheet → ℕ → List Row → List Row → Bool
same_sheet s n cs ps = eqb s.span n && same_rows s.cores cs && same_rows s.processes ps

unfoldable pub same_verdict : ℕ × ℕ → ℕ → ℕ → Bool
same_verdict v n i = eqb v.0 n && eqb v.1 i

unfoldable pub is_right : Example → Bool
is_right (says es n i) = same_verdict (verdict [] es) n i
is_right (answers h e n) = eqb (answer h e) n
is_right (shows es n cs ps) = same_verdict (verdict [] es) 0 0 && same_sheet (sheet (taken [] es)) n cs ps

unfoldable pub right : List Example → Bool
right [] = true
right (x ∷ xs) = is_right x && right xs

computed_right : T (right computed)
unfolding right is_right same_verdict same_sheet same_rows same_bytes first_refusal taken_of sheet ticks answer_to event_tests time_falls second_kind source_clash target_clash is_next_activation exceeds_limit needs_one no_room off_chart never_activated not_allowed not_next core_broken count_broken needs_entry names instances chart_of process_chart runnable_chart semaphore_chart is_process takes gives keeps on_core has_instances is_tracked named kind_in activates numbers last_number first_number is_from above_all last_count count_allowed count_follows
computed_right = tt

-- after many names the laws say whether there is room, and the rest is computed
by_law : (answer (many new_name 255) (new_name 255) ≡ 0) × (answer (many new_name 256) (new_name 256) ≡ 10) × (answer (many new_name 256) (trigger 0) ≡ 0) × (answer (many new_name 255) (new_core 0) ≡ 10)
unfolding same_bytes time_falls second_kind source_clash target_clash off_chart never_activated not_allowed not_next core_broken count_broken chart_of process_chart runnable_chart semaphore_chart is_process takes gives keeps on_core has_instances is_tracked kind_in activates numbers last_number first_number is_from above_all last_count count_allowed count_follows
by_law = (name_after 255 (omega arith), name_after 256 (omega arith), trigger_after 256 (omega arith), core_after 255 (omega arith))

answered : (h : List Event) (e : Event) (n : ℕ) (xs : List Example) → answer h e ≡ n → T (right xs) → T (right (answers h e n ∷ xs))
unfolding right is_right
answered h e n xs q r = rw (eq-eqb _ _ q) r

pub examples_right : T (right examples)
examples_right =
    answered _ _ _ _ by_law.0
    (answered _ _ _ _ by_law.1
    (answered _ _ _ _ by_law.2
    (answered _ _ _ _ by_law.3 computed_right)))
