-- Document 01's examples of whole traces, and one on each side of its readings of lines and parameters, as one statement over one list: the checker computes
-- each verdict from the definitions.
use mathlib.Core.Path.{◌≡◌, refl}
use mathlib.Core.List.{List, [], ◌∷◌, ◌++◌, map}
use Prim.Native.Nat.{ℕ}
use lib.ListN.{replicate}
use Rattle.text.specs.Literal.{bytes}
use Rattle.text.specs.Pieces.{pieces}
use Rattle.text.specs.Bytes.{same_bytes, starts_with}
use Rattle.text.specs.Name.{is_name_byte, all_name_bytes, is_name}
use Rattle.text.specs.Number.{number_of}
use Rattle.words.specs.Named.{pick}
use Rattle.words.specs.Scale.{scale_word, scale_of}
use Rattle.words.specs.Kind.{kind_word, kind_of}
use Rattle.words.specs.Action.{word_of, action_code, actions_of, action_of, among}
use Rattle.words.specs.Pair.{named_by}
use Rattle.fields.specs.Part.{parts_of, field_of}
use Rattle.forms.specs.Note.{count_note, note_of}
use Rattle.forms.specs.Date.{fits_byte, fits_pattern, digit_at, two_at, is_leap, days_in, is_day, is_time, is_moment}
use Rattle.forms.specs.Rule.{is_process as isProcessLine, zero_source, zero_target, is_own, source_broken, target_broken, own_broken, presence, note_broken, rule_broken}
use Rattle.line.specs.Parameter.{is_version, is_version_line, is_comment, time_scale, is_creator, is_creation_date, other_reading, parameter_reading}
use Rattle.line.specs.Event.{numbers_of, has_names, known_reading, fields_reading, event_reading}
use Rattle.line.specs.Reading.{has_break, is_event_line, read_line}
use Rattle.line.specs.Condition.{refuses1, refuses3, count_wrong, number_wrong, name_wrong, note_wrong, refuses5, refuses6, refuses7}
use Rattle.bill.specs.Scale.{scale_number}
use Rattle.rules.specs.Charts.{chart_of, process_chart, runnable_chart, semaphore_chart, is_process}
use Rattle.rules.specs.Core.{takes, gives, keeps, on_core}
use Rattle.rules.specs.History.{has_instances, is_tracked, named, kind_in, activates, numbers, last_number, first_number, is_from, above_all, last_count, names, needs_entry, instances}
use Rattle.rules.specs.Refusals.{time_falls, second_kind, source_clash, target_clash, is_next_activation, exceeds_limit, needs_one, no_room, off_chart, never_activated, not_allowed, not_next, core_broken, count_follows, count_allowed, count_broken, event_tests, answer_to}
use Rattle.rules.specs.Lines.{kind_number, event_of_line, events_of}
use Rattle.rules.specs.Trace.{place_of, too_much, version_wrong, parameter_wrong, unscaled, place_tests, answer_in_place, answer_at, at_end, verdict_on}
use Rattle.rules.specs.First.{taken_of, first_refusal}

-- a trace, the oldest line first, and its verdict: number and line
pub record Example : Type 0 where
  pub lines : List (List ℕ)
  pub verdict : ℕ × ℕ

abbrev pub trace : List (List ℕ) → ℕ → ℕ → Example
trace ls n k = record { lines = ls; verdict = (n, k) }

-- the prelude, and lines after it
abbrev pub after : List (List ℕ) → ℕ → ℕ → Example
after ls n k = trace (bytes "#version 2.2.0" ∷ bytes "#timeScale ns" ∷ ls) n k

abbrev pub listing_2_13 : List (List ℕ)
listing_2_13 =
    bytes "0,Sem1,0,SEM,Sem1,0,free,0"
    ∷ bytes "308,Process1,0,SEM,Sem1,0,requestsemaphore,0"
    ∷ bytes "308,Process1,0,SEM,Sem1,0,increment,1"
    ∷ bytes "308,Process1,0,SEM,Sem1,0,queued,1"
    ∷ bytes "308,Sem1,0,SEM,Sem1,0,lock,1"
    ∷ bytes "308,Process1,0,SEM,Sem1,0,assigned,1"
    ∷ bytes "9539,Process2,0,SEM,Sem1,0,requestsemaphore,1"
    ∷ bytes "9539,Process2,0,SEM,Sem1,0,increment,2"
    ∷ bytes "9539,Process2,0,SEM,Sem1,0,queued,2"
    ∷ bytes "9539,Sem1,0,SEM,Sem1,0,overfull,2"
    ∷ bytes "9539,Process2,0,SEM,Sem1,0,waiting,2"
    ∷ bytes "462154,Process1,0,SEM,Sem1,0,released,2"
    ∷ bytes "462154,Process1,0,SEM,Sem1,0,decrement,1"
    ∷ bytes "462154,Sem1,0,SEM,Sem1,0,full,1"
    ∷ bytes "462154,Process2,0,SEM,Sem1,0,assigned,1"
    ∷ []

abbrev pub examples : List Example
examples =
    -- "empty trace: 2 at 1", "version only: 4 at 2", and the prelude alone
    trace [] 2 1
    ∷ trace (bytes "#version 2.2.0" ∷ []) 4 2
    ∷ after [] 0 0
    -- "Task_A 0 and then Task_B 0 started on Core_1 with no leaving: 13 at line 4"; "Task_A 0 started twice on Core_1: 11 at line 4"
    ∷ after (bytes "100,Core_1,0,T,Task_A,0,start" ∷ bytes "200,Core_1,0,T,Task_B,0,start" ∷ []) 13 4
    ∷ after (bytes "100,Core_1,0,T,Task_A,0,start" ∷ bytes "200,Core_1,0,T,Task_A,0,start" ∷ []) 11 4
    -- "activate 3, then activate 5 of one task: 12"; "resume as the first event of an instance: taken"
    ∷ after (bytes "0,S,0,T,Task_A,3,activate" ∷ bytes "0,S,0,T,Task_A,5,activate" ∷ []) 12 4
    ∷ after (bytes "0,Core_1,0,T,Task_A,0,resume" ∷ []) 0 0
    -- "Listing 2-13 taken"
    ∷ after listing_2_13 0 0
    -- the first line is the version line and nothing else, and no later line is
    ∷ trace ([] ∷ []) 2 1
    ∷ trace (bytes "# by hand" ∷ bytes "#version 2.2.0" ∷ bytes "#timeScale ns" ∷ []) 2 1
    ∷ after (bytes "#version 2.2.0" ∷ []) 2 3
    ∷ after (bytes "#version" ∷ []) 2 3
    ∷ after (bytes "#versionx" ∷ []) 3 3
    ∷ after ((bytes "#version" ++ (9 ∷ bytes "2.2.0")) ∷ []) 3 3
    -- comments, anywhere after the first line; what follows a refused line changes nothing
    ∷ trace (bytes "#version 2.2.0" ∷ bytes "# " ∷ bytes "#timeScale ns" ∷ bytes "0,S,0,STI,S,0,trigger" ∷ bytes "# , #" ∷ []) 0 0
    ∷ after (bytes "#" ∷ bytes "0,S,0,STI,S,0,trigger" ∷ bytes "#version" ∷ []) 3 3
    -- one time scale, in either spelling, before the first event line; 4 is lower than 5, so any event line without a scale is 4, the empty one too
    ∷ trace (bytes "#version 2.2.0" ∷ bytes "#timescale ps" ∷ []) 0 0
    ∷ after (bytes "#timescale ns" ∷ []) 3 3
    ∷ trace (bytes "#version 2.2.0" ∷ bytes "#timeScale ks" ∷ []) 3 2
    ∷ trace (bytes "#version 2.2.0" ∷ [] ∷ []) 4 2
    ∷ trace (bytes "#version 2.2.0" ∷ bytes "0,S,0,STI,S,0,trigger" ∷ bytes "#timeScale ns" ∷ []) 4 2
    ∷ after ([] ∷ []) 5 3
    -- at most one creator and one creation date, before the first event line
    ∷ after (bytes "#creator  " ∷ bytes "#creationDate 0000-02-29T00:00:00Z" ∷ []) 0 0
    ∷ after (bytes "#creator A" ∷ bytes "#creator B" ∷ []) 3 4
    ∷ after (bytes "#creationDate 2024-02-29T00:00:00Z" ∷ bytes "#creationDate 2024-02-29T00:00:00Z" ∷ []) 3 4
    ∷ after (bytes "0,S,0,STI,S,0,trigger" ∷ bytes "#creator A" ∷ []) 3 4
    ∷ after (bytes "0,S,0,STI,S,0,trigger" ∷ bytes "#creationDate 2024-02-29T00:00:00Z" ∷ []) 3 4
    -- a byte 13 left inside, 1,023 bytes and 1,024
    ∷ trace (bytes "#version 2.2.0" ∷ (bytes "#timeScale ns" ++ (13 ∷ [])) ∷ []) 1 2
    ∷ after ((bytes "# " ++ replicate 1021 120) ∷ []) 0 0
    ∷ after ((bytes "# " ++ replicate 1022 120) ∷ []) 1 3
    ∷ []

pub traces_right : map (λ x. verdict_on [] x.lines) examples ≡ map (λ x. x.verdict) examples
unfolding fits_byte fits_pattern digit_at two_at is_leap days_in is_day is_time is_moment first_refusal taken_of verdict_on at_end answer_at answer_in_place place_tests too_much version_wrong parameter_wrong unscaled place_of scale_number event_of_line events_of kind_number refuses1 refuses3 refuses5 refuses6 refuses7 count_wrong number_wrong name_wrong note_wrong read_line has_break is_event_line event_reading fields_reading has_names numbers_of known_reading parts_of pieces field_of note_of count_note isProcessLine zero_source zero_target is_own source_broken target_broken own_broken presence note_broken rule_broken is_version is_version_line is_comment time_scale is_creator is_creation_date other_reading parameter_reading same_bytes starts_with is_name_byte all_name_bytes is_name number_of pick scale_word scale_of kind_word kind_of word_of action_code actions_of action_of among named_by answer_to event_tests time_falls second_kind source_clash target_clash is_next_activation exceeds_limit needs_one no_room off_chart never_activated not_allowed not_next core_broken count_broken names needs_entry instances chart_of process_chart runnable_chart semaphore_chart is_process takes gives keeps on_core has_instances is_tracked named kind_in activates numbers last_number first_number is_from above_all last_count count_allowed count_follows
traces_right = refl
