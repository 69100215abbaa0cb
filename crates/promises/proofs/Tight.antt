-- Judges of a whole trace that the contract of `outcome_of` shuts out, whatever else they do: one that refuses everything, one that accepts everything, and one
-- that follows the charts on the first event line only. The right verdict on three small traces is computed from the definitions of lines and rules.
use mathlib.Core.Path.{◌≡◌, refl, ap, ◌∙◌}
use mathlib.Core.Bool.{true}
use mathlib.Core.List.{List, [], ◌∷◌, ◌++◌}
use Prim.Native.Nat.{ℕ, ◌≤◌}
use native.Mathlib.Omega.{arith}
use lib.ListN.{length, replicate, length-replicate}
use Rattle.text.specs.Literal.{bytes}
use Rattle.text.specs.Bytes.{same_bytes, starts_with}
use Rattle.text.specs.Pieces.{pieces, ended, unended}
use Rattle.text.specs.Name.{is_name_byte, all_name_bytes, is_name}
use Rattle.text.specs.Number.{number_of}
use Rattle.text.proofs.Tight.{ShutsOut}
use Rattle.walk.specs.Lines.{line_text, whole_lines, rest_of, lines_of}
use Rattle.words.specs.Named.{pick}
use Rattle.words.specs.Scale.{scale_word, scale_of}
use Rattle.words.specs.Kind.{kind_word, kind_of}
use Rattle.words.specs.Action.{word_of, action_code, actions_of, action_of, among}
use Rattle.words.specs.Pair.{named_by}
use Rattle.fields.specs.Part.{parts_of, field_of}
use Rattle.forms.specs.Note.{note_of}
use Rattle.forms.specs.Rule.{is_process as isProcessLine, zero_source, zero_target, is_own, source_broken, target_broken, own_broken, presence, note_broken, rule_broken}
use Rattle.line.specs.Parameter.{is_version, is_version_line, is_comment, time_scale, is_creator, is_creation_date, other_reading, parameter_reading}
use Rattle.line.specs.Event.{numbers_of, has_names, known_reading, fields_reading, event_reading}
use Rattle.line.specs.Reading.{has_break, is_event_line, read_line}
use Rattle.line.specs.Condition.{refuses1, refuses3, count_wrong, number_wrong, name_wrong, note_wrong, refuses5, refuses6, refuses7}
use Rattle.bill.specs.declared.verdict.Verdict.{Verdict}
use Rattle.bill.specs.Text.{sheet_text}
use Rattle.bill.specs.Scale.{scale_number}
use Rattle.rules.specs.Charts.{chart_of, process_chart, is_process}
use Rattle.rules.specs.Core.{takes, gives, keeps, on_core}
use Rattle.rules.specs.History.{has_instances, is_tracked, named, kind_in, activates, numbers, last_number, first_number, is_from, above_all, last_count, names, needs_entry, instances}
use Rattle.rules.specs.Refusals.{time_falls, second_kind, source_clash, target_clash, is_next_activation, exceeds_limit, needs_one, no_room, off_chart, never_activated, not_allowed, not_next}
use Rattle.rules.specs.Refusals.{core_broken, count_follows, count_allowed, count_broken, event_tests, answer_to}
use Rattle.rules.specs.Lines.{kind_number, event_of_line, events_of}
use Rattle.rules.specs.Trace.{place_of, too_much, version_wrong, parameter_wrong, unscaled, place_tests, answer_in_place, answer_at, at_end, verdict_on}
use Rattle.rules.specs.First.{taken_of, first_refusal}
use Rattle.tables.specs.Sized.{is_sized}
use Rattle.tables.proofs.Sizes.{sizes_mean}
use Rattle.ranges.proofs.FreshTables.{fresh_valid}
use Rattle.sheet.specs.Sheet.{sheet_most}
use Rattle.judge.specs.Feed.{Tables, fresh_tables}
use Rattle.outcome.specs.Outcome.{AfterTrace, trace_outcome}
use Rattle.promises.specs.Sheets.{sheet_of}
use Rattle.promises.proofs.Outcomes.{lines_fit}
use Rattle.promises.proofs.Demand2.{told_right}

-- ---- the verdict on a trace, by its lines

fresh_sized : is_sized (length fresh_tables.names) (length fresh_tables.nums) (length fresh_tables.ticks) ≡ true
fresh_sized = (sizes_mean fresh_tables.names fresh_tables.nums fresh_tables.ticks).shows fresh_valid.sizes

-- where the sheet has room: memory of `sheet_most` bytes has it for any
abbrev wide : List ℕ
wide = replicate sheet_most 0

room : (ls : List (List ℕ)) → length (sheet_text (sheet_of ls)) ≤ length wide
room ls = omega (arith, lines_fit ls, length-replicate {A = ℕ} sheet_most 0)

number_told : (s : List ℕ) → (trace_outcome fresh_tables s wide).told.outcome.verdict.number ≡ (verdict_on [] (lines_of s)).0
number_told s = ap (λ (v : Verdict). v.number) (told_right fresh_tables fresh_sized s wide (room (lines_of s)))

-- ---- three traces

-- the version and the time scale, and nothing more
abbrev prelude : List ℕ
prelude = bytes "#version 2.2.0" ++ 10 ∷ bytes "#timeScale ns" ++ 10 ∷ []

-- and a task that is started twice on one core
abbrev started_twice : List ℕ
started_twice = prelude ++ bytes "1,C,0,T,A,0,start" ++ 10 ∷ bytes "2,C,0,T,A,0,start"

prelude_taken : (verdict_on [] (lines_of prelude)).0 ≡ 0
unfolding lines_of whole_lines rest_of line_text ended unended pieces first_refusal taken_of verdict_on at_end answer_at answer_in_place place_tests too_much
    version_wrong parameter_wrong unscaled place_of scale_number event_of_line events_of refuses1 refuses3 refuses5 refuses6 refuses7 read_line has_break is_event_line
    is_version is_version_line is_comment time_scale is_creator is_creation_date other_reading parameter_reading same_bytes starts_with pick scale_word scale_of
prelude_taken = refl

nothing_refused : (verdict_on [] (lines_of [])).0 ≡ 2
unfolding lines_of whole_lines rest_of ended unended pieces first_refusal taken_of verdict_on at_end
nothing_refused = refl

second_refused : (verdict_on [] (lines_of started_twice)).0 ≡ 11
unfolding lines_of whole_lines rest_of line_text ended unended pieces first_refusal taken_of verdict_on at_end answer_at answer_in_place place_tests too_much
    version_wrong parameter_wrong unscaled place_of scale_number event_of_line events_of kind_number refuses1 refuses3 refuses5 refuses6 refuses7 count_wrong
    number_wrong name_wrong note_wrong read_line has_break is_event_line event_reading fields_reading has_names numbers_of known_reading parts_of field_of note_of
    isProcessLine zero_source zero_target is_own source_broken target_broken own_broken presence note_broken rule_broken is_version is_version_line is_comment time_scale
    is_creator is_creation_date other_reading parameter_reading same_bytes starts_with pick is_name_byte all_name_bytes is_name number_of scale_word scale_of kind_word
    kind_of word_of action_code actions_of action_of among named_by answer_to event_tests time_falls second_kind source_clash target_clash is_next_activation exceeds_limit needs_one no_room off_chart never_activated not_allowed not_next
    core_broken count_broken needs_entry names instances chart_of process_chart is_process takes gives keeps on_core has_instances is_tracked named kind_in activates numbers
    last_number first_number is_from above_all last_count count_allowed count_follows
second_refused = refl

-- ---- judges that are shut out

abbrev Call : Type 0
Call = Tables × List ℕ × List ℕ

abbrev judges : Call → AfterTrace
judges (t, s, out) = trace_outcome t s out

abbrev number : AfterTrace → ℕ
number x = x.told.outcome.verdict.number

-- one that answers otherwise than n to a trace whose number is n
other_number : (g : Call → AfterTrace) (s : List ℕ) (n : ℕ) → (verdict_on [] (lines_of s)).0 ≡ n → (number (g (fresh_tables, s, wide)) ≡ n → ⊥) → ShutsOut judges g
other_number g s n q h = record { input = (fresh_tables, s, wide); breaks = λ e. h (ap number e ∙ number_told s ∙ q) }

pub judge_not_refusing : (g : Call → AfterTrace) → ((x : Call) → number (g x) ≡ 0 → ⊥) → ShutsOut judges g
judge_not_refusing g h = other_number g prelude 0 prelude_taken (h (fresh_tables, prelude, wide))

pub judge_not_accepting : (g : Call → AfterTrace) → ((x : Call) → number (g x) ≡ 0) → ShutsOut judges g
judge_not_accepting g h = other_number g [] 2 nothing_refused (λ e. omega (arith, h (fresh_tables, [], wide)))

-- a judge that follows the charts on the first event line and later only moves the time takes the second start
pub judge_not_first_only : (g : Call → AfterTrace) → number (g (fresh_tables, started_twice, wide)) ≡ 0 → ShutsOut judges g
judge_not_first_only g h = other_number g started_twice 11 second_refused (λ e. omega arith)
