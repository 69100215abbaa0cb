-- How tight the contract of `outcome_now` is: four sheets that it shuts out, over the tables that a small trace leads to. They are a sheet of zeros, one with the
-- whole span of each core under idle, one whose charges are made up but have the right total, and one of another state than the verdict's.
use mathlib.Core.Path.{◌≡◌, refl, sym, ap, ◌∙◌}
use mathlib.Core.Bool.{true, false}
use mathlib.Core.List.{List, [], ◌∷◌, ◌++◌, map}
use Prim.Native.Nat.{ℕ}
use native.Mathlib.Omega.{arith}
use lib.Dec.{eqb}
use lib.ListN.{get_or, replicate}
use Rattle.text.specs.Literal.{bytes}
use Rattle.text.specs.Bytes.{same_bytes, starts_with}
use Rattle.text.specs.Pieces.{pieces}
use Rattle.text.specs.Name.{is_name_byte, all_name_bytes, is_name}
use Rattle.text.specs.Number.{number_of, digits_of}
use Rattle.text.specs.Put.{written}
use Rattle.text.specs.Lists.{sum_over}
use Rattle.text.proofs.Tight.{ShutsOut, shut_out}
use Rattle.words.specs.Named.{pick}
use Rattle.words.specs.Scale.{scale_word, scale_of}
use Rattle.words.specs.Kind.{kind_word, kind_of}
use Rattle.words.specs.Action.{word_of, action_code, actions_of, action_of, among}
use Rattle.words.specs.Pair.{named_by}
use Rattle.fields.specs.Part.{parts_of, field_of}
use Rattle.forms.specs.Note.{note_of}
use Rattle.forms.specs.Rule.{is_process as isProcessLine, zero_source, zero_target, is_own, source_broken, target_broken, own_broken, presence, note_broken, rule_broken}
use Rattle.line.specs.Parameter.{is_version, is_version_line, is_comment, time_scale, is_creator, is_creation_date, other_reading, parameter_reading}
use Rattle.line.specs.Event.{numbers_of, has_names, known_reading, fields_reading, event_reading}
use Rattle.line.specs.Reading.{has_break, is_event_line, read_line}
use Rattle.line.specs.Condition.{refuses1, refuses3, count_wrong, number_wrong, name_wrong, note_wrong, refuses5, refuses6, refuses7}
use Rattle.bill.specs.Rows.{Row, Sheet}
use Rattle.bill.specs.Text.{figures_text, row_text, rows_text, section_text, sheet_text}
use Rattle.bill.specs.Scale.{scale_number}
use Rattle.rules.specs.Lists.{if_zero}
use Rattle.rules.specs.Charts.{chart_of, process_chart, is_process}
use Rattle.rules.specs.Core.{takes, gives, keeps, on_core}
use Rattle.rules.specs.History.{has_instances, is_tracked, named, kind_in, activates, numbers, last_number, first_number, is_from, above_all, last_count, names, needs_entry, instances}
use Rattle.rules.specs.Refusals.{time_falls, second_kind, source_clash, target_clash, is_next_activation, exceeds_limit, needs_one, no_room, off_chart, never_activated, not_allowed, not_next}
use Rattle.rules.specs.Refusals.{core_broken, count_follows, count_allowed, count_broken, event_tests, answer_to}
use Rattle.rules.specs.Sheet.{ticks, sheet}
use Rattle.rules.specs.Lines.{kind_number, event_of_line, events_of}
use Rattle.rules.specs.Trace.{place_of, too_much, version_wrong, parameter_wrong, unscaled, place_tests, answer_in_place, answer_at}
use Rattle.rules.specs.First.{taken_of}
use Rattle.ranges.specs.Range.{table_answer}
use Rattle.sheet.specs.Sheet.{sheet_in}
use Rattle.judge.specs.Feed.{Tables, judged_line, judged_lines, fresh_tables}
use Rattle.judge.proofs.Traces.{judged_lines_append}
use Rattle.outcome.specs.AtEnd.{verdict_in}
use Rattle.outcome.specs.Outcome.{Asked, asked, refused_by, filled, outcome_in}
use Rattle.promises.specs.Sheets.{sheet_of, figure}
use Rattle.promises.specs.Outcomes.{verdict_of}
use Rattle.promises.proofs.Judged.{after_lines, never_16}
use Rattle.promises.proofs.Demand3.{figures_right}
use Rattle.promises.proofs.Outcomes.{verdict_right, one_outcome}

-- ---- a function that writes another sheet than the one that the tables show, and is right in all else

abbrev Lent : Type 0
Lent = Tables × List ℕ

abbrev asks : Lent → Asked
asks (t, out) = outcome_in t out

abbrev writes : (Tables → Sheet) → Lent → Asked
writes other (t, out) =
    if_zero (table_answer t.names t.nums t.ticks) (filled (verdict_in t.nums t.ticks) (sheet_text (other t)) out)
    (asked (refused_by (table_answer t.names t.nums t.ticks)) out)

abbrev shown : Tables → Sheet
shown t = sheet_in t.names t.nums t.ticks

-- ---- a small trace, and its sheet: on the core C, A runs for a tick and B for two

abbrev small : List (List ℕ)
small =
    bytes "#version 2.2.0"
    ∷ bytes "#timeScale ns"
    ∷ bytes "0,C,0,T,A,0,start"
    ∷ bytes "1,C,0,T,A,0,terminate"
    ∷ bytes "1,C,0,T,B,0,start"
    ∷ bytes "3,C,0,T,B,0,terminate"
    ∷ []

abbrev row : List ℕ → List ℕ → Row
row name figures = record { name = name; figures = figures }

abbrev small_sheet : Sheet
small_sheet = record { span = 3; cores = row (bytes "C") (3 ∷ 0 ∷ 0 ∷ []) ∷ []; processes = row (bytes "A") (1 ∷ []) ∷ row (bytes "B") (2 ∷ []) ∷ [] }

-- and after one line more, which only moves the time
abbrev later : List ℕ
later = bytes "4,S,0,STI,S,0,trigger"

abbrev later_sheet : Sheet
later_sheet = record { span = 4; cores = row (bytes "C") (3 ∷ 1 ∷ 0 ∷ []) ∷ []; processes = row (bytes "A") (1 ∷ []) ∷ row (bytes "B") (2 ∷ []) ∷ [] }

both_sheets : (sheet_of small ≡ small_sheet) × (sheet_of (small ++ later ∷ []) ≡ later_sheet)
unfolding sheet ticks taken_of answer_at answer_in_place place_tests too_much version_wrong parameter_wrong unscaled place_of scale_number event_of_line events_of
    kind_number refuses1 refuses3 refuses5 refuses6 refuses7 count_wrong number_wrong name_wrong note_wrong read_line has_break is_event_line event_reading
    fields_reading has_names numbers_of known_reading parts_of pieces field_of note_of isProcessLine zero_source zero_target is_own source_broken target_broken
    own_broken presence note_broken rule_broken is_version is_version_line is_comment time_scale is_creator is_creation_date other_reading parameter_reading same_bytes
    starts_with is_name_byte all_name_bytes is_name number_of pick scale_word scale_of kind_word kind_of word_of action_code actions_of action_of among named_by answer_to
    event_tests time_falls second_kind source_clash target_clash is_next_activation exceeds_limit needs_one no_room off_chart never_activated not_allowed not_next core_broken count_broken needs_entry names instances chart_of process_chart is_process
    takes gives keeps on_core has_instances is_tracked named kind_in activates numbers last_number first_number is_from above_all last_count count_allowed count_follows
both_sheets = (refl, refl)

-- ---- other sheets

abbrev zero_row : Row → Row
zero_row r = row r.name (map (λ n. 0) r.figures)

abbrev zero_sheet : Sheet → Sheet
zero_sheet s = record { span = s.span; cores = map zero_row s.cores; processes = map zero_row s.processes }

abbrev idle_sheet : Sheet → Sheet
idle_sheet s = record { span = s.span; cores = map (λ r. row r.name (0 ∷ s.span ∷ 0 ∷ [])) s.cores; processes = s.processes }

-- the first process is charged for all
abbrev first_charged : List Row → List Row
first_charged [] = []
first_charged (r ∷ rs) = row r.name (sum_over (figure 0) (r ∷ rs) ∷ []) ∷ map (λ q. row q.name (0 ∷ [])) rs

abbrev made_up : Sheet → Sheet
made_up s = record { span = s.span; cores = s.cores; processes = first_charged s.processes }

-- with the right total
no_charges : (rs : List Row) → sum_over (figure 0) (map (λ q. row q.name (0 ∷ [])) rs) ≡ 0
no_charges [] = refl
no_charges (r ∷ rs) = omega (arith, no_charges rs)

pub made_up_total : (s : Sheet) → sum_over (figure 0) (made_up s).processes ≡ sum_over (figure 0) s.processes
made_up_total s = of s.processes
  where
    of : (rs : List Row) → sum_over (figure 0) (first_charged rs) ≡ sum_over (figure 0) rs
    of [] = refl
    of (r ∷ rs) = omega (arith, no_charges rs)

-- the sheet is asked for after one line more than the verdict
abbrev next_sheet : Tables → Sheet
next_sheet t = shown (judged_line t later).left

-- ---- they are shut out

-- by a figure that stands at an index of the text
shut_sheet : (other : Tables → Sheet) (wrong : Sheet) (at right : ℕ) (out : List ℕ)
    → other (after_lines small) ≡ wrong
    → eqb (get_or (filled (verdict_of small) (sheet_text small_sheet) out).output at 0) right ≡ true
    → eqb (get_or (filled (verdict_of small) (sheet_text wrong) out).output at 0) right ≡ false
    → ShutsOut asks (writes other)
unfolding sheet
shut_sheet other wrong at right out e p q =
    shut_out (λ x. eqb (get_or x.output at 0) right) (after_lines small, out) (rw (one_outcome small out, both_sheets.0) p)
    (rw (never_16 small, verdict_right small, e) q)

small_shown : shown (after_lines small) ≡ small_sheet
small_shown = figures_right small ∙ both_sheets.0

later_shown : next_sheet (after_lines small) ≡ later_sheet
unfolding judged_lines
later_shown =
    ap shown (sym (judged_lines_append fresh_tables small (later ∷ []))) ∙ figures_right (small ++ later ∷ []) ∙ both_sheets.1

abbrev blanks : List ℕ
blanks = replicate 40 32

pub sheet_not_zeros : ShutsOut asks (writes (λ t. zero_sheet (shown t)))
unfolding sheet_text section_text rows_text row_text figures_text digits_of written
sheet_not_zeros = shut_sheet (λ t. zero_sheet (shown t)) (zero_sheet small_sheet) 10 51 blanks (ap zero_sheet small_shown) refl refl

pub sheet_not_idle : ShutsOut asks (writes (λ t. idle_sheet (shown t)))
unfolding sheet_text section_text rows_text row_text figures_text digits_of written
sheet_not_idle = shut_sheet (λ t. idle_sheet (shown t)) (idle_sheet small_sheet) 10 51 blanks (ap idle_sheet small_shown) refl refl

pub sheet_not_made_up : ShutsOut asks (writes (λ t. made_up (shown t)))
unfolding sheet_text section_text rows_text row_text figures_text digits_of written
sheet_not_made_up = shut_sheet (λ t. made_up (shown t)) (made_up small_sheet) 30 49 blanks (ap made_up small_shown) refl refl

-- C's idle tick is not yet there
pub sheet_not_later : ShutsOut asks (writes next_sheet)
unfolding sheet_text section_text rows_text row_text figures_text digits_of written
sheet_not_later = shut_sheet next_sheet later_sheet 12 48 blanks later_shown refl refl
