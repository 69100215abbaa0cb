-- Document 01's examples of single lines, against the definitions: one list, one statement. Each line is read as it says, has the number
-- that it says, and, where it is an event line, is written back from what was read.
use Rattle.std.proofs.Common.{Option, None, Some, Ok}
use mathlib.Core.Path.{◌≡◌, refl}
use mathlib.Core.List.{List, [], ◌∷◌, map}
use Prim.Native.Nat.{ℕ}
use Prim.Native.String.{String}
use lib.ListN.{length, replicate}
use Rattle.text.specs.Literal.{bytes}
use Rattle.text.specs.Bytes.{same_bytes, starts_with}
use Rattle.text.specs.Pieces.{pieces}
use Rattle.text.specs.Name.{is_name_byte, all_name_bytes, is_name}
use Rattle.text.specs.Number.{number_of, digits_of}
use Rattle.text.specs.Put.{written}
use Rattle.words.specs.declared.kind.Kind.TheVariants.{Task}
use Rattle.words.specs.declared.action.Action.TheVariants.{Start}
use Rattle.words.specs.Named.{pick}
use Rattle.words.specs.Kind.{kind_word, kind_of}
use Rattle.words.specs.Action.{word_of, action_code, actions_of, action_of, among, is_of}
use Rattle.words.specs.Pair.{named_by}
use Rattle.fields.specs.Part.{parts_of, field_of}
use Rattle.forms.specs.Note.{note_of}
use Rattle.forms.specs.Rule.{is_process, zero_source, zero_target, is_own, source_broken, target_broken, own_broken, presence, note_broken, rule_broken}
use Rattle.line.specs.declared.event.Event.{Event}
use Rattle.line.specs.declared.reading.Reading.{Reading}
use Rattle.line.specs.declared.reading.Reading.TheVariants.{Version, Comment, TimeScale, Creator, CreationDate, EventLine, Refused}
use Rattle.line.specs.Parameter.{is_version, is_version_line, parameter_reading}
use Rattle.line.specs.Event.{event_of, numbers_of, has_names, known_reading, fields_reading, event_reading}
use Rattle.line.specs.Reading.{has_break, is_event_line, read_line, answer_of}
use Rattle.line.specs.Writing.{Wrote, wrote, name_field, number_field, note_text, text_of, has_sizes, has_instances, record_refusal, write_line, written_answer}

-- what becomes of a line: its reading, its number, and what writing it back into an output of its length gives: the writer's number, and
-- its answer with the output
pub record Outcome : Type 0 where
  pub reading : Reading
  pub answer : ℕ
  pub back : Option (ℕ × Wrote)

-- an event line is written back from what was read and its fields 2, 5 and 8
unfoldable pub back_of : List ℕ → Reading → Option (ℕ × Wrote)
back_of l (EventLine e count) = let w = write_line e (field_of l 2) (field_of l 5) (field_of l 8) (replicate (length l) 0) in Some (written_answer w.answer, w)
back_of l Version = None
back_of l Comment = None
back_of l (TimeScale s) = None
back_of l Creator = None
back_of l CreationDate = None
back_of l (Refused n) = None

unfoldable pub outcome_of : List ℕ → Outcome
outcome_of l = record { reading = read_line l; answer = answer_of (read_line l); back = back_of l (read_line l) }

-- ---- the examples

pub record Example : Type 0 where
  pub line : List ℕ
  pub becomes : Outcome

-- an event line that is taken is written back alike
abbrev pub event : String → Event → Example
event s e = record { line = bytes s; becomes = record { reading = EventLine e 0; answer = 0; back = Some (0, wrote (Ok (length (bytes s))) (bytes s)) } }

abbrev pub version : String → Example
version s = record { line = bytes s; becomes = record { reading = Version; answer = 0; back = None } }

abbrev pub refused : String → ℕ → Example
refused s n = record { line = bytes s; becomes = record { reading = Refused n; answer = n; back = None } }

abbrev pub lines : List Example
lines =
    event "100,Core_1,0,T,Task_A,0,start" (event_of 100 0 Task 0 Start)
    ∷ refused "100,Core_1,0,T,Task_A,0,start," 5
    ∷ refused "0100,Core_1,0,T,Task_A,0,start" 5
    ∷ event "72057594037927935,Core_1,0,T,Task_A,0,start" (event_of 72057594037927935 0 Task 0 Start)
    ∷ refused "72057594037927936,Core_1,0,T,Task_A,0,start" 5
    ∷ refused "100,Core_1,1,T,Task_A,0,start" 7
    ∷ refused "#version 2.1.5" 2
    ∷ version "#version 2.2.0"
    ∷ []

pub examples : map (λ x. outcome_of x.line) lines ≡ map (λ x. x.becomes) lines
unfolding outcome_of back_of read_line answer_of has_break is_event_line event_reading fields_reading has_names numbers_of known_reading pieces parts_of field_of note_of is_process zero_source zero_target is_own source_broken target_broken own_broken presence note_broken rule_broken is_version is_version_line parameter_reading same_bytes starts_with is_name_byte all_name_bytes is_name number_of digits_of written pick kind_word kind_of word_of action_code actions_of action_of among is_of named_by name_field number_field note_text text_of has_sizes has_instances record_refusal write_line written_answer
examples = refl
