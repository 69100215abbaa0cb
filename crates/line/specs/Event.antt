-- Event lines: "seven fields or eight, separated by commas: time, source, source instance, type, target, target instance, event, note".
use Rattle.std.specs.Prelude.{◌≡◌, ℕ, Bool, true, false, not, ◌&&◌, ◌||◌, cond, List, eqb, length, None, Some, Option}
use Rattle.text.specs.Name.{all_name_bytes, is_name}
use Rattle.text.specs.Number.{number_of}
use Rattle.text.specs.Sizes.{max_time}
use Rattle.words.specs.declared.kind.Kind.{Kind}
use Rattle.words.specs.declared.action.Action.{Action}
use Rattle.words.specs.Pair.{named_by}
use Rattle.fields.specs.Part.{parts_of, field_of}
use Rattle.forms.specs.Note.{max_instance, note_of}
use Rattle.forms.specs.Rule.{rule_broken}
use Rattle.line.specs.declared.event.Event.{Event}
use Rattle.line.specs.declared.reading.Reading.{Reading}
use Rattle.line.specs.declared.reading.Reading.TheVariants.{EventLine, Refused}

-- ---- the three numbers

abbrev pub numbers_as : Option ℕ → Option ℕ → Option ℕ → Option (ℕ × ℕ × ℕ)
numbers_as None f t = None
numbers_as (Some n) None t = None
numbers_as (Some n) (Some f) None = None
numbers_as (Some n) (Some f) (Some t) = Some (n, f, t)

unfoldable pub numbers_of : List ℕ → List ℕ → List ℕ → Option (ℕ × ℕ × ℕ)
numbers_of time from to = numbers_as (number_of time max_time) (number_of from max_instance) (number_of to max_instance)

-- ---- the names; "any eighth field needs a name's bytes and length"

unfoldable pub has_names : List ℕ → List ℕ → List ℕ → Bool → Bool
has_names source target note noted = is_name source && (is_name target && (not noted || is_name note))

-- every byte of these fields may stand in a name, as in those of a line whose bytes are all plain
pub record PlainFields (source target note : List ℕ) : Type 0 where
  pub source_bytes : all_name_bytes source ≡ true
  pub target_bytes : all_name_bytes target ≡ true
  pub note_bytes : all_name_bytes note ≡ true

-- ---- what the fields say: first 5, then 6, then 5 for the note's closer form ("tested only where type and event are known"), then 7

abbrev pub event_of : ℕ → ℕ → Kind → ℕ → Action → Event
event_of time from k to a = record { time = time; source_instance = from; kind = k; target_instance = to; action = a }

abbrev pub ruled : Option ℕ → Bool → Event → Reading
ruled None broken e = Refused 5
ruled (Some count) true e = Refused 7
ruled (Some count) false e = EventLine e count

unfoldable pub known_reading : Kind → Action → ℕ → List ℕ → ℕ → List ℕ → ℕ → List ℕ → Reading
known_reading k a time source from target to note = ruled (note_of k note) (rule_broken k a source from target to note) (event_of time from k to a)

abbrev pub pair_reading : Option (Kind × Action) → ℕ → List ℕ → ℕ → List ℕ → ℕ → List ℕ → Reading
pair_reading (Some (k, a)) time source from target to note = known_reading k a time source from target to note
pair_reading None time source from target to note = Refused 6

abbrev pub numbers_reading : Option (ℕ × ℕ × ℕ) → Option (Kind × Action) → List ℕ → List ℕ → List ℕ → Reading
numbers_reading (Some (time, from, to)) p source target note = pair_reading p time source from target to note
numbers_reading None p source target note = Refused 5

unfoldable pub fields_reading : List ℕ → List ℕ → List ℕ → List ℕ → List ℕ → List ℕ → List ℕ → List ℕ → Bool → Reading
fields_reading time source from kind target to action note noted =
    cond (has_names source target note noted) (numbers_reading (numbers_of time from to) (named_by kind action) source target note) (Refused 5)

unfoldable pub event_reading : List ℕ → Reading
event_reading l =
    cond (eqb (length (parts_of l)) 7 || eqb (length (parts_of l)) 8)
    (fields_reading
    (field_of l 1)
    (field_of l 2)
    (field_of l 3)
    (field_of l 4)
    (field_of l 5)
    (field_of l 6)
    (field_of l 7)
    (field_of l 8)
    (eqb (length (parts_of l)) 8))
    (Refused 5)
