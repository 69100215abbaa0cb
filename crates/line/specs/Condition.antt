-- Document 01's table of numbered answers as the reader gives them from its line alone: one condition for each number.
use Rattle.std.specs.Prelude.{ℕ, Bool, true, false, not, ◌&&◌, ◌||◌, List, [], ◌∷◌, eqb, leb, ltb, length, None, Some, Option, is_none}
use Rattle.text.specs.Name.{is_name}
use Rattle.text.specs.Number.{number_of}
use Rattle.text.specs.Sizes.{max_time}
use Rattle.words.specs.declared.kind.Kind.{Kind}
use Rattle.words.specs.declared.action.Action.{Action}
use Rattle.words.specs.declared.scale.Scale.{Scale}
use Rattle.words.specs.Pair.{named_by}
use Rattle.fields.specs.Part.{parts_of, field_of}
use Rattle.forms.specs.Note.{max_instance, note_of}
use Rattle.forms.specs.Rule.{rule_broken}
use Rattle.line.specs.Parameter.{is_version, is_version_line, is_comment, time_scale, is_creator, is_creation_date}
use Rattle.line.specs.Reading.{line_most, has_break, is_event_line}
use Rattle.line.specs.Answer.{Test, test, holds}

-- 1: "line too long, byte 10 or 13 inside"
unfoldable pub refuses1 : List ℕ → Bool
refuses1 l = ltb line_most (length l) || has_break l

-- 2: "a `#version` line of other text"
unfoldable pub refuses2 : List ℕ → Bool
refuses2 l = is_version_line l && not (is_version l)

-- 3: "other parameter unknown, malformed"
abbrev pub is_scale : Option Scale → Bool
is_scale (Some s) = true
is_scale None = false

unfoldable pub refuses3 : List ℕ → Bool
refuses3 l = not (is_event_line l) && not (is_version_line l || (is_comment l || (is_scale (time_scale l) || (is_creator l || is_creation_date l))))

-- 5: "field count, number, name or note form wrong or out of size"
unfoldable pub count_wrong : List ℕ → Bool
count_wrong l = not (eqb (length (parts_of l)) 7 || eqb (length (parts_of l)) 8)

abbrev pub is_value : Option ℕ → Bool
is_value (Some v) = true
is_value None = false

unfoldable pub number_wrong : List ℕ → Bool
number_wrong l = not (is_value (number_of (field_of l 1) max_time) && (is_value (number_of (field_of l 3) max_instance) && is_value (number_of (field_of l 6) max_instance)))

unfoldable pub name_wrong : List ℕ → Bool
name_wrong l = not (is_name (field_of l 2) && is_name (field_of l 5))

-- "Any eighth field needs a name's bytes and length, else 5; a closer form is tested only where type and event are known."
abbrev pub closer_wrong : Option (Kind × Action) → List ℕ → Bool
closer_wrong (Some (k, a)) note = is_none (note_of k note)
closer_wrong None note = false

unfoldable pub note_wrong : List ℕ → Bool
note_wrong l = (leb 8 (length (parts_of l)) && not (is_name (field_of l 8))) || closer_wrong (named_by (field_of l 4) (field_of l 7)) (field_of l 8)

unfoldable pub refuses5 : List ℕ → Bool
refuses5 l = is_event_line l && (count_wrong l || (number_wrong l || (name_wrong l || note_wrong l)))

-- 6: "type unknown, or event not one of that type"
abbrev pub is_unknown : Option (Kind × Action) → Bool
is_unknown (Some (k, a)) = false
is_unknown None = true

unfoldable pub refuses6 : List ℕ → Bool
refuses6 l = is_event_line l && is_unknown (named_by (field_of l 4) (field_of l 7))

-- 7: "source, instance or note presence rule broken"
abbrev pub instance_at : Option ℕ → ℕ
instance_at (Some v) = v
instance_at None = 0

abbrev pub pair_broken : Option (Kind × Action) → List ℕ → ℕ → List ℕ → ℕ → List ℕ → Bool
pair_broken (Some (k, a)) source from target to note = rule_broken k a source from target to note
pair_broken None source from target to note = false

unfoldable pub refuses7 : List ℕ → Bool
refuses7 l =
    is_event_line l
    && pair_broken
    (named_by (field_of l 4) (field_of l 7))
    (field_of l 2)
    (instance_at (number_of (field_of l 3) max_instance))
    (field_of l 5)
    (instance_at (number_of (field_of l 6) max_instance))
    (field_of l 8)

-- the table, in the order of its numbers; 4 and 8 to 14 need the lines before, 15 and 16 an output or a table
abbrev pub reader_tests : List ℕ → List Test
reader_tests l =
    test 1 (refuses1 l) ∷ test 2 (refuses2 l) ∷ test 3 (refuses3 l) ∷ test 5 (refuses5 l) ∷ test 6 (refuses6 l) ∷ test 7 (refuses7 l) ∷ []

-- whether the condition of number n holds
unfoldable pub condition_of : ℕ → List ℕ → Bool
condition_of n l = holds n (reader_tests l)
