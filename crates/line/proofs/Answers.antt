-- Document 01's table holds of the reader: it answers the lowest number whose condition holds of the line, and 0 exactly where none does.
use Rattle.std.proofs.Common.{is_none, None, Some, Option}
use mathlib.Core.Path.{◌≡◌, refl, sym, ap, ◌∙◌}
use mathlib.Core.Bool.{Bool, true, false, not, ◌&&◌, ◌||◌, cond, or-true}
use mathlib.Core.Logic.{◌↔◌}
use mathlib.Core.List.{List, [], ◌∷◌}
use Prim.Native.Nat.{ℕ, ◌<◌}
use native.Mathlib.Omega.{arith}
use lib.Dec.{eqb, leb}
use lib.ListN.{length}
use borrow.Author.Tests.{eqb-true, le-leb, lt-leb}
use Rattle.text.specs.Literal.{bytes}
use Rattle.text.specs.Bytes.{same_bytes, starts_with}
use Rattle.text.specs.Name.{is_name}
use Rattle.text.specs.Number.{number_of}
use Rattle.text.specs.Sizes.{max_time}
use Rattle.text.proofs.Bools.{is_false}
use Rattle.text.proofs.Words.{same_eq, starts_split}
use Rattle.words.specs.declared.kind.Kind.{Kind}
use Rattle.words.specs.declared.action.Action.{Action}
use Rattle.words.specs.declared.scale.Scale.{Scale}
use Rattle.words.specs.Pair.{named_by}
use Rattle.fields.specs.Part.{parts_of, field_of}
use Rattle.forms.specs.Note.{max_instance, note_of}
use Rattle.forms.specs.Rule.{rule_broken}
use Rattle.line.specs.declared.event.Event.{Event}
use Rattle.line.specs.declared.reading.Reading.{Reading}
use Rattle.line.specs.declared.reading.Reading.TheVariants.{Version, Comment, Creator, CreationDate, Refused}
use Rattle.line.specs.Parameter.{is_version, is_version_line, is_comment, time_scale, is_creator, is_creation_date, scale_or, other_reading, parameter_reading}
use Rattle.line.specs.Event.{numbers_as, numbers_of, has_names, event_of, ruled, known_reading, pair_reading, numbers_reading, fields_reading, event_reading}
use Rattle.line.specs.Reading.{is_event_line, read_line, answer_of}
use Rattle.line.specs.Answer.{Test, test, lowest}
use Rattle.line.specs.Condition.{
  refuses1,
  refuses2,
  is_scale,
  refuses3,
  count_wrong,
  is_value,
  number_wrong,
  name_wrong,
  closer_wrong,
  note_wrong,
  refuses5,
  is_unknown,
  refuses6,
  instance_at,
  pair_broken,
  refuses7,
  reader_tests,
  condition_of,
}
use Rattle.line.proofs.Lowest.{lowest_exactly, lowest_none}

-- ---- event lines: 5, 6 and 7, from the last test of the reading to the first

known_lowest : (n : Option ℕ) (broken : Bool) (e : Event) → answer_of (ruled n broken e) ≡ lowest (test 5 (is_none n) ∷ test 6 false ∷ test 7 broken ∷ [])
unfolding answer_of
known_lowest None broken e = refl
known_lowest (Some count) true e = refl
known_lowest (Some count) false e = refl

pair_lowest : (p : Option (Kind × Action)) (time : ℕ) (source : List ℕ) (from : ℕ) (target : List ℕ) (to : ℕ) (note : List ℕ)
    → answer_of (pair_reading p time source from target to note)
    ≡ lowest (test 5 (closer_wrong p note) ∷ test 6 (is_unknown p) ∷ test 7 (pair_broken p source from target to note) ∷ [])
unfolding answer_of known_reading
pair_lowest (Some (k, a)) time source from target to note =
    known_lowest (note_of k note) (rule_broken k a source from target to note) (event_of time from k to a)
pair_lowest None time source from target to note = refl

numbers_lowest : (t f g : Option ℕ) (p : Option (Kind × Action)) (source target note : List ℕ)
    → answer_of (numbers_reading (numbers_as t f g) p source target note)
    ≡ lowest
    (test 5 (not (is_value t && (is_value f && is_value g)) || closer_wrong p note)
    ∷ test 6 (is_unknown p)
    ∷ test 7 (pair_broken p source (instance_at f) target (instance_at g) note)
    ∷ [])
unfolding answer_of
numbers_lowest None f g p source target note = refl
numbers_lowest (Some t) None g p source target note = refl
numbers_lowest (Some t) (Some f) None p source target note = refl
numbers_lowest (Some t) (Some f) (Some g) p source target note = pair_lowest p t source f target g note

-- a test before a reading, which refuses with 5
five_before : (b wrong : Bool) (r : Reading) (ts : List Test) → answer_of r ≡ lowest (test 5 wrong ∷ ts) → answer_of (cond b r (Refused 5)) ≡ lowest (test 5 (cond b wrong true) ∷ ts)
unfolding answer_of
five_before true wrong r ts e = e
five_before false wrong r ts e = refl

-- the names: source, target and, where it is noted, the note
names_five : (source target note noted number closer : Bool)
    → cond (source && (target && (not noted || note))) (number || closer) true
    ≡ number || (not (source && target) || ((noted && not note) || closer))
names_five false target note noted number closer = sym (or-true number)
names_five true false note noted number closer = sym (or-true number)
names_five true true note false number closer = refl
names_five true true true true number closer = refl
names_five true true false true number closer = sym (or-true number)

-- of seven parts or eight, those that are eight or more are eight
eight_of : (n : ℕ) (x y : Bool) → eqb n 7 ≡ x → eqb n 8 ≡ y → x || y ≡ true → y ≡ leb 8 n
eight_of n x true p q e = let r = eqb-true n 8 q in sym (le-leb 8 n (omega arith))
eight_of n true false p q e = let r = eqb-true n 7 p in sym (lt-leb 8 n (omega arith))
eight_of n false false p q e = cc

-- the count, before what is asked of the fields
count_five : (n : ℕ) (b : Bool) (f : Bool → Bool) → (eqb n 7 || eqb n 8) ≡ b → cond b (f (eqb n 8)) true ≡ not b || f (leb 8 n)
count_five n true f e = ap f (eight_of n (eqb n 7) (eqb n 8) refl refl e)
count_five n false f e = refl

-- what 5 asks of the fields, where `noted` tells whether there is an eighth; and 6 and 7
abbrev asked : List ℕ → Bool → Bool
asked l noted =
    number_wrong l || (name_wrong l || ((noted && not (is_name (field_of l 8))) || closer_wrong (named_by (field_of l 4) (field_of l 7)) (field_of l 8)))

abbrev later : List ℕ → List Test
later l =
    test 6 (is_unknown (named_by (field_of l 4) (field_of l 7)))
    ∷ test 7
    (pair_broken
    (named_by (field_of l 4) (field_of l 7))
    (field_of l 2)
    (instance_at (number_of (field_of l 3) max_instance))
    (field_of l 5)
    (instance_at (number_of (field_of l 6) max_instance))
    (field_of l 8))
    ∷ []

abbrev fields_of : List ℕ → Bool → Reading
fields_of l noted =
    fields_reading (field_of l 1) (field_of l 2) (field_of l 3) (field_of l 4) (field_of l 5) (field_of l 6) (field_of l 7) (field_of l 8) noted

fields_lowest : (l : List ℕ) (noted : Bool) → answer_of (fields_of l noted) ≡ lowest (test 5 (asked l noted) ∷ later l)
unfolding fields_reading has_names numbers_of number_wrong name_wrong
fields_lowest l noted =
    let p = named_by (field_of l 4) (field_of l 7) in
    five_before
    (has_names (field_of l 2) (field_of l 5) (field_of l 8) noted)
    (number_wrong l || closer_wrong p (field_of l 8))
    (numbers_reading (numbers_of (field_of l 1) (field_of l 3) (field_of l 6)) p (field_of l 2) (field_of l 5) (field_of l 8))
    (later l)
    (numbers_lowest
    (number_of (field_of l 1) max_time)
    (number_of (field_of l 3) max_instance)
    (number_of (field_of l 6) max_instance)
    p
    (field_of l 2)
    (field_of l 5)
    (field_of l 8))
    ∙ ap (λ (w : Bool). lowest (test 5 w ∷ later l))
    (names_five (is_name (field_of l 2)) (is_name (field_of l 5)) (is_name (field_of l 8)) noted (number_wrong l) (closer_wrong p (field_of l 8)))

event_lowest : (l : List ℕ) → answer_of (event_reading l) ≡ lowest (test 5 (count_wrong l || (number_wrong l || (name_wrong l || note_wrong l))) ∷ later l)
unfolding event_reading count_wrong note_wrong
event_lowest l =
    let n = length (parts_of l) in
    five_before (eqb n 7 || eqb n 8) (asked l (eqb n 8)) (fields_of l (eqb n 8)) (later l) (fields_lowest l (eqb n 8))
    ∙ ap (λ (w : Bool). lowest (test 5 w ∷ later l)) (count_five n (eqb n 7 || eqb n 8) (asked l) refl)

-- ---- a version line starts with `#`

hash_first : (a b : Bool) (l : List ℕ) → same_bytes l (bytes "#version") ≡ a → starts_with l (bytes "#version ") ≡ b → a || b ≡ true → is_event_line l ≡ false
unfolding is_event_line
hash_first true b l p q e = rw (same_eq l (bytes "#version") p)
hash_first false true l p q e = rw (starts_split l (bytes "#version ") q)
hash_first false false l p q e = cc

event_no_version : (l : List ℕ) → is_event_line l ≡ true → is_version_line l ≡ false
unfolding is_version_line
event_no_version l e =
    is_false (is_version_line l) (λ h. let z : ◌≡◌ {A = ℕ} 0 1 = cc (hash_first (same_bytes l (bytes "#version")) (starts_with l (bytes "#version ")) l refl refl h) in omega arith)

version_is_line : (l : List ℕ) → is_version l ≡ true → is_version_line l ≡ true
unfolding is_version is_version_line same_bytes starts_with
version_is_line l e = rw (same_eq l (bytes "#version 2.2.0") e)

-- ---- the two sorts of lines: on an event line 2 and 3 do not apply, and 5 to 7 apply on no other

-- the table after its first row
abbrev others : List ℕ → List Test
others l = test 2 (refuses2 l) ∷ test 3 (refuses3 l) ∷ test 5 (refuses5 l) ∷ test 6 (refuses6 l) ∷ test 7 (refuses7 l) ∷ []

event_answer : (l : List ℕ) → is_event_line l ≡ true → answer_of (event_reading l) ≡ lowest (others l)
unfolding refuses2 refuses3 refuses5 refuses6 refuses7
event_answer l e = rw (event_no_version l e, e) (event_lowest l)

parameter_lowest : (v line comment : Bool) (s : Option Scale) (creator date : Bool) → (v ≡ true → line ≡ true)
    → answer_of (cond v Version (cond line (Refused 2) (cond comment Comment (scale_or s (cond creator Creator (cond date CreationDate (Refused 3)))))))
    ≡ lowest (test 2 (line && not v) ∷ test 3 (not (line || (comment || (is_scale s || (creator || date))))) ∷ [])
unfolding answer_of
parameter_lowest true true comment s creator date h = refl
parameter_lowest true false comment s creator date h = let z : false ≡ true = h refl in cc
parameter_lowest false true comment s creator date h = refl
parameter_lowest false false true s creator date h = refl
parameter_lowest false false false (Some s) creator date h = refl
parameter_lowest false false false None true date h = refl
parameter_lowest false false false None false true h = refl
parameter_lowest false false false None false false h = refl

parameter_answer : (l : List ℕ) → is_event_line l ≡ false → answer_of (parameter_reading l) ≡ lowest (others l)
unfolding parameter_reading other_reading refuses2 refuses3 refuses5 refuses6 refuses7
parameter_answer l e =
    rw e (parameter_lowest (is_version l) (is_version_line l) (is_comment l) (time_scale l) (is_creator l) (is_creation_date l) (version_is_line l))

-- ---- the table

line_answer : (l : List ℕ) (one event : Bool) → is_event_line l ≡ event
    → answer_of (cond one (Refused 1) (cond event (event_reading l) (parameter_reading l))) ≡ lowest (test 1 one ∷ others l)
unfolding answer_of
line_answer l true event e = refl
line_answer l false true e = event_answer l e
line_answer l false false e = parameter_answer l e

pub answer_lowest : (l : List ℕ) → answer_of (read_line l) ≡ lowest (reader_tests l)
unfolding read_line refuses1
answer_lowest l = line_answer l (refuses1 l) (is_event_line l) refl

-- the reader answers a number exactly when its condition holds and none lower does
pub answers_exactly : (l : List ℕ) (n : ℕ) → 0 < n → (answer_of (read_line l) ≡ n) ↔ ((condition_of n l ≡ true) × ((m : ℕ) → m < n → condition_of m l ≡ false))
unfolding condition_of
answers_exactly l n pos = rw (answer_lowest l) (lowest_exactly (reader_tests l) refl n pos)

-- and 0 exactly when none does
pub answers_none : (l : List ℕ) → (answer_of (read_line l) ≡ 0) ↔ ((m : ℕ) → condition_of m l ≡ false)
unfolding condition_of
answers_none l = rw (answer_lowest l) (lowest_none (reader_tests l) refl)
