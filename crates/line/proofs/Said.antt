-- What a line says that reads as an event: its fields are the event's numbers and words, its names are names, and the rules hold.
use Rattle.std.proofs.Common.{None, Some, Option, ap}
use mathlib.Core.Path.{◌≡◌, refl}
use mathlib.Core.Bool.{Bool, true, false, not, ◌||◌, cond, or-true, or-false}
use mathlib.Core.Logic.{◌⊎◌, inl, inr, ⊎_elim}
use mathlib.Core.List.{List, []}
use Prim.Native.Nat.{ℕ, ◌≤◌}
use native.Mathlib.Omega.{arith}
use lib.Dec.{eqb, ltb}
use lib.ListN.{length}
use borrow.Author.Tests.{eqb-true}
use Rattle.text.specs.Name.{is_name}
use Rattle.text.specs.Number.{digits_of, number_of}
use Rattle.text.specs.Sizes.{max_time}
use Rattle.text.specs.Lists.{is_empty}
use Rattle.text.proofs.Bools.{and_l, and_r, lt_or_ge}
use Rattle.text.proofs.Digits.{read_written}
use Rattle.words.specs.declared.kind.Kind.{Kind}
use Rattle.words.specs.declared.action.Action.{Action}
use Rattle.words.specs.declared.scale.Scale.{Scale}
use Rattle.words.specs.Kind.{kind_word}
use Rattle.words.specs.Action.{word_of, is_of}
use Rattle.words.specs.Pair.{named_by}
use Rattle.words.proofs.Found.{pair_words}
use Rattle.fields.specs.declared.part.Commas.{Commas}
use Rattle.fields.specs.Part.{parts_of, field_of, comma_at, commas_of}
use Rattle.fields.proofs.Parts.{field_missing, comma_missing}
use Rattle.forms.specs.Note.{max_instance, note_of}
use Rattle.forms.specs.Rule.{rule_broken}
use Rattle.line.specs.declared.event.Event.{Event}
use Rattle.line.specs.declared.reading.Reading.{Reading}
use Rattle.line.specs.declared.reading.Reading.TheVariants.{Version, Comment, TimeScale, Creator, CreationDate, EventLine, Refused}
use Rattle.line.specs.Parameter.{is_version, is_version_line, is_comment, time_scale, is_creator, is_creation_date, scale_or, other_reading, parameter_reading}
use Rattle.line.specs.Event.{numbers_as, numbers_of, has_names, ruled, known_reading, numbers_reading, fields_reading, event_reading}
use Rattle.line.specs.Reading.{line_most, has_break, is_event_line, read_line}
use Rattle.line.proofs.Events.{InOrder, in_order}

-- what document 01 asks of a record, an event with its source, target and note, and the count that the note means
pub record Allowed (e : Event) (source target note : List ℕ) (count : ℕ) : Type 0 where
  pub time_size : e.time ≤ max_time
  pub from_size : e.source_instance ≤ max_instance
  pub to_size : e.target_instance ≤ max_instance
  pub source_name : is_name source ≡ true
  pub target_name : is_name target ≡ true
  pub note_name : (is_empty note || is_name note) ≡ true
  pub of_kind : is_of e.kind e.action ≡ true
  pub means : note_of e.kind note ≡ Some count
  pub kept : rule_broken e.kind e.action source e.source_instance target e.target_instance note ≡ false

-- seven parts and no note, or eight and a name for a note
abbrev pub Noted : List ℕ → Type 0
Noted l = ((length (parts_of l) ≡ 7) × (field_of l 8 ≡ [])) ⊎ ((length (parts_of l) ≡ 8) × (is_name (field_of l 8) ≡ true))

pub record Said (l : List ℕ) (e : Event) (count : ℕ) : Type 0 where
  pub time_field : field_of l 1 ≡ digits_of e.time
  pub from_field : field_of l 3 ≡ digits_of e.source_instance
  pub kind_field : field_of l 4 ≡ kind_word e.kind
  pub to_field : field_of l 6 ≡ digits_of e.target_instance
  pub action_field : field_of l 7 ≡ word_of e.action
  pub noted : Noted l
  pub allowed : Allowed e (field_of l 2) (field_of l 5) (field_of l 8) count

-- ---- which readings are events

abbrev is_event : Reading → Bool
is_event Version = false
is_event Comment = false
is_event (TimeScale s) = false
is_event Creator = false
is_event CreationDate = false
is_event (EventLine e count) = true
is_event (Refused n) = false

neither : (b : Bool) (x y : Reading) → is_event x ≡ false → is_event y ≡ false → is_event (cond b x y) ≡ false
neither true x y p q = p
neither false x y p q = q

-- a parameter is none
scale_none : (s : Option Scale) (r : Reading) → is_event r ≡ false → is_event (scale_or s r) ≡ false
scale_none (Some s) r h = refl
scale_none None r h = h

parameter_none : (l : List ℕ) → is_event (parameter_reading l) ≡ false
unfolding parameter_reading other_reading
parameter_none l =
    neither (is_version l) _ _ refl
    (neither (is_version_line l) _ _ refl
    (neither (is_comment l) _ _ refl (scale_none (time_scale l) _ (neither (is_creator l) _ _ refl (neither (is_creation_date l) _ _ refl refl)))))

-- ---- one test after the other

module _ (e : Event) (count : ℕ) where
  -- a reading that is an event is none of the others
  clash : (r : Reading) → is_event r ≡ false → r ≡ EventLine e count → true ≡ false
  clash r n q = rw q at n

  first_of : (b : Bool) (x y : Reading) → is_event y ≡ false → cond b x y ≡ EventLine e count → (b ≡ true) × (x ≡ EventLine e count)
  first_of true x y n q = (refl, q)
  first_of false x y n q = let z = clash y n q in (cc, cc)

  second_of : (b : Bool) (x y : Reading) → is_event x ≡ false → cond b x y ≡ EventLine e count → y ≡ EventLine e count
  second_of true x y n q = let z = clash x n q in cc
  second_of false x y n q = q

  ruled_is : (n : Option ℕ) (b : Bool) (x : Event) → ruled n b x ≡ EventLine e count → (n ≡ Some count) × (b ≡ false) × (x ≡ e)
  ruled_is None b x q = (cc, cc, cc)
  ruled_is (Some c) true x q = (cc, cc, cc)
  ruled_is (Some c) false x q = (cc, refl, cc)

numbers_are : (n f t : Option ℕ) (x y z : ℕ) → numbers_as n f t ≡ Some (x, y, z) → (n ≡ Some x) × (f ≡ Some y) × (t ≡ Some z)
numbers_are None f t x y z q = (cc, cc, cc)
numbers_are (Some n) None t x y z q = (cc, cc, cc)
numbers_are (Some n) (Some f) None x y z q = (cc, cc, cc)
numbers_are (Some n) (Some f) (Some t) x y z q =
    let w : ◌≡◌ {A = ℕ × ℕ × ℕ} (n, f, t) (x, y, z) = cc in
    (ap (λ (p : ℕ × ℕ × ℕ). Some p.0) w, ap (λ (p : ℕ × ℕ × ℕ). Some p.1) w, ap (λ (p : ℕ × ℕ × ℕ). Some p.2) w)

-- ---- the parts

noted_at : (l : List ℕ) (b : Bool) → eqb (length (parts_of l)) 8 ≡ b → (eqb (length (parts_of l)) 7 || b) ≡ true → (not b || is_name (field_of l 8)) ≡ true → Noted l
noted_at l true p h k = inr (eqb-true (length (parts_of l)) 8 p, k)
noted_at l false p h k = let n = eqb-true (length (parts_of l)) 7 (rw or-false at h) in inl (n, field_missing l 7 (omega arith))

noted_name : (l : List ℕ) → Noted l → (is_empty (field_of l 8) || is_name (field_of l 8)) ≡ true
noted_name l (inl p) = rw p.1
noted_name l (inr p) = rw (p.1, or-true)

-- ---- the fields

-- what is known once the names are: the numbers, the words, and the rules
abbrev Fields : List ℕ → List ℕ → List ℕ → Event → ℕ → Option (ℕ × ℕ × ℕ) → Option (Kind × Action) → Type 0
Fields source target note e count ns p =
    (ns ≡ Some (e.time, e.source_instance, e.target_instance))
    × (p ≡ Some (e.kind, e.action))
    × (note_of e.kind note ≡ Some count)
    × (rule_broken e.kind e.action source e.source_instance target e.target_instance note ≡ false)

fields_are : (source target note : List ℕ) (e : Event) (count : ℕ) (ns : Option (ℕ × ℕ × ℕ)) (p : Option (Kind × Action)) → numbers_reading ns p source target note ≡ EventLine e count → Fields source target note e count ns p
unfolding known_reading
fields_are source target note e count (Some (t, f, g)) (Some (k, a)) q =
    let r = ruled_is e count (note_of k note) (rule_broken k a source f target g note) _ q in
    rw (← r.2) (refl, refl, r.0, r.1)
fields_are source target note e count (Some (t, f, g)) None q = (cc, cc, cc, cc)
fields_are source target note e count None p q = (cc, cc, cc, cc)

-- ---- the line

module _ (l : List ℕ) (e : Event) (count : ℕ) where
  line_event : read_line l ≡ EventLine e count → event_reading l ≡ EventLine e count
  unfolding read_line
  line_event q =
      let r = second_of e count (ltb line_most (length l) || has_break l) (Refused 1) (cond (is_event_line l) (event_reading l) (parameter_reading l)) refl q in
      (first_of e count (is_event_line l) (event_reading l) (parameter_reading l) (parameter_none l) r).1

  said_fields : (eqb (length (parts_of l)) 7 || eqb (length (parts_of l)) 8) ≡ true
      → has_names (field_of l 2) (field_of l 5) (field_of l 8) (eqb (length (parts_of l)) 8) ≡ true
      → Fields (field_of l 2) (field_of l 5) (field_of l 8) e count (numbers_of (field_of l 1) (field_of l 3) (field_of l 6)) (named_by (field_of l 4) (field_of l 7))
      → Said l e count
  unfolding has_names numbers_of
  said_fields n names f =
      let v = numbers_are (number_of (field_of l 1) max_time) (number_of (field_of l 3) max_instance) (number_of (field_of l 6) max_instance) _ _ _ f.0 in
      let time = read_written (field_of l 1) max_time e.time v.0 in
      let from = read_written (field_of l 3) max_instance e.source_instance v.1 in
      let to = read_written (field_of l 6) max_instance e.target_instance v.2 in
      let words = pair_words (field_of l 4) (field_of l 7) e.kind e.action f.1 in
      let rest = and_r (is_name (field_of l 2)) _ names in
      let noted = noted_at l (eqb (length (parts_of l)) 8) refl n (and_r (is_name (field_of l 5)) _ rest) in
      record {
        time_field = time.0;
        from_field = from.0;
        kind_field = words.0;
        to_field = to.0;
        action_field = words.1;
        noted = noted;
        allowed = record {
          time_size = time.1;
          from_size = from.1;
          to_size = to.1;
          source_name = and_l (is_name (field_of l 2)) _ names;
          target_name = and_l (is_name (field_of l 5)) _ rest;
          note_name = noted_name l noted;
          of_kind = words.2;
          means = f.2;
          kept = f.3;
        };
      }

pub said : (l : List ℕ) (e : Event) (count : ℕ) → read_line l ≡ EventLine e count → Said l e count
unfolding event_reading fields_reading
said l e count q =
    let parts = first_of e count (eqb (length (parts_of l)) 7 || eqb (length (parts_of l)) 8) _ (Refused 5) refl (line_event l e count q) in
    let names = first_of e count (has_names (field_of l 2) (field_of l 5) (field_of l 8) (eqb (length (parts_of l)) 8)) _ (Refused 5) refl parts.1 in
    said_fields l e count parts.0 names.0 (fields_are (field_of l 2) (field_of l 5) (field_of l 8) e count (numbers_of (field_of l 1) (field_of l 3) (field_of l 6)) (named_by (field_of l 4) (field_of l 7)) names.1)

-- so it has six commas
six_commas : (l : List ℕ) → Noted l → length l ≤ comma_at l 5 → ⊥
six_commas l (inl n) h = omega (arith, n.0, comma_missing l 5 h)
six_commas l (inr n) h = omega (arith, n.0, comma_missing l 5 h)

pub event_order : (l : List ℕ) (e : Event) (count : ℕ) (c : Commas) → c ≡ commas_of l → read_line l ≡ EventLine e count → InOrder l c
event_order l e count c d q =
    in_order l c d (rw d (⊎_elim (λ h. h) (λ h. absurd (six_commas l (said l e count q).noted h)) (lt_or_ge (comma_at l 5) (length l))))
