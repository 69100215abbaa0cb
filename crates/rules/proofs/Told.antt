-- What a reading says of its line: which of the tests of a `#` line it passes, and whether it is an event line. One table, with a row for each reading:
-- no line begins with two of the keywords.
use Rattle.std.proofs.Common.{None, Some, Option}
use mathlib.Core.Path.{◌≡◌, refl, sym, subst, ◌∙◌}
use mathlib.Core.Bool.{Bool, true, false, ◌||◌, cond}
use mathlib.Core.List.{List, [], ◌∷◌, ◌++◌}
use Prim.Native.Nat.{ℕ}
use lib.Dec.{eqb, leb, ltb}
use lib.ListN.{length, drop}
use borrow.Author.Tests.{not-true}
use Rattle.text.specs.Literal.{bytes}
use Rattle.text.specs.Bytes.{same_bytes, starts_with}
use Rattle.text.proofs.Bools.{is_false}
use Rattle.text.proofs.Words.{same_eq, starts_split}
use Rattle.text.specs.Number.{number_of}
use Rattle.text.specs.Sizes.{max_time}
use Rattle.words.specs.declared.kind.Kind.{Kind}
use Rattle.words.specs.declared.action.Action.{Action}
use Rattle.words.specs.declared.scale.Scale.{Scale}
use Rattle.words.specs.Pair.{named_by}
use Rattle.words.specs.Scale.{scale_of}
use Rattle.fields.specs.Part.{parts_of, field_of}
use Rattle.forms.specs.Note.{max_instance, note_of}
use Rattle.forms.specs.Rule.{rule_broken}
use Rattle.forms.specs.Date.{is_moment}
use Rattle.line.specs.declared.event.Event.{Event}
use Rattle.line.specs.declared.reading.Reading.{Reading}
use Rattle.line.specs.declared.reading.Reading.TheVariants.{Version, Comment, TimeScale, Creator, CreationDate, EventLine, Refused}
use Rattle.line.specs.Parameter.{is_version, is_version_line, is_comment, time_scale, is_creator, is_creation_date, scale_or, other_reading, parameter_reading}
use Rattle.line.specs.Event.{numbers_as, numbers_of, has_names, event_of, ruled, known_reading, numbers_reading, fields_reading, event_reading}
use Rattle.line.specs.Reading.{is_event_line, read_line}
use Rattle.line.specs.Condition.{refuses1}
use Rattle.rules.proofs.Tests.{clash}

-- ---- the tests of a line, and the table

pub record Told : Type 0 where
  pub version : Bool
  pub version_line : Bool
  pub comment : Bool
  pub scale : Option Scale
  pub creator : Bool
  pub date : Bool
  pub event : Bool

abbrev told : Bool → Bool → Bool → Option Scale → Bool → Bool → Bool → Told
told v w c s k d e = record { version = v; version_line = w; comment = c; scale = s; creator = k; date = d; event = e }

unfoldable pub tests_of : List ℕ → Told
tests_of l = told (is_version l) (is_version_line l) (is_comment l) (time_scale l) (is_creator l) (is_creation_date l) (is_event_line l)

abbrev pub told_by : Reading → Told
told_by Version = told true true false None false false false
told_by Comment = told false false true None false false false
told_by (TimeScale s) = told false false false (Some s) false false false
told_by Creator = told false false false None true false false
told_by CreationDate = told false false false None false true false
told_by (EventLine e count) = told false false false None false false true
told_by (Refused n) = told false (eqb n 2) false None false false (leb 4 n)

-- ---- event lines: read, or refused with 5, 6 or 7

abbrev an_event : Told
an_event = told false false false None false false true

either : (b : Bool) (x y : Reading) → told_by x ≡ an_event → told_by y ≡ an_event → told_by (cond b x y) ≡ an_event
either true x y p q = p
either false x y p q = q

ruled_told : (n : Option ℕ) (b : Bool) (e : Event) → told_by (ruled n b e) ≡ an_event
ruled_told None b e = refl
ruled_told (Some count) true e = refl
ruled_told (Some count) false e = refl

numbers_told : (time from to : Option ℕ) (p : Option (Kind × Action)) (source target note : List ℕ) → told_by (numbers_reading (numbers_as time from to) p source target note) ≡ an_event
unfolding known_reading
numbers_told (Some n) (Some f) (Some t) (Some (k, a)) source target note = ruled_told (note_of k note) (rule_broken k a source f target t note) (event_of n f k t a)
numbers_told (Some n) (Some f) (Some t) None source target note = refl
numbers_told (Some n) (Some f) None p source target note = refl
numbers_told (Some n) None to p source target note = refl
numbers_told None from to p source target note = refl

event_told : (l : List ℕ) → told_by (event_reading l) ≡ an_event
unfolding event_reading fields_reading numbers_of
event_told l =
    let n = length (parts_of l) in
    either (eqb n 7 || eqb n 8) _ (Refused 5)
    (either (has_names (field_of l 2) (field_of l 5) (field_of l 8) (eqb n 8)) _ (Refused 5)
    (numbers_told
    (number_of (field_of l 1) max_time)
    (number_of (field_of l 3) max_instance)
    (number_of (field_of l 6) max_instance)
    (named_by (field_of l 4) (field_of l 7))
    (field_of l 2)
    (field_of l 5)
    (field_of l 8))
    refl)
    refl

event_tests : (l : List ℕ) → is_event_line l ≡ true → tests_of l ≡ an_event
unfolding tests_of is_event_line is_version is_version_line is_comment time_scale is_creator is_creation_date same_bytes starts_with
event_tests [] e = refl
event_tests (x ∷ l) e = rw (not-true (eqb x 35) e)

-- ---- the other lines, by the keyword that they begin with

abbrev Right : List ℕ → Type 0
Right l = tests_of l ≡ told_by (parameter_reading l)

by_version : (b : Bool) → told b true false None false false false ≡ told_by (cond b Version (Refused 2))
by_version true = refl
by_version false = refl

by_scale : (s : Option Scale) → told false false false s false false false ≡ told_by (scale_or s (Refused 3))
by_scale (Some s) = refl
by_scale None = refl

by_creator : (b : Bool) → told false false false None b false false ≡ told_by (cond b Creator (Refused 3))
by_creator true = refl
by_creator false = refl

by_date : (b : Bool) → told false false false None false b false ≡ told_by (cond b CreationDate (Refused 3))
by_date true = refl
by_date false = refl

-- a line that begins with a keyword begins with no other
record Keywords (rest : List ℕ) : Type 0 where
  bare : Right (bytes "#version")
  version : Right (bytes "#version " ++ rest)
  comment : Right (bytes "# " ++ rest)
  scale : Right (bytes "#timeScale " ++ rest)
  other_scale : Right (bytes "#timescale " ++ rest)
  creator : Right (bytes "#creator " ++ rest)
  date : Right (bytes "#creationDate " ++ rest)

keywords : (rest : List ℕ) → Keywords rest
unfolding tests_of is_event_line is_version is_version_line is_comment time_scale is_creator is_creation_date parameter_reading other_reading same_bytes starts_with
keywords rest = record {
  bare = refl;
  version = by_version (same_bytes rest (bytes "2.2.0"));
  comment = refl;
  scale = by_scale (scale_of rest);
  other_scale = by_scale (scale_of rest);
  creator = by_creator (ltb 9 (length (bytes "#creator " ++ rest)));
  date = by_date (is_moment rest);
}

module _ (l : List ℕ) where
  -- l begins with t, or goes on to the next keyword
  or_else : (t : List ℕ) → ((rest : List ℕ) → Right (t ++ rest)) → (starts_with l t ≡ false → Right l) → Right l
  or_else t f g = by_test (starts_with l t) refl
    where
      by_test : (b : Bool) → starts_with l t ≡ b → Right l
      by_test true q = subst Right (sym (starts_split l t q)) (f (drop (length t) l))
      by_test false q = g q

  -- no version line without `#version` and a blank
  no_version : starts_with l (bytes "#version ") ≡ false → is_version l ≡ false
  unfolding is_version starts_with same_bytes
  no_version q = is_false (is_version l) (λ v. clash (starts_with l (bytes "#version ")) (rw (same_eq l (bytes "#version 2.2.0") v)) q)

  none_told : is_event_line l ≡ false → starts_with l (bytes "#version ") ≡ false → starts_with l (bytes "# ") ≡ false → starts_with l (bytes "#timeScale ") ≡ false →
      starts_with l (bytes "#timescale ") ≡ false → starts_with l (bytes "#creator ") ≡ false → starts_with l (bytes "#creationDate ") ≡ false →
      (b : Bool) → same_bytes l (bytes "#version") ≡ b → Right l
  unfolding tests_of is_version_line is_comment time_scale is_creator is_creation_date parameter_reading other_reading
  none_told e v c s t k d true q = subst Right (sym (same_eq l (bytes "#version") q)) (keywords []).bare
  none_told e v c s t k d false q = rw (no_version v, q, v, c, s, t, k, d, e)

  parameter_told : is_event_line l ≡ false → Right l
  parameter_told e =
      or_else (bytes "#version ") (λ r. (keywords r).version) (λ v.
      or_else (bytes "# ") (λ r. (keywords r).comment) (λ c.
      or_else (bytes "#timeScale ") (λ r. (keywords r).scale) (λ s.
      or_else (bytes "#timescale ") (λ r. (keywords r).other_scale) (λ t.
      or_else (bytes "#creator ") (λ r. (keywords r).creator) (λ k.
      or_else (bytes "#creationDate ") (λ r. (keywords r).date) (λ d. none_told e v c s t k d (same_bytes l (bytes "#version")) refl))))))

-- ---- any line that 1 does not refuse

pub told_right : (l : List ℕ) → refuses1 l ≡ false → tests_of l ≡ told_by (read_line l)
unfolding read_line refuses1
told_right l q = rw q (by_sort (is_event_line l) refl)
  where
    by_sort : (b : Bool) → is_event_line l ≡ b → tests_of l ≡ told_by (cond b (event_reading l) (parameter_reading l))
    by_sort true e = event_tests l e ∙ sym (event_told l)
    by_sort false e = parameter_told l e
