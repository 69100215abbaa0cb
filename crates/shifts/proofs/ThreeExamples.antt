-- What three sheets come to, as one statement over one list: together, and in all six orders and both groupings; and that grouping may change the
-- reason of a refusal.
use Rattle.std.proofs.Common.{Option, None, Some}
use mathlib.Core.Path.{◌≡◌, refl}
use mathlib.Core.Bool.{Bool, true, false, ◌&&◌}
use mathlib.Core.List.{List, [], ◌∷◌, ◌++◌}
use Prim.Native.Nat.{ℕ}
use lib.Dec.{eqb}
use Rattle.text.specs.Bytes.{same_bytes, starts_with, to_byte}
use Rattle.text.specs.Lists.{all}
use Rattle.text.specs.Name.{is_name, all_name_bytes, is_name_byte}
use Rattle.text.specs.Number.{digits_of}
use Rattle.text.specs.Pieces.{pieces}
use Rattle.words.specs.Named.{pick}
use Rattle.words.specs.Scale.{scale_of, scale_word}
use Rattle.bill.specs.Scale.{scale_number, scale_text}
use Rattle.bill.specs.Text.{figures_text, row_text, rows_text, section_text, sheet_text}
use Rattle.bill.specs.Verdict.{accepted_text}
use Rattle.bill.specs.Reading.{bill_text, scale_in, span_in, head_exact, count_in, count_exact, row_from, row_exact, bill_from, form_tests, read_sheet}
use Rattle.sorting.specs.Order.{order}
use Rattle.sorting.specs.Sets.{insert_by, gather_by}
use Rattle.shifts.specs.Sound.{names, too_many, shape_tests, sum_tests, malformed, unsound, sound_sheet}
use Rattle.shifts.specs.Sum.{rows_of, figures_of, add_rows, sum, clash, refusal, Total, Text, Refusal, add_texts}
use Rattle.shifts.specs.Many.{is_sound, alone}
use Rattle.shifts.specs.Together.{all_rows, sum_of, all_tests, together}
use Rattle.shifts.specs.Grouping.{Grouping, Sheet, Sum, comes_to, bytes_of}
use Rattle.shifts.proofs.Nothing.{nothing}
use Rattle.shifts.proofs.AddedExamples.{text, early, late, both, with, bare, cores, processes, cores_from}

-- three texts, and what they come to: bytes, or none where they are refused
record Example : Type 0 where
  first : List ℕ
  second : List ℕ
  third : List ℕ
  is : Option (List ℕ)

abbrev adds : List ℕ → List ℕ → List ℕ → Option (List ℕ) → Example
adds t u v o = record { first = t; second = u; third = v; is = o }

-- a third shift
abbrev night : List ℕ
night = text ("verdict 0 line 0 scale ns span 5" ∷ "cores 1" ∷ "c0 0 5 0" ∷ "processes 1" ∷ "B 0" ∷ [])

abbrev examples : List Example
examples =
    -- figures of equal names; a core missing from some sheets gets their spans as unknown
    adds (text early) (text late) night
    (Some (text ("verdict 0 line 0 scale ns span 22" ∷ "cores 4" ∷ "c0 0 5 17" ∷ "c1 1 0 21" ∷ "c2 6 11 5" ∷ "c3 7 0 15" ∷ "processes 3" ∷ "A 9" ∷ "B 0" ∷ "T 5" ∷ [])))
    ∷ adds (text early) nothing (text late) (Some (text both))
    -- one of them may not be added
    ∷ adds (text early) (text late) (with 5 "T 6") None
    -- one scale
    ∷ adds (bare "verdict 0 line 0 scale us span 1") (bare "verdict 0 line 0 scale us span 2") (bare "verdict 0 line 0 scale us span 3")
    (Some (bare "verdict 0 line 0 scale us span 6"))
    ∷ adds (bare "verdict 0 line 0 scale us span 1") (bare "verdict 0 line 0 scale us span 2") (bare "verdict 0 line 0 scale ms span 3") None
    -- a name a core in one and a process in another
    ∷ adds (text early) night (processes ("processes 1" ∷ "c1 0" ∷ [])) None
    ∷ adds (cores ("cores 1" ∷ "x 0 0 0" ∷ [])) nothing (processes ("processes 1" ∷ "x 0" ∷ [])) None
    -- 64 cores, and 65
    ∷ adds (cores_from 0 2 "cores 2") (cores_from 1 62 "cores 62") (cores_from 62 2 "cores 2") (Some (cores_from 0 64 "cores 64"))
    ∷ adds (cores_from 0 2 "cores 2") (cores_from 1 62 "cores 62") (cores_from 63 2 "cores 2") None
    -- the longest span, and a tick more
    ∷ adds (bare "verdict 0 line 0 scale ns span 24019198012642645") (bare "verdict 0 line 0 scale ns span 24019198012642645")
    (bare "verdict 0 line 0 scale ns span 24019198012642645") (Some (bare "verdict 0 line 0 scale ns span 72057594037927935"))
    ∷ adds (bare "verdict 0 line 0 scale ns span 24019198012642645") (bare "verdict 0 line 0 scale ns span 24019198012642645")
    (bare "verdict 0 line 0 scale ns span 24019198012642646") None
    ∷ []

abbrev groupings : List ℕ → List ℕ → List ℕ → List Grouping
groupings t u v = Sum (Sum (Sheet t) (Sheet u)) (Sheet v) ∷ Sum (Sheet t) (Sum (Sheet u) (Sheet v)) ∷ []

abbrev ways : List ℕ → List ℕ → List ℕ → List Grouping
ways t u v = groupings t u v ++ groupings t v u ++ groupings u t v ++ groupings u v t ++ groupings v t u ++ groupings v u t

abbrev same : Option (List ℕ) → Option (List ℕ) → Bool
same None None = true
same None (Some u) = false
same (Some t) None = false
same (Some t) (Some u) = same_bytes t u

abbrev right : Example → Bool
right e =
    same (together (e.first ∷ e.second ∷ e.third ∷ [])) e.is
    && all (λ g. same (bytes_of (comes_to g)) e.is) (ways e.first e.second e.third)

-- ---- the reason: the first two have two scales, the last two a name in both sections

abbrev refused_by : ℕ → Total → Bool
refused_by n (Text t) = false
refused_by n (Refusal m) = eqb m n

abbrev other_reason : Bool
other_reason =
    let t = bare "verdict 0 line 0 scale us span 1" in
    let u = text early in
    let v = processes ("processes 1" ∷ "c1 0" ∷ []) in
    refused_by 22 (comes_to (Sum (Sum (Sheet t) (Sheet u)) (Sheet v))) && refused_by 23 (comes_to (Sum (Sheet t) (Sum (Sheet u) (Sheet v))))

each : all right examples && other_reason ≡ true
unfolding together all_tests sum_of all_rows alone is_sound add_texts sound_sheet read_sheet form_tests bill_from head_exact scale_in span_in count_in count_exact row_from row_exact starts_with same_bytes to_byte scale_of pick scale_word scale_number pieces unsound malformed shape_tests sum_tests too_many is_name all_name_bytes is_name_byte order refusal clash sum add_rows figures_of insert_by gather_by bill_text accepted_text scale_text digits_of sheet_text section_text rows_text row_text figures_text names rows_of
each = refl
