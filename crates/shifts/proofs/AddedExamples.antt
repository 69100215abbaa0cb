-- What adding two texts comes to, as one statement over one list: sums, and one on each side of each refusal.
use mathlib.Core.Path.{◌≡◌, refl}
use mathlib.Core.Bool.{Bool, true, false}
use mathlib.Core.List.{List, [], ◌∷◌, ◌++◌}
use Prim.Native.Nat.{ℕ, zero, suc, ◌+◌, ◌/◌, ◌%◌}
use Prim.Native.String.{String}
use lib.Dec.{eqb}
use lib.ListN.{set}
use Rattle.text.specs.Literal.{bytes}
use Rattle.text.specs.Bytes.{same_bytes, starts_with, to_byte}
use Rattle.text.specs.Name.{is_name, all_name_bytes, is_name_byte}
use Rattle.text.specs.Number.{digits_of}
use Rattle.text.specs.Pieces.{pieces}
use Rattle.text.specs.Lists.{all}
use Rattle.words.specs.Named.{pick}
use Rattle.words.specs.Scale.{scale_of, scale_word}
use Rattle.bill.specs.Scale.{scale_number, scale_text}
use Rattle.bill.specs.Text.{figures_text, row_text, rows_text, section_text, sheet_text}
use Rattle.bill.specs.Verdict.{accepted_text}
use Rattle.bill.specs.Reading.{bill_text, scale_in, span_in, head_exact, count_in, count_exact, row_from, row_exact, bill_from, form_tests, read_sheet}
use Rattle.sorting.specs.Order.{order}
use Rattle.sorting.specs.Sets.{insert_by, gather_by}
use Rattle.shifts.specs.Sound.{names, too_many, shape_tests, sum_tests, malformed, unsound, sound_sheet}
use Rattle.shifts.specs.Sum.{rows_of, figures_of, add_rows, sum, clash, refusal, Total, Text, Refusal, add_texts}
use Rattle.shifts.proofs.Nothing.{nothing}

-- a text by its lines, each with its end
abbrev pub text : List String → List ℕ
text [] = []
text (l ∷ ls) = bytes l ++ 10 ∷ text ls

-- two texts, and what adding them comes to
record Example : Type 0 where
  one : List ℕ
  other : List ℕ
  is : Total

abbrev adds : List ℕ → List ℕ → Total → Example
adds t u r = record { one = t; other = u; is = r }

-- ---- two shifts

abbrev pub early : List String
early = "verdict 0 line 0 scale ns span 10" ∷ "cores 2" ∷ "c2 4 6 0" ∷ "c1 1 0 9" ∷ "processes 1" ∷ "T 5" ∷ []

abbrev pub late : List String
late = "verdict 0 line 0 scale ns span 7" ∷ "cores 2" ∷ "c3 7 0 0" ∷ "c2 2 5 0" ∷ "processes 2" ∷ "T 0" ∷ "A 9" ∷ []

abbrev pub both : List String
both = "verdict 0 line 0 scale ns span 17" ∷ "cores 3" ∷ "c1 1 0 16" ∷ "c2 6 11 0" ∷ "c3 7 0 10" ∷ "processes 2" ∷ "A 9" ∷ "T 5" ∷ []

-- the first shift with another line k, counted from 0
abbrev pub with : ℕ → String → List ℕ
with k l = text (set early k l)

-- no cores and no processes
abbrev pub bare : String → List ℕ
bare head = text (head ∷ "cores 0" ∷ "processes 0" ∷ [])

-- cores alone, and processes alone
abbrev pub cores : List String → List ℕ
cores ls = text ("verdict 0 line 0 scale ns span 0" ∷ ls) ++ text ("processes 0" ∷ [])

abbrev pub processes : List String → List ℕ
processes ls = text ("verdict 0 line 0 scale ns span 0" ∷ "cores 0" ∷ ls)

-- k rows in order, of names that are a letter and three digits, numbered from n on
abbrev rows : ℕ → ℕ → ℕ → String → List ℕ → List ℕ
rows letter n zero figures rest = rest
rows letter n (suc k) figures rest =
    let i = n + k in
    rows letter n k figures (letter ∷ (48 + i / 100) ∷ (48 + i / 10 % 10) ∷ (48 + i % 10) ∷ bytes figures ++ 10 ∷ rest)

abbrev pub cores_from : ℕ → ℕ → String → List ℕ
cores_from n k title = text ("verdict 0 line 0 scale ns span 0" ∷ title ∷ []) ++ rows 99 n k " 0 0 0" (text ("processes 0" ∷ []))

abbrev pub processes_from : ℕ → ℕ → String → List ℕ
processes_from n k title = text ("verdict 0 line 0 scale ns span 0" ∷ "cores 0" ∷ title ∷ []) ++ rows 112 n k " 0" []

-- 21, where it stands first and where it stands second
abbrev refused : List ℕ → Example
refused t = adds t (text late) (Refusal 21)

abbrev refused_after : List ℕ → Example
refused_after u = adds (text late) u (Refusal 21)

abbrev examples : List Example
examples =
    -- "add two: spans, figures of equal names, with cores and processes sorted by name bytes. A core missing from one sheet gets that sheet's span as unknown"
    adds (text early) (text late) (Text (text both))
    ∷ adds (text late) (text early) (Text (text both))
    ∷ adds (text early) (text early) (Text (text ("verdict 0 line 0 scale ns span 20" ∷ "cores 2" ∷ "c1 2 0 18" ∷ "c2 8 12 0" ∷ "processes 1" ∷ "T 10" ∷ [])))
    ∷ adds nothing nothing (Text nothing)
    ∷ adds nothing (text early) (Text (text ("verdict 0 line 0 scale ns span 10" ∷ "cores 2" ∷ "c1 1 0 9" ∷ "c2 4 6 0" ∷ "processes 1" ∷ "T 5" ∷ [])))
    -- unsigned and from the front, a beginning before what continues it
    ∷ adds (processes ("processes 3" ∷ "ab 0" ∷ "B 0" ∷ "~ 0" ∷ [])) (processes ("processes 2" ∷ "aa 0" ∷ "a 0" ∷ []))
    (Text (processes ("processes 5" ∷ "B 0" ∷ "a 0" ∷ "aa 0" ∷ "ab 0" ∷ "~ 0" ∷ [])))
    -- 21: "a refused trace's line"; no line; one without its end; byte 13; a line more
    ∷ refused (text ("verdict 13 line 7" ∷ []))
    ∷ refused_after (text ("verdict 13 line 7" ∷ []))
    ∷ refused []
    ∷ refused_after []
    ∷ refused (processes [] ++ bytes "processes 0")
    ∷ refused (processes [] ++ bytes "processes 0" ++ 13 ∷ 10 ∷ [])
    ∷ refused (nothing ++ 10 ∷ [])
    ∷ refused_after (nothing ++ text ("T 0" ∷ []))
    -- the verdict's line
    ∷ refused (with 0 "verdict 0 line 0 scale m span 10")
    ∷ refused (with 0 "verdict 0 line 0 scale ns span 010")
    ∷ refused (with 0 "verdict 0 line 0 scale ns  span 10")
    ∷ refused (with 0 "verdict 0 line 0 scale ns span 10 ")
    ∷ refused (with 0 "verdict 0 line 1 scale ns span 10")
    -- counts that are not those of the rows
    ∷ refused (with 1 "cores 1")
    ∷ refused (with 1 "cores 3")
    ∷ refused (with 1 "cores 02")
    ∷ refused (with 4 "processes 0")
    ∷ refused_after (with 4 "processes 2")
    ∷ refused (with 4 "process 1")
    -- words of a row: a name and three figures, a name and one
    ∷ refused (with 2 "c2 4 6")
    ∷ refused (with 2 "c2 4 6 0 0")
    ∷ refused (with 2 "c2 4 6 00")
    ∷ refused (with 2 "c2 +4 6 0")
    ∷ refused (with 2 "c2  4 6 0")
    ∷ refused (with 2 "c,2 4 6 0")
    ∷ refused (with 2 " 4 6 0")
    ∷ refused (processes ("processes 1" ∷ "T" ∷ []))
    ∷ refused (with 5 "T 5 0")
    ∷ refused (with 5 "T,5 5")
    -- a name of 65 bytes, and one of 64
    ∷ refused (processes ("processes 1" ∷ "T234567890123456789012345678901234567890123456789012345678901234_ 0" ∷ []))
    ∷ adds (processes ("processes 1" ∷ "T234567890123456789012345678901234567890123456789012345678901234 0" ∷ [])) nothing
    (Text (processes ("processes 1" ∷ "T234567890123456789012345678901234567890123456789012345678901234 0" ∷ [])))
    -- "a name listed twice"
    ∷ refused (cores ("cores 2" ∷ "c 0 0 0" ∷ "c 0 0 0" ∷ []))
    ∷ refused_after (processes ("processes 2" ∷ "T 0" ∷ "T 0" ∷ []))
    ∷ refused (with 5 "c1 5")
    -- "more than 64 cores or 256 names"
    ∷ refused (cores_from 0 65 "cores 65")
    ∷ adds (cores_from 0 64 "cores 64") nothing (Text (cores_from 0 64 "cores 64"))
    ∷ refused (processes_from 0 257 "processes 257")
    ∷ adds (processes_from 0 256 "processes 256") nothing (Text (processes_from 0 256 "processes 256"))
    -- "a span above 2^56 − 1"
    ∷ refused (bare "verdict 0 line 0 scale ns span 72057594037927936")
    ∷ adds (bare "verdict 0 line 0 scale ns span 72057594037927935") nothing (Text (bare "verdict 0 line 0 scale ns span 72057594037927935"))
    -- "a core's three figures not making the span"
    ∷ refused (with 3 "c1 1 0 8")
    ∷ refused_after (with 3 "c1 1 0 10")
    ∷ refused (with 0 "verdict 0 line 0 scale ns span 9")
    -- "charges not making all held ticks", in numbers of any size
    ∷ refused (with 5 "T 4")
    ∷ refused_after (with 5 "T 6")
    ∷ refused (with 5 "T 18446744073709551621")
    -- 22: "scales differ"
    ∷ adds (bare "verdict 0 line 0 scale us span 1") (bare "verdict 0 line 0 scale ns span 1") (Refusal 22)
    ∷ adds (bare "verdict 0 line 0 scale s span 1") (bare "verdict 0 line 0 scale s span 1") (Text (bare "verdict 0 line 0 scale s span 2"))
    -- 23: "a name a core in one and a process in the other", either way round
    ∷ adds (text early) (processes ("processes 1" ∷ "c1 0" ∷ [])) (Refusal 23)
    ∷ adds (processes ("processes 1" ∷ "c1 0" ∷ [])) (text early) (Refusal 23)
    ∷ adds (cores ("cores 1" ∷ "x 0 0 0" ∷ [])) (processes ("processes 1" ∷ "y 0" ∷ []))
    (Text (text ("verdict 0 line 0 scale ns span 0" ∷ "cores 1" ∷ "x 0 0 0" ∷ "processes 1" ∷ "y 0" ∷ [])))
    -- 24: "more than 64 cores or 256 names", of the sum
    ∷ adds (cores_from 0 40 "cores 40") (cores_from 24 40 "cores 40") (Text (cores_from 0 64 "cores 64"))
    ∷ adds (cores_from 0 40 "cores 40") (cores_from 25 40 "cores 40") (Refusal 24)
    ∷ adds (processes_from 0 128 "processes 128") (processes_from 128 128 "processes 128") (Text (processes_from 0 256 "processes 256"))
    ∷ adds (processes_from 0 128 "processes 128") (processes_from 128 129 "processes 129") (Refusal 24)
    -- 25: "summed span above 2^56 − 1"
    ∷ adds (bare "verdict 0 line 0 scale ns span 72057594037927935") (bare "verdict 0 line 0 scale ns span 1") (Refusal 25)
    ∷ adds (bare "verdict 0 line 0 scale ns span 72057594037927934") (bare "verdict 0 line 0 scale ns span 1")
    (Text (bare "verdict 0 line 0 scale ns span 72057594037927935"))
    -- the first of several: 21 and 22, 22 and 23, 23 and 25, 24 and 25
    ∷ adds (with 0 "verdict 0 line 0 scale us span 9") (text late) (Refusal 21)
    ∷ adds (with 0 "verdict 0 line 0 scale us span 10") (processes ("processes 1" ∷ "c1 0" ∷ [])) (Refusal 22)
    ∷ adds (text early) (text ("verdict 0 line 0 scale ns span 72057594037927935" ∷ "cores 0" ∷ "processes 1" ∷ "c1 0" ∷ [])) (Refusal 23)
    ∷ adds (text ("verdict 0 line 0 scale ns span 72057594037927935" ∷ "cores 64" ∷ []) ++ rows 99 0 64 " 0 0 72057594037927935" (text ("processes 0" ∷ [])))
    (text ("verdict 0 line 0 scale ns span 1" ∷ "cores 1" ∷ "c 1 0 0" ∷ "processes 1" ∷ "T 1" ∷ [])) (Refusal 24)
    ∷ []

abbrev same : Total → Total → Bool
same (Text t) (Text u) = same_bytes t u
same (Text t) (Refusal n) = false
same (Refusal n) (Text u) = false
same (Refusal n) (Refusal m) = eqb n m

each : all (λ e. same (add_texts e.one e.other) e.is) examples ≡ true
unfolding add_texts sound_sheet read_sheet form_tests bill_from head_exact scale_in span_in count_in count_exact row_from row_exact starts_with same_bytes to_byte scale_of pick scale_word scale_number pieces unsound malformed shape_tests sum_tests too_many is_name all_name_bytes is_name_byte order refusal clash sum add_rows figures_of insert_by gather_by bill_text accepted_text scale_text digits_of sheet_text section_text rows_text row_text figures_text names rows_of
each = refl
