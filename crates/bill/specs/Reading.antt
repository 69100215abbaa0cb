-- The bill that a text shows. 02, No. 2: "Read sheets as the program prints them". A sheet is the whole print of an accepted trace, and so is a sum:
-- exactly the bytes that the program could print. `Readings.print_read` and `Readings.read_print` say that this reading is that of `bill_text`.
use Rattle.std.specs.Prelude.{Bool, true, false, ◌&&◌, cond, List, [], ◌∷◌, ◌++◌, map, ℕ, leb, length, get_or, take, drop, None, Some, Option}
use Rattle.text.specs.Literal.{bytes}
use Rattle.text.specs.Bytes.{starts_with, to_byte}
use Rattle.text.specs.Number.{is_number, value_from}
use Rattle.text.specs.Pieces.{pieces}
use Rattle.text.specs.Lists.{all}
use Rattle.words.specs.declared.scale.Scale.{Scale}
use Rattle.words.specs.Scale.{scale_of}
use Rattle.bill.specs.declared.section.Section.{Section}
use Rattle.bill.specs.declared.section.Section.TheVariants.{Cores, Processes}
use Rattle.bill.specs.Rows.{Row, Sheet}
use Rattle.bill.specs.Scale.{scale_number}
use Rattle.bill.specs.Text.{title, sheet_text}
use Rattle.bill.specs.Verdict.{accepted_text}

-- what is printed of an accepted trace, or of a sum of such: a time scale's number and a sheet
pub record Bill : Type 0 where
  pub scale : ℕ
  pub sheet : Sheet

-- the rows of a section
abbrev pub rows_in : Section → Bill → List Row
rows_in Cores b = b.sheet.cores
rows_in Processes b = b.sheet.processes

unfoldable pub bill_text : Bill → List ℕ
bill_text b = accepted_text b.scale b.sheet.span ++ sheet_text b.sheet

-- ---- the verdict's line, "verdict 0 line 0 scale X span N"

abbrev pub scale_code : Option Scale → ℕ
scale_code (Some s) = scale_number s
scale_code None = 0

-- what stands where X begins; up to the next blank it is X, and behind " span " it is N
abbrev pub from_scale : List ℕ → List ℕ
from_scale = drop 23

abbrev pub from_span : List ℕ → List ℕ
from_span r = drop (to_byte 32 r) r

-- the number of the time scale that X names, 0 for none; and N's value
unfoldable pub scale_in : List ℕ → ℕ
scale_in line = let r = from_scale line in scale_code (scale_of (take (to_byte 32 r) r))

unfoldable pub span_in : List ℕ → ℕ
span_in line = value_from 0 (drop 6 (from_span (from_scale line)))

unfoldable pub head_exact : List ℕ → Bool
head_exact line =
    starts_with line (bytes "verdict 0 line 0 scale ")
    && (leb 1 (scale_in line) && (starts_with (from_span (from_scale line)) (bytes " span ") && is_number (drop 6 (from_span (from_scale line)))))

-- ---- a section's first line: its title and its count

unfoldable pub count_in : List ℕ → List ℕ → ℕ
count_in head line = value_from 0 (drop (length head) line)

unfoldable pub count_exact : List ℕ → List ℕ → Bool
count_exact head line = starts_with line head && is_number (drop (length head) line)

-- ---- a row: words between blanks, the first of them a name and the others figures

abbrev pub word_of : List ℕ → ℕ → List ℕ
word_of line k = get_or (pieces 32 line) k []

unfoldable pub row_from : List ℕ → Row
row_from line = record { name = word_of line 0; figures = map (value_from 0) (drop 1 (pieces 32 line)) }

abbrev pub all_numbers : List (List ℕ) → Bool
all_numbers = all is_number

unfoldable pub row_exact : List ℕ → Bool
row_exact line = all_numbers (drop 1 (pieces 32 line))

abbrev pub rows_exact : List (List ℕ) → Bool
rows_exact = all row_exact

-- ---- the whole, by its lines: the verdict's, the cores' title with as many rows, the processes' title with as many rows, and nothing after their end

abbrev pub core_count : List (List ℕ) → ℕ
core_count ls = count_in (title Cores) (get_or ls 1 [])

abbrev pub from_processes : List (List ℕ) → List (List ℕ)
from_processes ls = drop (core_count ls) (drop 2 ls)

abbrev pub process_count : List (List ℕ) → ℕ
process_count ls = count_in (title Processes) (get_or (from_processes ls) 0 [])

abbrev pub core_lines : List (List ℕ) → List (List ℕ)
core_lines ls = take (core_count ls) (drop 2 ls)

abbrev pub process_lines : List (List ℕ) → List (List ℕ)
process_lines ls = take (process_count ls) (drop 1 (from_processes ls))

unfoldable pub bill_from : List (List ℕ) → Bill
bill_from ls = record {
  scale = scale_in (get_or ls 0 []);
  sheet = record { span = span_in (get_or ls 0 []); cores = map row_from (core_lines ls); processes = map row_from (process_lines ls) };
}

-- "every line ends with byte 10": after the last one nothing stands
abbrev pub at_end : List (List ℕ) → Bool
at_end [] = false
at_end ([] ∷ []) = true
at_end ([] ∷ l ∷ ls) = false
at_end ((x ∷ l) ∷ ls) = false

abbrev pub all_of : List Bool → Bool
all_of = all (λ b. b)

unfoldable pub form_tests : List (List ℕ) → List Bool
form_tests ls =
    head_exact (get_or ls 0 [])
    ∷ count_exact (title Cores) (get_or ls 1 []) ∷ rows_exact (core_lines ls)
    ∷ count_exact (title Processes) (get_or (from_processes ls) 0 []) ∷ rows_exact (process_lines ls)
    ∷ at_end (drop (process_count ls) (drop 1 (from_processes ls))) ∷ []

unfoldable pub read_sheet : List ℕ → Option Bill
read_sheet t = let ls = pieces 10 t in cond (all_of (form_tests ls)) (Some (bill_from ls)) None
