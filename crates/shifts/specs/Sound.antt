-- Which sheets may be added. 02, No. 2: "malformed, or a core's three figures not making the span, or charges not making all held ticks".
use Rattle.std.specs.Prelude.{Bool, not, ◌||◌, cond, List, [], ◌∷◌, ℕ, ◌+◌, eqb, leb, ltb, map, length, get_or, Option, None, Some}
use Rattle.std.specs.Option.{option_and_then}
use Rattle.text.specs.Sizes.{max_time, name_limit, core_limit}
use Rattle.text.specs.Lists.{any, sum_over}
use Rattle.bill.specs.Rows.{Row, all_named}
use Rattle.bill.specs.Reading.{Bill, read_sheet}
use Rattle.sorting.specs.Order.{Name}
use Rattle.sorting.specs.Sets.{meets, twice}

unfoldable pub names : List Row → List Name
names = map (λ r. r.name)

abbrev pub total : List ℕ → ℕ
total [] = 0
total (x ∷ xs) = x + total xs

-- a row's first figure, held or charge; and that of all rows together
abbrev pub first : List ℕ → ℕ
first fs = get_or fs 0 0

abbrev pub firsts : List Row → ℕ
firsts = sum_over (λ r. first r.figures)

-- ---- a sheet that no trace has: "A malformed sheet includes a refused trace's line, a name listed twice, more than 64 cores or 256 names, and a span above 2^56 − 1"

-- not k figures; figures that don't make n
abbrev pub not_count : ℕ → List ℕ → Bool
not_count k fs = not (eqb (length fs) k)

abbrev pub not_total : ℕ → List ℕ → Bool
not_total n fs = not (eqb (total fs) n)

abbrev pub some_row : (List ℕ → Bool) → List Row → Bool
some_row p = any (λ r. p r.figures)

unfoldable pub too_many : List Row → List Row → Bool
too_many cs ps = ltb core_limit (length cs) || ltb name_limit (length cs + length ps)

unfoldable pub shape_tests : Bill → List Bool
shape_tests b =
    let cs = b.sheet.cores in
    let ps = b.sheet.processes in
    not (leb 1 b.scale) ∷ not (leb b.scale 5) ∷ ltb max_time b.sheet.span
    ∷ not (all_named cs) ∷ not (all_named ps) ∷ some_row (not_count 3) cs ∷ some_row (not_count 1) ps
    ∷ twice (names cs) ∷ twice (names ps) ∷ meets (names cs) (names ps)
    ∷ too_many cs ps ∷ []

-- ---- "a core's three figures not making the span, or charges not making all held ticks"

unfoldable pub sum_tests : Bill → List Bool
sum_tests b =
    some_row (not_total b.sheet.span) b.sheet.cores
    ∷ not (eqb (firsts b.sheet.cores) (firsts b.sheet.processes)) ∷ []

abbrev pub any_of : List Bool → Bool
any_of = any (λ b. b)

unfoldable pub malformed : Bill → Bool
malformed b = any_of (shape_tests b)

unfoldable pub unsound : Bill → Bool
unsound b = malformed b || any_of (sum_tests b)

-- ---- the bill of a text, where the text may be added: none is 21

abbrev pub sound_only : Option Bill → Option Bill
sound_only = option_and_then (λ b. cond (unsound b) None (Some b))

unfoldable pub sound_sheet : List ℕ → Option Bill
sound_sheet t = sound_only (read_sheet t)
