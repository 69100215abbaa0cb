-- Many sheets at once: what they come to, with no order and no grouping in it. `Groupings.grouped` says that sheets added in any grouping come to this, and `AnyOrder.any_order`
-- that it is the same in any order.
use Rattle.std.specs.Prelude.{Bool, not, cond, List, [], ◌∷◌, ℕ, eqb, ltb, Option, None, Some}
use Rattle.std.specs.List.{flat_map}
use Rattle.std.specs.Option.{option_and_then}
use Rattle.text.specs.Sizes.{max_time}
use Rattle.text.specs.Lists.{any, sum_over}
use Rattle.bill.specs.declared.section.Section.{Section}
use Rattle.bill.specs.declared.section.Section.TheVariants.{Cores, Processes}
use Rattle.bill.specs.Rows.{Row}
use Rattle.bill.specs.Reading.{Bill, bill_text, rows_in}
use Rattle.sorting.specs.Order.{Name}
use Rattle.sorting.specs.Sets.{sorted, meets}
use Rattle.shifts.specs.Sound.{names, too_many, any_of, sound_sheet}
use Rattle.shifts.specs.Sum.{plus, figures_of, rows_of, missing}

-- ---- a section of all: each name once, and the sum of the figures that it has in every sheet; a sheet that lacks it has `missing` for it

abbrev pub names_in : Section → List Bill → List Name
names_in s = flat_map (λ b. names (rows_in s b))

abbrev pub figures_in : Section → List Bill → Name → List ℕ
figures_in s [] n = []
figures_in s (b ∷ bs) n = plus (figures_of (missing s b) (rows_in s b) n) (figures_in s bs n)

unfoldable pub all_rows : Section → List Bill → List Row
all_rows s bs = rows_of (figures_in s bs) (sorted (names_in s bs))

-- ---- the sum of all; its time scale is that of the first, which all others have to have

abbrev pub span_of : List Bill → ℕ
span_of = sum_over (λ b. b.sheet.span)

abbrev pub first_scale : List Bill → ℕ
first_scale [] = 0
first_scale (b ∷ bs) = b.scale

unfoldable pub sum_of : List Bill → Bill
sum_of bs = record {
  scale = first_scale bs;
  sheet = record { span = span_of bs; cores = all_rows Cores bs; processes = all_rows Processes bs };
}

-- ---- when sheets that may each be added are refused together: not one scale, a name in both sections, too many names, a total span above 2^56 − 1

-- some bill has another scale than n
abbrev pub others_than : ℕ → List Bill → Bool
others_than n = any (λ b. not (eqb b.scale n))

unfoldable pub all_tests : List Bill → List Bool
all_tests bs =
    others_than (first_scale bs) bs
    ∷ meets (names_in Cores bs) (names_in Processes bs)
    ∷ too_many (all_rows Cores bs) (all_rows Processes bs)
    ∷ ltb max_time (span_of bs) ∷ []

-- ---- of texts: the sum's bytes, or none where they are refused

abbrev pub with_next : Option Bill → Option (List Bill) → Option (List Bill)
with_next None o = None
with_next (Some b) None = None
with_next (Some b) (Some bs) = Some (b ∷ bs)

-- none where one of them may not be added
abbrev pub bills_of : List (List ℕ) → Option (List Bill)
bills_of [] = Some []
bills_of (t ∷ ts) = with_next (sound_sheet t) (bills_of ts)

abbrev pub text_of : Option (List Bill) → Option (List ℕ)
text_of = option_and_then (λ bs. cond (any_of (all_tests bs)) None (Some (bill_text (sum_of bs))))

unfoldable pub together : List (List ℕ) → Option (List ℕ)
together ts = text_of (bills_of ts)
