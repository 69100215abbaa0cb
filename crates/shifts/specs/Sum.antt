-- The sum of two bills, and when it is refused.
use Rattle.std.specs.Prelude.{Bool, not, ◌||◌, cond, List, [], ◌∷◌, ◌++◌, ℕ, zero, suc, ◌+◌, eqb, ltb, map, Option, None, Some}
use Rattle.text.specs.Sizes.{max_time}
use Rattle.bill.specs.declared.section.Section.{Section}
use Rattle.bill.specs.declared.section.Section.TheVariants.{Cores, Processes}
use Rattle.bill.specs.Rows.{Row}
use Rattle.bill.specs.Reading.{Bill, bill_text, rows_in}
use Rattle.sorting.specs.Order.{Name, order, is_same}
use Rattle.sorting.specs.Sets.{sorted, meets}
use Rattle.shifts.specs.Sound.{names, too_many, sound_sheet}

-- a row's name, by which a section is sorted
abbrev pub by_name : Row → Name
by_name r = r.name

-- figures added one by one; where one list is longer, its others stay
abbrev pub plus : List ℕ → List ℕ → List ℕ
plus [] ys = ys
plus (x ∷ xs) [] = x ∷ xs
plus (x ∷ xs) (y ∷ ys) = (x + y) ∷ plus xs ys

-- the figures of a name, or those given where it is missing
unfoldable pub figures_of : List ℕ → List Row → Name → List ℕ
figures_of missing [] n = missing
figures_of missing (r ∷ rs) n = cond (is_same (order n r.name)) r.figures (figures_of missing rs n)

unfoldable pub rows_of : (Name → List ℕ) → List Name → List Row
rows_of f = map (λ n. record { name = n; figures = f n })

-- "figures of equal names", "sorted by name bytes"; x and y for a name that is missing
unfoldable pub add_rows : List ℕ → List ℕ → List Row → List Row → List Row
add_rows x y rs qs = rows_of (λ n. plus (figures_of x rs n) (figures_of y qs n)) (sorted (names rs ++ names qs))

-- "A core missing from one sheet gets that sheet's span as unknown"; a process has no charge there
abbrev pub no_core : Bill → List ℕ
no_core b = 0 ∷ 0 ∷ b.sheet.span ∷ []

abbrev pub no_process : List ℕ
no_process = 0 ∷ []

abbrev pub missing : Section → Bill → List ℕ
missing Cores b = no_core b
missing Processes b = no_process

abbrev pub add_section : Section → Bill → Bill → List Row
add_section s a b = add_rows (missing s a) (missing s b) (rows_in s a) (rows_in s b)

unfoldable pub sum : Bill → Bill → Bill
sum a b = record {
  scale = a.scale;
  sheet = record {
    span = a.sheet.span + b.sheet.span;
    cores = add_rows (no_core a) (no_core b) a.sheet.cores b.sheet.cores;
    processes = add_rows no_process no_process a.sheet.processes b.sheet.processes;
  };
}

-- "a name a core in one and a process in the other"
unfoldable pub clash : Bill → Bill → Bool
clash a b =
    meets (names a.sheet.cores) (names b.sheet.processes) || meets (names b.sheet.cores) (names a.sheet.processes)

-- "These are 21 to 25 in this order": 22 to 25 of two bills that may be added; 0: none
unfoldable pub refusal : Bill → Bill → ℕ
refusal a b =
    cond (not (eqb a.scale b.scale)) 22
    (cond (clash a b) 23
    (cond (too_many (sum a b).sheet.cores (sum a b).sheet.processes) 24
    (cond (ltb max_time (a.sheet.span + b.sheet.span)) 25 0)))

-- ---- what adding two texts comes to: the sum's own text, or a refusal

pub data Total : Type 0 where
  Text : List ℕ → Total
  Refusal : ℕ → Total

abbrev pub total_by : ℕ → Bill → Total
total_by zero s = Text (bill_text s)
total_by (suc n) s = Refusal (suc n)

-- "malformed" is 21, of either
abbrev pub add_sound : Option Bill → Option Bill → Total
add_sound None o = Refusal 21
add_sound (Some a) None = Refusal 21
add_sound (Some a) (Some b) = total_by (refusal a b) (sum a b)

unfoldable pub add_texts : List ℕ → List ℕ → Total
add_texts t u = add_sound (sound_sheet t) (sound_sheet u)

-- of what two sums come to: a refusal stays, the first one first
abbrev pub add_totals : Total → Total → Total
add_totals (Refusal n) y = Refusal n
add_totals (Text t) (Refusal n) = Refusal n
add_totals (Text t) (Text u) = add_texts t u

-- two or more, added from the left: a refusal ends it
abbrev pub add_next : Total → List ℕ → Total
add_next (Text t) u = add_texts t u
add_next (Refusal n) u = Refusal n

abbrev pub add_all : Total → List (List ℕ) → Total
add_all r [] = r
add_all r (u ∷ us) = add_all (add_next r u) us
