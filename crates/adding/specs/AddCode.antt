-- FOR THE CODE ALONE: two sheets that were read, and the text of their sum from its parts.
use Rattle.std.specs.Prelude.{◌≡◌, Bool, true, false, ◌||◌, cond, List, ◌∷◌, ◌++◌, map, ℕ, ◌+◌, ◌≤◌, eqb, ltb, length}
use Rattle.std.specs.declared.result.Result.{Result}
use Rattle.std.specs.declared.result.Result.TheVariants.{Ok, Err}
use Rattle.text.specs.Number.{digits_of}
use Rattle.text.specs.Sizes.{max_time, name_limit, core_limit}
use Rattle.bill.specs.declared.section.Section.{Section}
use Rattle.bill.specs.declared.section.Section.TheVariants.{Cores, Processes}
use Rattle.bill.specs.Rows.{Row}
use Rattle.bill.specs.Text.{title}
use Rattle.bill.specs.Verdict.{accepted_text}
use Rattle.sorting.specs.Sets.{meets}
use Rattle.shifts.specs.Sum.{clash, Refusal, add_texts}
use Rattle.paper.specs.Lines.{name_at}
use Rattle.bill.specs.declared.verdict.Verdict.{Verdict}
use Rattle.adding.specs.declared.sheet.Sheet.{Sheet}
use Rattle.adding.specs.declared.whole.Made.{Made}
use Rattle.adding.specs.declared.refusal.Refusal.{Refusal as Why}
use Rattle.adding.specs.Adding.{number_of}
use Rattle.adding.specs.MergeCode.{rows_at, sum_rows}
use Rattle.adding.specs.SheetCode.{places_of, WasRead}

-- a section's text, with the lines of its rows as they stand
unfoldable pub counted_text : List ℕ → ℕ → List ℕ → List ℕ
counted_text head n rows = head ++ digits_of n ++ 10 ∷ rows

-- its length, by that of its rows
abbrev pub counted_length : List ℕ → ℕ → ℕ → ℕ
counted_length head n rows = length head + length (digits_of n) + 1 + rows

-- the whole text
abbrev pub head_of : ℕ → ℕ → Verdict
head_of scale span = record { number = 0; line = 0; scale = scale; span = span }

unfoldable pub made_text : Made → List ℕ
made_text m =
    accepted_text m.scale m.span
    ++ (counted_text (title Cores) m.cores m.core_lines.now ++ counted_text (title Processes) m.processes m.process_lines.now)

-- so that its length fits
pub record Short (m : Made) : Type 0 where
  pub cores : length m.core_lines.now ≤ 65536
  pub processes : length m.process_lines.now ≤ 65536

-- 24 or 25, or 0
unfoldable pub own_refusal : ℕ → ℕ → ℕ → ℕ
own_refusal cores processes span = cond (ltb core_limit cores || ltb name_limit (cores + processes)) 24 (cond (ltb max_time span) 25 0)

abbrev pub refused_by : Result (Unit {0}) Why → ℕ
refused_by (Ok u) = 0
refused_by (Err r) = number_of r

-- two sheets that were read
pub record BothRead (x y : Sheet) : Type 0 where
  pub first : WasRead x
  pub second : WasRead y

-- whether a core of the first is a process of the second
abbrev pub cores_met : Sheet → Sheet → Bool
cores_met x y = meets (map (name_at x.text.now) (places_of Cores x)) (map (name_at y.text.now) (places_of Processes y))

-- .. of which 22 and 23 don't hold
pub record Paired (x y : Sheet) : Type 0 where
  pub both : BothRead x y
  pub one_scale : eqb both.first.bill.scale both.second.bill.scale ≡ true
  pub no_clash : clash both.first.bill both.second.bill ≡ false

-- .. or the one that does
abbrev pub Judged : Sheet → Sheet → Result (Unit {0}) Why → Type 0
Judged x y (Ok u) = Paired x y
Judged x y (Err r) = add_texts x.text.now y.text.now ≡ Refusal (number_of r)

-- the rows of a section of their sum
abbrev pub sums_of : Section → Sheet → Sheet → List Row
sums_of section x y = sum_rows section (rows_at x.text.now (places_of section x)) x.form.span (rows_at y.text.now (places_of section y)) y.form.span

-- the room that its rows have
abbrev pub room_of : Section → ℕ
room_of Cores = 16384
room_of Processes = 44032
