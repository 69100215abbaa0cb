-- The sheet that the tables show: its rows, and which names have one.
use Rattle.std.specs.Prelude.{Bool, List, [], ◌∷◌, ◌++◌, ℕ, zero, suc, ◌-◌, eqb}
use Rattle.bill.specs.declared.section.Section.{Section}
use Rattle.bill.specs.declared.section.Section.TheVariants.{Cores, Processes}
use Rattle.bill.specs.Rows.{Row, Sheet}
use Rattle.rules.specs.Lists.{keep}
use Rattle.rules.specs.Words.{core}
use Rattle.rules.specs.Charts.{is_process}
use Rattle.tables.specs.Entry.{name_count, kind_at, name_at, first_time, last_time, unknown_at}
use Rattle.sheet.specs.Figure.{held_in, idle_in, charge_in}

-- ---- the rows of a section

-- cores, then processes: T and I, those with charge 0 too
abbrev pub belongs : Section → ℕ → Bool
belongs Cores k = eqb k core
belongs Processes k = is_process k

abbrev pub figures_in : Section → List ℕ → List ℕ → ℕ → List ℕ
figures_in Cores nums ticks i = held_in nums ticks i ∷ idle_in nums ticks i ∷ unknown_at ticks i ∷ []
figures_in Processes nums ticks i = charge_in nums ticks i ∷ []

abbrev pub row_in : Section → List ℕ → List ℕ → List ℕ → ℕ → Row
row_in s names nums ticks i = record { name = name_at names nums i; figures = figures_in s nums ticks i }

-- those of the first n names
unfoldable pub rows_to : Section → List ℕ → List ℕ → List ℕ → ℕ → List Row
rows_to s names nums ticks zero = []
rows_to s names nums ticks (suc n) = rows_to s names nums ticks n ++ keep (belongs s (kind_at nums n)) (row_in s names nums ticks n) []

unfoldable pub rows_in : Section → List ℕ → List ℕ → List ℕ → List Row
rows_in s names nums ticks = rows_to s names nums ticks (name_count nums)

unfoldable pub sheet_in : List ℕ → List ℕ → List ℕ → Sheet
sheet_in names nums ticks = record {
  span = last_time ticks - first_time ticks;
  cores = rows_in Cores names nums ticks;
  processes = rows_in Processes names nums ticks;
}

-- no tables in range have a sheet of more bytes
abbrev pub sheet_most : ℕ
sheet_most = 65600
