-- The text of a sheet. "Each section follows its count, in order of first mention; a core line gives held, idle, unknown; every line ends with byte 10".
use Rattle.std.specs.Prelude.{List, [], ◌∷◌, ◌++◌, ℕ, length}
use Rattle.text.specs.Literal.{bytes}
use Rattle.text.specs.Number.{digits_of}
use Rattle.bill.specs.declared.section.Section.{Section}
use Rattle.bill.specs.declared.section.Section.TheVariants.{Cores, Processes}
use Rattle.bill.specs.Rows.{Row, Sheet}

-- each figure after a blank
unfoldable pub figures_text : List ℕ → List ℕ
figures_text [] = []
figures_text (n ∷ ns) = 32 ∷ digits_of n ++ figures_text ns

unfoldable pub row_text : Row → List ℕ
row_text r = r.name ++ figures_text r.figures ++ 10 ∷ []

unfoldable pub rows_text : List Row → List ℕ
rows_text [] = []
rows_text (r ∷ rs) = row_text r ++ rows_text rs

abbrev pub title : Section → List ℕ
title Cores = bytes "cores "
title Processes = bytes "processes "

unfoldable pub section_text : List ℕ → List Row → List ℕ
section_text head rs = head ++ digits_of (length rs) ++ 10 ∷ rows_text rs

-- the sheet is "the lines from `cores` on"
unfoldable pub sheet_text : Sheet → List ℕ
sheet_text s = section_text (title Cores) s.cores ++ section_text (title Processes) s.processes
