-- FOR THE CODE ALONE: a text read as a sheet that may be added, and the places of its rows.
use Rattle.std.specs.Prelude.{◌≡◌, Bool, true, false, ◌||◌, List, map, ℕ, ◌-◌, ◌≤◌, length, take, None, Some, Option}
use Rattle.text.specs.Sizes.{name_limit, core_limit}
use Rattle.bill.specs.declared.section.Section.{Section}
use Rattle.bill.specs.declared.section.Section.TheVariants.{Cores, Processes}
use Rattle.bill.specs.Reading.{Bill, rows_in}
use Rattle.sorting.specs.Sets.{meets, twice, sorted_by}
use Rattle.shifts.specs.Sound.{sound_sheet}
use Rattle.shifts.specs.Sum.{by_name}
use Rattle.paper.specs.Lines.{line_from, name_at}
use Rattle.adding.specs.declared.form.Form.{Form}
use Rattle.adding.specs.declared.sheet.Sheet.{Sheet}
use Rattle.adding.specs.RowCode.{sums_right}
use Rattle.adding.specs.MergeCode.{rows_at, InOrder}

-- ---- the names

-- none stands twice, and the first entries have the places in the order of the names; or some name does
pub record Ordered (text cs ps cores processes : List ℕ) : Type 0 where
  pub cores_once : twice (map (name_at text) cs) ≡ false
  pub processes_once : twice (map (name_at text) ps) ≡ false
  pub apart : meets (map (name_at text) cs) (map (name_at text) ps) ≡ false
  pub core_order : take (length cs) cores ≡ sorted_by (name_at text) cs
  pub process_order : take (length ps) processes ≡ sorted_by (name_at text) ps

abbrev pub OrderedAs : Bool → List ℕ → List ℕ → List ℕ → List ℕ → List ℕ → Type 0
OrderedAs true text cs ps cores processes = Ordered text cs ps cores processes
OrderedAs false text cs ps cores processes =
    twice (map (name_at text) cs) || (twice (map (name_at text) ps) || meets (map (name_at text) cs) (map (name_at text) ps)) ≡ true

pub record NamesOnce (text cs ps cores processes : List ℕ) (r : Bool) : Type 0 where
  pub cores_sized : length cores ≡ core_limit
  pub processes_sized : length processes ≡ name_limit
  pub told : OrderedAs r text cs ps cores processes

-- ---- the rows

-- the sums are right and no name stands twice, or one of both does not hold
abbrev pub RightAs : Bool → List ℕ → List ℕ → List ℕ → ℕ → List ℕ → List ℕ → Type 0
RightAs true text cs ps span cores processes = (sums_right span (map (line_from text) cs) (map (line_from text) ps) ≡ true) × Ordered text cs ps cores processes
RightAs false text cs ps span cores processes = sums_right span (map (line_from text) cs) (map (line_from text) ps) ≡ true → OrderedAs false text cs ps cores processes

pub record RowsRight (text cs ps : List ℕ) (span : ℕ) (cores processes : List ℕ) (r : Bool) : Type 0 where
  pub cores_sized : length cores ≡ core_limit
  pub processes_sized : length processes ≡ name_limit
  pub told : RightAs r text cs ps span cores processes

-- ---- the whole

-- the places of a section's rows, as a part from 0 on is told
abbrev pub places_in : Section → Form → List ℕ → List ℕ → List ℕ
places_in Cores f cores processes = take (f.cores - 0) cores
places_in Processes f cores processes = take (f.processes - 0) processes

abbrev pub places_of : Section → Sheet → List ℕ
places_of section x = places_in section x.form x.cores x.processes

-- the form of a text that may be added, with the places of its rows in the order of their names
pub record Booked (text : List ℕ) (f : Form) (cores processes : List ℕ) : Type 0 where
  pub bill : Bill
  pub sound : sound_sheet text ≡ Some bill
  pub scale : f.scale ≡ bill.scale
  pub span : f.span ≡ bill.sheet.span
  pub cores_fit : f.cores ≤ length cores
  pub processes_fit : f.processes ≤ length processes
  pub rows : (section : Section) → rows_at text (places_in section f cores processes) ≡ sorted_by by_name (rows_in section bill)
  pub in_order : (section : Section) → InOrder section text (places_in section f cores processes)

-- .. or the text may not be added
abbrev pub BookedAs : List ℕ → List ℕ → List ℕ → Option Form → Type 0
BookedAs text cores processes (Some f) = Booked text f cores processes
BookedAs text cores processes None = sound_sheet text ≡ None

-- what is read, and that the entries are as many as they were
pub record Read (text cores processes : List ℕ) (r : Option Form) : Type 0 where
  pub cores_sized : length cores ≡ core_limit
  pub processes_sized : length processes ≡ name_limit
  pub told : BookedAs text cores processes r

-- a sheet that was read, of its own text
abbrev pub WasRead : Sheet → Type 0
WasRead x = Booked x.text.now x.form x.cores x.processes

-- .. which is this one
abbrev pub ReadAs : List ℕ → Option Sheet → Type 0
ReadAs text (Some x) = (x.text.now ≡ text) × WasRead x
ReadAs text None = sound_sheet text ≡ None
