-- FOR THE CODE ALONE: the form of a text by its lines that are no rows, and the places of its rows.
use Rattle.std.specs.Prelude.{◌≡◌, true, List, [], map, ℕ, ◌+◌, ◌-◌, ◌≤◌, length, get_or, take, drop, Some, None, Option}
use Rattle.text.specs.Pieces.{pieces}
use Rattle.text.specs.Sizes.{max_time, name_limit, core_limit}
use Rattle.bill.specs.declared.section.Section.TheVariants.{Cores, Processes}
use Rattle.bill.specs.Text.{title}
use Rattle.bill.specs.Reading.{from_processes, process_count, core_lines, process_lines, at_end}
use Rattle.shifts.specs.Sound.{sound_sheet}
use Rattle.paper.specs.Lines.{line_from}
use Rattle.paper.specs.Heads.{head_of, count_of}
use Rattle.adding.specs.declared.form.Form.{Form}
use Rattle.adding.specs.PlaceCode.{lines_most, Placed}

-- the places of the rows of both sections
abbrev pub core_places : List ℕ → Form → List ℕ
core_places starts f = take f.cores (drop 2 starts)

abbrev pub process_places : List ℕ → Form → List ℕ
process_places starts f = take f.processes (drop (3 + f.cores) starts)

-- the places of three lines or more, of which the first tells the scale and the span
pub record Begun (text starts : List ℕ) (n scale span : ℕ) : Type 0 where
  pub placed : Placed text starts n
  pub three : 3 ≤ n
  pub head : head_of (get_or (pieces 10 text) 0 []) ≡ Some (scale, span)

-- the lines that are no rows tell the form, and no line is left over
pub record Formed (text starts : List ℕ) (f : Form) : Type 0 where
  pub sized : length starts ≡ lines_most
  pub head : head_of (get_or (pieces 10 text) 0 []) ≡ Some (f.scale, f.span)
  pub first : count_of (title Cores) (get_or (pieces 10 text) 1 []) core_limit ≡ Some f.cores
  pub second : count_of (title Processes) (get_or (from_processes (pieces 10 text)) 0 []) (name_limit - f.cores) ≡ Some f.processes
  pub end : at_end (drop (process_count (pieces 10 text)) (drop 1 (from_processes (pieces 10 text)))) ≡ true
  pub core_lines_told : map (line_from text) (core_places starts f) ≡ core_lines (pieces 10 text)
  pub process_lines_told : map (line_from text) (process_places starts f) ≡ process_lines (pieces 10 text)

-- .. or the text may not be added
abbrev pub FormedAs : List ℕ → List ℕ → Option Form → Type 0
FormedAs text starts (Some f) = Formed text starts f
FormedAs text starts None = sound_sheet text ≡ None

-- the places of both sections are there, and the span is one
pub record Sized (starts : List ℕ) (f : Form) : Type 0 where
  pub sized : length starts ≡ lines_most
  pub few : f.cores ≤ core_limit
  pub names : f.cores + f.processes ≤ name_limit
  pub short : f.span ≤ max_time
