-- FOR THE CODE ALONE: the places where the lines of a text begin.
use Rattle.std.specs.Prelude.{◌≡◌, Bool, true, false, ◌&&◌, List, map, ℕ, ◌+◌, ◌≤◌, leb, length, take, Some, None, Option}
use Rattle.text.specs.Pieces.{pieces, ended, unended}
use Rattle.text.specs.Lists.{is_empty}
use Rattle.text.specs.Sizes.{name_limit}
use Rattle.paper.specs.Lines.{line_from}

-- no sheet that may be added has more lines: the verdict's, two titles, and a row for each name
abbrev pub lines_most : ℕ
lines_most = name_limit + 3

-- every line has its end, and there are at most that many
unfoldable pub few_lines : List ℕ → Bool
few_lines text = is_empty (unended (pieces 10 text)) && leb (length (ended (pieces 10 text))) lines_most

-- the places of the lines, in the first n entries
pub record Placed (text starts : List ℕ) (n : ℕ) : Type 0 where
  pub few : few_lines text ≡ true
  pub sized : length starts ≡ lines_most
  pub count : n ≤ lines_most
  pub lines : map (line_from text) (take n starts) ≡ ended (pieces 10 text)

abbrev pub Lined : List ℕ → List ℕ → Option ℕ → Type 0
Lined text starts (Some n) = Placed text starts n
Lined text starts None = few_lines text ≡ false
