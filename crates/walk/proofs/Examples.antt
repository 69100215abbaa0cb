-- Lines with their ends in every form, as one statement over one list, against the definitions.
use mathlib.Core.Path.{◌≡◌, refl}
use mathlib.Core.List.{List, [], ◌∷◌, ◌++◌, map}
use Prim.Native.Nat.{ℕ}
use Rattle.text.specs.Literal.{bytes}
use Rattle.text.specs.Pieces.{pieces, ended, unended}
use Rattle.walk.specs.Lines.{line_text, whole_lines, rest_of, lines_of}

pub record Example : Type 0 where
  pub trace : List ℕ
  pub lines : List (List ℕ)

abbrev pub has : List ℕ → List (List ℕ) → Example
has s ls = record { trace = s; lines = ls }

abbrev pub cr : List ℕ
cr = 13 ∷ []

abbrev pub lf : List ℕ
lf = 10 ∷ []

abbrev pub a : List ℕ
a = bytes "0,A"

abbrev pub b : List ℕ
b = bytes "1,B"

abbrev pub traces : List Example
traces =
    has [] []
    ∷ has a (a ∷ [])
    ∷ has (a ++ lf) (a ∷ [])
    ∷ has (a ++ cr ++ lf) (a ∷ [])
    ∷ has (a ++ cr ++ cr ++ lf) ((a ++ cr) ∷ [])
    ∷ has (a ++ lf ++ b ++ cr) (a ∷ (b ++ cr) ∷ [])
    ∷ has (a ++ cr ++ b ++ lf) ((a ++ cr ++ b) ∷ [])
    ∷ has lf ([] ∷ [])
    ∷ has (cr ++ lf) ([] ∷ [])
    ∷ has (a ++ lf ++ b ++ lf) (a ∷ b ∷ [])
    ∷ has (a ++ lf ++ b) (a ∷ b ∷ [])
    ∷ has (a ++ lf ++ lf ++ b) (a ∷ [] ∷ b ∷ [])
    ∷ []

pub examples : map (λ x. lines_of x.trace) traces ≡ map (λ x. x.lines) traces
unfolding lines_of whole_lines rest_of line_text pieces ended unended
examples = refl
