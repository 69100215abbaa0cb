-- How tight the contract of the next line is: no second answer, and wrong answers that it shuts out.
use Rattle.std.proofs.Common.{◌≡◌, ℕ, ◌+◌, Bool, true, false, cond, not, eqb, ltb, List, [], ◌∷◌, length, refl, None, Some, Option}
use Rattle.text.specs.Literal.{bytes}
use Rattle.text.specs.Bytes.{to_byte, find_from}
use Rattle.text.specs.Pieces.{pieces}
use Rattle.text.proofs.Tight.{unique, ShutsOut, shut_out}
use Rattle.walk.specs.Lines.{line_text, next_from}
use Rattle.fields.specs.declared.part.Commas.{Commas}
use Rattle.fields.specs.Part.{part_from, comma_at, commas_of}
use Rattle.scan.specs.declared.ahead.Ahead.{Ahead}
use Rattle.scan.specs.Ahead.{line_from, ahead_of}
use Rattle.scan.specs.Quick.{told}

-- ---- `next_line` and `ahead`, with one definition

pub ahead_unique : (whole : Bool) (s : List ℕ) (at : ℕ) (x y : Option Ahead) → x ≡ ahead_of whole s at → y ≡ ahead_of whole s at → x ≡ y
ahead_unique whole s = unique (ahead_of whole s)

abbrev Asked : Type 0
Asked = Bool × List ℕ × ℕ

abbrev answer : Asked → Option Ahead
answer (whole, s, at) = ahead_of whole s at

-- an unfinished line for a whole one
pub ahead_not_a_rest : ShutsOut answer (λ (whole, s, at). ahead_of true s at)
unfolding ahead_of line_from next_from line_text pieces
ahead_not_a_rest = shut_out (λ r. not (told r)) (false, bytes "a", 0) refl refl

-- by its marks alone, which are not made where fewer than 129 bytes are left
pub ahead_not_by_marks_alone : ShutsOut answer (λ (whole, s, at). cond (ltb (length s) (at + 129)) None (ahead_of whole s at))
unfolding ahead_of line_from next_from line_text pieces
ahead_not_by_marks_alone = shut_out told (false, 97 ∷ 10 ∷ [], 0) refl refl

abbrev with_commas : Option Ahead → Commas → Option Ahead
with_commas (Some a) d = Some (record a { commas = d })
with_commas None d = None

abbrev first_comma : ℕ → Option Ahead → Bool
first_comma n (Some a) = eqb a.commas.c1 n
first_comma n None = false

-- the commas of the chunk, not those of the line
pub ahead_not_of_the_chunk : ShutsOut answer (λ (whole, s, at). with_commas (ahead_of whole s at) (commas_of s))
unfolding ahead_of line_from next_from line_text pieces part_from comma_at find_from to_byte
ahead_not_of_the_chunk = shut_out (first_comma 2) (true, bytes "1,A;22,B", 4) refl refl

-- the line at the front of the chunk, whatever the place
pub ahead_not_from_the_start : ShutsOut answer (λ (whole, s, at). ahead_of whole s 0)
unfolding ahead_of line_from next_from line_text pieces part_from comma_at find_from to_byte
ahead_not_from_the_start = shut_out (first_comma 2) (true, bytes "1,A;22,B", 4) refl refl
