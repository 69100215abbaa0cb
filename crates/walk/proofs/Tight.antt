-- How tight the contracts of the walk are: no second answer, and wrong answers that they shut out.
use Rattle.std.proofs.Common.{None, Some, Option}
use mathlib.Core.Path.{◌≡◌, refl, ap}
use mathlib.Core.Bool.{Bool, true, false}
use mathlib.Core.List.{List, [], ◌∷◌}
use Prim.Native.Nat.{ℕ, ◌-◌}
use lib.Dec.{eqb}
use lib.ListN.{length}
use denote.Ref.{Bor}
use Rattle.text.specs.Literal.{bytes}
use Rattle.text.specs.Pieces.{pieces}
use Rattle.text.proofs.Tight.{unique, ShutsOut, shut_out}
use Rattle.walk.specs.declared.reader.Reader.{Reader}
use Rattle.walk.specs.Lines.{line_text, next_from, start_from, line_between}

-- ---- `next` and `line_from`

pub next_unique : (s : List ℕ) (at : ℕ) (x y : Option (ℕ × ℕ)) → x ≡ next_from s at → y ≡ next_from s at → x ≡ y
next_unique s = unique (next_from s)

abbrev is_line : ℕ → Option (ℕ × ℕ) → Bool
is_line n (Some (a, b)) = eqb b n
is_line n None = false

abbrev is_rest : Option (ℕ × ℕ) → Bool
is_rest (Some (a, b)) = false
is_rest None = true

pub next_not_from_the_start : ShutsOut {A = List ℕ × ℕ} (λ (s, at). next_from s at) (λ (s, at). next_from s 0)
unfolding next_from line_text pieces
next_not_from_the_start = shut_out (is_line 4) (97 ∷ 10 ∷ 98 ∷ 10 ∷ [], 2) refl refl

-- the unfinished line taken for a whole one
pub next_not_a_rest : ShutsOut {A = List ℕ × ℕ} (λ (s, at). next_from s at) (λ (s, at). Some (length s, length s))
unfolding next_from line_text pieces
next_not_a_rest = shut_out is_rest (bytes "a", 0) refl refl

-- ---- `next_start`, and the place that `step` leads to

pub start_unique : (s : List ℕ) (at x y : ℕ) → x ≡ start_from s at → y ≡ start_from s at → x ≡ y
start_unique s = unique (start_from s)

-- a rest passed over
pub start_not_the_end : ShutsOut {A = List ℕ × ℕ} (λ (s, at). start_from s at) (λ (s, at). length s)
unfolding start_from next_from line_text pieces
start_not_the_end = shut_out (eqb 0) (bytes "a", 0) refl refl

-- the same line again and again
pub start_not_here : ShutsOut {A = List ℕ × ℕ} (λ (s, at). start_from s at) (λ (s, at). at)
unfolding start_from next_from line_text pieces
start_not_here = shut_out (eqb 2) (97 ∷ 10 ∷ [], 0) refl refl

-- ---- `line_between`

pub between_unique : (s : List ℕ) (at start : ℕ) (x y : Option (ℕ × ℕ)) → x ≡ line_between s at start → y ≡ line_between s at start → x ≡ y
between_unique s at = unique (line_between s at)

abbrev ends_at : ℕ → Option (ℕ × ℕ) → Bool
ends_at n (Some (a, b)) = eqb a n
ends_at n None = false

-- the line's end left in the line
pub between_not_the_end : ShutsOut {A = List ℕ × ℕ × ℕ} (λ (s, at, start). line_between s at start) (λ (s, at, start). Some (start, start))
unfolding line_between line_text
between_not_the_end = shut_out (ends_at 1) (97 ∷ 10 ∷ [], 0, 2) refl refl

-- a line found where the place did not move
pub between_not_empty : ShutsOut {A = List ℕ × ℕ × ℕ} (λ (s, at, start). line_between s at start) (λ (s, at, start). Some (start - 1, start))
unfolding line_between line_text
between_not_empty = shut_out is_rest (97 ∷ 10 ∷ [], 2, 2) refl refl

-- ---- `new` and `step`

abbrev Chunk : Type 0
Chunk = Bor (List ℕ)

abbrev reader : Chunk → ℕ → Reader
reader c n = record { chunk = c; at = n }

pub reader_unique : (c : Chunk) (n : ℕ) (r q : Reader) → (r.chunk ≡ c) × (r.at ≡ n) → (q.chunk ≡ c) × (q.at ≡ n) → r ≡ q
reader_unique c n r q e f = unique {A = Unit {0}} (λ z. reader c n) tt r q (made r e) (made q f)
  where
    made : (r : Reader) → (r.chunk ≡ c) × (r.at ≡ n) → r ≡ reader c n
    made r e = λ i. reader (e.0 i) (e.1 i)

pub new_not_at_the_start : (c : Chunk) → ShutsOut {A = ℕ} (reader c) (λ at. reader c 0)
new_not_at_the_start c = shut_out (λ r. eqb r.at 1) 1 refl refl

-- a reader of one chunk, whichever is lent: another chunk is not read, were its bytes the same
pub new_not_of_another : (d c : Chunk) → (d ≡ c → ⊥) → (at : ℕ) → ShutsOut (λ x. reader x at) (λ x. reader d at)
new_not_of_another d c h at = record { input = c; breaks = λ e. h (ap (λ (r : Reader). r.chunk) e) }
