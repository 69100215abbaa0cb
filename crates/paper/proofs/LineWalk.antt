-- A line by its place and the words of a line, as the code walks from one to the next.
use mathlib.Core.Path.{◌≡◌, refl}
use mathlib.Core.Bool.{Bool, true, false, cond}
use mathlib.Core.List.{List, [], ◌∷◌}
use Prim.Native.Nat.{ℕ, ◌+◌, ◌-◌, ◌≤◌, ◌<◌}
use native.Mathlib.Numerals.{add-one}
use native.Mathlib.Omega.{arith}
use lib.ListN.{length, take, drop, drop_of_length-le, get_or-eq_default}
use lib.Seq.{take-nil}
use Rattle.text.specs.Bytes.{to_byte, find_from}
use Rattle.std.specs.Prelude.{◌==◌}
use Rattle.std.specs.List.{count_by}
use Rattle.std.proofs.lemmas.List.Recursion.{is_count_by}
use Rattle.text.specs.Pieces.{before, pieces}
use Rattle.text.proofs.Pieces.{pieces_some}
use Rattle.text.proofs.PiecesFrom.{From, pieces_next, pieces_end, piece_here}
use Rattle.bill.specs.Reading.{word_of}
use Rattle.paper.specs.Lines.{line_from}

-- ---- a line

pub line_past : (text : List ℕ) (p : ℕ) → length text < p → line_from text p ≡ []
unfolding line_from
line_past text p h = rw (drop_of_length-le text {i = p} (omega arith), take-nil)

pub line_here : (text : List ℕ) (p : ℕ) → line_from text p ≡ take (find_from 10 text p - p) (drop p text)
unfolding line_from find_from
line_here text p = let e : p + to_byte 10 (drop p text) - p ≡ to_byte 10 (drop p text) = omega arith in rw e

-- ---- the words of a line: i of them stand before the index a

pub word_missing : (line : List ℕ) (k i a n : ℕ) → n ≡ find_from 32 line a → From 32 line i a → length line ≤ n → i < k → word_of line k ≡ []
word_missing line k i a n e f h lt = get_or-eq_default (pieces 32 line) [] (omega (arith, pieces_end 32 line i a f (rw e at h)))

pub word_next : (line : List ℕ) (i a n : ℕ) → n ≡ find_from 32 line a → From 32 line i a → n < length line → From 32 line (i + 1) (n + 1)
word_next line i a n e f h = rw (add-one, add-one, e) (pieces_next 32 line i a f (rw e at h))

pub word_here : (line : List ℕ) (k i a n : ℕ) → n ≡ find_from 32 line a → From 32 line i a → i ≤ k → k ≤ i → word_of line k ≡ take (n - a) (drop a line)
word_here line k i a n e f h g = let z : k ≡ i = omega arith in rw (z, e) (piece_here 32 line i a f)

-- k - 1 of them stand before it

pub count_next : (line : List ℕ) (k a n : ℕ) → n ≡ find_from 32 line a → 1 ≤ k → From 32 line (k - 1) a → n < length line → From 32 line (k + 1 - 1) (n + 1)
count_next line k a n e g f h = let z : k + 1 - 1 ≡ k - 1 + 1 = omega arith in rw z (word_next line (k - 1) a n e f h)

pub count_end : (line : List ℕ) (k a n : ℕ) → n ≡ find_from 32 line a → 1 ≤ k → From 32 line (k - 1) a → length line ≤ n → k ≡ length (pieces 32 line)
count_end line k a n e g f h = omega (arith, pieces_end 32 line (k - 1) a f (rw e at h))

-- ---- how many they are: the first, and one behind each blank

one_more : (t : Bool) (x : ℕ) (ps : List (List ℕ)) → 1 ≤ length ps → length (before t x ps) - 1 ≡ cond t (1 + (length ps - 1)) (length ps - 1)
one_more true x ps h = omega arith
one_more false x [] h = absurd (omega arith)
one_more false x (p ∷ ps) h = refl

pub piece_count : (b : ℕ) (s : List ℕ) → length (pieces b s) ≡ count_by (λ x. x == b) s + 1
unfolding pieces
piece_count b s =
    let n = is_count_by (λ s. length (pieces b s) - 1) (λ x. x == b) refl (λ x s. one_more (x == b) x (pieces b s) (pieces_some b s)) s in
    omega (arith, n, pieces_some b s)
