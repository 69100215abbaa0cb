-- One read behind what was carried over, and its turn: what the code comes to is what reading comes to.
use Rattle.std.proofs.Common.{None, Some, Option, inl}
use mathlib.Core.Path.{◌≡◌, sym, ap, ◌∙◌}
use mathlib.Core.List.{List, [], ◌∷◌, ◌++◌}
use Prim.Native.Nat.{ℕ, ◌+◌, ◌≤◌, ◌<◌}
use native.Mathlib.Omega.{arith}
use lib.ListN.{length, take, drop, get_or, length-drop}
use lib.Seq.{take-add, get_or-take, get_or-drop, length-take-le}
use Rattle.judge.specs.Feed.{Tables}
use Rattle.run.specs.Chunk.{Turned, chunk_taken, last_taken, going, stopped, read_on, at_input_end}
use Rattle.run.proofs.Buffered.{goes_on, turn_step, turn_end}
use Rattle.run.proofs.Carried.{more_short}
use Rattle.input.specs.Reads.{buffer_size, Filled, ARead, OneMore, Turned as TurnedTo}

-- the end of input
pub at_end_lem : {n have : ℕ} {b c : List ℕ} (t : Tables) {v : Tables} → Filled n have b c → v ≡ last_taken t c have → v ≡ at_input_end (going t (take have b))
at_end_lem {have = have} {b = b} {c = c} t f w = rw (← f.kept) (w ∙ turn_end t c have (omega (arith, f.room)))

module _ {n have : ℕ} {b c : List ℕ} (f : Filled n have b c) (some : 0 < n) (small : length c ≤ buffer_size) (bytes : (i : ℕ) → get_or c i 0 < 256) where
  abbrev read : List ℕ
  read = take n (drop have c)

  length_read : length read ≡ n
  length_read = length-take-le n (drop have c) (omega (arith, f.room, length-drop have c))

  a_read : ARead have read
  a_read = record {
    some_bytes = omega (arith, length_read);
    room = omega (arith, length_read, f.room);
    bytes = λ i h. let l : i < n = omega (arith, length_read) in rw (get_or-take n (drop have c) i 0 l, get_or-drop have c i 0) (bytes (have + i));
  }

  module _ (t : Tables) {x : Turned} (w : x ≡ chunk_taken t c (have + n)) where
    turn_read : goes_on x [] ≡ read_on t (take have b) (read ∷ [])
    turn_read =
        ap (λ (y : Turned). goes_on y []) w
        ∙ turn_step t c (have + n) (take have b) read [] (take-add have n c ∙ ap (λ (l : List ℕ). l ++ read) f.kept)

    pub one_more : {left : ℕ} → x.turn ≡ Some left → OneMore n have t b (going x.left (take left x.buffer))
    unfolding read_on
    one_more q = record { read = read; each = a_read; counted = length_read; comes_to = sym (rw q at turn_read) }

    pub one_last : x.turn ≡ None → OneMore n have t b (stopped x.left)
    one_last q = record { read = read; each = a_read; counted = length_read; comes_to = sym (rw q at turn_read) }

    -- by how many bytes are carried over
    pub one_turn : (o : Option ℕ) → x.turn ≡ o → TurnedTo o n have t b x.left x.buffer
    one_turn (Some left) q = (more_short t c (have + n) left w q, one_more q)
    one_turn None q = inl (one_last q)
