-- A turn over the buffer is a step of reading, and the end of input over the buffer is that of reading: the buffer's front holds what was carried over.
use Rattle.std.proofs.Common.{None, Some, Option}
use mathlib.Core.Path.{◌≡◌, refl, ap}
use mathlib.Core.Bool.{Bool, true, false, cond}
use mathlib.Core.List.{List, ◌∷◌, ◌++◌}
use Prim.Native.Nat.{ℕ, zero, suc, ◌≤◌}
use native.Mathlib.Omega.{arith}
use lib.Dec.{ltb}
use lib.ListN.{length, take, drop, length-append, take-append-drop}
use lib.Seq.{length-take-le, take_all}
use Rattle.text.specs.Put.{written}
use Rattle.text.proofs.Writes.{take_written}
use Rattle.walk.specs.Lines.{rest_of}
use Rattle.walk.proofs.Chunks.{size}
use Rattle.rules.specs.Lists.{if_zero}
use Rattle.judge.specs.Feed.{Tables, fed_line, fed_chunk}
use Rattle.run.specs.Chunk.{carried_most, Turned, carried_over, chunk_taken, last_taken, Progress, going, stopped, read_on, at_input_end}

-- what is read after a turn
abbrev pub read_after : Option ℕ → Tables → List ℕ → List (List ℕ) → Progress
read_after (Some n) t buf rs = read_on t (take n buf) rs
read_after None t buf rs = stopped t

abbrev pub goes_on : Turned → List (List ℕ) → Progress
goes_on u rs = read_after u.turn u.left u.buffer rs

-- the rest of a part of the buffer fits into it
rest_fits : (buf : List ℕ) (n : ℕ) → length (rest_of (take n buf)) ≤ length buf
rest_fits buf n = omega (arith, size (take n buf), length-append (take n buf) (drop n buf), ap length (take-append-drop n buf))

pub turn_step : (t : Tables) (buf : List ℕ) (n : ℕ) (rest r : List ℕ) (rs : List (List ℕ)) → take n buf ≡ rest ++ r →
    goes_on (chunk_taken t buf n) rs ≡ read_on t rest (r ∷ rs)
unfolding chunk_taken carried_over read_on
turn_step t buf n rest r rs e =
    let c = fed_chunk t (take n buf) in
    rw (← e) (by_tests c.fed.answer (ltb carried_most (length (rest_of (take n buf)))) c.left (rest_of (take n buf)) (rest_fits buf n))
  where
    by_tests : (a : ℕ) (b : Bool) (u : Tables) (s : List ℕ) → length s ≤ length buf →
        goes_on
        (if_zero a
        (cond b (record { turn = None; left = (fed_line u s).left; buffer = buf })
        (record { turn = Some (length s); left = u; buffer = written buf 0 s }))
        (record { turn = None; left = u; buffer = buf })) rs
        ≡ if_zero a (cond b (stopped (fed_line u s).left) (read_on u s rs)) (stopped u)
    by_tests zero true u s h = refl
    by_tests zero false u s h = ap (λ (x : List ℕ). read_on u x rs) (take_written buf s h)
    by_tests (suc a) b u s h = refl

pub turn_end : (t : Tables) (buf : List ℕ) (n : ℕ) → n ≤ length buf → last_taken t buf n ≡ at_input_end (going t (take n buf))
unfolding last_taken
turn_end t buf n h = rw (length-take-le n buf h, take_all n (take n buf) (omega (arith, length-take-le n buf h)))
