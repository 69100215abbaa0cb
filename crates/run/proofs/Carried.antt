-- What a turn carries over is at most 1,024 bytes, so that the buffer always has room for the next read.
use Rattle.std.proofs.Common.{None, Some, Option}
use mathlib.Core.Path.{◌≡◌, refl, sym, ap, subst, ◌∙◌}
use mathlib.Core.Bool.{Bool, true, false, cond}
use mathlib.Core.List.{List}
use Prim.Native.Nat.{ℕ, zero, suc, ◌≤◌}
use lib.Dec.{ltb}
use lib.ListN.{length, take}
use borrow.Author.Tests.{ltb-false}
use Rattle.text.specs.Put.{written}
use Rattle.walk.specs.Lines.{rest_of}
use Rattle.rules.specs.Lists.{if_zero}
use Rattle.judge.specs.Feed.{Tables, fed_line, fed_chunk}
use Rattle.run.specs.Chunk.{carried_most, Turned, carried_over, chunk_taken}

abbrev Short : Option ℕ → Type 0
Short (Some n) = n ≤ carried_most
Short None = Unit {0}

carried_short : (t : Tables) (rest buf : List ℕ) → Short (carried_over t rest buf).turn
unfolding carried_over
carried_short t rest buf = by_length (ltb carried_most (length rest)) refl
  where
    long : Turned
    long = record { turn = None; left = (fed_line t rest).left; buffer = buf }

    short : Turned
    short = record { turn = Some (length rest); left = t; buffer = written buf 0 rest }

    by_length : (b : Bool) → ltb carried_most (length rest) ≡ b → Short (cond {A = Turned} b long short).turn
    by_length true q = tt
    by_length false q = ltb-false carried_most (length rest) q

chunk_short : (t : Tables) (buf : List ℕ) (n : ℕ) → Short (chunk_taken t buf n).turn
unfolding chunk_taken
chunk_short t buf n = by_answer (fed_chunk t (take n buf)).fed.answer
  where
    u : Tables
    u = (fed_chunk t (take n buf)).left

    by_answer : (a : ℕ) → Short (if_zero {A = Turned} a (carried_over u (rest_of (take n buf)) buf) (record { turn = None; left = u; buffer = buf })).turn
    by_answer zero = carried_short u (rest_of (take n buf)) buf
    by_answer (suc a) = tt

pub more_short : (t : Tables) (buf : List ℕ) (n k : ℕ) {x : Turned} → x ≡ chunk_taken t buf n → x.turn ≡ Some k → k ≤ carried_most
more_short t buf n k e q = subst Short (sym (ap (λ (u : Turned). u.turn) e) ∙ q) (chunk_short t buf n)
