-- How tight the contract of `say_all` is: no second answer, and two wrong answers that it shuts out.
use mathlib.Core.Path.{◌≡◌, refl}
use mathlib.Core.List.{List, ◌∷◌, ◌++◌}
use Prim.Native.Nat.{ℕ}
use Rattle.std.specs.Prelude.{Result, Ok, Err}
use lib.Dec.{eqb}
use Rattle.text.specs.Literal.{bytes}
use Rattle.text.specs.Bytes.{same_bytes, starts_with, to_byte, find_from}
use Rattle.text.specs.Number.{number_of}
use Rattle.text.proofs.Tight.{unique, ShutsOut, shut_out}
use Rattle.bundle.specs.declared.container.Broken.{Broken}
use Rattle.bundle.specs.Container.{length_in, entry_from, end_from, container_end}

pub ended_unique : (s : List ℕ) (x y : Result ℕ Broken) → x ≡ container_end s → y ≡ container_end s → x ≡ y
ended_unique = unique container_end

-- what the answer tells: how many traces, and the index at which a container is broken, 0 where it is whole
told : Result ℕ Broken → ℕ × ℕ
told (Ok n) = (n, 0)
told (Err b) = (b.traces, b.at)

-- a container is told to be whole, whatever it is: here the byte 10 after its trace is missing
pub ended_not_always_whole : ShutsOut container_end (λ s. Ok 1)
unfolding container_end end_from entry_from length_in starts_with same_bytes find_from to_byte number_of told
ended_not_always_whole = shut_out (λ e. eqb (told e).0 0) (bytes "trace a 1" ++ 10 ∷ bytes "xy") refl refl

-- nothing is told of any container: here a trace stands before what breaks it
pub ended_not_at_once : ShutsOut container_end (λ s. Err (record { traces = 0; at = 0 }))
unfolding container_end end_from entry_from length_in starts_with same_bytes find_from to_byte number_of told
ended_not_at_once = shut_out (λ e. eqb (told e).1 12) (bytes "trace a 1" ++ 10 ∷ bytes "x" ++ 10 ∷ bytes "?") refl refl
