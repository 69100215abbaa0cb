-- A sum's text and a lent output: one too short is 15, and else the text is written at its front.
use mathlib.Core.Path.{◌≡◌}
use mathlib.Core.List.{List}
use Prim.Native.Nat.{ℕ, ◌≤◌, ◌<◌}
use lib.ListN.{length}
use borrow.Author.Tests.{le-leb, lt-leb}
use Rattle.text.specs.Put.{written}
use Rattle.shifts.specs.Sum.{Text}
use Rattle.std.specs.declared.result.Result.TheVariants.{Ok, Err}
use Rattle.adding.specs.Adding.{summed, into_output}

pub into_short : (t out : List ℕ) → length out < length t → summed (Err 15) out ≡ into_output (Text t) out
into_short t out h = rw (lt-leb (length t) (length out) h)

pub into_fits : (t out : List ℕ) {m : List ℕ} {n : ℕ} → n ≡ length t → length t ≤ length out → m ≡ written out 0 t → summed (Ok n) m ≡ into_output (Text t) out
into_fits t out e h w = rw (le-leb (length t) (length out) h, e, w)
