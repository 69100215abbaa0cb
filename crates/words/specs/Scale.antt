-- The five time scales, and the one that bytes name.
use Rattle.std.specs.Prelude.{ℕ, List, [], ◌∷◌, None, Some, Option}
use Rattle.text.specs.Literal.{bytes}
use Rattle.words.specs.Named.{first_named}
use Rattle.words.specs.declared.scale.Scale.{Scale}
use Rattle.words.specs.declared.scale.Scale.TheVariants.{Picoseconds, Nanoseconds, Microseconds, Milliseconds, Seconds}

-- "X one of ps, ns, us, ms, s"
unfoldable pub scale_word : Scale → List ℕ
scale_word Picoseconds = bytes "ps"
scale_word Nanoseconds = bytes "ns"
scale_word Microseconds = bytes "us"
scale_word Milliseconds = bytes "ms"
scale_word Seconds = bytes "s"

abbrev pub scales : List Scale
scales = Picoseconds ∷ Nanoseconds ∷ Microseconds ∷ Milliseconds ∷ Seconds ∷ []

-- the time scale that bytes name
unfoldable pub scale_of : List ℕ → Option Scale
scale_of = first_named scale_word Some scales None
