-- The time scales by their numbers, from 1, as a verdict has them.
use Rattle.std.specs.Prelude.{cond, List, [], ℕ, eqb}
use Rattle.words.specs.declared.scale.Scale.{Scale}
use Rattle.words.specs.declared.scale.Scale.TheVariants.{Picoseconds, Nanoseconds, Microseconds, Milliseconds, Seconds}
use Rattle.words.specs.Scale.{scale_word}

unfoldable pub scale_number : Scale → ℕ
scale_number Picoseconds = 1
scale_number Nanoseconds = 2
scale_number Microseconds = 3
scale_number Milliseconds = 4
scale_number Seconds = 5

-- the word of a number; any other has none
unfoldable pub scale_text : ℕ → List ℕ
scale_text n =
    cond (eqb n 1) (scale_word Picoseconds)
    (cond (eqb n 2) (scale_word Nanoseconds)
    (cond (eqb n 3) (scale_word Microseconds) (cond (eqb n 4) (scale_word Milliseconds) (cond (eqb n 5) (scale_word Seconds) []))))
