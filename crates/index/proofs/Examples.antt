-- Homes of names: computed by the definition, the same as by a script of a few lines.
use Rattle.std.proofs.Common.{◌≡◌, [], ◌∷◌, refl}
use Rattle.text.specs.Literal.{bytes}
use Rattle.index.specs.Hash.{word, step, fours, folded, home_of}

-- no byte, one, three and four bytes, names that begin alike, names that end alike, and a second one with the home of "A"
pub homes :
    (home_of []
    ∷ home_of (bytes "A")
    ∷ home_of (bytes "ABC")
    ∷ home_of (bytes "ABCD")
    ∷ home_of (bytes "TASK_Controller_017")
    ∷ home_of (bytes "TASK_Controller_018")
    ∷ home_of (bytes "017_Controller")
    ∷ home_of (bytes "018_Controller")
    ∷ home_of (bytes "RE")
    ∷ [])
    ≡ (0 ∷ 25 ∷ 156 ∷ 420 ∷ 207 ∷ 113 ∷ 239 ∷ 361 ∷ 25 ∷ [])
unfolding word step fours folded home_of
homes = refl
