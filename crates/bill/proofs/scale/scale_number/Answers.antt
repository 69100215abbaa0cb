-- `bill::scale::scale_number` meets its contract: the numbers that the code gives the time scales are those.
use mathlib.Core.Path.{◌≡◌, refl}
use Prim.Native.Nat.{◌+◌}
use denote.Enum.Declared.{tag_of}
use Rattle.words.specs.contracts.scale.Scale.{the_type}
use Rattle.words.specs.declared.scale.Scale.{Scale}
use Rattle.words.specs.declared.scale.Scale.TheVariants.{Picoseconds, Nanoseconds, Microseconds, Milliseconds, Seconds}
use Rattle.bill.specs.Scale.{scale_number}
use Rattle.bill.proofs.scale.scale_number.Goals as goal

own_number : (s : Scale) → tag_of the_type s + 1 ≡ scale_number s
unfolding scale_number
own_number Picoseconds = refl
own_number Nanoseconds = refl
own_number Microseconds = refl
own_number Milliseconds = refl
own_number Seconds = refl

pub returns : goal.returns
returns c = own_number c.args.scale
