-- `text::refusal::Refusal::number` meets its contract: the code gives each refusal the number that the table has.
use Rattle.std.proofs.Common.{◌≡◌, ◌+◌, refl}
use denote.Enum.Declared.{tag_of}
use Rattle.text.specs.contracts.refusal.Refusal.{the_type}
use Rattle.text.specs.declared.refusal.Refusal.{Refusal}
use Rattle.text.specs.declared.refusal.Refusal.TheVariants.{Line, Version, Parameter, Scale, Field, Event, Rule, Time, Kind, Room, Chart, Instance, Core, Count, Size, Range}
use Rattle.text.specs.Refusal.{refusal_number}
use Rattle.text.proofs.refusal.Refusal.number.Goals as goal

one_more : (r : Refusal) → tag_of the_type r + 1 ≡ refusal_number r
one_more Line = refl
one_more Version = refl
one_more Parameter = refl
one_more Scale = refl
one_more Field = refl
one_more Event = refl
one_more Rule = refl
one_more Time = refl
one_more Kind = refl
one_more Room = refl
one_more Chart = refl
one_more Instance = refl
one_more Core = refl
one_more Count = refl
one_more Size = refl
one_more Range = refl

pub returns : goal.returns
returns c = one_more c.args.self
