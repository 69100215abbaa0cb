-- `text::name::all_plain` meets its contract. The invariant: all bytes are plain where nothing odd was seen and what is left is plain.
use Rattle.std.proofs.Common.{◌≡◌, ◌&&◌, eqb, drop}
use Rattle.text.specs.Name.{all_plain}
use Rattle.text.proofs.name.all_plain.Given as goal

abbrev pub invariant-loop-b : goal.invariant-loop-b
invariant-loop-b l = all_plain l.s ≡ eqb l.odd 0 && all_plain (drop l.b-index l.s)
