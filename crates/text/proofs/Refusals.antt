-- Laws of the numbers of refusals: none is 0, which says that nothing is refused, and each is that of one refusal.
use Rattle.std.proofs.Common.{◌≡◌, ℕ, pred, [], ◌∷◌, get_or, refl, Result, Ok, Err, sym, ap, ◌∙◌, arith}
use Rattle.text.specs.declared.refusal.Refusal.{Refusal}
use Rattle.text.specs.declared.refusal.Refusal.TheVariants.{Line, Version, Parameter, Scale, Field, Event, Rule, Time, Kind, Room, Chart, Instance, Core, Count, Size, Range}
use Rattle.text.specs.Refusal.{refusal_number, numbered}

-- the refusals in the order of their numbers
abbrev at : ℕ → Refusal
at n = get_or (Line ∷ Version ∷ Parameter ∷ Scale ∷ Field ∷ Event ∷ Rule ∷ Time ∷ Kind ∷ Room ∷ Chart ∷ Instance ∷ Core ∷ Count ∷ Size ∷ Range ∷ []) (pred n) Line

at_number : (r : Refusal) → at (refusal_number r) ≡ r
at_number Line = refl
at_number Version = refl
at_number Parameter = refl
at_number Scale = refl
at_number Field = refl
at_number Event = refl
at_number Rule = refl
at_number Time = refl
at_number Kind = refl
at_number Room = refl
at_number Chart = refl
at_number Instance = refl
at_number Core = refl
at_number Count = refl
at_number Size = refl
at_number Range = refl

pub number_same : (r q : Refusal) → refusal_number r ≡ refusal_number q → r ≡ q
number_same r q e = sym (at_number r) ∙ ap at e ∙ at_number q

pub number_not_0 : (r : Refusal) → refusal_number r ≡ 0 → ⊥
number_not_0 Line e = omega (arith, e)
number_not_0 Version e = omega (arith, e)
number_not_0 Parameter e = omega (arith, e)
number_not_0 Scale e = omega (arith, e)
number_not_0 Field e = omega (arith, e)
number_not_0 Event e = omega (arith, e)
number_not_0 Rule e = omega (arith, e)
number_not_0 Time e = omega (arith, e)
number_not_0 Kind e = omega (arith, e)
number_not_0 Room e = omega (arith, e)
number_not_0 Chart e = omega (arith, e)
number_not_0 Instance e = omega (arith, e)
number_not_0 Core e = omega (arith, e)
number_not_0 Count e = omega (arith, e)
number_not_0 Size e = omega (arith, e)
number_not_0 Range e = omega (arith, e)

module _ {A : Type 0} where
  -- no second answer has the same number, or carries the same
  pub numbered_same : (x y : Result A Refusal) → numbered x ≡ numbered y → x ≡ y
  numbered_same (Ok a) (Ok b) e = cc
  numbered_same (Ok a) (Err q) e = cc
  numbered_same (Err r) (Ok b) e = cc
  numbered_same (Err r) (Err q) e = let n : refusal_number r ≡ refusal_number q = cc in ap Err (number_same r q n)
