-- The numbers of document 01's table of answers.
use Rattle.std.specs.Prelude.{ℕ, Result, Ok, Err}
use Rattle.text.specs.declared.refusal.Refusal.{Refusal}
use Rattle.text.specs.declared.refusal.Refusal.TheVariants.{Line, Version, Parameter, Scale, Field, Event, Rule, Time, Kind, Room, Chart, Instance, Core, Count, Size, Range}

abbrev pub refusal_number : Refusal → ℕ
refusal_number Line = 1
refusal_number Version = 2
refusal_number Parameter = 3
refusal_number Scale = 4
refusal_number Field = 5
refusal_number Event = 6
refusal_number Rule = 7
refusal_number Time = 8
refusal_number Kind = 9
refusal_number Room = 10
refusal_number Chart = 11
refusal_number Instance = 12
refusal_number Core = 13
refusal_number Count = 14
refusal_number Size = 15
refusal_number Range = 16

-- an answer that may be a refusal, as its number; 0 where it is none
abbrev pub answer_number : {A : Type 0} → Result A Refusal → ℕ
answer_number (Ok x) = 0
answer_number (Err r) = refusal_number r

-- an answer with the number in place of the refusal
abbrev pub numbered : {A : Type 0} → Result A Refusal → Result A ℕ
numbered (Ok x) = Ok x
numbered (Err r) = Err (refusal_number r)
