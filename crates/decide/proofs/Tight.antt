-- How tight the contract of `decide` is: no second answer, and a wrong answer that it shuts out.
use Rattle.std.proofs.Common.{Result}
use mathlib.Core.Path.{◌≡◌, ap}
use mathlib.Core.List.{List, []}
use Prim.Native.Nat.{ℕ}
use native.Mathlib.Omega.{arith}
use Rattle.text.specs.Literal.{bytes}
use Rattle.text.specs.declared.refusal.Refusal.{Refusal}
use Rattle.text.specs.Refusal.{numbered}
use Rattle.text.proofs.Refusals.{numbered_same}
use Rattle.text.proofs.Tight.{unique, ShutsOut}
use Rattle.rules.specs.Words.{task, start}
use Rattle.rules.specs.Event.{Event}
use Rattle.tables.specs.Sized.{is_sized}
use Rattle.lookup.specs.declared.look.LookedUp.{LookedUp}
use Rattle.decide.specs.Decide.{Plan, plan_answer, plan_of, decided}
use Rattle.decide.proofs.Decided.{plan_refuses}

pub decide_unique : (names nums ticks : List ℕ) (e : Event) (x y : Plan) → x ≡ decided names nums ticks e → y ≡ decided names nums ticks e → x ≡ y
decide_unique names nums ticks = unique (decided names nums ticks)

-- and so of the code's own answers, since no two refusals have one number
pub decide_once : (names nums ticks : List ℕ) (e : Event) (x y : Result (LookedUp × ℕ) Refusal) → numbered x ≡ decided names nums ticks e → numbered y ≡ decided names nums ticks e → x ≡ y
decide_once names nums ticks e x y p q = numbered_same x y (decide_unique names nums ticks e (numbered x) (numbered y) p q)

abbrev decides : List ℕ × List ℕ × List ℕ × Event → Plan
decides (names, nums, ticks, e) = decided names nums ticks e

abbrev started : Event
started = record { time = 0; source = bytes "C"; source_instance = 0; kind = task; target = bytes "A"; target_instance = 0; word = start; count = 0 }

-- tables of a wrong size are 15, whatever they hold
pub decide_not_untested : ShutsOut decides (λ (names, nums, ticks, e). plan_of names nums ticks e)
unfolding decided is_sized plan_answer
decide_not_untested = record { input = ([], [], [], started); breaks = λ q. by_number (ap plan_answer q) }
  where
    by_number : plan_answer (plan_of [] [] [] started) ≡ 15 → ⊥
    by_number q = omega (arith, plan_refuses [] [] [] started (omega arith))
