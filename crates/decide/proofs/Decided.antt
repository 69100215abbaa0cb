-- What a plan says: its number is the rules' answer at what the tables say, or 15 for a table of a wrong size; and what a line that is taken carries.
use Rattle.std.proofs.Common.{Err, Ok}
use mathlib.Core.Path.{◌≡◌, refl, sym, ap, ◌∙◌}
use mathlib.Core.Bool.{Bool, true, false, cond}
use mathlib.Core.List.{List}
use Prim.Native.Nat.{ℕ, zero, suc, ◌≤◌}
use native.Mathlib.Omega.{arith}
use lib.ListN.{length}
use Rattle.line.proofs.Lowest.{lowest_has}
use Rattle.rules.specs.Limits.{last_refusal}
use Rattle.rules.specs.Lists.{if_zero}
use Rattle.rules.specs.Event.{Event}
use Rattle.rules.specs.Refusals.{Known, event_tests, answer_to}
use Rattle.tables.specs.Sized.{Sized, is_sized}
use Rattle.tables.proofs.Sizes.{sizes_mean}
use Rattle.lookup.specs.declared.look.LookedUp.{LookedUp}
use Rattle.lookup.specs.LookedUp.{looked_up}
use Rattle.decide.specs.Known.{known_by}
use Rattle.decide.specs.Decide.{Plan, plan_answer, enters, plan_by, plan_of, decided}

-- ---- tables of the right sizes

pub decided_sized : {names nums ticks : List ℕ} (e : Event) → Sized names nums ticks → decided names nums ticks e ≡ plan_of names nums ticks e
unfolding decided
decided_sized {names} {nums} {ticks} e s = rw ((sizes_mean names nums ticks).shows s)

-- ---- an answer is 0 or from 8 to 14

abbrev Ranged : ℕ → Type 0
Ranged a = 1 ≤ a → (8 ≤ a) × (a ≤ last_refusal)

answer_ranged : (k : Known) (e : Event) → Ranged (answer_to k e)
unfolding answer_to event_tests
answer_ranged k e =
    lowest_has Ranged (event_tests k e) (λ h. absurd (omega arith))
    (λ h. omega arith, (λ h. omega arith, (λ h. omega arith, (λ h. omega arith, (λ h. omega arith, (λ h. omega arith, (λ h. omega arith, tt)))))))

-- ---- the number of a plan: what the rules answer at what the tables say, and 15 for a table of a wrong size

module _ (names nums ticks : List ℕ) (e : Event) where
  -- the rules' answer at what is looked up
  abbrev pub ruled : ℕ
  ruled = answer_to (known_by nums ticks (looked_up names nums e) e) e

  pub plan_answer_lem : plan_answer (plan_of names nums ticks e) ≡ ruled
  unfolding plan_answer plan_of plan_by
  plan_answer_lem = by_answer (looked_up names nums e) (enters nums (looked_up names nums e) e) ruled
    where
      by_answer : (s : LookedUp) (t a : ℕ) → plan_answer (if_zero a (Ok (s, t)) (Err a)) ≡ a
      by_answer s t zero = refl
      by_answer s t (suc a) = refl

  pub decided_answer : plan_answer (decided names nums ticks e) ≡ cond (is_sized (length names) (length nums) (length ticks)) ruled 15
  unfolding plan_answer decided
  decided_answer = by_size (is_sized (length names) (length nums) (length ticks))
    where
      by_size : (b : Bool) → plan_answer (cond b (plan_of names nums ticks e) (Err 15)) ≡ cond b ruled 15
      by_size true = plan_answer_lem
      by_size false = refl

  -- by tables of the right sizes a refusal is by one of 8 to 14
  pub plan_refuses : 1 ≤ plan_answer (plan_of names nums ticks e)
      → (8 ≤ plan_answer (plan_of names nums ticks e)) × (plan_answer (plan_of names nums ticks e) ≤ last_refusal)
  plan_refuses = rw plan_answer_lem (answer_ranged (known_by nums ticks (looked_up names nums e) e) e)

  -- and a line that is taken carries what was looked up and the state entered
  pub plan_takes : (s : LookedUp) (t : ℕ) → plan_of names nums ticks e ≡ Ok (s, t) → (s ≡ looked_up names nums e) × (t ≡ enters nums s e)
  unfolding plan_of plan_by
  plan_takes s t q = by_answer (looked_up names nums e) ruled q
    where
      by_answer : (x : LookedUp) (a : ℕ) → ◌≡◌ {A = Plan} (if_zero {A = Plan} a (Ok (x, enters nums x e)) (Err a)) (Ok (s, t)) → (s ≡ x) × (t ≡ enters nums s e)
      by_answer x zero p =
          let both : ◌≡◌ {A = LookedUp × ℕ} (x, enters nums x e) (s, t) = cc in
          let same : x ≡ s = ap (λ (w : LookedUp × ℕ). w.0) both in
          let state : enters nums x e ≡ t = ap (λ (w : LookedUp × ℕ). w.1) both in
          (sym same, sym state ∙ ap (λ (y : LookedUp). enters nums y e) same)
      by_answer x (suc a) p = let z : ◌≡◌ {A = ℕ} 0 1 = cc in absurd (omega arith)
