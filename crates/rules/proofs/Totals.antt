-- A core's held, idle and unknown ticks add up to the span.
use mathlib.Core.Path.{◌≡◌, refl}
use mathlib.Core.List.{List, [], ◌∷◌}
use Prim.Native.Nat.{ℕ, ◌+◌, ◌≤◌}
use native.Mathlib.Omega.{arith}
use Rattle.rules.specs.Event.{Event}
use Rattle.rules.specs.Core.{Core, unknown, idle, held, core_at}
use Rattle.rules.specs.Verdict.{Accepted}
use Rattle.rules.specs.Sheet.{ticks, is_held, is_idle, is_unknown, held_ticks, idle_ticks, unknown_ticks, first_time, span}
use Rattle.rules.proofs.Answers.{neighbours}

pub ticks_add : (v w : List Event → ℕ) (h : List Event) → ticks (λ g. v g + w g) h ≡ ticks v h + ticks w h
unfolding ticks
ticks_add v w [] = refl
ticks_add v w (e ∷ h) = let i = ticks_add v w h in omega arith

pub first_le : (e : Event) (h : List Event) → Accepted (e ∷ h) → first_time e h ≤ e.time
first_le e [] a = omega arith
first_le e (d ∷ h) a = omega (arith, first_le d h a.1, neighbours e d h a)

-- a count that is always 1 gives the whole span
pub whole : (w : List Event → ℕ) → ((h : List Event) → w h ≡ 1) → (h : List Event) → Accepted h → ticks w h ≡ span h
unfolding ticks
whole w one [] a = refl
whole w one (e ∷ []) a = omega arith
whole w one (e ∷ d ∷ h) a =
    let i = whole w one (d ∷ h) a.1 in
    rw (one (d ∷ h)) (omega (arith, i, first_le d h a.1, neighbours e d h a))

one_of : (k : Core) → is_held k + is_idle k + is_unknown k ≡ 1
one_of unknown = refl
one_of idle = refl
one_of (held x) = refl

pub core_total : (h : List Event) → Accepted h → (c : List ℕ) → held_ticks c h + idle_ticks c h + unknown_ticks c h ≡ span h
core_total h a c =
    let held_at : List Event → ℕ = λ g. is_held (core_at c g) in
    let idle_at : List Event → ℕ = λ g. is_idle (core_at c g) in
    let unknown_at : List Event → ℕ = λ g. is_unknown (core_at c g) in
    let sums : List Event → ℕ = λ g. held_at g + idle_at g + unknown_at g in
    omega (arith, ticks_add held_at idle_at h, ticks_add (λ g. held_at g + idle_at g) unknown_at h, whole sums (λ g. one_of (core_at c g)) h a)
