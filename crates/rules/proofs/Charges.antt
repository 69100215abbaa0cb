-- A process's charge is the sum over its cores and at most 64 spans; a core's held ticks are the sum over the processes; and so all charges add up to
-- all held ticks.
use Rattle.std.proofs.Common.{Some}
use mathlib.Core.Path.{◌≡◌, refl, sym, ap, subst, ◌∙◌}
use mathlib.Core.Bool.{Bool, true, false}
use mathlib.Core.List.{List, [], ◌∷◌}
use Prim.Native.Nat.{ℕ, ◌*◌, ◌≤◌}
use native.Mathlib.Nat.{mul-le-mul_left, mul-le-mul_right}
use native.Mathlib.Omega.{arith}
use lib.Dec.{eqb}
use Rattle.text.specs.Bytes.{same_bytes}
use Rattle.text.specs.Sizes.{core_limit}
use Rattle.text.specs.Lists.{any, sum_over}
use Rattle.text.proofs.Words.{same_eq, same_refl}
use Rattle.text.proofs.Lists.{sum_cong}
use Rattle.rules.specs.Lists.{one_if}
use Rattle.rules.specs.Words.{core}
use Rattle.rules.specs.Charts.{is_process}
use Rattle.rules.specs.Event.{Event}
use Rattle.rules.specs.Core.{Core, unknown, idle, held, core_at}
use Rattle.rules.specs.History.{named, names, kind_of, is_kind, cores, processes}
use Rattle.rules.specs.Verdict.{Accepted}
use Rattle.rules.specs.Sheet.{gap, ticks, is_held, is_held_by, held_ticks, holding, charge, charge_on, span}
use Rattle.rules.proofs.Sums.{sum_zero, sum_at_most, sum_swap, sum_added, sum_only}
use Rattle.rules.proofs.Room.{all_fit}
use Rattle.rules.proofs.Totals.{ticks_add, core_total}
use Rattle.rules.proofs.Tracked.{Since, now, before, Tracked, tracked, still_accepted, still_kind, kind_named, names_once, named_kind}

-- ---- sums of ticks

ticks_zero : (h : List Event) → ticks (λ (g : List Event). 0) h ≡ 0
unfolding ticks
ticks_zero [] = refl
ticks_zero (e ∷ h) = omega (arith, ticks_zero h)

ticks_sum : {A : Type 0} (f : A → List Event → ℕ) (xs : List A) (h : List Event) → sum_over (λ x. ticks (f x) h) xs ≡ ticks (λ g. sum_over (λ x. f x g) xs) h
ticks_sum f [] h = sym (ticks_zero h)
ticks_sum f (x ∷ xs) h = omega (arith, ticks_sum f xs h, ticks_add (f x) (λ g. sum_over (λ y. f y g) xs) h)

ticks_cong : (v w : List Event → ℕ) (h : List Event) → ((g : List Event) → Since g h → v g ≡ w g) → ticks v h ≡ ticks w h
unfolding ticks
ticks_cong v w [] q = refl
ticks_cong v w (e ∷ h) q = rw (q h (before now), ticks_cong v w h (λ g s. q g (before s)))

-- ---- what a process holds, over the names of any later history

-- a name that is not a core's is unknown as a core, now and earlier
not_core : (p : List ℕ) (c : List ℕ) (g h : List Event) → Since g h → Accepted h → is_kind (eqb core) (kind_of c h) ≡ false → (k : Core) → Tracked c g k → is_held_by p k ≡ 0
not_core p c g h s a q unknown t = refl
not_core p c g h s a q idle t = refl
not_core p c g h s a q (held x) t = let z = still_kind c core g h s a t.0 in let w : true ≡ false = sym (ap (is_kind (eqb core)) z) ∙ q in cc

-- what a process holds, summed over the names of any later history
pub holding_later : (p : List ℕ) (g h : List Event) → Since g h → Accepted h → holding p g ≡ sum_over (λ c. is_held_by p (core_at c g)) (names h)
unfolding names
holding_later p g h now a =
    sum_only (λ n. is_kind (eqb core) (kind_of n h)) (λ c. is_held_by p (core_at c h)) (λ c q. not_core p c h h now a q (core_at c h) (tracked c h a)) (names h)
holding_later p g h (before {h = k} {e = e} s) a =
    holding_later p g k s a.1
    ∙ sym (sum_added same_bytes same_eq same_refl (λ c. is_held_by p (core_at c g)) (names k) (named e)
    (λ c q. not_core p c g k s a.1 (ap (is_kind (eqb core)) (kind_named k c q)) (core_at c g) (tracked c g (still_accepted g k s a.1))))

-- A process's charge is the sum over its cores.
pub charge_by_core : (h : List Event) → Accepted h → (p : List ℕ) → charge p h ≡ sum_over (λ c. charge_on p c h) (cores h)
charge_by_core h a p =
    ticks_cong (holding p) (λ g. sum_over (λ c. is_held_by p (core_at c g)) (names h)) h (λ g s. holding_later p g h s a)
    ∙ sym (ticks_sum (λ c g. is_held_by p (core_at c g)) (names h) h)
    ∙ sym (sum_only (λ n. is_kind (eqb core) (kind_of n h)) (λ c. charge_on p c h) (λ c q.
    ticks_cong (λ g. is_held_by p (core_at c g)) (λ g. 0) h (λ g s. not_core p c g h s a q (core_at c g) (tracked c g (still_accepted g h s a))) ∙ ticks_zero h) (names h))

-- ---- how large a charge can be

ticks_le : (v w : List Event → ℕ) (h : List Event) → ((g : List Event) → v g ≤ w g) → ticks v h ≤ ticks w h
unfolding ticks
ticks_le v w [] q = omega arith
ticks_le v w (e ∷ h) q = omega (arith, mul-le-mul_left (gap e h) (q h), ticks_le v w h q)

one_at_most : (p : List ℕ) (k : Core) → is_held_by p k ≤ is_held k
one_at_most p unknown = omega arith
one_at_most p idle = omega arith
one_at_most p (held x) = by_test (same_bytes p x.name)
  where
    by_test : (b : Bool) → one_if b ≤ 1
    by_test true = omega arith
    by_test false = omega arith

-- A charge is at most the span for each of the 64 cores.
pub charge_at_most : (h : List Event) → Accepted h → (p : List ℕ) → charge p h ≤ core_limit * span h
charge_at_most h a p =
    omega (
      arith,
      charge_by_core h a p,
      sum_at_most (λ c. charge_on p c h) (span h) (cores h) (λ c.
          omega (arith, ticks_le (λ g. is_held_by p (core_at c g)) (λ g. is_held (core_at c g)) h (λ g. one_at_most p (core_at c g)), core_total h a c)),
      mul-le-mul_right (span h) (all_fit h a).cores_fit,
    )

-- ---- the held ticks of a core by processes

one_holder : (c : List ℕ) (g h : List Event) → Since g h → Accepted h → (k : Core) → Tracked c g k → sum_over (λ p. is_held_by p k) (processes h) ≡ is_held k
one_holder c g h s a unknown t = sum_zero (processes h)
one_holder c g h s a idle t = sum_zero (processes h)
one_holder c g h s a (held x) t =
    sum_only (λ n. is_kind is_process (kind_of n h)) (λ p. one_if (same_bytes p x.name)) (λ p q. ap one_if (another p q (same_bytes p x.name) refl)) (names h)
    ∙ names_once h x.name
    ∙ ap one_if (named_kind h x.name x.kind kind (any (same_bytes x.name) (names h)) refl)
  where
    kind : kind_of x.name h ≡ Some x.kind
    kind = still_kind x.name x.kind g h s a t.1

    another : (p : List ℕ) → is_kind is_process (kind_of p h) ≡ false → (b : Bool) → same_bytes p x.name ≡ b → b ≡ false
    another p q false u = refl
    another p q true u =
        sym t.2 ∙ ap (is_kind is_process) (sym (subst (λ (n : List ℕ). kind_of n h ≡ Some x.kind) (sym (same_eq p x.name u)) kind)) ∙ q

-- A core's held ticks are the sum over the processes.
pub held_by_process : (h : List Event) → Accepted h → (c : List ℕ) → sum_over (λ p. charge_on p c h) (processes h) ≡ held_ticks c h
held_by_process h a c =
    ticks_sum (λ p g. is_held_by p (core_at c g)) (processes h) h
    ∙ ticks_cong (λ g. sum_over (λ p. is_held_by p (core_at c g)) (processes h)) (λ g. is_held (core_at c g)) h
    (λ g s. one_holder c g h s a (core_at c g) (tracked c g (still_accepted g h s a)))

-- All charges add up to all held ticks.
pub charges_total : (h : List Event) → Accepted h → sum_over (λ p. charge p h) (processes h) ≡ sum_over (λ c. held_ticks c h) (cores h)
charges_total h a =
    sum_cong (λ p. charge p h) (λ p. sum_over (λ c. charge_on p c h) (cores h)) (processes h) (charge_by_core h a)
    ∙ sum_swap (λ p c. charge_on p c h) (processes h) (cores h)
    ∙ sum_cong (λ c. sum_over (λ p. charge_on p c h) (processes h)) (λ c. held_ticks c h) (cores h) (held_by_process h a)
