-- The states of any chart: what a step enters is one, and there is none above the largest that its steps name.
use Rattle.std.proofs.Common.{Option, None, Some}
use mathlib.Core.Path.{◌≡◌, refl, ◌∙◌}
use mathlib.Core.Bool.{Bool, true, false, ◌&&◌, ◌||◌, or-true}
use mathlib.Core.List.{List, [], ◌∷◌}
use Prim.Native.Nat.{ℕ, ◌<◌}
use native.Mathlib.Omega.{arith}
use lib.Dec.{eqb, leb}
use borrow.Author.Tests.{eq-eqb, ne_eqb, leb-true}
use Rattle.rules.specs.Lists.{member, when, or_else}
use Rattle.rules.specs.Chart.{Step, leaves, is_state_of, step_for, entered, state_after}
use Rattle.rules.proofs.Tests.{both}

-- ---- the state after some words is one of the chart's

entered_state : (t : List Step) (a s : ℕ) → entered (step_for t a) ≡ Some s → is_state_of t s ≡ true
unfolding is_state_of
entered_state [] a s q = cc
entered_state (r ∷ rs) a s q = by_test (eqb a r.word) q (entered_state rs a s)
  where
    by_test : (b : Bool) → entered (or_else (when b r) (step_for rs a)) ≡ Some s → (entered (step_for rs a) ≡ Some s → is_state_of rs s ≡ true) → is_state_of (r ∷ rs) s ≡ true
    by_test true q i = let e : s ≡ r.enters = cc in rw (eq-eqb s r.enters e, or-true (leaves r s))
    by_test false q i = rw (i q) (or-true (leaves r s || eqb s r.enters))

pub state_after_state : (t : List Step) (ws : List ℕ) (s : ℕ) → state_after t ws ≡ Some s → is_state_of t s ≡ true
state_after_state t [] s q = cc
state_after_state t (w ∷ ws) s q = by_step (entered (step_for t w)) refl q (state_after_state t ws s)
  where
    by_step : (o : Option ℕ) → entered (step_for t w) ≡ o → or_else o (state_after t ws) ≡ Some s → (state_after t ws ≡ Some s → is_state_of t s ≡ true) → is_state_of t s ≡ true
    by_step None p q i = i q
    by_step (Some n) p q i = entered_state t w s (p ∙ q)

-- ---- the largest state

unfoldable pub all_up_to : ℕ → List ℕ → Bool
all_up_to m [] = true
all_up_to m (x ∷ xs) = leb x m && all_up_to m xs

-- every step leaves and enters states of at most m
unfoldable pub states_up_to : ℕ → List Step → Bool
states_up_to m [] = true
states_up_to m (r ∷ rs) = (leb r.enters m && all_up_to m (r.first ∷ r.others)) && states_up_to m rs

module _ (m s : ℕ) (h : m < s) where
  not_this : (x : ℕ) → leb x m ≡ true → eqb s x ≡ false
  not_this x e = ne_eqb s x (λ q. omega (arith, leb-true x m e, q))

  not_member : (l : List ℕ) → all_up_to m l ≡ true → member s l ≡ false
  unfolding all_up_to
  not_member [] e = refl
  not_member (x ∷ xs) e = let p = both (leb x m) _ e in rw (not_this x p.0, not_member xs p.1)

  pub none_above : (t : List Step) → states_up_to m t ≡ true → is_state_of t s ≡ false
  unfolding is_state_of states_up_to
  none_above [] e = refl
  none_above (r ∷ rs) e =
      let p = both _ (states_up_to m rs) e in
      let q = both (leb r.enters m) _ p.0 in
      rw (not_member (r.first ∷ r.others) q.1, not_this r.enters q.0, none_above rs p.1)
