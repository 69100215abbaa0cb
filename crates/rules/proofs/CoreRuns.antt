-- The core rule as a run: no event breaks the rule 13 exactly if the events on each core are a run from unknown; and such a run ends in what the core is.
use Rattle.std.proofs.Common.{Option, None, Some}
use mathlib.Core.Path.{◌≡◌, refl, sym, ap, subst}
use mathlib.Core.Logic.{◌↔◌}
use mathlib.Core.Bool.{Bool, true, false, not, ◌&&◌}
use mathlib.Core.List.{List, [], ◌∷◌}
use Prim.Native.Nat.{ℕ}
use borrow.Author.Tests.{not-false}
use Rattle.text.specs.Bytes.{same_bytes}
use Rattle.text.proofs.Words.{same_eq, same_refl}
use Rattle.rules.specs.Lists.{latest, or_else, when}
use Rattle.rules.specs.Event.{Event, Instance, instance_of, state_of}
use Rattle.rules.specs.Core.{Core, unknown, idle, held, takes, gives, on_core, on, becomes, effect_on, or_unknown, core_at}
use Rattle.rules.specs.Core.{Free, free_unknown, free_idle, Own, own_held, own_first, CoreRun, fresh, elsewhere, taking, giving, keeping}
use Rattle.rules.specs.Refusals.{look, unseen, serves, core_broken}
use Rattle.rules.specs.Verdict.{Never}
use Rattle.rules.proofs.Tests.{both, clash, instance_true, instance_refl}
use Rattle.rules.proofs.CoreWords.{takes_only, gives_only, keeps_only, Sort, taker, giver, keeper, sort}

-- ---- what the rule asks of the core

pub unseen_none : (o : Option ℕ) → unseen o ≡ true → o ≡ None
unseen_none None q = refl
unseen_none (Some s) q = cc

serves_free : (k : Core) (b : Bool) (x : Instance) → serves k true b x ≡ true → Free k
serves_free unknown b x q = free_unknown
serves_free idle b x q = free_idle
serves_free (held y) b x q = absurd (clash false q refl)

serves_own : (h : List Event) (k : Core) (x : Instance) → serves k false (unseen (state_of x h)) x ≡ true → Own h x k
serves_own h unknown x q = own_first (unseen_none (state_of x h) q)
serves_own h idle x q = absurd (clash false q refl)
serves_own h (held y) x q = subst (λ (z : Instance). Own h x (held z)) (sym (instance_true y x q)) own_held

free_serves : {k : Core} (b : Bool) (x : Instance) → Free k → serves k true b x ≡ true
free_serves b x free_unknown = refl
free_serves b x free_idle = refl

own_serves : {h : List Event} {x : Instance} {k : Core} → Own h x k → serves k false (unseen (state_of x h)) x ≡ true
own_serves {x = x} own_held = instance_refl x
own_serves (own_first q) = rw q

-- ---- a rule kept is a run

-- what the rule asks of the core of an event on one
module _ (h : List Event) (e : Event) (q : core_broken (look h e) e ≡ false) (o : on_core e ≡ true) where
  served : serves (core_at e.source h) (takes e.word) (unseen (state_of (instance_of e) h)) (instance_of e) ≡ true
  unfolding core_broken
  served = not-false _ (rw o at q)

  pub served_free : takes e.word ≡ true → Free (core_at e.source h)
  served_free t = serves_free (core_at e.source h) _ (instance_of e) (rw t at served)

  pub served_own : takes e.word ≡ false → Own h (instance_of e) (core_at e.source h)
  served_own t = serves_own h (core_at e.source h) (instance_of e) (rw t at served)

pub kept_run : (h : List Event) → Never core_broken h → (c : List ℕ) → CoreRun c h (core_at c h)
kept_run [] n c = fresh
kept_run (e ∷ h) n c = by_test (on c e) refl (kept_run h n.1 c)
  where
    by_sort : on c e ≡ true → on_core e ≡ true → e.source ≡ c → Sort e.word → CoreRun c h (core_at c h) → CoreRun c (e ∷ h) (becomes (gives e.word) (instance_of e))
    by_sort o i w (taker t g) r = rw g (taking o t (subst (λ (d : List ℕ). Free (core_at d h)) w (served_free h e n.0 i t)) r)
    by_sort o i w (giver g t) r = rw g (giving o g (subst (λ (d : List ℕ). Own h (instance_of e) (core_at d h)) w (served_own h e n.0 i t)) r)
    by_sort o i w (keeper k t g) r = rw g (keeping o k (subst (λ (d : List ℕ). Own h (instance_of e) (core_at d h)) w (served_own h e n.0 i t)) r)

    by_test : (b : Bool) → on c e ≡ b → CoreRun c h (core_at c h) → CoreRun c (e ∷ h) (or_unknown (or_else (when b (becomes (gives e.word) (instance_of e))) (latest (effect_on c) h)))
    by_test true o r = let p = both (on_core e) (same_bytes c e.source) o in by_sort o p.0 (sym (same_eq c e.source p.1)) (sort e p.0) r
    by_test false o r = elsewhere o r

-- ---- a run keeps the rule

-- a run ends in what the core is
pub run_end : {c : List ℕ} {h : List Event} {k : Core} → CoreRun c h k → k ≡ core_at c h
run_end fresh = refl
run_end (elsewhere o r) = rw o (run_end r)
run_end (taking {e = e} o t f r) = rw (o, (takes_only e.word t).0)
run_end (giving {e = e} o g f r) = rw (o, g)
run_end (keeping {e = e} o k f r) = rw (o, (keeps_only e.word k).1)

earlier : {c : List ℕ} {h : List Event} {e : Event} {k : Core} → CoreRun c (e ∷ h) k → (j : Core) × CoreRun c h j
earlier (elsewhere {k = k} o r) = (k, r)
earlier (taking {k = k} o t f r) = (k, r)
earlier (giving {k = k} o t f r) = (k, r)
earlier (keeping {k = k} o t f r) = (k, r)

newest : {c : List ℕ} {h : List Event} {e : Event} {k : Core} → CoreRun c (e ∷ h) k → on c e ≡ true →
    serves (core_at c h) (takes e.word) (unseen (state_of (instance_of e) h)) (instance_of e) ≡ true
newest (elsewhere {e = e} o r) p = absurd (clash _ p o)
newest (taking {e = e} o t f r) p = rw (← run_end r, t) (free_serves _ (instance_of e) f)
newest (giving {e = e} o g f r) p = rw (← run_end r, (gives_only e.word g).0) (own_serves f)
newest (keeping {e = e} o k f r) p = rw (← run_end r, (keeps_only e.word k).0) (own_serves f)

run_kept : (h : List Event) → ((c : List ℕ) → (k : Core) × CoreRun c h k) → Never core_broken h
unfolding core_broken
run_kept [] f = tt
run_kept (e ∷ h) f = (by_test (on_core e) refl, run_kept h (λ c. earlier (f c).1))
  where
    by_test : (b : Bool) → on_core e ≡ b → b && not (serves (core_at e.source h) (takes e.word) (unseen (state_of (instance_of e) h)) (instance_of e)) ≡ false
    by_test true o = ap not (newest (f e.source).1 (rw (o, same_refl e.source)))
    by_test false o = refl

-- No event breaks the core rule exactly if the events on each core run from unknown.
pub core_runs : (h : List Event) → Never core_broken h ↔ ((c : List ℕ) → (k : Core) × CoreRun c h k)
core_runs h = (λ n c. (core_at c h, kept_run h n c), run_kept h)
