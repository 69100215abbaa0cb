-- A name as a core: it is unknown as one exactly if it is none; what the history says of a core that is idle or held, and of the instance that holds it; and
-- what a core becomes by an event on it.
use Rattle.std.proofs.Common.{Some}
use mathlib.Core.Path.{◌≡◌, refl, sym, subst}
use mathlib.Core.Bool.{Bool, true, false, ◌&&◌}
use mathlib.Core.List.{List, [], ◌∷◌}
use Prim.Native.Nat.{ℕ}
use native.Mathlib.Omega.{arith}
use Rattle.text.specs.Bytes.{same_bytes}
use Rattle.text.specs.Lists.{any}
use Rattle.text.proofs.Words.{same_eq}
use Rattle.rules.specs.Lists.{when, or_else, latest}
use Rattle.rules.specs.Words.{core}
use Rattle.rules.specs.Event.{Event, Instance, instance_of}
use Rattle.rules.specs.Core.{Core, unknown, idle, held, becomes, gives, on_core, on, effect_on, or_unknown, core_at}
use Rattle.rules.specs.History.{is_tracked, names, kind_in, kind_of}
use Rattle.rules.specs.Verdict.{Accepted}
use Rattle.rules.proofs.Tests.{both}
use Rattle.rules.proofs.Changes.{core_own}
use Rattle.rules.proofs.Tracked.{Tracked, tracked, named_kind, kind_named}
use Rattle.promises.proofs.KindTests.{tracked_range}

-- ---- unknown, exactly if it is no core

-- a core is not
pub core_known : (c : List ℕ) (h : List Event) → kind_of c h ≡ Some core → core_at c h ≡ unknown → ⊥
unfolding kind_in
core_known c [] q u = let z : ◌≡◌ {A = ℕ} 0 1 = cc in omega arith
core_known c (e ∷ h) q u =
    by_test (on_core e && same_bytes c e.source) (is_tracked e.kind && same_bytes c e.target) refl (gives e.word) q u (core_known c h)
  where
    by_test : (b a : Bool) → is_tracked e.kind && same_bytes c e.target ≡ a → (g : Bool) →
        or_else (or_else (when a e.kind) (when b core)) (kind_of c h) ≡ Some core →
        or_unknown (or_else (when b (becomes g (instance_of e))) (latest (effect_on c) h)) ≡ unknown → (kind_of c h ≡ Some core → core_at c h ≡ unknown → ⊥) → ⊥
    by_test true a t true q u i = let z : ◌≡◌ {A = ℕ} 0 1 = cc in omega arith
    by_test true a t false q u i = let z : ◌≡◌ {A = ℕ} 0 1 = cc in omega arith
    by_test false true t g q u i =
        let r = tracked_range e.kind (both (is_tracked e.kind) _ t).0 in
        let z : e.kind ≡ core = cc in
        omega arith
    by_test false false t g q u i = i q u

-- any other name is
pub core_unknown : (c : List ℕ) (h : List Event) → Accepted h → (kind_of c h ≡ Some core → ⊥) → core_at c h ≡ unknown
core_unknown c h a f = by_core (core_at c h) (tracked c h a)
  where
    by_core : (k : Core) → Tracked c h k → k ≡ unknown
    by_core unknown t = refl
    by_core idle t = absurd (f t)
    by_core (held x) t = absurd (f t.0)

-- so is one that is not tracked
pub absent_unknown : (h : List Event) → Accepted h → (n : List ℕ) → any (same_bytes n) (names h) ≡ false → core_at n h ≡ unknown
absent_unknown h a n q = core_unknown n h a (λ k. let z = kind_named h n q in let w : ◌≡◌ {A = ℕ} 0 1 = cc in omega arith)

-- ---- idle or held

-- a name that is idle or held is a core's, and its holder's name is there
pub idle_core : (h : List Event) → Accepted h → (c : List ℕ) → core_at c h ≡ idle → kind_of c h ≡ Some core
idle_core h a c q = subst (Tracked c h) q (tracked c h a)

pub held_core : (h : List Event) → Accepted h → (c : List ℕ) (x : Instance) → core_at c h ≡ held x → kind_of c h ≡ Some core
held_core h a c x q = (subst (Tracked c h) q (tracked c h a)).0

pub holder_kind : (h : List Event) → Accepted h → (c : List ℕ) (x : Instance) → core_at c h ≡ held x → kind_of x.name h ≡ Some x.kind
holder_kind h a c x q = (subst (Tracked c h) q (tracked c h a)).1

pub holder_named : (h : List Event) → Accepted h → (c : List ℕ) (x : Instance) → core_at c h ≡ held x → any (same_bytes x.name) (names h) ≡ true
holder_named h a c x q = named_kind h x.name x.kind (holder_kind h a c x q) _ refl

-- ---- an event on a core

pub becomes_own : (n : List ℕ) (e : Event) (h : List Event) → on n e ≡ true → core_at n (e ∷ h) ≡ becomes (gives e.word) (instance_of e)
becomes_own n e h o = let p = both (on_core e) (same_bytes n e.source) o in subst (λ (m : List ℕ). core_at m (e ∷ h) ≡ becomes (gives e.word) (instance_of e)) (sym (same_eq n e.source p.1)) (core_own e h p.0)
