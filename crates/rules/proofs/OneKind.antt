-- No name comes in a second kind exactly if each is used in one kind all along.
use Rattle.std.proofs.Common.{Option, None, Some}
use mathlib.Core.Path.{◌≡◌, refl, sym, ap, subst}
use mathlib.Core.Logic.{◌↔◌}
use mathlib.Core.Bool.{Bool, true, false, not, ◌&&◌, ◌||◌}
use mathlib.Core.List.{List, [], ◌∷◌}
use Prim.Native.Nat.{ℕ}
use lib.Dec.{eqb}
use borrow.Author.Tests.{eqb-true, eq-eqb}
use Rattle.text.specs.Bytes.{same_bytes}
use Rattle.text.specs.Lists.{any}
use Rattle.text.proofs.Bools.{is_false}
use Rattle.text.proofs.Words.{same_eq, same_refl}
use Rattle.rules.specs.Lists.{when, or_else}
use Rattle.rules.specs.Words.{core}
use Rattle.rules.specs.Charts.{is_process}
use Rattle.rules.specs.Event.{Event}
use Rattle.rules.specs.Core.{on_core, on}
use Rattle.rules.specs.History.{is_tracked, kind_in, kind_of}
use Rattle.rules.specs.Refusals.{look, differs, source_clash, target_clash, second_kind}
use Rattle.rules.specs.Verdict.{Never}
use Rattle.rules.specs.Lawful.{uses, OneKind}
use Rattle.rules.proofs.Tests.{both, clash}
use Rattle.rules.proofs.CoreWords.{on_process}
use Rattle.rules.proofs.Tracked.{process_tracked, target_kind, source_kind, kind_stays}

-- ---- an event uses a name as its target or as its core

data Use (n : List ℕ) (k : ℕ) (e : Event) : Type 0 where
  as_target : is_tracked e.kind ≡ true → k ≡ e.kind → n ≡ e.target → Use n k e
  as_core : on_core e ≡ true → k ≡ core → n ≡ e.source → Use n k e

use_of : (n : List ℕ) (k : ℕ) (e : Event) → uses n k e ≡ true → Use n k e
unfolding uses
use_of n k e = by_test (is_tracked e.kind && (eqb k e.kind && same_bytes n e.target)) refl
  where
    by_test : (b : Bool) → is_tracked e.kind && (eqb k e.kind && same_bytes n e.target) ≡ b → b || (eqb k core && on n e) ≡ true → Use n k e
    by_test true t q =
        let p = both (is_tracked e.kind) _ t in
        let r = both (eqb k e.kind) (same_bytes n e.target) p.1 in
        as_target p.0 (eqb-true k e.kind r.0) (same_eq n e.target r.1)
    by_test false t q =
        let p = both (eqb k core) (on n e) q in
        let r = both (on_core e) (same_bytes n e.source) p.1 in
        as_core r.0 (eqb-true k core p.0) (same_eq n e.source r.1)

target_used : (e : Event) → is_tracked e.kind ≡ true → uses e.target e.kind e ≡ true
unfolding uses
target_used e t = rw (t, eq-eqb e.kind e.kind refl, same_refl e.target)

core_used : (e : Event) → on_core e ≡ true → uses e.source core e ≡ true
unfolding uses
core_used e o = rw (o, same_refl e.source) (or_true (is_tracked e.kind && (eqb core e.kind && same_bytes e.source e.target)))
  where
    or_true : (b : Bool) → b || true ≡ true
    or_true true = refl
    or_true false = refl

-- ---- what is used has its kind, and what has a kind is used

any_later : (f : Event → Bool) (e : Event) (h : List Event) → any f h ≡ true → any f (e ∷ h) ≡ true
any_later f e h q = by_test (f e)
  where
    by_test : (b : Bool) → b || any f h ≡ true
    by_test true = refl
    by_test false = q

used_kind : (h : List Event) → Never second_kind h → (n : List ℕ) (k : ℕ) → any (uses n k) h ≡ true → kind_of n h ≡ Some k
used_kind [] c n k q = absurd (clash false q refl)
used_kind (e ∷ h) c n k q = by_test (uses n k e) refl q (used_kind h c.1 n k)
  where
    by_use : Use n k e → kind_of n (e ∷ h) ≡ Some k
    by_use (as_target t i w) = subst (λ (m : List ℕ). kind_of m (e ∷ h) ≡ Some k) (sym w) (rw i (target_kind h e t))
    by_use (as_core o i w) = subst (λ (m : List ℕ). kind_of m (e ∷ h) ≡ Some k) (sym w) (rw i (source_kind h e c.0 o))

    by_test : (b : Bool) → uses n k e ≡ b → b || any (uses n k) h ≡ true → (any (uses n k) h ≡ true → kind_of n h ≡ Some k) → kind_of n (e ∷ h) ≡ Some k
    by_test true u q f = by_use (use_of n k e u)
    by_test false u q f = kind_stays h e c.0 n k (f q)

kind_used : (h : List Event) (n : List ℕ) (k : ℕ) → kind_of n h ≡ Some k → any (uses n k) h ≡ true
unfolding kind_in
kind_used [] n k q = cc
kind_used (e ∷ h) n k q = by_test (is_tracked e.kind && same_bytes n e.target) refl (on n e) refl q (λ r. any_later (uses n k) e h (kind_used h n k r))
  where
    used : (m : List ℕ) (j : ℕ) → n ≡ m → j ≡ k → uses m j e ≡ true → any (uses n k) (e ∷ h) ≡ true
    used m j w i u = rw (subst (λ (x : List ℕ). uses x k e ≡ true) (sym w) (subst (λ (x : ℕ). uses m x e ≡ true) i u))

    by_test : (a : Bool) → is_tracked e.kind && same_bytes n e.target ≡ a → (b : Bool) → on n e ≡ b →
        or_else (or_else (when a e.kind) (when b core)) (kind_of n h) ≡ Some k → (kind_of n h ≡ Some k → any (uses n k) (e ∷ h) ≡ true) → any (uses n k) (e ∷ h) ≡ true
    by_test true t b u q f =
        let p = both (is_tracked e.kind) (same_bytes n e.target) t in
        let i : e.kind ≡ k = cc in
        used e.target e.kind (same_eq n e.target p.1) i (target_used e p.0)
    by_test false t true u q f =
        let p = both (on_core e) (same_bytes n e.source) u in
        let i : core ≡ k = cc in
        used e.source core (same_eq n e.source p.1) i (core_used e p.0)
    by_test false t false u q f = f q

-- ---- both ways

never_one : (h : List Event) → Never second_kind h → OneKind h
never_one h c n j k p q =
    let i = used_kind h c n j p in
    let l = used_kind h c n k q in
    cc

-- no core is of the kind of a process
core_no_process : is_process core ≡ false
unfolding is_process
core_no_process = refl

module _ (e : Event) (h : List Event) (one : OneKind (e ∷ h)) where
  -- a name that the event uses as k had no other kind
  no_other : (n : List ℕ) (k : ℕ) → uses n k e ≡ true → differs (kind_of n h) k ≡ false
  no_other n k u = by_kind (kind_of n h) refl
    where
      by_kind : (o : Option ℕ) → kind_of n h ≡ o → differs o k ≡ false
      by_kind None q = refl
      by_kind (Some j) q = ap not (eq-eqb j k (one n j k (any_later (uses n j) e h (kind_used h n j q)) (rw u)))

  two_names : on_core e ≡ true → same_bytes e.source e.target ≡ false
  two_names o = is_false (same_bytes e.source e.target) (λ q. by_names (same_eq e.source e.target q))
    where
      by_names : e.source ≡ e.target → ⊥
      by_names w =
          let t = target_used e (process_tracked e.kind (on_process e o)) in
          let i : core ≡ e.kind = one e.target core e.kind (rw (subst (λ (x : List ℕ). uses x core e ≡ true) w (core_used e o))) (rw t) in
          clash (is_process core) (subst (λ (x : ℕ). is_process x ≡ true) (sym i) (on_process e o)) core_no_process

  one_second : second_kind (look h e) e ≡ false
  unfolding second_kind source_clash target_clash
  one_second = by_test (on_core e) refl (is_tracked e.kind) refl
    where
      by_test : (o : Bool) → on_core e ≡ o → (t : Bool) → is_tracked e.kind ≡ t →
          (o && (differs (kind_of e.source h) core || same_bytes e.source e.target)) || (t && differs (kind_of e.target h) e.kind) ≡ false
      by_test true o true t = rw (no_other e.source core (core_used e o), two_names o, no_other e.target e.kind (target_used e t))
      by_test true o false t = rw (no_other e.source core (core_used e o), two_names o)
      by_test false o true t = no_other e.target e.kind (target_used e t)
      by_test false o false t = refl

one_never : (h : List Event) → OneKind h → Never second_kind h
one_never [] f = tt
one_never (e ∷ h) f = (one_second e h f, one_never h (λ n j k p q. f n j k (any_later (uses n j) e h p) (any_later (uses n k) e h q)))

pub one_kind : (h : List Event) → Never second_kind h ↔ OneKind h
one_kind h = (never_one h, one_never h)
