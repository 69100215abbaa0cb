-- A name keeps its kind: what 9 leaves. What is tracked of cores and of the instances that hold them, and that each tracked name is listed once.
use Rattle.std.proofs.Common.{Option, None, Some}
use mathlib.Core.Path.{◌≡◌, refl, sym, ap, subst}
use mathlib.Core.Bool.{Bool, true, false, ◌&&◌}
use mathlib.Core.List.{List, [], ◌∷◌}
use Prim.Native.Nat.{ℕ}
use lib.Dec.{eqb}
use borrow.Author.Tests.{eqb-true, not-false}
use Rattle.text.specs.Bytes.{same_bytes}
use Rattle.text.specs.Lists.{any}
use Rattle.text.proofs.Words.{same_eq, same_refl}
use Rattle.rules.specs.Lists.{keep, when, or_else, latest}
use Rattle.rules.specs.Words.{core}
use Rattle.rules.specs.Charts.{is_process}
use Rattle.rules.specs.Event.{Event, instance_of}
use Rattle.rules.specs.Core.{Core, unknown, idle, held, becomes, gives, on_core, effect_on, or_unknown, core_at}
use Rattle.rules.specs.History.{has_instances, is_tracked, named, names, kind_in, kind_of}
use Rattle.rules.specs.Refusals.{look, second_kind, source_clash, target_clash, differs}
use Rattle.rules.specs.Verdict.{Accepted}
use Rattle.rules.proofs.Tests.{both, neither}
use Rattle.rules.proofs.Sums.{any_more, any_less, any_added, Once, once_added}
use Rattle.rules.proofs.Answers.{passed}
use Rattle.rules.proofs.CoreWords.{on_process}

-- the history as it stood after some event of it
pub data Since : List Event → List Event → Type 0 where
  now : {h : List Event} → Since h h
  before : {g h : List Event} {e : Event} → Since g h → Since g (e ∷ h)

-- ---- kinds

pub process_tracked : (k : ℕ) → is_process k ≡ true → is_tracked k ≡ true
unfolding is_tracked has_instances
process_tracked k p = rw p

agrees : (o : Option ℕ) (k j : ℕ) → differs o k ≡ false → o ≡ Some j → j ≡ k
agrees o k j q r = eqb-true j k (not-false (eqb j k) (rw r at q))

pub target_kind : (h : List Event) (e : Event) → is_tracked e.kind ≡ true → kind_of e.target (e ∷ h) ≡ Some e.kind
unfolding kind_in
target_kind h e t = rw (t, same_refl e.target)

-- what 9 leaves: the source and the target of a core line are two names, its source is a core, and a name that has a kind keeps it
module _ (h : List Event) (e : Event) (k : second_kind (look h e) e ≡ false) where
  no_clash : (source_clash (look h e) e ≡ false) × (target_clash (look h e) e ≡ false)
  unfolding second_kind
  no_clash = neither (source_clash (look h e) e) (target_clash (look h e) e) k

  source_fits : on_core e ≡ true → (differs (kind_of e.source h) core ≡ false) × (same_bytes e.source e.target ≡ false)
  unfolding source_clash
  source_fits o = neither (differs (kind_of e.source h) core) _ (rw o at no_clash).0

  target_fits : is_tracked e.kind ≡ true → differs (kind_of e.target h) e.kind ≡ false
  unfolding target_clash
  target_fits t = (rw t at no_clash).1

  pub two_names : on_core e ≡ true → same_bytes e.source e.target ≡ false
  two_names o = (source_fits o).1

  pub source_kind : on_core e ≡ true → kind_of e.source (e ∷ h) ≡ Some core
  unfolding kind_in
  source_kind o = rw (two_names o, o, same_refl e.source) (by_test (is_tracked e.kind))
    where
      by_test : (b : Bool) → or_else (or_else (when (b && false) e.kind) (Some core)) (kind_of e.source h) ≡ Some core
      by_test true = refl
      by_test false = refl

  pub target_is : is_tracked e.kind ≡ true → (j : ℕ) → kind_of e.target h ≡ Some j → j ≡ e.kind
  target_is t j q = agrees (kind_of e.target h) e.kind j (target_fits t) q

  pub source_is : on_core e ≡ true → (j : ℕ) → kind_of e.source h ≡ Some j → j ≡ core
  source_is o j q = agrees (kind_of e.source h) core j (source_fits o).0 q

  pub kind_stays : (n : List ℕ) (j : ℕ) → kind_of n h ≡ Some j → kind_of n (e ∷ h) ≡ Some j
  unfolding kind_in
  kind_stays n j q = by_test (is_tracked e.kind && same_bytes n e.target) refl (on_core e && same_bytes n e.source) refl
    where
      by_test : (a : Bool) → is_tracked e.kind && same_bytes n e.target ≡ a → (b : Bool) → on_core e && same_bytes n e.source ≡ b →
          or_else (or_else (when a e.kind) (when b core)) (kind_of n h) ≡ Some j
      by_test true t b u =
          let p = both (is_tracked e.kind) (same_bytes n e.target) t in
          ap Some (sym (target_is p.0 j (rw (same_eq n e.target p.1) at q)))
      by_test false t true u =
          let p = both (on_core e) (same_bytes n e.source) u in
          ap Some (sym (source_is p.0 j (rw (same_eq n e.source p.1) at q)))
      by_test false t false u = q

-- a name with a kind is in the list
pub kind_named : (h : List Event) (n : List ℕ) → any (same_bytes n) (names h) ≡ false → kind_of n h ≡ None
unfolding names kind_in named
kind_named [] n q = refl
kind_named (e ∷ h) n q =
    by_test (on_core e) (is_tracked e.kind) (any_less (any (same_bytes n) (named e)) _ (any_added same_bytes same_eq same_refl (names h) (named e) n) q)
    (kind_named h n (any_less (any (same_bytes n) (names h)) _ (any_more same_bytes (same_bytes n) (names h) (named e)) q))
  where
    by_test : (o t : Bool) → any (same_bytes n) (keep o e.source (keep t e.target [])) ≡ false → kind_of n h ≡ None →
        or_else (or_else (when (t && same_bytes n e.target) e.kind) (when (o && same_bytes n e.source) core)) (kind_of n h) ≡ None
    by_test true true q r = let p = neither (same_bytes n e.source) _ q in rw (p.0, (neither (same_bytes n e.target) false p.1).0) r
    by_test true false q r = rw (neither (same_bytes n e.source) false q).0 r
    by_test false true q r = rw (neither (same_bytes n e.target) false q).0 r
    by_test false false q r = r

-- a core that is not unknown is tracked as a core, and the instance that holds it as what it is
abbrev pub Tracked : List ℕ → List Event → Core → Type 0
Tracked c h unknown = Unit {0}
Tracked c h idle = kind_of c h ≡ Some core
Tracked c h (held x) = (kind_of c h ≡ Some core) × (kind_of x.name h ≡ Some x.kind) × (is_process x.kind ≡ true)

tracked_more : (c : List ℕ) (h : List Event) (e : Event) → second_kind (look h e) e ≡ false → (k : Core) → Tracked c h k → Tracked c (e ∷ h) k
tracked_more c h e f unknown t = tt
tracked_more c h e f idle t = kind_stays h e f c core t
tracked_more c h e f (held x) t = (kind_stays h e f c core t.0, kind_stays h e f x.name x.kind t.1, t.2)

tracked_new : (c : List ℕ) (h : List Event) (e : Event) → second_kind (look h e) e ≡ false → (b : Bool) → on_core e ≡ true → c ≡ e.source → Tracked c (e ∷ h) (becomes b (instance_of e))
tracked_new c h e f true o q = subst (λ (n : List ℕ). kind_of n (e ∷ h) ≡ Some core) (sym q) (source_kind h e f o)
tracked_new c h e f false o q = (subst (λ (n : List ℕ). kind_of n (e ∷ h) ≡ Some core) (sym q) (source_kind h e f o), target_kind h e (process_tracked e.kind (on_process e o)), on_process e o)

pub tracked : (c : List ℕ) (h : List Event) → Accepted h → Tracked c h (core_at c h)
tracked c [] a = tt
tracked c (e ∷ h) a = by_test (on_core e && same_bytes c e.source) refl (latest (effect_on c) h) (tracked c h a.1) (passed h e a.0).kinds
  where
    by_test : (b : Bool) → on_core e && same_bytes c e.source ≡ b → (o : Option Core) → Tracked c h (or_unknown o) → second_kind (look h e) e ≡ false →
        Tracked c (e ∷ h) (or_unknown (or_else (when b (becomes (gives e.word) (instance_of e))) o))
    by_test true q o t f = let p = both (on_core e) (same_bytes c e.source) q in tracked_new c h e f (gives e.word) p.0 (same_eq c e.source p.1)
    by_test false q o t f = tracked_more c h e f (or_unknown o) t

pub still_accepted : (g h : List Event) → Since g h → Accepted h → Accepted g
still_accepted g h now a = a
still_accepted g h (before {h = k} s) a = still_accepted g k s a.1

pub still_kind : (n : List ℕ) (k : ℕ) (g h : List Event) → Since g h → Accepted h → kind_of n g ≡ Some k → kind_of n h ≡ Some k
still_kind n k g h now a q = q
still_kind n k g h (before {h = j} {e = e} s) a q = kind_stays j e (passed j e a.0).kinds n k (still_kind n k g j s a.1 q)

-- ---- each tracked name is listed once

pub names_once : (h : List Event) → Once same_bytes same_eq same_refl (names h)
unfolding names
names_once [] = λ m. refl
names_once (e ∷ h) = once_added same_bytes same_eq same_refl (names h) (named e) (names_once h)

pub named_kind : (h : List Event) (n : List ℕ) (k : ℕ) → kind_of n h ≡ Some k → (b : Bool) → any (same_bytes n) (names h) ≡ b → b ≡ true
named_kind h n k q true t = refl
named_kind h n k q false t = let z = kind_named h n t in cc
