-- What a line that is taken makes of a name: it was there and keeps what it had, or it is new and has nothing yet. And the number that two entries show,
-- with what the line gives it.
use Rattle.std.proofs.Common.{Option, None, Some}
use mathlib.Core.Path.{◌≡◌, refl, sym, subst}
use mathlib.Core.Bool.{Bool, true, false, not, ◌&&◌, cond, and-false}
use mathlib.Core.List.{List, ◌∷◌}
use Prim.Native.Nat.{ℕ, ◌≤◌}
use native.Mathlib.Omega.{arith}
use lib.Dec.{eqb}
use borrow.Author.Tests.{eq-eqb, eqb-true, not-true}
use Rattle.text.specs.Bytes.{same_bytes}
use Rattle.text.specs.Lists.{any}
use Rattle.text.proofs.Bools.{is_false}
use Rattle.text.proofs.Words.{same_eq, eq_same}
use Rattle.rules.specs.Lists.{when, or_else}
use Rattle.rules.specs.Words.{semaphore}
use Rattle.rules.specs.Event.{Event}
use Rattle.rules.specs.Core.{on_core}
use Rattle.rules.specs.History.{is_tracked, names, activates, numbers, last_number, last_count}
use Rattle.rules.proofs.Tests.{both, clash}
use Rattle.rules.proofs.Tracked.{kind_named}
use Rattle.rules.proofs.Activations.{activates_instances}
use Rattle.promises.specs.Shown.{number_of}
use Rattle.promises.proofs.Choices.{same_choice}
use Rattle.promises.proofs.KindTests.{instances_tracked, semaphore_tracked}
use Rattle.promises.proofs.Origins.{new_source, new_target, NameFrom}
use Rattle.promises.proofs.Origins.NameFrom.{before, as_source, as_target}
use Rattle.promises.proofs.Untold.{no_number, no_count}
use Rattle.promises.proofs.Rows.{or_old}

-- ---- what is new, and what is not

-- a name was there, or it is new and has nothing yet
pub data Age (h : List Event) (e : Event) (n : List ℕ) : Type 0 where
  old : any (same_bytes n) (names h) ≡ true → Age h e n
  new : any (same_bytes n) (names h) ≡ false → ((v : ℕ) → or_old h e n 0 0 v ≡ 0) → Age h e n

module _ (h : List Event) (e : Event) (n : List ℕ) where
  pub not_new : any (same_bytes n) (names h) ≡ true → (b : Bool) (k : List ℕ) → (b && not (any (same_bytes k) (names h))) && same_bytes n k ≡ false
  not_new q b k =
      is_false _
      (λ p. let r = both (b && not (any (same_bytes k) (names h))) (same_bytes n k) p in
      clash (any (same_bytes k) (names h)) (subst (λ (z : List ℕ). any (same_bytes z) (names h) ≡ true) (same_eq n k r.1) q) (not-true _ (both b _ r.0).1))

  pub old_same : any (same_bytes n) (names h) ≡ true → (u v was : ℕ) → or_old h e n u v was ≡ was
  old_same q u v was = rw (not_new q (is_tracked e.kind) e.target, not_new q (on_core e) e.source)

  pub new_source_lem : same_bytes e.source e.target ≡ false → new_source h e ≡ true → n ≡ e.source → (u v was : ℕ) → or_old h e n u v was ≡ v
  new_source_lem d w p u v was =
      let x : same_bytes n e.target ≡ false = rw p d in
      rw (x, w, eq_same n e.source p, and-false (new_target h e))

  pub new_target_lem : new_target h e ≡ true → n ≡ e.target → (u v was : ℕ) → or_old h e n u v was ≡ u
  new_target_lem w p u v was = rw (w, eq_same n e.target p)

  pub age : (on_core e ≡ true → same_bytes e.source e.target ≡ false) → NameFrom h e n → Age h e n
  age d (before p) = old p
  age d (as_source u p) = let b = both (on_core e) _ u in new (rw p (not-true _ b.1)) (new_source_lem (d b.0) u p 0 0)
  age d (as_target u p) = new (rw p (not-true _ (both (is_tracked e.kind) _ u).1)) (new_target_lem u p 0 0)

-- ---- the number of a name

-- the number that two entries show
abbrev pub shown_number : ℕ → ℕ → Option ℕ
shown_number d v = cond (eqb d 0) None (Some v)

pub given_shown : (a b : Bool) (c d x y : ℕ) → shown_number (cond a 1 (cond b 1 x)) (cond a c (cond b d y)) ≡ cond a (Some c) (cond b (Some d) (shown_number x y))
given_shown true b c d x y = refl
given_shown false true c d x y = refl
given_shown false false c d x y = refl

-- the number entry says nothing where there is none
pub unnumbered_any : (b g : Bool) (d v y : ℕ) → (b ≡ true → d ≡ 0) → shown_number d (cond b (cond g y v) y) ≡ shown_number d y
unnumbered_any true g d v y z = rw (z refl)
unnumbered_any false g d v y z = refl

pub none_shown : (d v : ℕ) → shown_number d v ≡ None → d ≡ 0
none_shown d v = by_test (eqb d 0) refl
  where
    by_test : (b : Bool) → eqb d 0 ≡ b → cond b None (Some v) ≡ None → d ≡ 0
    by_test true p q = eqb-true d 0 p
    by_test false p q = let z : ◌≡◌ {A = ℕ} 0 1 = cc in absurd (omega arith)

pub one_at_most : (a b : Bool) (x : ℕ) → x ≤ 1 → cond a 1 (cond b 1 x) ≤ 1
one_at_most true b x h = omega arith
one_at_most false true x h = omega arith
one_at_most false false x h = h

-- a first number stays, and where there is none the one that is given is the first
pub first_given : (b : Bool) (d w v : ℕ) → shown_number (cond b 1 d) (cond b (cond (eqb d 0) v w) w) ≡ or_else (shown_number d w) (when b v)
first_given b d w v = by_test b (eqb d 0) refl
  where
    by_test : (b z : Bool) → eqb d 0 ≡ z → shown_number (cond b 1 d) (cond b (cond z v w) w) ≡ or_else (cond z None (Some w)) (when b v)
    by_test true true q = refl
    by_test true false q = refl
    by_test false true q = rw q
    by_test false false q = rw q

-- a name that is not listed has none
pub none_told : (h : List Event) (n : List ℕ) (k : ℕ) → any (same_bytes n) (names h) ≡ false → None ≡ number_of h n k
none_told h n k q = let z = kind_named h n q in rw (no_count n h z, no_number k n h z) (sym (same_choice (eqb k semaphore) None))

-- an event gives a number of its kind
pub number_grows : (h : List Event) (e : Event) (n : List ℕ) (k : ℕ) → (is_tracked e.kind ≡ true → same_bytes n e.target ≡ true → k ≡ e.kind) →
    number_of (e ∷ h) n k
    ≡ cond (eqb e.kind semaphore && same_bytes n e.target) (Some e.count)
    (cond (activates e.kind e.word && same_bytes n e.target) (Some e.target_instance) (number_of h n k))
unfolding last_number numbers last_count
number_grows h e n k q =
    by_test (same_bytes n e.target) (eqb e.kind semaphore) (activates e.kind e.word) (eqb k semaphore) (eqb k e.kind)
    (λ c x. rw (q (semaphore_tracked e.kind c) x) c)
    (λ c b x. let z = q (instances_tracked e.kind (activates_instances e.kind e.word b)) x in (eq-eqb k e.kind z, rw z c))
  where
    by_test : (x c b j i : Bool) → (c ≡ true → x ≡ true → j ≡ true) → (c ≡ false → b ≡ true → x ≡ true → (i ≡ true) × (j ≡ false)) →
        cond j (or_else (when (c && x) e.count) (last_count n h)) (or_else (when (b && (i && x)) e.target_instance) (last_number k n h))
        ≡ cond (c && x) (Some e.count) (cond (b && x) (Some e.target_instance) (cond j (last_count n h) (last_number k n h)))
    by_test true true b true i y z = refl
    by_test true true b false i y z = absurd (clash false (y refl refl) refl)
    by_test true false true true i y z = absurd (clash true refl (z refl refl refl).1)
    by_test true false true false true y z = refl
    by_test true false true false false y z = absurd (clash false (z refl refl refl).0 refl)
    by_test true false false j i y z = refl
    by_test false true true j true y z = refl
    by_test false true true j false y z = refl
    by_test false true false j i y z = refl
    by_test false false true j true y z = refl
    by_test false false true j false y z = refl
    by_test false false false j i y z = refl
