-- The state of a name in its row after a line that is taken: of a core whether it is idle or which name holds it, of a semaphore the state that the longer
-- history has it in, and of any other name none.
use mathlib.Core.Path.{◌≡◌, refl, sym, ap, ◌∙◌}
use mathlib.Core.Bool.{Bool, true, false, ◌&&◌, cond}
use mathlib.Core.List.{List, ◌∷◌}
use Prim.Native.Nat.{ℕ}
use native.Mathlib.Omega.{arith}
use lib.Dec.{eqb}
use borrow.Author.Tests.{eq-eqb, eqb-true}
use Rattle.text.specs.Bytes.{same_bytes}
use Rattle.text.specs.Lists.{any}
use Rattle.text.proofs.Bools.{is_false}
use Rattle.text.proofs.Words.{same_eq, eq_same}
use Rattle.rules.specs.Words.{core, semaphore}
use Rattle.rules.specs.Event.{Event, Instance, same_instance, instance_of, state_of}
use Rattle.rules.specs.Core.{Core, unknown, idle, held, becomes, gives, on_core, on, core_at}
use Rattle.rules.specs.History.{is_tracked, names}
use Rattle.rules.specs.Verdict.{Accepted}
use Rattle.rules.proofs.Tests.{both, and_true, clash, instance_true}
use Rattle.rules.proofs.Changes.{state_other, core_other}
use Rattle.rules.proofs.Answers.{Passed}
use Rattle.steps.specs.Rows.{opened}
use Rattle.tables.specs.Entry.{idle_core, held_by, kind_at, standing_at}
use Rattle.store.specs.Store.{taken_tables}
use Rattle.judge.specs.Feed.{Tables}
use Rattle.promises.specs.Places.{row_of}
use Rattle.promises.specs.Shown.{core_standing, the_semaphore, StandingShown, Shown}
use Rattle.promises.specs.Taken.{looked_up_in}
use Rattle.promises.proofs.KindTests.{tracked_range, semaphore_tracked}
use Rattle.promises.proofs.Origins.{new_target, NameFrom, name_from}
use Rattle.promises.proofs.Origins.NameFrom.{before, as_source, as_target}
use Rattle.promises.proofs.Grown.{row_stays}
use Rattle.promises.proofs.CoreNames.{becomes_own, holder_named}
use Rattle.promises.proofs.Rows.{or_old, standing_at_lem}
use Rattle.promises.proofs.Ages.{old_same, new_target_lem}
use Rattle.promises.proofs.NameKinds.{kind_old, target_kinded, source_kinded}

module _ (h : List Event) (a : Accepted h) (t : Tables) (s : Shown h t) (e : Event) (f : Passed h e) (state : ℕ)
    (l : opened state ≡ state_of (instance_of e) (e ∷ h)) (n : List ℕ) (q : any (same_bytes n) (names (e ∷ h)) ≡ true) where
  abbrev after : Tables
  after = taken_tables t (looked_up_in h t e) state e

  abbrev row : ℕ
  row = row_of (e ∷ h) n

  -- a holder's name keeps its row
  core_standing_stays : (c : Core) → core_at n h ≡ c → core_standing h c ≡ core_standing (e ∷ h) c
  core_standing_stays unknown p = refl
  core_standing_stays idle p = refl
  core_standing_stays (held x) p = rw (row_stays h e f.kinds x.name (holder_named h a n x p))

  -- the event is one on the core
  standing_of_core : on n e ≡ true → StandingShown (e ∷ h) n (kind_at after.nums row) (cond (gives e.word) idle_core (held_by (row_of (e ∷ h) e.target)))
  standing_of_core x =
      let k = source_kinded h t s e f state n q x in
      record {
        of_core = λ c. by_word (gives e.word) ∙ ap (core_standing (e ∷ h)) (sym (becomes_own n e h x));
        of_semaphore = λ c. absurd (omega (arith, eqb-true (kind_at after.nums row) semaphore c));
        of_other = λ c d. absurd (clash _ (eq-eqb (kind_at after.nums row) core k) c);
      }
    where
      by_word : (g : Bool) → cond g idle_core (held_by (row_of (e ∷ h) e.target)) ≡ core_standing (e ∷ h) (becomes g (instance_of e))
      by_word true = refl
      by_word false = refl

  -- the event is one of the semaphore
  standing_of_semaphore : eqb e.kind semaphore && same_bytes n e.target ≡ true → StandingShown (e ∷ h) n (kind_at after.nums row) state
  standing_of_semaphore y =
      let p = both (eqb e.kind semaphore) (same_bytes n e.target) y in
      let k : kind_at after.nums row ≡ semaphore =
      target_kinded h t s e f state n q (semaphore_tracked e.kind p.0) p.1 ∙ eqb-true e.kind semaphore p.0 in
      record {
        of_core = λ c. absurd (omega (arith, eqb-true (kind_at after.nums row) core c));
        of_semaphore = λ c. l ∙ ap (λ (x : Instance). state_of x (e ∷ h)) (own p.0 p.1);
        of_other = λ c d. absurd (clash _ (eq-eqb (kind_at after.nums row) semaphore k) d);
      }
    where
      own : eqb e.kind semaphore ≡ true → same_bytes n e.target ≡ true → instance_of e ≡ the_semaphore n
      own c x =
          let zero = ap (λ (b : Bool). cond b 0 e.target_instance) c in
          λ i. record { kind = eqb-true e.kind semaphore c i; name = sym (same_eq n e.target x) i; number = zero i }

  -- the event is of another name
  module _ (x : on n e ≡ false) (y : eqb e.kind semaphore && same_bytes n e.target ≡ false) where
    standing_of_old : any (same_bytes n) (names h) ≡ true → StandingShown (e ∷ h) n (kind_at t.nums (row_of h n)) (standing_at t.nums (row_of h n))
    standing_of_old p =
        let k = (s.each_name n p).standing in
        record {
          of_core = λ c. k.of_core c ∙ core_standing_stays (core_at n h) refl ∙ ap (core_standing (e ∷ h)) (sym (core_other n e h x));
          of_semaphore = λ c. k.of_semaphore c ∙ sym (state_other (the_semaphore n) e h (is_false _ other));
          of_other = k.of_other;
        }
      where
        other : same_instance (the_semaphore n) (instance_of e) ≡ true → ⊥
        other b =
            let z = instance_true (the_semaphore n) (instance_of e) b in
            let kind = eq-eqb e.kind semaphore (ap (λ (i : Instance). i.kind) (sym z)) in
            clash _ (and_true _ _ kind (eq_same n e.target (ap (λ (i : Instance). i.name) z))) y

    standing_of_new : new_target h e ≡ true → n ≡ e.target → StandingShown (e ∷ h) n (kind_at after.nums row) 0
    standing_of_new u p =
        let i = (both (is_tracked e.kind) _ u).0 in
        let k = target_kinded h t s e f state n q i (eq_same n e.target p) in
        record {
          of_core = λ c. absurd (omega (arith, eqb-true (kind_at after.nums row) core c, k, tracked_range e.kind i));
          of_semaphore = λ c. absurd (clash _ (and_true _ _ (ap (λ (j : ℕ). eqb j semaphore) (sym k) ∙ c) (eq_same n e.target p)) y);
          of_other = λ c d. refl;
        }

  pub standing_next : StandingShown (e ∷ h) n (kind_at after.nums row) (standing_at after.nums row)
  standing_next =
      rw (standing_at_lem h t s e f state n q)
      (by_tests (on n e) refl (eqb e.kind semaphore && same_bytes n e.target) refl (name_from h e n q))
    where
      by_tests : (x : Bool) → on n e ≡ x → (y : Bool) → eqb e.kind semaphore && same_bytes n e.target ≡ y → NameFrom h e n →
          StandingShown (e ∷ h) n (kind_at after.nums row)
          (cond x (cond (gives e.word) idle_core (held_by (row_of (e ∷ h) e.target))) (cond y state (or_old h e n 0 0 (standing_at t.nums row))))
      by_tests true x y v r = standing_of_core x
      by_tests false x true v r = standing_of_semaphore v
      by_tests false x false v (before p) =
          rw (kind_old h t s e f state n q p, old_same h e n p 0 0 (standing_at t.nums row), row_stays h e f.kinds n p) (standing_of_old x v p)
      by_tests false x false v (as_source u p) = absurd (clash _ (and_true _ _ (both (on_core e) _ u).0 (eq_same n e.source p)) x)
      by_tests false x false v (as_target u p) = rw (new_target_lem h e n u p 0 0 (standing_at t.nums row)) (standing_of_new x v u p)
