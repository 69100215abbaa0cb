-- The numbers of a name in its row after a line that is taken: the last and the first one that the longer history gives it, or none. A core has none, and the
-- entry of the last is free for that of the instance that holds it.
use Rattle.std.proofs.Common.{Option, Some}
use mathlib.Core.Path.{◌≡◌, refl, sym, ap, ◌∙◌}
use mathlib.Core.Bool.{Bool, true, false, ◌&&◌, cond}
use mathlib.Core.List.{List, ◌∷◌}
use Prim.Native.Nat.{ℕ, ◌≤◌}
use native.Mathlib.Omega.{arith}
use lib.Dec.{eqb}
use borrow.Author.Tests.{eq-eqb}
use Rattle.text.specs.Bytes.{same_bytes}
use Rattle.text.specs.Lists.{any}
use Rattle.text.proofs.Bools.{is_false}
use Rattle.rules.specs.Words.{core, semaphore}
use Rattle.rules.specs.Event.{Event, Instance, instance_of}
use Rattle.rules.specs.Core.{idle, held, becomes, gives, on_core, on, core_at}
use Rattle.rules.specs.History.{is_tracked, names, activates, numbers, first_number}
use Rattle.rules.specs.Verdict.{Accepted}
use Rattle.rules.proofs.Tests.{both, clash}
use Rattle.rules.proofs.Changes.{core_other}
use Rattle.rules.proofs.Answers.{Passed}
use Rattle.rules.proofs.Tracked.{two_names, kind_stays, named_kind, kind_named}
use Rattle.rules.proofs.Seen.{own_number}
use Rattle.rules.proofs.Activations.{activates_instances}
use Rattle.tables.specs.Entry.{kind_at, number_at, numbered_at, first_number_at}
use Rattle.decide.proofs.Plans.{on_instances}
use Rattle.store.specs.Store.{taken_tables}
use Rattle.judge.specs.Feed.{Tables}
use Rattle.promises.specs.Places.{row_of}
use Rattle.promises.specs.Shown.{number_of, Shown}
use Rattle.promises.specs.Taken.{looked_up_in}
use Rattle.promises.proofs.Choices.{where_true, implied_first}
use Rattle.promises.proofs.KindTests.{instances_tracked, tracked_range, semaphore_tracked}
use Rattle.promises.proofs.Origins.{name_from}
use Rattle.promises.proofs.Grown.{row_stays}
use Rattle.promises.proofs.CoreNames.{becomes_own, held_core}
use Rattle.promises.proofs.Untold.{core_unnumbered, no_first_number}
use Rattle.promises.proofs.Rows.{or_old, number_at_lem, numbered_at_lem, first_at, or_given}
use Rattle.promises.proofs.Ages.{old_same, Age, age, shown_number, given_shown, unnumbered_any, none_shown, one_at_most}
use Rattle.promises.proofs.Ages.{none_told, number_grows, first_given}
use Rattle.promises.proofs.Ages.Age.{old, new}
use Rattle.promises.proofs.NameKinds.{kind_next, kind_old, target_kinded, source_kinded}

module _ (h : List Event) (t : Tables) (s : Shown h t) (e : Event) (f : Passed h e) (state : ℕ)
    (n : List ℕ) (q : any (same_bytes n) (names (e ∷ h)) ≡ true) where
  abbrev after : Tables
  after = taken_tables t (looked_up_in h t e) state e

  abbrev row : ℕ
  row = row_of (e ∷ h) n

  -- a core is given none
  core_given : kind_at after.nums row ≡ core → (u v last : ℕ) → or_given e n u v last ≡ last
  core_given k u v last =
      rw (
        no_target (eqb e.kind semaphore) (semaphore_tracked e.kind),
        no_target (activates e.kind e.word) (λ y. instances_tracked e.kind (activates_instances e.kind e.word y)),
      )
    where
      no_target : (b : Bool) → (b ≡ true → is_tracked e.kind ≡ true) → b && same_bytes n e.target ≡ false
      no_target b i =
          is_false _ (λ y.
          let p = both b (same_bytes n e.target) y in
          let r = tracked_range e.kind (i p.0) in
          let z : e.kind ≡ core = sym (target_kinded h t s e f state n q (i p.0) p.1) ∙ k in
          omega arith)

  -- and has none, also where this line is its own
  core_unnumbered_next : on n e ≡ true → numbered_at after.nums row ≡ 0
  core_unnumbered_next x =
      numbered_at_lem h t s e f state n q
      ∙ core_given (source_kinded h t s e f state n q x) 1 1 _
      ∙ by_age (age h e n (two_names h e f.kinds) (name_from h e n q))
    where
      by_age : Age h e n → or_old h e n 0 0 (numbered_at t.nums row) ≡ 0
      by_age (old p) =
          let k : kind_at t.nums (row_of h n) ≡ core = sym (kind_old h t s e f state n q p) ∙ source_kinded h t s e f state n q x in
          old_same h e n p 0 0 (numbered_at t.nums row)
          ∙ ap (numbered_at t.nums) (row_stays h e f.kinds n p)
          ∙ none_shown _ (number_at t.nums (row_of h n)) ((s.each_name n p).number ∙ ap (number_of h n) k ∙ core_unnumbered n h)
      by_age (new p z) = z (numbered_at t.nums row)

  pub number_next : shown_number (numbered_at after.nums row) (number_at after.nums row) ≡ number_of (e ∷ h) n (kind_at after.nums row)
  number_next =
      rw (number_at_lem h t s e f state n q)
      (unnumbered_any (on n e) (gives e.word) (numbered_at after.nums row) e.target_instance
      (or_given e n e.count e.target_instance (or_old h e n 0 0 (number_at t.nums row)))
      core_unnumbered_next
      ∙ rw (numbered_at_lem h t s e f state n q)
      (given_shown (eqb e.kind semaphore && same_bytes n e.target) (activates e.kind e.word && same_bytes n e.target)
      e.count e.target_instance _ _
      ∙ ap
      (λ (r : Option ℕ). cond (eqb e.kind semaphore && same_bytes n e.target) (Some e.count)
      (cond (activates e.kind e.word && same_bytes n e.target) (Some e.target_instance) r))
      (by_age (age h e n (two_names h e f.kinds) (name_from h e n q)))
      ∙ sym (number_grows h e n (kind_at after.nums row) (target_kinded h t s e f state n q))))
    where
      by_age : Age h e n →
          shown_number (or_old h e n 0 0 (numbered_at t.nums row)) (or_old h e n 0 0 (number_at t.nums row)) ≡ number_of h n (kind_at after.nums row)
      by_age (old p) =
          rw (
            kind_old h t s e f state n q p,
            old_same h e n p 0 0 (numbered_at t.nums row),
            old_same h e n p 0 0 (number_at t.nums row),
            row_stays h e f.kinds n p,
          )
          (s.each_name n p).number
      by_age (new p z) = rw (z (numbered_at t.nums row)) (none_told h n (kind_at after.nums row) p)

  pub numbered_next : numbered_at after.nums row ≤ 1
  numbered_next =
      rw (numbered_at_lem h t s e f state n q)
      (one_at_most (eqb e.kind semaphore && same_bytes n e.target) (activates e.kind e.word && same_bytes n e.target) _
      (by_age (age h e n (two_names h e f.kinds) (name_from h e n q))))
    where
      by_age : Age h e n → or_old h e n 0 0 (numbered_at t.nums row) ≤ 1
      by_age (old p) = rw (old_same h e n p 0 0 (numbered_at t.nums row), row_stays h e f.kinds n p) (s.each_name n p).numbered
      by_age (new p z) = rw (z (numbered_at t.nums row)) (omega arith)

  -- ---- the first number

  pub first_next : eqb (kind_at after.nums row) semaphore ≡ false →
      shown_number (numbered_at after.nums row) (first_number_at after.nums row) ≡ first_number (kind_at after.nums row) n (e ∷ h)
  unfolding first_number numbers
  first_next k =
      rw (numbered_at_lem h t s e f state n q, first_at h t s e f state n q, no_count)
      (first_given (activates e.kind e.word && same_bytes n e.target) was _ e.target_instance
      ∙ rw (by_age (age h e n (two_names h e f.kinds) (name_from h e n q)), own_kind))
    where
      was : ℕ
      was = or_old h e n 0 0 (numbered_at t.nums row)

      -- the line gives no count to a name that is not a semaphore's
      no_count : eqb e.kind semaphore && same_bytes n e.target ≡ false
      no_count =
          is_false _ (λ y.
          let p = both (eqb e.kind semaphore) (same_bytes n e.target) y in
          let z = target_kinded h t s e f state n q (semaphore_tracked e.kind p.0) p.1 in
          clash _ (ap (λ (j : ℕ). eqb j semaphore) z ∙ p.0) k)

      -- and a number to one of its own kind
      own_kind : activates e.kind e.word && (eqb (kind_at after.nums row) e.kind && same_bytes n e.target)
          ≡ activates e.kind e.word && same_bytes n e.target
      own_kind =
          where_true (activates e.kind e.word) _ _ (λ a.
          implied_first _ (same_bytes n e.target) (λ x.
          eq-eqb _ e.kind (target_kinded h t s e f state n q (instances_tracked e.kind (activates_instances e.kind e.word a)) x)))

      by_age : Age h e n → shown_number was (or_old h e n 0 0 (first_number_at t.nums row)) ≡ first_number (kind_at after.nums row) n h
      by_age (old p) =
          rw (
            kind_old h t s e f state n q p,
            old_same h e n p 0 0 (numbered_at t.nums row),
            old_same h e n p 0 0 (first_number_at t.nums row),
            row_stays h e f.kinds n p,
          )
          ((s.each_name n p).first_number_stands (rw (kind_old h t s e f state n q p) at k))
      by_age (new p z) = rw (z (numbered_at t.nums row)) (sym (no_first_number (kind_at after.nums row) n h (kind_named h n p)))

  -- ---- the number of the instance that holds a core

  pub holder_next : Accepted h → (x : Instance) → core_at n (e ∷ h) ≡ held x → number_at after.nums row ≡ x.number
  holder_next a x p = number_at_lem h t s e f state n q ∙ by_test (on n e) refl (gives e.word) refl
    where
      by_test : (b : Bool) → on n e ≡ b → (g : Bool) → gives e.word ≡ g →
          let last = or_given e n e.count e.target_instance (or_old h e n 0 0 (number_at t.nums row)) in
          cond b (cond g last e.target_instance) last ≡ x.number
      by_test true o true g =
          let z : idle ≡ held x = ap (λ (b : Bool). becomes b (instance_of e)) (sym g) ∙ sym (becomes_own n e h o) ∙ p in
          let y : ◌≡◌ {A = ℕ} 0 1 = cc in
          absurd (omega arith)
      by_test true o false g =
          let z : held (instance_of e) ≡ held x = ap (λ (b : Bool). becomes b (instance_of e)) (sym g) ∙ sym (becomes_own n e h o) ∙ p in
          let y : instance_of e ≡ x = cc in
          sym (own_number e (on_instances e (both (on_core e) (same_bytes n e.source) o).0)) ∙ ap (λ (i : Instance). i.number) y
      by_test false o g r =
          let was = sym (core_other n e h o) ∙ p in
          let c = held_core h a n x was in
          let there = named_kind h n core c _ refl in
          let k : Some (kind_at after.nums row) ≡ Some core = sym (kind_next h t s e f state n q) ∙ kind_stays h e f.kinds n core c in
          core_given (let y : kind_at after.nums row ≡ core = cc in y) e.count e.target_instance _
          ∙ old_same h e n there 0 0 (number_at t.nums row)
          ∙ ap (number_at t.nums) (row_stays h e f.kinds n there)
          ∙ (s.each_name n there).holder x was
