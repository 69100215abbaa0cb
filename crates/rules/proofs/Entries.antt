-- Which instances need an entry (02, No. 7): an event changes that of its own instance alone, so that there is one more entry or one less at most.
use Rattle.std.proofs.Common.{Option, None, Some}
use mathlib.Core.Path.{◌≡◌, refl, sym, ap, ◌∙◌}
use mathlib.Core.Bool.{Bool, true, false, not, ◌&&◌, and-false, and-true}
use mathlib.Core.List.{List, [], ◌∷◌, ◌++◌}
use Prim.Native.Nat.{ℕ, ◌+◌}
use native.Mathlib.Omega.{arith}
use lib.Dec.{leb}
use lib.ListN.{length}
use borrow.Author.Tests.{eqb-true, leb-true, not-true, not-false}
use Rattle.text.specs.Lists.{any}
use Rattle.text.proofs.Bools.{is_false}
use Rattle.rules.specs.Lists.{only, keep, when, or_else, one_if, add_all}
use Rattle.rules.specs.Words.{TERMINATED}
use Rattle.rules.specs.Event.{Event, Instance, same_instance, instance_of, state_of}
use Rattle.rules.specs.History.{has_instances, instances, activates, numbers, last_number, first_number, is_from, above_all, reaches, is_terminated, needs_entry, entries, has_entry}
use Rattle.rules.specs.Refusals.{look, unseen, is_next, not_next}
use Rattle.rules.proofs.Tests.{both, clash, instance_true, instance_refl}
use Rattle.rules.proofs.Sums.{other_one_more, any_only, any_added, some_any, Once, once_added, only_end, count_others}
use Rattle.rules.proofs.Changes.{state_other}
use Rattle.rules.proofs.Activations.{none_later, Numbers, what_numbers, is_from_lem, numbered_instances}
use Rattle.rules.proofs.Seen.{stated_listed}

-- ---- the instances, each once

instances_once : (h : List Event) → Once same_instance instance_true instance_refl (instances h)
unfolding instances
instances_once [] = λ m. refl
instances_once (e ∷ h) =
    once_added same_instance instance_true instance_refl (instances h) (keep (has_instances e.kind) (instance_of e) []) (instances_once h)

-- an instance has an entry exactly if it was seen and needs one
pub entry_exactly : (h : List Event) (x : Instance) → has_entry h x ≡ any (same_instance x) (instances h) && needs_entry h x
entry_exactly h x = any_only same_instance instance_true instance_refl (needs_entry h) (instances h) x

pub entry_listed : (h : List Event) (x : Instance) → has_entry h x ≡ true → any (same_instance x) (instances h) ≡ true
entry_listed h x q = (both (any (same_instance x) (instances h)) (needs_entry h x) (sym (entry_exactly h x) ∙ q)).0

-- the event's instance is listed
pub listed : (h : List Event) (e : Event) → has_instances e.kind ≡ true → any (same_instance (instance_of e)) (instances (e ∷ h)) ≡ true
unfolding instances
listed h e k =
    any_added same_instance instance_true instance_refl (instances h) (keep (has_instances e.kind) (instance_of e) []) (instance_of e)
    (rw (k, instance_refl (instance_of e)))

-- a kind that has no instances has no first number
pub unnumbered : (k : ℕ) (n : List ℕ) (i : ℕ) → has_instances k ≡ false → (h : List Event) → reaches (first_number k n h) i ≡ false
unnumbered k n i q h = by_first (first_number k n h) refl
  where
    by_first : (o : Option ℕ) → first_number k n h ≡ o → reaches o i ≡ false
    by_first None p = refl
    by_first (Some f) p = absurd (clash _ (numbered_instances h k n f p) q)

-- ---- what it is that an instance needs none

is_terminated_lem : (o : Option ℕ) → is_terminated o ≡ true → o ≡ Some TERMINATED
is_terminated_lem None q = absurd (clash false q refl)
is_terminated_lem (Some s) q = ap Some (eqb-true s TERMINATED q)

pub record GivenBack (h : List Event) (x : Instance) : Type 0 where
  pub terminated : state_of x h ≡ Some TERMINATED
  pub reached : reaches (first_number x.kind x.name h) x.number ≡ true

pub given_back : (h : List Event) (x : Instance) → needs_entry h x ≡ false → GivenBack h x
unfolding needs_entry
given_back h x q =
    let r = both (is_terminated (state_of x h)) _ (not-false _ q) in
    record { terminated = is_terminated_lem (state_of x h) r.0; reached = r.1 }

-- "all are, while it has none"
pub none_given_back : (h : List Event) (x : Instance) → first_number x.kind x.name h ≡ None → has_entry h x ≡ any (same_instance x) (instances h)
unfolding needs_entry
none_given_back h x q =
    entry_exactly h x ∙ rw (q, and-false (is_terminated (state_of x h))) (and-true (any (same_instance x) (instances h)))

-- ---- the other instances

module _ (h : List Event) (e : Event) (next : not_next (look h e) e ≡ false) where
  -- an activation that is not refused bears the number that it has to bear
  pub next_holds : activates e.kind e.word ≡ true → is_next (last_number e.kind e.target h) (above_all e.kind e.target e.target_instance h) e.target_instance ≡ true
  unfolding not_next
  next_holds t = not-false _ (rw t at next)

  -- as the first one it is above all that were seen
  above_seen : (y : Instance) → Numbers y.kind y.name e → first_number y.kind y.name h ≡ None → any (same_instance y) (instances h) ≡ true → leb e.target_instance y.number ≡ false
  unfolding above_all last_number first_number
  above_seen y n f l = is_false _ (λ q.
      let none_before = none_later (λ d. when (numbers e.kind e.target d) d.target_instance) h (rw (n.of_kind, n.of_name) at f) in
      let from = is_from_lem e.kind e.target e.target_instance y (record { of_kind = sym n.of_kind; of_name = sym n.of_name; high = leb-true _ _ q }) in
      clash _ (some_any same_instance instance_true instance_refl (is_from e.kind e.target e.target_instance) (instances h) y from l)
      (not-true _ (rw none_before at (next_holds n.activation))))

  -- so one that was seen reaches the first number after it exactly if it did before
  reached_as_before : (y : Instance) → any (same_instance y) (instances h) ≡ true →
      reaches (first_number y.kind y.name (e ∷ h)) y.number ≡ reaches (first_number y.kind y.name h) y.number
  unfolding first_number
  reached_as_before y l = by_first (first_number y.kind y.name h) refl
    where
      by_numbers : first_number y.kind y.name h ≡ None → (b : Bool) → numbers y.kind y.name e ≡ b → reaches (when b e.target_instance) y.number ≡ false
      by_numbers f true q = above_seen y (what_numbers y.kind y.name e q) f l
      by_numbers f false q = refl

      by_first : (o : Option ℕ) → first_number y.kind y.name h ≡ o → reaches (or_else o (when (numbers y.kind y.name e) e.target_instance)) y.number ≡ reaches o y.number
      by_first (Some f) q = refl
      by_first None q = by_numbers q (numbers y.kind y.name e) refl

  pub needs_else : (y : Instance) → same_instance y (instance_of e) ≡ false → needs_entry (e ∷ h) y ≡ needs_entry h y
  unfolding needs_entry
  needs_else y d = rw (state_other y e h d) (by_state (is_terminated (state_of y h)) refl)
    where
      by_kind : (k : Bool) → has_instances y.kind ≡ k → unseen (state_of y h) ≡ false →
          reaches (first_number y.kind y.name (e ∷ h)) y.number ≡ reaches (first_number y.kind y.name h) y.number
      by_kind true k s = reached_as_before y (stated_listed h y k s)
      by_kind false k s = unnumbered y.kind y.name y.number k (e ∷ h) ∙ sym (unnumbered y.kind y.name y.number k h)

      by_state : (b : Bool) → is_terminated (state_of y h) ≡ b →
          not (b && reaches (first_number y.kind y.name (e ∷ h)) y.number) ≡ not (b && reaches (first_number y.kind y.name h) y.number)
      by_state true q = ap not (by_kind (has_instances y.kind) refl (ap unseen (is_terminated_lem (state_of y h) q)))
      by_state false q = refl

  pub entry_else : (y : Instance) → same_instance y (instance_of e) ≡ false → has_entry (e ∷ h) y ≡ has_entry h y
  unfolding instances
  entry_else y d =
      entry_exactly (e ∷ h) y ∙ rw (needs_else y d, still (has_instances e.kind)) (sym (entry_exactly h y))
    where
      still : (b : Bool) → any (same_instance y) (add_all same_instance (instances h) (keep b (instance_of e) [])) ≡ any (same_instance y) (instances h)
      still true = other_one_more (same_instance y) (any (same_instance (instance_of e)) (instances h)) (instances h) (instance_of e) d
      still false = refl

  -- one more with the event's instance, if it has an entry from now on, and one less, if it had one
  pub entries_counted : length (entries (e ∷ h)) + one_if (has_entry h (instance_of e)) ≡ length (entries h) + one_if (has_entry (e ∷ h) (instance_of e))
  unfolding instances
  entries_counted = by_kind (has_instances e.kind) refl (any (same_instance (instance_of e)) (instances h)) refl
    where
      -- the same list, counted by what is needed before and after
      counted : (xs : List Instance) → Once same_instance instance_true instance_refl xs →
          length (only (needs_entry (e ∷ h)) xs) + one_if (any (same_instance (instance_of e)) xs && needs_entry h (instance_of e))
          ≡ length (only (needs_entry h) xs) + one_if (any (same_instance (instance_of e)) xs && needs_entry (e ∷ h) (instance_of e))
      counted = count_others same_instance instance_true instance_refl (needs_entry (e ∷ h)) (needs_entry h) (instance_of e) needs_else

      Counted : Type 0
      Counted = length (entries (e ∷ h)) + one_if (has_entry h (instance_of e)) ≡ length (entries h) + one_if (has_entry (e ∷ h) (instance_of e))

      no_longer : instances (e ∷ h) ≡ instances h → Counted
      no_longer z =
          omega (
            arith,
            ap (λ (xs : List Instance). length (only (needs_entry (e ∷ h)) xs)) z,
            ap one_if (entry_exactly h (instance_of e)),
            ap one_if (entry_exactly (e ∷ h) (instance_of e)),
            ap (λ (xs : List Instance). one_if (any (same_instance (instance_of e)) xs && needs_entry (e ∷ h) (instance_of e))) z,
            counted (instances h) (instances_once h),
          )

      longer : any (same_instance (instance_of e)) (instances h) ≡ false → any (same_instance (instance_of e)) (instances (e ∷ h)) ≡ true → instances (e ∷ h) ≡ instances h ++ (instance_of e ∷ []) → Counted
      longer l m z =
          omega (
            arith,
            ap one_if (entry_exactly h (instance_of e)),
            ap (λ (b : Bool). one_if (b && needs_entry h (instance_of e))) l,
            ap one_if (entry_exactly (e ∷ h) (instance_of e)),
            ap (λ (xs : List Instance). length (only (needs_entry h) xs)) z,
            only_end same_instance instance_true instance_refl (needs_entry h) (instances h) (instance_of e),
            ap (λ (b : Bool). one_if (b && needs_entry h (instance_of e))) m,
            counted (instances (e ∷ h)) (instances_once (e ∷ h)),
          )

      by_kind : (b : Bool) → has_instances e.kind ≡ b → (c : Bool) → any (same_instance (instance_of e)) (instances h) ≡ c → Counted
      by_kind false k c l = no_longer (rw k)
      by_kind true k true l = no_longer (rw (k, l))
      by_kind true k false l = longer l (listed h e k) (rw (k, l))
