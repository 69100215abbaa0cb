-- Whether the event's own instance needs an entry: a line that needs one more brings one more, and where it breaks neither 11 nor 12, a line that brings one more needs one (02, No. 7).
use Rattle.std.proofs.Common.{Option, None, Some}
use mathlib.Core.Path.{◌≡◌, refl, sym, ap, ◌∙◌}
use mathlib.Core.Bool.{Bool, true, false, not, ◌&&◌, ◌||◌, and-false}
use mathlib.Core.List.{List, [], ◌∷◌}
use Prim.Native.Nat.{ℕ, ◌+◌, ◌≤◌}
use native.Mathlib.Omega.{arith}
use lib.Dec.{leb}
use borrow.Author.Tests.{eqb-true, le-leb, not-true, not-false}
use Rattle.text.specs.Lists.{any}
use Rattle.text.proofs.Bools.{is_false}
use Rattle.rules.specs.Lists.{when, or_else}
use Rattle.rules.specs.Chart.{Step, step_for}
use Rattle.rules.specs.Charts.{chart_of}
use Rattle.rules.specs.Event.{Event, Instance, same_instance, instance_of, state_of}
use Rattle.rules.specs.History.{has_instances, instances, activates, numbers, last_number, first_number, above_all, reaches, is_terminated, needs_entry, has_entry}
use Rattle.rules.specs.Refusals.{look, unseen, is_next, is_next_activation, exceeds_limit, needs_one, off_chart, never_activated, not_allowed, not_next}
use Rattle.rules.specs.Verdict.{Never}
use Rattle.rules.proofs.Tests.{both, neither, clash}
use Rattle.rules.proofs.Changes.{state_own}
use Rattle.rules.proofs.CoreWords.{is_step}
use Rattle.rules.proofs.Activations.{none_earlier, no_value, activates_instances, own_activation, Numbers, what_numbers, activation_step}
use Rattle.rules.proofs.Seen.{own_number, stated_listed}
use Rattle.rules.proofs.Terminated.{from_terminated, enters_terminated, exceeding_activates}
use Rattle.rules.proofs.Entries.{entry_exactly, listed, unnumbered, GivenBack, given_back, next_holds}

-- the first number is not above the last
pub first_low : (h : List Event) → Never not_next h → (k : ℕ) (n : List ℕ) (f m : ℕ) → first_number k n h ≡ Some f → last_number k n h ≡ Some m → f ≤ m
unfolding first_number last_number
first_low [] c k n f m p q = absurd (no_value (sym p))
first_low (e ∷ h) c k n f m p q = by_numbers (numbers k n e) refl p q (first_low h c.1 k n)
  where
    Before : Type 0
    Before = (f m : ℕ) → first_number k n h ≡ Some f → last_number k n h ≡ Some m → f ≤ m

    -- the activation bears the number of the one before plus 1
    next : Numbers k n e → (m : ℕ) → last_number k n h ≡ Some m → e.target_instance ≡ m + 1
    next w m l = eqb-true _ _ (rw (rw (w.of_kind, w.of_name) at l) at (next_holds h e c.0 w.activation))

    by_last : Numbers k n e → (o : Option ℕ) → last_number k n h ≡ o → first_number k n h ≡ Some f → Some e.target_instance ≡ Some m → Before → f ≤ m
    by_last w None l p q i = absurd (no_value (sym p ∙ none_earlier (λ d. when (numbers k n d) d.target_instance) h l))
    by_last w (Some u) l p q i = let z : e.target_instance ≡ m = cc in omega (arith, next w u l, i f u p l)

    by_first : Numbers k n e → (o : Option ℕ) → first_number k n h ≡ o → or_else o (Some e.target_instance) ≡ Some f → Some e.target_instance ≡ Some m → Before → f ≤ m
    by_first w None r p q i = let z : f ≡ m = cc in omega (arith, z)
    by_first w (Some g) r p q i = by_last w (last_number k n h) refl (r ∙ p) q i

    by_rest : (o : Option ℕ) → first_number k n h ≡ o → or_else o None ≡ Some f → last_number k n h ≡ Some m → Before → f ≤ m
    by_rest None r p q i = absurd (no_value (sym p))
    by_rest (Some g) r p q i = i f m (r ∙ p) q

    by_numbers : (b : Bool) → numbers k n e ≡ b → or_else (first_number k n h) (when b e.target_instance) ≡ Some f →
        or_else (when b e.target_instance) (last_number k n h) ≡ Some m → Before → f ≤ m
    by_numbers true w p q i = by_first (what_numbers k n e w) (first_number k n h) refl p q i
    by_numbers false w p q i = by_rest (first_number k n h) refl p q i

module _ (h : List Event) (e : Event) where
  abbrev own : Instance
  own = instance_of e

  abbrev before : Option ℕ
  before = first_number e.kind e.target h

  -- an event that does not activate leaves the first number as it was
  first_kept : activates e.kind e.word ≡ false → first_number e.kind e.target (e ∷ h) ≡ before
  unfolding first_number
  first_kept t = rw (own_activation e, t) (by_first (first_number e.kind e.target h))
    where
      by_first : (o : Option ℕ) → or_else o None ≡ o
      by_first None = refl
      by_first (Some f) = refl

  -- the state after it, where its word is a step
  entered_state : (r : Step) → step_for (chart_of e.kind) e.word ≡ Some r → state_of own (e ∷ h) ≡ Some r.enters
  entered_state r q = state_own e h ∙ rw q

  -- an activation is TERMINATED after it exactly if it is mtalimitexceeded
  activated_state : activates e.kind e.word ≡ true → is_terminated (state_of own (e ∷ h)) ≡ exceeds_limit e.kind e.word
  unfolding is_step
  activated_state t = by_step (step_for (chart_of e.kind) e.word) refl (activation_step e.kind e.word t)
    where
      by_step : (o : Option Step) → step_for (chart_of e.kind) e.word ≡ o → is_step o ≡ true → is_terminated (state_of own (e ∷ h)) ≡ exceeds_limit e.kind e.word
      by_step None q s = absurd (clash false s refl)
      by_step (Some r) q s =
          ap is_terminated (entered_state r q) ∙ enters_terminated e.kind e.word r (activates_instances e.kind e.word t) q t

  -- ---- a line that needs one more brings one more

  pub needing_gains : needs_one (look h e) e ≡ true → (has_entry h own ≡ false) × (has_entry (e ∷ h) own ≡ true)
  unfolding needs_one is_next_activation needs_entry
  needing_gains q =
      let i = both (has_instances e.kind) _ q in
      let n = both (not (has_entry h own)) _ i.1 in
      let m = both (not (exceeds_limit e.kind e.word)) _ n.1 in
      (not-true _ n.0, entry_exactly (e ∷ h) own ∙ rw (listed h e i.0, stays i.0 (not-true _ m.0) m.1))
    where
      stays : has_instances e.kind ≡ true → exceeds_limit e.kind e.word ≡ false →
          not (reaches before e.target_instance) || (activates e.kind e.word && is_next (last_number e.kind e.target h) (above_all e.kind e.target e.target_instance h) e.target_instance) ≡ true →
          is_terminated (state_of own (e ∷ h)) && reaches (first_number e.kind e.target (e ∷ h)) own.number ≡ false
      stays i l m = is_false _ (λ c. let d = both (is_terminated (state_of own (e ∷ h))) _ c in by_test (activates e.kind e.word) refl d.0 d.1 m)
        where
          by_test : (t : Bool) → activates e.kind e.word ≡ t → is_terminated (state_of own (e ∷ h)) ≡ true → reaches (first_number e.kind e.target (e ∷ h)) own.number ≡ true →
              not (reaches before e.target_instance) || (t && is_next (last_number e.kind e.target h) (above_all e.kind e.target e.target_instance h) e.target_instance) ≡ true → ⊥
          by_test true t s r m = clash _ s (activated_state t ∙ l)
          by_test false t s r m =
              let z : reaches before e.target_instance ≡ true = rw (first_kept t, own_number e i) at r in
              clash false (rw z at m) refl

  -- ---- and a line that brings one more needs one, where it breaks no rule

  module _ (before-all : Never not_next h) (allowed-step : not_allowed (look h e) e ≡ false) (next : not_next (look h e) e ≡ false)
      (had : has_entry h own ≡ false) (has : has_entry (e ∷ h) own ≡ true) where
    needs_now : needs_entry (e ∷ h) own ≡ true
    needs_now = (both (any (same_instance own) (instances (e ∷ h))) _ (sym (entry_exactly (e ∷ h) own) ∙ has)).1

    kinded : has_instances e.kind ≡ true
    unfolding instances needs_entry
    kinded = by_kind (has_instances e.kind) refl
      where
        by_kind : (b : Bool) → has_instances e.kind ≡ b → b ≡ true
        by_kind true k = refl
        by_kind false k =
            let l : any (same_instance own) (instances h) ≡ true = rw k at (both (any (same_instance own) (instances (e ∷ h))) _ (sym (entry_exactly (e ∷ h) own) ∙ has)).0 in
            absurd (clash _ (entry_exactly h own ∙ rw (l, unnumbered e.kind e.target own.number k h, and-false (is_terminated (state_of own h)))) had)

    -- mtalimitexceeded leaves no entry
    no_entry : exceeds_limit e.kind e.word ≡ false
    unfolding needs_entry first_number last_number
    no_entry = is_false _ (λ q.
        let t = exceeding_activates e.kind e.word q in
        clash _ needs_now (rw (activated_state t, q, own_activation e, t, own_number e kinded) (ap not (by_first t before refl))))
      where
        by_last : activates e.kind e.word ≡ true → (f : ℕ) → before ≡ Some f → (o : Option ℕ) → last_number e.kind e.target h ≡ o →
            is_next o (above_all e.kind e.target e.target_instance h) e.target_instance ≡ true → leb f e.target_instance ≡ true
        by_last t f p None l n = absurd (no_value (sym p ∙ none_earlier (λ d. when (numbers e.kind e.target d) d.target_instance) h l))
        by_last t f p (Some m) l n =
            le-leb f e.target_instance (omega (arith, first_low h before-all e.kind e.target f m p l, eqb-true e.target_instance (m + 1) n))

        by_first : activates e.kind e.word ≡ true → (o : Option ℕ) → before ≡ o → reaches (or_else o (Some e.target_instance)) e.target_instance ≡ true
        by_first t None p = le-leb e.target_instance e.target_instance (omega arith)
        by_first t (Some f) p = by_last t f p (last_number e.kind e.target h) refl (next_holds h e next t)

    -- at the first number or above it, an event of an instance without an entry activates
    activates_anew : reaches before e.target_instance ≡ true → activates e.kind e.word ≡ true
    unfolding not_allowed never_activated off_chart needs_entry is_step
    activates_anew r = by_test (activates e.kind e.word) refl
      where
        rules : (off_chart (look h e) e ≡ false) × (never_activated (look h e) e ≡ false)
        rules = neither (off_chart (look h e) e) (never_activated (look h e) e) allowed-step

        seen : activates e.kind e.word ≡ false → unseen (state_of own h) ≡ false
        seen t = is_false _ (λ u. clash _ (rw (u, kinded, t, r) refl) rules.1)

        back : activates e.kind e.word ≡ false → GivenBack h own
        back t = given_back h own (sym (entry_exactly h own ∙ ap (λ (b : Bool). b && needs_entry h own) (stated_listed h own kinded (seen t))) ∙ had)

        by_step : activates e.kind e.word ≡ false → (o : Option Step) → step_for (chart_of e.kind) e.word ≡ o → ⊥
        by_step t None q =
            clash _ needs_now
            (rw (state_own e h, q, (back t).terminated, first_kept t, own_number e kinded, r) refl)
        by_step t (Some s) q =
            clash _ (not-false _ (rw (back t).terminated at rules.0)) (from_terminated e.kind e.word kinded (rw q refl) ∙ t)

        by_test : (t : Bool) → activates e.kind e.word ≡ t → t ≡ true
        by_test true t = refl
        by_test false t = absurd (by_step t (step_for (chart_of e.kind) e.word) refl)

    pub gaining_needs : needs_one (look h e) e ≡ true
    unfolding needs_one is_next_activation
    gaining_needs = rw (kinded, had, no_entry) (by_reach (reaches before e.target_instance) refl)
      where
        by_reach : (r : Bool) → reaches before e.target_instance ≡ r →
            not r || (activates e.kind e.word && is_next (last_number e.kind e.target h) (above_all e.kind e.target e.target_instance h) e.target_instance) ≡ true
        by_reach true r = let t = activates_anew r in rw (t, next_holds h e next t)
        by_reach false r = refl
