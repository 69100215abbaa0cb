-- "Resumed without ever being activated" (02, No. 5): no instance is met that was never activated, and no first activation that is not above all seen, exactly if each
-- instance from the first number of its process or runnable on begins with an activation.
use Rattle.std.proofs.Common.{Option, None, Some}
use mathlib.Core.Path.{◌≡◌, refl, sym, ap, subst, ◌∙◌}
use mathlib.Core.Logic.{◌↔◌}
use mathlib.Core.Bool.{Bool, true, false, not, ◌&&◌}
use mathlib.Core.List.{List, [], ◌∷◌}
use Prim.Native.Nat.{ℕ, ◌≤◌}
use borrow.Author.Tests.{leb-true, le-leb, not-true, not-false}
use Rattle.text.specs.Lists.{any}
use Rattle.text.proofs.Bools.{is_false}
use Rattle.rules.specs.Lists.{when, or_else}
use Rattle.rules.specs.Event.{Event, Instance, same_instance, instance_of, first_word, state_of}
use Rattle.rules.specs.History.{has_instances, instances, activates, numbers, last_number, first_number, is_from, above_all, reaches}
use Rattle.rules.specs.Refusals.{Known, look, unseen, never_activated}
use Rattle.rules.specs.Verdict.{Never}
use Rattle.rules.specs.Lawful.{Begun}
use Rattle.rules.proofs.Tests.{both, clash, instance_true, instance_refl}
use Rattle.rules.proofs.Sums.{any_some, some_any}
use Rattle.rules.proofs.Changes.{first_other, first_own}
use Rattle.rules.proofs.Seen.{own_number, wordless, first_listed}
use Rattle.rules.proofs.Activations.{none_earlier, none_later, no_value, activates_instances, own_activation, Numbers, what_numbers, what_from, is_from_lem, numbered_instances, begun_numbered, begun_stated}

-- the half of 12 that asks the first activation
abbrev pub starts_low : Known → Event → Bool
starts_low k e = activates e.kind e.word && (unseen k.number && not k.above)

-- ---- one event more

module _ (h : List Event) (e : Event) where
  -- an instance that was seen keeps its first word, and a process or runnable its first number
  first_stays : (x : Instance) (a : ℕ) → first_word x h ≡ Some a → first_word x (e ∷ h) ≡ Some a
  first_stays x a w = by_instance (same_instance x (instance_of e)) refl
    where
      by_instance : (b : Bool) → same_instance x (instance_of e) ≡ b → first_word x (e ∷ h) ≡ Some a
      by_instance true q = rw (q, w)
      by_instance false q = first_other x e h q ∙ w

  number_stays : (k : ℕ) (n : List ℕ) (f : ℕ) → first_number k n h ≡ Some f → first_number k n (e ∷ h) ≡ Some f
  unfolding first_number
  number_stays k n f q = rw q

  -- an instance that has a first word now and had none is the event's own
  newly_first : (x : Instance) (a : ℕ) → first_word x h ≡ None → first_word x (e ∷ h) ≡ Some a → (x ≡ instance_of e) × (a ≡ e.word)
  newly_first x a n w = by_instance (same_instance x (instance_of e)) refl
    where
      by_instance : (b : Bool) → same_instance x (instance_of e) ≡ b → (x ≡ instance_of e) × (a ≡ e.word)
      by_instance true q =
          let z = instance_true x (instance_of e) q in
          let r : Some e.word ≡ Some a =
          ap (λ (o : Option ℕ). or_else o (Some e.word)) (sym (ap (λ (y : Instance). first_word y h) (sym z) ∙ n))
          ∙ sym (first_own e h) ∙ ap (λ (y : Instance). first_word y (e ∷ h)) (sym z) ∙ w in
          (z, let s : a ≡ e.word = cc in s)
      by_instance false q = absurd (no_value (sym w ∙ first_other x e h q ∙ n))

  -- the first number of the event's own process or runnable
  first_own_number : first_number e.kind e.target h ≡ None → activates e.kind e.word ≡ true → first_number e.kind e.target (e ∷ h) ≡ Some e.target_instance
  unfolding first_number
  first_own_number n t = rw (n, own_activation e, t)

  module _ (b : Begun h) (activated : never_activated (look h e) e ≡ false) (high : starts_low (look h e) e ≡ false) where
    -- the first event of an instance, where there is a first number and this instance reaches it
    own_after : (f : ℕ) → first_number e.kind e.target h ≡ Some f → f ≤ (instance_of e).number → first_word (instance_of e) h ≡ None → activates e.kind e.word ≡ true
    unfolding never_activated
    own_after f p l n = by_test (activates e.kind e.word) refl
      where
        kinded : has_instances e.kind ≡ true
        kinded = numbered_instances h e.kind e.target f p

        by_test : (t : Bool) → activates e.kind e.word ≡ t → t ≡ true
        by_test true t = refl
        by_test false t =
            absurd (clash true refl
            (sym (rw (kinded, t, wordless h (instance_of e) n, p) (le-leb f e.target_instance (rw (own_number e kinded) at l))) ∙ activated))

    -- a number that no instance of the process or runnable reaches
    own_first : first_number e.kind e.target h ≡ None → activates e.kind e.word ≡ true → (x : Instance) →
        x.kind ≡ e.kind → x.name ≡ e.target → e.target_instance ≤ x.number → (c : ℕ) → first_word x h ≡ Some c → ⊥
    unfolding above_all last_number first_number
    own_first n t x j m l c w =
        let o : last_number e.kind e.target h ≡ None = none_later (λ d. when (numbers e.kind e.target d) d.target_instance) h n in
        let listed = not-false _ (sym (first_listed h x (rw j (activates_instances e.kind e.word t))) ∙ ap unseen w) in
        let from = is_from_lem e.kind e.target e.target_instance x (record { of_kind = sym j; of_name = sym m; high = l }) in
        clash _ (some_any same_instance instance_true instance_refl (is_from e.kind e.target e.target_instance) (instances h) x from listed) (not-true _ (not-false _ (rw (t, o) at high)))

    begun_next : Begun (e ∷ h)
    unfolding first_number
    begun_next x f a p l w = by_number (first_number x.kind x.name h) refl p
      where
        after : first_number x.kind x.name h ≡ Some f → (o : Option ℕ) → first_word x h ≡ o → activates x.kind a ≡ true
        after q (Some c) v = b x f a q l (v ∙ (sym (first_stays x c v) ∙ w))
        after q None v =
            let z = newly_first x a v w in
            rw z.1
            (subst
            (λ (y : Instance). first_number y.kind y.name h ≡ Some f → f ≤ y.number → first_word y h ≡ None → activates y.kind e.word ≡ true)
            (sym z.0) (own_after f) q l v)

        first : first_number x.kind x.name h ≡ None → Numbers x.kind x.name e → e.target_instance ≡ f → (o : Option ℕ) → first_word x h ≡ o → activates x.kind a ≡ true
        first q r g (Some c) v = absurd (own_first (rw (r.of_kind, r.of_name) at q) r.activation x r.of_kind r.of_name (rw (← g) at l) c v)
        first q r g None v = rw (r.of_kind, (newly_first x a v w).1) r.activation

        by_numbers : first_number x.kind x.name h ≡ None → (t : Bool) → numbers x.kind x.name e ≡ t → when t e.target_instance ≡ Some f → activates x.kind a ≡ true
        by_numbers q true t p = first q (what_numbers x.kind x.name e t) (let g : e.target_instance ≡ f = cc in g) (first_word x h) refl
        by_numbers q false t p = absurd (no_value (sym p))

        by_number : (o : Option ℕ) → first_number x.kind x.name h ≡ o → or_else o (when (numbers x.kind x.name e) e.target_instance) ≡ Some f →
            activates x.kind a ≡ true
        by_number (Some g) q p = after (q ∙ p) (first_word x h) refl
        by_number None q p = by_numbers q (numbers x.kind x.name e) refl p

  module _ (b : Begun (e ∷ h)) where
    begun_before : Begun h
    begun_before x f a p l w = b x f a (number_stays x.kind x.name f p) l (first_stays x a w)

    begun_activated : never_activated (look h e) e ≡ false
    unfolding never_activated
    begun_activated = is_false _ (λ q.
        let r = both (unseen (state_of (instance_of e) h)) _ q in
        let s = both (has_instances e.kind) _ r.1 in
        let t = both (not (activates e.kind e.word)) _ s.1 in
        by_first s.0 (not-true _ t.0) r.0 (first_number e.kind e.target h) refl t.1)
      where
        by_word : activates e.kind e.word ≡ false → unseen (state_of (instance_of e) h) ≡ true → (f : ℕ) → first_number e.kind e.target h ≡ Some f →
            f ≤ (instance_of e).number → (o : Option ℕ) → first_word (instance_of e) h ≡ o → ⊥
        by_word t u f q l None w =
            clash _ (b (instance_of e) f e.word (number_stays e.kind e.target f q) l (first_own e h ∙ rw w refl)) t
        by_word t u f q l (Some c) w = begun_stated h (instance_of e) c w (begun_before (instance_of e) f c q l w) u

        by_first : has_instances e.kind ≡ true → activates e.kind e.word ≡ false → unseen (state_of (instance_of e) h) ≡ true →
            (o : Option ℕ) → first_number e.kind e.target h ≡ o → reaches o e.target_instance ≡ true → ⊥
        by_first i t u None q r = clash false r refl
        by_first i t u (Some f) q r = by_word t u f q (rw (own_number e i) (leb-true f e.target_instance r)) (first_word (instance_of e) h) refl

    begun_high : starts_low (look h e) e ≡ false
    unfolding above_all last_number first_number
    begun_high = is_false _ (λ q.
        let r = both (activates e.kind e.word) _ q in
        let s = both (unseen (last_number e.kind e.target h)) _ r.1 in
        by_last r.0 (last_number e.kind e.target h) refl s.0 (any_some same_instance instance_true instance_refl (is_from e.kind e.target e.target_instance) (instances h) (not-false _ (not-true _ s.1))))
      where
        by_instance : activates e.kind e.word ≡ true → first_number e.kind e.target h ≡ None → (x : Instance) → e.kind ≡ x.kind → e.target ≡ x.name →
            e.target_instance ≤ x.number → (o : Option ℕ) → first_word x h ≡ o → unseen o ≡ false → ⊥
        by_instance t n x j m l None w u = clash true refl u
        by_instance t n x j m l (Some c) w u =
            begun_numbered h x c w (b x e.target_instance c (subst (λ (k : ℕ). first_number k x.name (e ∷ h) ≡ Some e.target_instance) j (subst (λ (s : List ℕ). first_number e.kind s (e ∷ h) ≡ Some e.target_instance) m (first_own_number n t))) l (first_stays x c w)) (rw (j, m) at n)

        by_last : activates e.kind e.word ≡ true → (o : Option ℕ) → last_number e.kind e.target h ≡ o → unseen o ≡ true →
            (x : Instance) × (is_from e.kind e.target e.target_instance x ≡ true) × (any (same_instance x) (instances h) ≡ true) → ⊥
        by_last t (Some m) n u x = clash false u refl
        by_last t None n u (x, f, i) =
            let r = what_from e.kind e.target e.target_instance x f in
            by_instance t (none_earlier (λ d. when (numbers e.kind e.target d) d.target_instance) h n) x r.of_kind r.of_name r.high
            (first_word x h) refl (first_listed h x (rw (← r.of_kind) (activates_instances e.kind e.word t)) ∙ ap not i)

-- ---- a whole history

never_begun : (h : List Event) → Never never_activated h → Never starts_low h → Begun h
unfolding first_number
never_begun [] n m = λ x f a p l w. absurd (no_value (sym p))
never_begun (e ∷ h) n m = begun_next h e (never_begun h n.1 m.1) n.0 m.0

begun_never : (h : List Event) → Begun h → Never never_activated h × Never starts_low h
begun_never [] b = (tt, tt)
begun_never (e ∷ h) b = let r = begun_never h (begun_before h e b) in ((begun_activated h e b, r.0), (begun_high h e b, r.1))

pub begun_exactly : (h : List Event) → (Never never_activated h × Never starts_low h) ↔ Begun h
begun_exactly h = (λ n. never_begun h n.0 n.1, begun_never h)
