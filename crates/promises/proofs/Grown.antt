-- How the names of a history grow: an event that does not break 9 adds its new ones at the end. So a row stays the row of its name,
-- a new name has the next one, and the lists are longer by what is new.
use mathlib.Core.Path.{◌≡◌, refl, sym, ap, ap₂, ◌∙◌}
use mathlib.Core.Bool.{Bool, true, false}
use mathlib.Core.List.{List, [], ◌∷◌, ◌++◌}
use Prim.Native.Nat.{ℕ, ◌+◌}
use native.Mathlib.Omega.{arith}
use lib.Dec.{eqb}
use lib.ListN.{length, length-append}
use borrow.Author.Tests.{ne_eqb, not-true}
use Rattle.text.specs.Bytes.{same_bytes}
use Rattle.text.specs.Lists.{any}
use Rattle.text.proofs.Words.{same_eq, same_refl}
use Rattle.rules.specs.Lists.{only, keep, one_if}
use Rattle.rules.specs.Words.{core}
use Rattle.rules.specs.Event.{Event}
use Rattle.rules.specs.Core.{on_core}
use Rattle.rules.specs.History.{is_tracked, named, names, kind_of, is_kind, cores}
use Rattle.rules.specs.Refusals.{look, second_kind}
use Rattle.rules.proofs.Tests.{both}
use Rattle.rules.proofs.Sums.{other_way}
use Rattle.rules.proofs.Tracked.{target_kind, two_names, source_kind, kind_stays}
use Rattle.promises.specs.Places.{place, row_of}
use Rattle.promises.proofs.Places.{place_kept, place_after, only_append, only_same, grown_two}
use Rattle.promises.proofs.KindTests.{tracked_range}
use Rattle.promises.proofs.Origins.{new_source, new_target}
use Rattle.promises.proofs.Listed.{name_kind}

one_longer : {A : Type 0} (b : Bool) (xs : List A) (x : A) → length (xs ++ keep b x []) ≡ length xs + one_if b
one_longer true xs x = length-append xs (x ∷ [])
one_longer false xs x = length-append xs []

-- ---- an event that does not break 9

module _ (h : List Event) (e : Event) (k : second_kind (look h e) e ≡ false) where
  names_grow : names (e ∷ h) ≡ names h ++ keep (new_source h e) e.source (keep (new_target h e) e.target [])
  unfolding names named
  names_grow = grown_two same_bytes same_eq same_refl (on_core e) (is_tracked e.kind) (names h) e.source e.target (two_names h e k)

  pub names_length : length (names (e ∷ h)) ≡ length (names h) + one_if (new_source h e) + one_if (new_target h e)
  names_length = ap length names_grow ∙ length-append (names h) _ ∙ by_test (new_source h e) (new_target h e)
    where
      by_test : (a b : Bool) → length (names h) + length (keep a e.source (keep b e.target [])) ≡ length (names h) + one_if a + one_if b
      by_test true true = omega arith
      by_test true false = omega arith
      by_test false true = omega arith
      by_test false false = omega arith

  pub row_stays : (n : List ℕ) → any (same_bytes n) (names h) ≡ true → row_of (e ∷ h) n ≡ row_of h n
  row_stays n q = ap (place (same_bytes n)) names_grow ∙ place_kept (same_bytes n) (names h) _ q

  pub source_row_new : new_source h e ≡ true → row_of (e ∷ h) e.source ≡ length (names h)
  unfolding place
  source_row_new w =
      ap (place (same_bytes e.source)) names_grow
      ∙ place_after (same_bytes e.source) (names h) _ (not-true _ (both (on_core e) _ w).1)
      ∙ rw (w, same_refl e.source) (omega arith)

  pub target_row_new : new_target h e ≡ true → row_of (e ∷ h) e.target ≡ length (names h) + one_if (new_source h e)
  unfolding place
  target_row_new w =
      ap (place (same_bytes e.target)) names_grow
      ∙ place_after (same_bytes e.target) (names h) _ (not-true _ (both (is_tracked e.kind) _ w).1)
      ∙ ap (λ (k : ℕ). length (names h) + k) (rw w (by_test (new_source h e) refl))
    where
      by_test : (b : Bool) → new_source h e ≡ b → place (same_bytes e.target) (keep b e.source (e.target ∷ [])) ≡ one_if b
      by_test true v = rw (other_way same_bytes same_eq same_refl e.source e.target (two_names h e k (both (on_core e) _ v).0), same_refl e.target)
      by_test false v = rw (same_refl e.target)

  -- ---- the cores grow by a new source

  is_core : List ℕ → Bool
  is_core n = is_kind (eqb core) (kind_of n (e ∷ h))

  core_source : new_source h e ≡ true → is_core e.source ≡ true
  unfolding is_core
  core_source w = ap (is_kind (eqb core)) (source_kind h e k (both (on_core e) _ w).0)

  other_target : new_target h e ≡ true → is_core e.target ≡ false
  unfolding is_core
  other_target w =
      let t = (both (is_tracked e.kind) _ w).0 in
      let r = tracked_range e.kind t in
      ap (is_kind (eqb core)) (target_kind h e t) ∙ ne_eqb core e.kind (λ q. omega (arith, q))

  new_cores : (a b : Bool) → new_source h e ≡ a → new_target h e ≡ b → only is_core (keep a e.source (keep b e.target [])) ≡ keep a e.source []
  new_cores true true p q = rw (core_source p, other_target q)
  new_cores true false p q = rw (core_source p)
  new_cores false true p q = rw (other_target q)
  new_cores false false p q = refl

  cores_grow : cores (e ∷ h) ≡ cores h ++ keep (new_source h e) e.source []
  unfolding is_core
  cores_grow =
      ap (only is_core) names_grow
      ∙ only_append is_core (names h) _
      ∙ ap₂ {C = List (List ℕ)} (λ u v. u ++ v) (only_same same_bytes same_eq same_refl is_core (λ n. is_kind (eqb core) (kind_of n h)) (names h) stays)
      (new_cores (new_source h e) (new_target h e) refl refl)
    where
      stays : (n : List ℕ) → any (same_bytes n) (names h) ≡ true → is_kind (eqb core) (kind_of n (e ∷ h)) ≡ is_kind (eqb core) (kind_of n h)
      stays n q = let p = name_kind h n q in ap (is_kind (eqb core)) (kind_stays h e k n p.0 p.1 ∙ sym p.1)

  pub cores_length : length (cores (e ∷ h)) ≡ length (cores h) + one_if (new_source h e)
  cores_length = ap length cores_grow ∙ one_longer (new_source h e) (cores h) e.source
