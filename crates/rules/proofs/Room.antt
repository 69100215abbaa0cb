-- The names and cores of a history never get fewer where names keep their kinds; so that they fit at the end says that they fitted all along. The instances that need an
-- entry may get fewer, and there is one more exactly where a line needs one.
use Rattle.std.proofs.Common.{Option, None, Some}
use mathlib.Core.Path.{◌≡◌, refl, sym, ap, ◌∙◌}
use mathlib.Core.Logic.{◌↔◌}
use mathlib.Core.Bool.{Bool, true, false, ◌&&◌, and-true}
use mathlib.Core.List.{List, [], ◌∷◌, ◌++◌}
use Prim.Native.Nat.{ℕ, ◌≤◌}
use native.Mathlib.Omega.{arith}
use lib.Dec.{eqb, leb, ltb}
use lib.ListN.{length, length-append}
use borrow.Author.Tests.{le-ltb, ltb-false, leb-true, leb-false}
use Rattle.text.specs.Bytes.{same_bytes}
use Rattle.text.specs.Sizes.{name_limit, core_limit}
use Rattle.text.specs.Lists.{any}
use Rattle.text.proofs.Bools.{is_false}
use Rattle.rules.specs.Lists.{only, keep, one_if, add_unless, add_new, add_all}
use Rattle.rules.specs.Words.{core}
use Rattle.rules.specs.Event.{Event, instance_of}
use Rattle.rules.specs.History.{named, names, kind_of, is_kind, cores, instances, entries, has_entry}
use Rattle.rules.specs.Refusals.{look, second_kind, needs_one, no_room, not_allowed, not_next, event_tests}
use Rattle.rules.specs.Verdict.{Accepted, Never}
use Rattle.rules.specs.Lawful.{Always, Fits}
use Rattle.rules.proofs.Tests.{both, neither}
use Rattle.rules.proofs.Answers.{accepted_exactly}
use Rattle.rules.proofs.Tracked.{kind_stays}
use Rattle.rules.proofs.Entries.{entries_counted}
use Rattle.rules.proofs.Needed.{needing_gains, gaining_needs}
use Rattle.rules.specs.Limits.{instance_limit}

-- ---- lists that grow

module _ {A : Type 0} where
  one_longer : (b : Bool) (xs : List A) (y : A) → length xs ≤ length (add_unless b xs y)
  one_longer true xs y = omega arith
  one_longer false xs y = omega (arith, length-append xs (y ∷ []))

  longer : (eq : A → A → Bool) (xs ys : List A) → length xs ≤ length (add_all eq xs ys)
  longer eq xs [] = omega arith
  longer eq xs (y ∷ ys) = omega (arith, one_longer (any (eq y) xs) xs y, longer eq (add_new eq xs y) ys)

  -- those that pass a test
  keep_more : (b d : Bool) (x : A) (xs ys : List A) → (b ≡ true → d ≡ true) → length xs ≤ length ys → length (keep b x xs) ≤ length (keep d x ys)
  keep_more true true x xs ys f l = omega arith
  keep_more true false x xs ys f l = let z : false ≡ true = f refl in absurd (let w : ◌≡◌ {A = ℕ} 0 1 = cc in omega arith)
  keep_more false true x xs ys f l = omega arith
  keep_more false false x xs ys f l = l

  module _ (p q : A → Bool) (f : (x : A) → p x ≡ true → q x ≡ true) where
    more_pass : (xs : List A) → length (only p xs) ≤ length (only q xs)
    more_pass [] = omega arith
    more_pass (x ∷ xs) = keep_more (p x) (q x) x (only p xs) (only q xs) (f x) (more_pass xs)

  end_passes : (p : A → Bool) (xs : List A) (y : A) → length (only p xs) ≤ length (only p (xs ++ (y ∷ [])))
  end_passes p [] y = omega arith
  end_passes p (x ∷ xs) y = keep_more (p x) (p x) x (only p xs) (only p (xs ++ (y ∷ []))) (λ q. q) (end_passes p xs y)

  one_passes : (p : A → Bool) (b : Bool) (xs : List A) (y : A) → length (only p xs) ≤ length (only p (add_unless b xs y))
  one_passes p true xs y = omega arith
  one_passes p false xs y = end_passes p xs y

  longer_pass : (eq : A → A → Bool) (p : A → Bool) (xs ys : List A) → length (only p xs) ≤ length (only p (add_all eq xs ys))
  longer_pass eq p xs [] = omega arith
  longer_pass eq p xs (y ∷ ys) = omega (arith, one_passes p (any (eq y) xs) xs y, longer_pass eq p (add_new eq xs y) ys)

pub at_most_one : (b : Bool) → one_if b ≤ 1
at_most_one true = omega arith
at_most_one false = omega arith

-- ---- a history that grows

module _ (h : List Event) (e : Event) (k : second_kind (look h e) e ≡ false) where
  core_stays : (n : List ℕ) → is_kind (eqb core) (kind_of n h) ≡ true → is_kind (eqb core) (kind_of n (e ∷ h)) ≡ true
  core_stays n = by_kind (kind_of n h) refl
    where
      by_kind : (o : Option ℕ) → kind_of n h ≡ o → is_kind (eqb core) o ≡ true → is_kind (eqb core) (kind_of n (e ∷ h)) ≡ true
      by_kind None q t = cc
      by_kind (Some j) q t = rw (kind_stays h e k n j q) t

  fits_before : Fits (e ∷ h) → Fits h
  unfolding names
  fits_before f = record {
    names_fit = omega (arith, longer same_bytes (names h) (named e));
    cores_fit =
        omega (
          arith,
          more_pass (λ n. is_kind (eqb core) (kind_of n h)) (λ n. is_kind (eqb core) (kind_of n (e ∷ h))) core_stays (names h),
          longer_pass same_bytes (λ n. is_kind (eqb core) (kind_of n (e ∷ h))) (names h) (named e),
        );
    entries_fit = f.entries_fit.1;
  }

-- ---- the entries

abbrev EntriesFit : List Event → Type 0
EntriesFit h = length (entries h) ≤ instance_limit

-- as the list stands
always_now : {A : Type 0} (P : List A → Type 0) (xs : List A) → Always P xs → P xs
always_now P [] a = a
always_now P (x ∷ xs) a = a.0

pub entries_now : (h : List Event) → Fits h → length (entries h) ≤ instance_limit
entries_now h f = always_now EntriesFit h f.entries_fit

module _ (h : List Event) (e : Event) where
  -- the three parts of 10
  pub room_parts : no_room (look h e) e ≡ false → (length (names (e ∷ h)) ≤ name_limit) × (length (cores (e ∷ h)) ≤ core_limit) × (leb instance_limit (length (entries h)) && needs_one (look h e) e ≡ false)
  unfolding no_room
  room_parts q =
      let n = neither (ltb name_limit (length (names (e ∷ h)))) _ q in
      let c = neither (ltb core_limit (length (cores (e ∷ h)))) _ n.1 in
      (ltb-false _ _ n.0, ltb-false _ _ c.0, c.1)

  room_kept : Never not_next h → no_room (look h e) e ≡ false → not_allowed (look h e) e ≡ false → not_next (look h e) e ≡ false → EntriesFit h → EntriesFit (e ∷ h)
  room_kept c r s n l = by_entry (has_entry h (instance_of e)) refl (has_entry (e ∷ h) (instance_of e)) refl
    where
      by_entry : (a : Bool) → has_entry h (instance_of e) ≡ a → (b : Bool) → has_entry (e ∷ h) (instance_of e) ≡ b → EntriesFit (e ∷ h)
      by_entry true p b q = omega (arith, entries_counted h e n, ap one_if p, at_most_one (has_entry (e ∷ h) (instance_of e)))
      by_entry false p false q = omega (arith, entries_counted h e n, ap one_if p, ap one_if q)
      by_entry false p true q =
          let m : leb instance_limit (length (entries h)) ≡ false = sym (and-true _) ∙ rw (gaining_needs h e c s n p q) at (room_parts r).2 in
          omega (arith, entries_counted h e n, ap one_if p, ap one_if q, leb-false instance_limit (length (entries h)) m)

  room_there : not_next (look h e) e ≡ false → EntriesFit (e ∷ h) → leb instance_limit (length (entries h)) && needs_one (look h e) e ≡ false
  room_there n l = is_false _ (λ q.
      let r = both (leb instance_limit (length (entries h))) _ q in
      let g = needing_gains h e r.1 in
      omega (arith, leb-true instance_limit (length (entries h)) r.0, entries_counted h e n, ap one_if g.0, ap one_if g.1))

-- ---- both ways

never_fits : (h : List Event) → Never no_room h → Never not_allowed h → Never not_next h → Fits h
unfolding names instances
never_fits [] r c n = record { names_fit = omega arith; cores_fit = omega arith; entries_fit = omega arith }
never_fits (e ∷ h) r c n =
    let f = never_fits h r.1 c.1 n.1 in
    let p = room_parts h e r.0 in
    record { names_fit = p.0; cores_fit = p.1; entries_fit = (room_kept h e n.1 r.0 c.0 n.0 (entries_now h f), f.entries_fit) }

fits_never : (h : List Event) → Never second_kind h → Never not_next h → Fits h → Never no_room h
unfolding no_room
fits_never [] k n f = tt
fits_never (e ∷ h) k n f = (
  rw (le-ltb name_limit (length (names (e ∷ h))) f.names_fit, le-ltb core_limit (length (cores (e ∷ h))) f.cores_fit, room_there h e n.0 f.entries_fit.0),
  fits_never h k.1 n.1 (fits_before h e k.0 f),
)

pub all_along : (h : List Event) → Never second_kind h → Never not_allowed h → Never not_next h → Never no_room h ↔ Fits h
all_along h k c n = (λ r. never_fits h r c n, fits_never h k n)

pub all_fit : (h : List Event) → Accepted h → Fits h
unfolding event_tests
all_fit h a = let f = (accepted_exactly h).0 a in never_fits h (f 10) (f 11) (f 12)
