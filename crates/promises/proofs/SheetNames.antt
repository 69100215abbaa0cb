-- The names in the sheet of a history: a name is listed as a core or as a process exactly if it is of that kind; once; and none as both.
use Rattle.std.proofs.Common.{Option, None, Some}
use mathlib.Core.Path.{◌≡◌, refl, sym, ap, fun_ext, ◌∙◌}
use mathlib.Core.Bool.{Bool, true, false, ◌&&◌}
use mathlib.Core.List.{List, [], ◌∷◌}
use Prim.Native.Nat.{ℕ, ◌+◌, ◌≤◌}
use native.Mathlib.Omega.{arith}
use lib.Dec.{eqb}
use lib.ListN.{length}
use borrow.Author.Tests.{eqb-true}
use Rattle.text.specs.Bytes.{same_bytes}
use Rattle.text.specs.Lists.{any}
use Rattle.text.proofs.Bools.{and_l, is_false}
use Rattle.text.proofs.Words.{same_eq, same_refl, eq_same}
use Rattle.std.specs.declared.cmp.Ordering.{Ordering}
use Rattle.std.specs.declared.cmp.Ordering.TheVariants.{Less, Equal, Greater}
use Rattle.sorting.specs.Order.{Name, order, is_same}
use Rattle.sorting.specs.Sets.{has, meets, twice}
use Rattle.sorting.proofs.Orders.{order_self, order_same}
use Rattle.rules.specs.Lists.{only, keep}
use Rattle.rules.specs.Words.{core}
use Rattle.rules.specs.Charts.{is_process}
use Rattle.rules.specs.Event.{Event}
use Rattle.rules.specs.History.{names, kind_of, is_kind, cores, processes}
use Rattle.rules.proofs.Tests.{clash}
use Rattle.rules.proofs.Sums.{any_only}
use Rattle.rules.proofs.Tracked.{kind_named}
use Rattle.promises.proofs.Choices.{implied_first}
use Rattle.promises.proofs.Places.{Distinct}
use Rattle.promises.proofs.Listed.{names_distinct}

-- ---- a name among names: by their order, and by their bytes

same_order : (n m : Name) → is_same (order n m) ≡ same_bytes n m
same_order n m = by_order (order n m) refl
  where
    other : (o : Ordering) → order n m ≡ o → is_same o ≡ false → same_bytes n m ≡ false
    other o e d = is_false (same_bytes n m) (λ s. clash (is_same o) (rw (← e, same_eq n m s, order_self m)) d)

    by_order : (o : Ordering) → order n m ≡ o → is_same o ≡ same_bytes n m
    by_order Less e = sym (other Less e refl)
    by_order Equal e = sym (eq_same n m (order_same n m e))
    by_order Greater e = sym (other Greater e refl)

has_any : (n : Name) (ns : List Name) → has n ns ≡ any (same_bytes n) ns
has_any n [] = refl
has_any n (m ∷ ns) = rw (same_order n m, has_any n ns)

-- ---- those that pass a test

has_only : (p : Name → Bool) (n : Name) (ns : List Name) → has n (only p ns) ≡ any (same_bytes n) ns && p n
has_only p n ns = has_any n (only p ns) ∙ any_only same_bytes same_eq same_refl p ns n

only_once : (p : Name → Bool) (ns : List Name) → Distinct same_bytes same_eq same_refl ns → twice (only p ns) ≡ false
only_once p [] d = refl
only_once p (n ∷ ns) d = by_test (p n) (only_once p ns d.1)
  where
    by_test : (b : Bool) → twice (only p ns) ≡ false → twice (keep b n (only p ns)) ≡ false
    by_test true i = rw (has_only p n ns, d.0, i)
    by_test false i = i

-- two tests that no name passes both of
module _ (p q : Name → Bool) (apart : (n : Name) → p n ≡ true → q n ≡ false) where
  none_both : (ns : List Name) → any q (only p ns) ≡ false
  none_both [] = refl
  none_both (n ∷ ns) = by_test (p n) refl (none_both ns)
    where
      by_test : (b : Bool) → p n ≡ b → any q (only p ns) ≡ false → any q (keep b n (only p ns)) ≡ false
      by_test true e i = rw (apart n e, i)
      by_test false e i = i

  at_most_all : (ns : List Name) → length (only p ns) + length (only q ns) ≤ length ns
  at_most_all [] = omega arith
  at_most_all (n ∷ ns) = by_tests (p n) refl (q n) refl (at_most_all ns)
    where
      by_tests : (b : Bool) → p n ≡ b → (c : Bool) → q n ≡ c → length (only p ns) + length (only q ns) ≤ length ns →
          length (keep b n (only p ns)) + length (keep c n (only q ns)) ≤ length (n ∷ ns)
      by_tests true e true f i = absurd (clash (q n) f (apart n e))
      by_tests true e false f i = omega arith
      by_tests false e true f i = omega arith
      by_tests false e false f i = omega arith

-- ---- the names of a kind, in a history: `cores` and `processes` are such lists

abbrev pub of_kind : (ℕ → Bool) → List Event → List Name
of_kind k h = only (λ n. is_kind k (kind_of n h)) (names h)

kinds_apart : (o : Option ℕ) → is_kind (eqb core) o ≡ true → is_kind is_process o ≡ false
unfolding is_process
kinds_apart None e = refl
kinds_apart (Some k) e = rw (← eqb-true core k e)

module _ (h : List Event) where
  pub listed : (k : ℕ → Bool) (n : Name) → has n (of_kind k h) ≡ is_kind k (kind_of n h)
  listed k n =
      has_only (λ m. is_kind k (kind_of m h)) n (names h)
      ∙ implied_first (any (same_bytes n) (names h)) (is_kind k (kind_of n h)) (by_test (any (same_bytes n) (names h)) refl)
    where
      by_test : (b : Bool) → any (same_bytes n) (names h) ≡ b → is_kind k (kind_of n h) ≡ true → b ≡ true
      by_test true q e = refl
      by_test false q e = sym (ap (is_kind k) (kind_named h n q)) ∙ e

  pub listed_once : (k : ℕ → Bool) → twice (of_kind k h) ≡ false
  listed_once k = only_once (λ m. is_kind k (kind_of m h)) (names h) (names_distinct h)

  pub listed_apart : meets (cores h) (processes h) ≡ false
  listed_apart =
      ap (λ (p : Name → Bool). any p (cores h)) (fun_ext (listed is_process))
      ∙ none_both (λ n. is_kind (eqb core) (kind_of n h)) (λ n. is_kind is_process (kind_of n h)) (λ n. kinds_apart (kind_of n h)) (names h)

  pub listed_most : length (cores h) + length (processes h) ≤ length (names h)
  listed_most =
      at_most_all (λ n. is_kind (eqb core) (kind_of n h)) (λ n. is_kind is_process (kind_of n h)) (λ n. kinds_apart (kind_of n h)) (names h)

  -- and each is a tracked name
  pub listed_named : (k : ℕ → Bool) (n : Name) → has n (of_kind k h) ≡ true → any (same_bytes n) (names h) ≡ true
  listed_named k n e = and_l (any (same_bytes n) (names h)) (is_kind k (kind_of n h)) (sym (has_only (λ m. is_kind k (kind_of m h)) n (names h)) ∙ e)
