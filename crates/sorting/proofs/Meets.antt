-- Names that stand in both of two lists: either way round, of lists one behind the other, sorted or not; and of two rising lists, whose first name may be left out.
use mathlib.Core.Path.{◌≡◌, refl, sym, ap, ap₂, ◌∙◌}
use mathlib.Core.Bool.{Bool, true, false, ◌||◌}
use mathlib.Core.List.{List, [], ◌∷◌, ◌++◌}
use Prim.Native.Nat.{ℕ, zero, suc}
use lib.ListN.{drop}
use Rattle.text.proofs.Bools.{and_r, or_l}
use Rattle.text.proofs.Lists.{any_append}
use Rattle.std.specs.declared.cmp.Ordering.{Ordering}
use Rattle.std.specs.declared.cmp.Ordering.TheVariants.{Less, Equal, Greater}
use Rattle.std.specs.Ordering.{ordering_reverse}
use Rattle.sorting.specs.Order.{Name, order, is_same}
use Rattle.sorting.specs.Sets.{has, meets, twice, sorted, under, rising}
use Rattle.sorting.proofs.Orders.{order_turned}
use Rattle.sorting.proofs.Sets.{swap_or, any_alone}
use Rattle.sorting.proofs.Rising.{twice_sorted, sorted_rising}

-- ---- either way round

pub meets_none : (ns : List Name) → meets ns [] ≡ false
meets_none [] = refl
meets_none (n ∷ ns) = meets_none ns

-- one name more in the second list
meets_more : (ns : List Name) (m : Name) (ms : List Name) → meets ns (m ∷ ms) ≡ has m ns || meets ns ms
meets_more [] m ms = refl
meets_more (n ∷ ns) m ms = rw (meets_more ns m ms, order_turned m n, same_turned (order m n)) (regroup (is_same (order m n)) (has n ms) (has m ns) (meets ns ms))
  where
    same_turned : (o : Ordering) → is_same (ordering_reverse o) ≡ is_same o
    same_turned Less = refl
    same_turned Equal = refl
    same_turned Greater = refl

    regroup : (p q r s : Bool) → (p || q) || (r || s) ≡ (p || r) || (q || s)
    regroup true q r s = refl
    regroup false q r s = swap_or q r s

pub meets_turned : (ns ms : List Name) → meets ns ms ≡ meets ms ns
meets_turned [] ms = sym (meets_none ms)
meets_turned (n ∷ ns) ms = rw (meets_turned ns ms) (sym (meets_more ms n ns))

-- ---- one list behind the other

meets_second : (ls ns ms : List Name) → meets ls (ns ++ ms) ≡ meets ls ns || meets ls ms
meets_second ls ns ms = meets_turned ls (ns ++ ms) ∙ any_append (λ n. has n ls) ns ms ∙ ap₂ ◌||◌ (meets_turned ns ls) (meets_turned ms ls)

pub meets_append : (ns ms ls ks : List Name) → meets (ns ++ ms) (ls ++ ks) ≡ (meets ns ls || meets ns ks) || (meets ms ls || meets ms ks)
meets_append ns ms ls ks = any_append (λ n. has n (ls ++ ks)) ns ms ∙ ap₂ ◌||◌ (meets_second ns ls ks) (meets_second ms ls ks)

-- ---- sorted

pub meets_sorted : (ns ms : List Name) → meets (sorted ns) (sorted ms) ≡ meets ns ms
meets_sorted ns ms =
    any_alone (λ n. has n (sorted ms)) ns ∙ meets_turned ns (sorted ms) ∙ any_alone (λ m. has m ns) ms ∙ meets_turned ms ns

-- ---- rising

pub rising_drop : (i : ℕ) (ns : List Name) → rising ns ≡ true → rising (drop i ns) ≡ true
unfolding rising
rising_drop zero ns r = r
rising_drop (suc i) [] r = r
rising_drop (suc i) (n ∷ ns) r = rising_drop i ns (and_r (under n ns) (rising ns) r)

-- a name that is less than all of the second list is none of them
pub meets_less : (n m : Name) (ns ms : List Name) → order n m ≡ Less → rising (m ∷ ms) ≡ true → meets (n ∷ ns) (m ∷ ms) ≡ meets ns (m ∷ ms)
unfolding rising
meets_less n m ns ms e r = ap (λ b. b || meets ns (m ∷ ms)) (or_l (has n (m ∷ ms)) (twice (m ∷ ms)) once)
  where
    risen : rising (n ∷ m ∷ ms) ≡ true
    risen = rw (e, r)

    once : twice (n ∷ m ∷ ms) ≡ false
    once = rw (sorted_rising (n ∷ m ∷ ms) risen) at (twice_sorted (n ∷ m ∷ ms))
