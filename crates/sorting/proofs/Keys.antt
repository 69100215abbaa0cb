-- Things in the order of their names: renamed they are in the same order, so their names are sorted and rise; none is lost whose name stands once, and what holds of
-- all of them before holds after.
use mathlib.Core.Path.{◌≡◌, refl, sym, ap, ◌∙◌}
use mathlib.Core.Bool.{Bool, true, false}
use mathlib.Core.List.{List, [], ◌∷◌, map}
use native.Mathlib.Omega.{arith}
use lib.ListN.{length, length-map}
use Rattle.text.specs.Lists.{all, sum_over}
use Rattle.text.proofs.Bools.{and_l, and_r}
use Rattle.std.specs.declared.cmp.Ordering.{Ordering}
use Rattle.std.specs.declared.cmp.Ordering.TheVariants.{Less, Equal, Greater}
use Rattle.sorting.specs.Order.{Name, order, is_same}
use Rattle.sorting.specs.Sets.{has, twice, place, insert_by, gather_by, sorted_by, itself, insert, sorted, rising}
use Rattle.sorting.proofs.Sets.{any_alone}
use Rattle.sorting.proofs.Rising.{sum_sorted, rising_sorted}

-- ---- other things with the same names

module _ {A B : Type 0} (f : A → B) where
  map_place : (o : Ordering) (x y : A) (ys ins : List A) → map f (place o x y ys ins) ≡ place o (f x) (f y) (map f ys) (map f ins)
  map_place Less x y ys ins = refl
  map_place Equal x y ys ins = refl
  map_place Greater x y ys ins = refl

  module _ (key : B → Name) where
    rename_insert : (x : A) (l : List A) → map f (insert_by (λ a. key (f a)) x l) ≡ insert_by key (f x) (map f l)
    unfolding insert_by
    rename_insert x [] = refl
    rename_insert x (y ∷ l) =
        map_place (order (key (f x)) (key (f y))) x y l (insert_by (λ a. key (f a)) x l)
        ∙ ap (place (order (key (f x)) (key (f y))) (f x) (f y) (map f l)) (rename_insert x l)

    pub rename_sorted : (xs : List A) → map f (sorted_by (λ a. key (f a)) xs) ≡ sorted_by key (map f xs)
    unfolding gather_by
    rename_sorted [] = refl
    rename_sorted (x ∷ xs) = rename_insert x (sorted_by (λ a. key (f a)) xs) ∙ ap (insert_by key (f x)) (rename_sorted xs)

module _ {A : Type 0} (key : A → Name) where
  -- ---- their names

  pub map_insert : (x : A) (l : List A) → map key (insert_by key x l) ≡ insert (key x) (map key l)
  map_insert = rename_insert key itself

  pub map_sorted : (xs : List A) → map key (sorted_by key xs) ≡ sorted (map key xs)
  map_sorted = rename_sorted key itself

  pub rising_keys : (xs : List A) → rising (map key (sorted_by key xs)) ≡ true
  rising_keys xs = rw (map_sorted xs) (rising_sorted (map key xs))

  pub has_sorted : (n : Name) (xs : List A) → has n (map key (sorted_by key xs)) ≡ has n (map key xs)
  has_sorted n xs = rw (map_sorted xs) (any_alone (λ m. is_same (order n m)) (map key xs))

  -- ---- none is lost

  pub length_sorted : (xs : List A) → twice (map key xs) ≡ false → length (sorted_by key xs) ≡ length xs
  length_sorted xs z =
      sym (length-map (sorted_by key xs) key) ∙ ap length (map_sorted xs) ∙ sym (counted (sorted (map key xs))) ∙ sum_sorted (λ n. 1) (map key xs) z ∙ counted (map key xs)
      ∙ length-map xs key
    where
      counted : (ns : List Name) → sum_over (λ n. 1) ns ≡ length ns
      counted [] = refl
      counted (n ∷ ns) = let h = counted ns in omega arith

  -- ---- what holds of all of them

  module _ {B : Type 0} (p : B → Bool) (f : A → B) where
    all_insert : (x : A) (l : List A) → p (f x) ≡ true → all p (map f l) ≡ true → all p (map f (insert_by key x l)) ≡ true
    unfolding insert_by
    all_insert x [] h hs = rw h
    all_insert x (y ∷ l) h hs = go (order (key x) (key y)) (all_insert x l h (and_r (p (f y)) (all p (map f l)) hs))
      where
        go : (o : Ordering) → all p (map f (insert_by key x l)) ≡ true → all p (map f (place o x y l (insert_by key x l))) ≡ true
        go Less ih = rw (h, hs)
        go Equal ih = hs
        go Greater ih = rw (and_l (p (f y)) (all p (map f l)) hs, ih)

    pub all_sorted : (xs : List A) → all p (map f xs) ≡ true → all p (map f (sorted_by key xs)) ≡ true
    unfolding gather_by
    all_sorted [] h = refl
    all_sorted (x ∷ xs) h =
        all_insert x (sorted_by key xs) (and_l (p (f x)) (all p (map f xs)) h) (all_sorted xs (and_r (p (f x)) (all p (map f xs)) h))
