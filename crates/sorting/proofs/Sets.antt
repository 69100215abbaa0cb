-- Names gathered in order: the order in which they come and how they are grouped don't matter, a name that is there already changes nothing,
-- and tests, sums and counts over the gathered names.
use mathlib.Core.Path.{◌≡◌, refl, sym, ap, ◌∙◌}
use mathlib.Core.Bool.{Bool, true, false, ◌||◌, or-false}
use mathlib.Core.List.{List, [], ◌∷◌, ◌++◌, append_assoc}
use Rattle.text.specs.Lists.{any}
use Rattle.std.specs.declared.cmp.Ordering.{Ordering}
use Rattle.std.specs.declared.cmp.Ordering.TheVariants.{Less, Equal, Greater}
use Rattle.std.specs.Ordering.{ordering_reverse}
use Rattle.sorting.specs.Order.{Name, order, is_same}
use Rattle.sorting.specs.Sets.{has, insert_by, gather_by, insert, gather, sorted}
use Rattle.sorting.proofs.Orders.{order_turned, order_self, order_same, order_less}

-- ---- one name

-- the three ways in which a name goes in
module _ (n m : Name) (ms : List Name) where
  pub at_less : order n m ≡ Less → insert n (m ∷ ms) ≡ n ∷ m ∷ ms
  unfolding insert_by
  at_less e = rw e

  pub at_same : order n m ≡ Equal → insert n (m ∷ ms) ≡ m ∷ ms
  unfolding insert_by
  at_same e = rw e

  pub at_more : order n m ≡ Greater → insert n (m ∷ ms) ≡ m ∷ insert n ms
  unfolding insert_by
  at_more e = rw e

module _ (x y : Name) where
  pub turn : (o : Ordering) → order x y ≡ o → order y x ≡ ordering_reverse o
  turn o e = order_turned x y ∙ ap ordering_reverse e

pub insert_again : (x : Name) (l : List Name) → insert x (insert x l) ≡ insert x l
insert_again x [] = unfold insert_by in at_same x x [] (order_self x)
insert_again x (m ∷ l) = go (order x m) refl (insert_again x l)
  where
    go : (o : Ordering) → order x m ≡ o → insert x (insert x l) ≡ insert x l → insert x (insert x (m ∷ l)) ≡ insert x (m ∷ l)
    go Less e ih = rw (at_less x m l e) (at_same x x (m ∷ l) (order_self x))
    go Equal e ih = rw (at_same x m l e) (at_same x m l e)
    go Greater e ih = rw (at_more x m l e, at_more x m (insert x l) e, ih)

-- the lesser of two and the greater, either way round
two_less : (x y : Name) (l : List Name) → order x y ≡ Less → insert x (insert y l) ≡ insert y (insert x l)
two_less x y [] e = unfold insert_by in (at_less x y [] e ∙ sym (at_more y x [] (turn x y Less e)))
two_less x y (m ∷ l) e = go (order y m) refl (order x m) refl (two_less x y l e)
  where
    go : (o : Ordering) → order y m ≡ o → (p : Ordering) → order x m ≡ p → insert x (insert y l) ≡ insert y (insert x l) → insert x (insert y (m ∷ l)) ≡ insert y (insert x (m ∷ l))
    go Less f p g ih =
        let h = order_less x y m e f in
        rw (at_less y m l f, at_less x m l h, at_less x y (m ∷ l) e, at_more y x (m ∷ l) (turn x y Less e), at_less y m l f)
    go Equal f p g ih =
        let h : order x m ≡ Less = rw (← order_same y m f) e in
        rw (at_same y m l f, at_less x m l h, at_more y x (m ∷ l) (turn x y Less e), at_same y m l f)
    go Greater f Less g ih = rw (at_more y m l f, at_less x m l g, at_less x m (insert y l) g, at_more y x (m ∷ l) (turn x y Less e), at_more y m l f)
    go Greater f Equal g ih = rw (at_more y m l f, at_same x m l g, at_same x m (insert y l) g, at_more y m l f)
    go Greater f Greater g ih = rw (at_more y m l f, at_more x m l g, at_more x m (insert y l) g, at_more y m (insert x l) f, ih)

pub insert_two : (x y : Name) (l : List Name) → insert x (insert y l) ≡ insert y (insert x l)
insert_two x y l = go (order x y) refl
  where
    go : (o : Ordering) → order x y ≡ o → insert x (insert y l) ≡ insert y (insert x l)
    go Less e = two_less x y l e
    go Equal e = rw (order_same x y e)
    go Greater e = sym (two_less y x l (turn x y Greater e))

-- ---- many names

pub gather_insert : (ns : List Name) (x : Name) (l : List Name) → gather ns (insert x l) ≡ insert x (gather ns l)
unfolding gather_by
gather_insert [] x l = refl
gather_insert (n ∷ ns) x l = rw (gather_insert ns x l) (insert_two n x (gather ns l))

pub gather_two : (ns ms l : List Name) → gather ns (gather ms l) ≡ gather ms (gather ns l)
unfolding gather_by
gather_two [] ms l = refl
gather_two (n ∷ ns) ms l = rw (gather_two ns ms l) (sym (gather_insert ms n (gather ns l)))

pub gather_append : (ns ms l : List Name) → gather (ns ++ ms) l ≡ gather ns (gather ms l)
unfolding gather_by
gather_append [] ms l = refl
gather_append (n ∷ ns) ms l = ap (insert n) (gather_append ns ms l)

insert_gather : (x : Name) (ns l : List Name) → gather (insert x ns) l ≡ insert x (gather ns l)
unfolding gather_by
insert_gather x [] l = unfold insert_by in refl
insert_gather x (m ∷ ns) l = go (order x m) refl (insert_gather x ns l)
  where
    go : (o : Ordering) → order x m ≡ o → gather (insert x ns) l ≡ insert x (gather ns l) → gather (insert x (m ∷ ns)) l ≡ insert x (gather (m ∷ ns) l)
    go Less e ih = rw (at_less x m ns e)
    go Equal e ih = rw (at_same x m ns e, order_same x m e) (sym (insert_again m (gather ns l)))
    go Greater e ih = rw (at_more x m ns e) (ap (insert m) ih ∙ insert_two m x (gather ns l))

pub gather_gather : (ns ms l : List Name) → gather (gather ns ms) l ≡ gather ns (gather ms l)
unfolding gather_by
gather_gather [] ms l = refl
gather_gather (n ∷ ns) ms l = insert_gather n (gather ns ms) l ∙ ap (insert n) (gather_gather ns ms l)

-- ---- the sorted names of two lists, and of three

pub sorted_two : (ns ms : List Name) → sorted (ns ++ ms) ≡ sorted (ms ++ ns)
sorted_two ns ms = gather_append ns ms [] ∙ gather_two ns ms [] ∙ sym (gather_append ms ns [])

pub sorted_again : (ns ms : List Name) → sorted (sorted ns ++ ms) ≡ sorted (ns ++ ms)
sorted_again ns ms = gather_append (sorted ns) ms [] ∙ gather_gather ns [] (sorted ms) ∙ unfold gather_by in sym (gather_append ns ms [])

pub sorted_three : (ns ms ls : List Name) → sorted (sorted (ns ++ ms) ++ ls) ≡ sorted (ns ++ sorted (ms ++ ls))
sorted_three ns ms ls =
    sorted_again (ns ++ ms) ls ∙ ap sorted (append_assoc ns ms ls) ∙ sorted_two ns (ms ++ ls) ∙ sym (sorted_again (ms ++ ls) ns) ∙ sorted_two (sorted (ms ++ ls)) ns

pub sorted_both : (ns ms : List Name) → sorted (sorted ns ++ sorted ms) ≡ sorted (ns ++ ms)
sorted_both ns ms = sorted_again ns (sorted ms) ∙ sorted_two ns (sorted ms) ∙ sorted_again ms ns ∙ sorted_two ms ns

-- ---- tests over the names

pub swap_or : (p q r : Bool) → p || (q || r) ≡ q || (p || r)
swap_or true true r = refl
swap_or true false r = refl
swap_or false true r = refl
swap_or false false r = refl

same_or : (p q : Bool) → p || q ≡ p || (p || q)
same_or true q = refl
same_or false q = refl

pub any_insert : (p : Name → Bool) (x : Name) (l : List Name) → any p (insert x l) ≡ p x || any p l
any_insert p x [] = unfold insert_by in refl
any_insert p x (m ∷ l) = go (order x m) refl (any_insert p x l)
  where
    go : (o : Ordering) → order x m ≡ o → any p (insert x l) ≡ p x || any p l → any p (insert x (m ∷ l)) ≡ p x || (p m || any p l)
    go Less e ih = rw (at_less x m l e)
    go Equal e ih = rw (at_same x m l e, order_same x m e) (same_or (p m) (any p l))
    go Greater e ih = rw (at_more x m l e, ih) (swap_or (p m) (p x) (any p l))

or_assoc : (p q r : Bool) → p || (q || r) ≡ (p || q) || r
or_assoc true q r = refl
or_assoc false q r = refl

pub any_gather : (p : Name → Bool) (ns l : List Name) → any p (gather ns l) ≡ any p ns || any p l
unfolding gather_by
any_gather p [] l = refl
any_gather p (n ∷ ns) l = any_insert p n (gather ns l) ∙ ap (λ b. p n || b) (any_gather p ns l) ∙ or_assoc (p n) (any p ns) (any p l)

pub any_alone : (p : Name → Bool) (ns : List Name) → any p (sorted ns) ≡ any p ns
any_alone p ns = any_gather p ns [] ∙ or-false (any p ns)

pub any_sorted : (p : Name → Bool) (ns ms : List Name) → any p (sorted (ns ++ ms)) ≡ any p ns || any p ms
any_sorted p ns ms = rw gather_append (any_gather p ns (sorted ms) ∙ ap (λ b. any p ns || b) (any_alone p ms))

-- a name that is there changes nothing
pub has_insert : (x : Name) (ns l : List Name) → has x ns ≡ true → insert x (gather ns l) ≡ gather ns l
unfolding gather_by
has_insert x [] l h = cc
has_insert x (n ∷ ns) l h = go (order x n) refl (has_insert x ns l) h
  where
    go : (o : Ordering) → order x n ≡ o → (has x ns ≡ true → insert x (gather ns l) ≡ gather ns l) → is_same o || has x ns ≡ true → insert x (gather (n ∷ ns) l) ≡ gather (n ∷ ns) l
    go Less e ih h = insert_two x n (gather ns l) ∙ ap (insert n) (ih h)
    go Equal e ih h = rw (order_same x n e) (insert_again n (gather ns l))
    go Greater e ih h = insert_two x n (gather ns l) ∙ ap (insert n) (ih h)
