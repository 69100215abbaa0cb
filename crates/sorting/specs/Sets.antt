-- Lists of names, and things sorted by their names, each name once.
use Rattle.std.specs.Prelude.{Bool, true, false, ◌&&◌, ◌||◌, List, [], ◌∷◌}
use Rattle.text.specs.Lists.{any}
use Rattle.std.specs.declared.cmp.Ordering.{Ordering}
use Rattle.std.specs.declared.cmp.Ordering.TheVariants.{Less, Equal, Greater}
use Rattle.sorting.specs.Order.{Name, order, is_same, is_less}

abbrev pub has : Name → List Name → Bool
has n = any (λ m. is_same (order n m))

-- some name stands in both; some name stands twice
abbrev pub meets : List Name → List Name → Bool
meets ns ms = any (λ n. has n ms) ns

abbrev pub twice : List Name → Bool
twice [] = false
twice (n ∷ ns) = has n ns || twice ns

-- ---- in order, each name once: for any things that have a name

-- x beside y, the first of things in order: before it, not at all, or among those after it
abbrev pub place : {A : Type 0} → Ordering → A → A → List A → List A → List A
place Less x y ys further = x ∷ y ∷ ys
place Equal x y ys further = y ∷ ys
place Greater x y ys further = y ∷ further

unfoldable pub insert_by : {A : Type 0} → (A → Name) → A → List A → List A
insert_by key x [] = x ∷ []
insert_by key x (y ∷ ys) = place (order (key x) (key y)) x y ys (insert_by key x ys)

unfoldable pub gather_by : {A : Type 0} → (A → Name) → List A → List A → List A
gather_by key [] ys = ys
gather_by key (x ∷ xs) ys = insert_by key x (gather_by key xs ys)

abbrev pub sorted_by : {A : Type 0} → (A → Name) → List A → List A
sorted_by key xs = gather_by key xs []

-- names themselves
abbrev pub itself : Name → Name
itself n = n

abbrev pub insert : Name → List Name → List Name
insert = insert_by itself

abbrev pub gather : List Name → List Name → List Name
gather = gather_by itself

abbrev pub sorted : List Name → List Name
sorted = sorted_by itself

-- each name is less than the next
abbrev pub under : Name → List Name → Bool
under n [] = true
under n (m ∷ ms) = is_less (order n m)

unfoldable pub rising : List Name → Bool
rising [] = true
rising (n ∷ ns) = under n ns && rising ns
