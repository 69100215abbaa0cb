-- The index of lent tables: on which entries it hangs, and a row put into it.
use Rattle.std.proofs.Common.{◌≡◌, ℕ, zero, suc, ◌+◌, ◌-◌, ◌<◌, ◌≤◌, List, length, get_or, drop, set, sym, refl, ap, ◌∙◌, subst, arith, length-drop, length-take, get_or-drop, get_or-take, ext_get_or}
use lib.Seq.{take_all, take-set-lt, drop-set-add}
use Rattle.tables.specs.Entry.{name_rows, place_rows, place_column, nums_size, store_at, name_count, name_at, places}
use Rattle.index.specs.Hash.{home_of}
use Rattle.index.specs.Index.{index_of, home_at, index_from}
use Rattle.index.proofs.Folds.{home_at_lt}
use Rattle.index.proofs.Right.{Right, right_index}

pub places_size : (nums : List ℕ) → length nums ≡ nums_size → length (places nums) ≡ place_rows
places_size nums z = simp (length-take, length-drop) (omega arith)

-- the places are the last entries
pub last_places : (nums l : List ℕ) → length nums ≡ nums_size → l ≡ drop (length nums - place_rows) nums → l ≡ places nums
last_places nums l z e =
    let n : length nums - place_rows ≡ place_column.base = omega arith in
    rw (e, n, take_all place_rows (drop place_column.base nums) (omega (arith, length-drop place_column.base nums)))

pub place_entry : (nums : List ℕ) (p : ℕ) → p < place_rows → get_or (places nums) p 0 ≡ get_or nums (place_column.base + p) 0
place_entry nums p h = get_or-take place_rows (drop place_column.base nums) p 0 h ∙ get_or-drop place_column.base nums p 0

-- tables that agree on the places have the same
pub same_places : (nums nums' : List ℕ) → length nums ≡ nums_size → length nums' ≡ nums_size → ((j : ℕ) → place_column.base ≤ j → get_or nums' j 0 ≡ get_or nums j 0)
    → places nums' ≡ places nums
same_places nums nums' z z' g =
    ext_get_or 0 (places nums') (places nums) (places_size nums' z' ∙ sym (places_size nums z))
    (λ p h. let l : p < place_rows = omega (arith, places_size nums' z') in place_entry nums' p l ∙ g (place_column.base + p) (omega arith) ∙ sym (place_entry nums p l))

-- the index hangs on the homes of its rows only
index_homes : (home home' : ℕ → ℕ) (n : ℕ) → ((k : ℕ) → k < n → home k ≡ home' k) → index_of home n ≡ index_of home' n
unfolding index_of
index_homes home home' zero h = refl
index_homes home home' (suc n) h = rw (index_homes home home' n (λ k l. h k (omega arith)), h n (omega arith))

-- and so on their names only
pub index_names : (names nums names' nums' : List ℕ) → ((r : ℕ) → r < name_count nums → name_at names' nums' r ≡ name_at names nums r)
    → index_of (home_at names' nums') (name_count nums) ≡ index_from names nums
unfolding index_from home_at
index_names names nums names' nums' h = index_homes (home_at names' nums') (home_at names nums) (name_count nums) (λ r l. ap home_of (h r l))

-- where the index is the one that the names give in order, it is right
pub from_right : (names nums : List ℕ) → name_count nums ≤ name_rows → places nums ≡ index_from names nums → Right (home_at names nums) (name_count nums) (places nums)
unfolding index_from
from_right names nums h e =
    subst (Right (home_at names nums) (name_count nums)) (sym e) (right_index (home_at names nums) (name_count nums) (omega arith) (λ r l. home_at_lt names nums r))

-- a store to a place
pub place_stored : (nums : List ℕ) (p v : ℕ) → p < place_rows → places (store_at place_column nums p v) ≡ set (places nums) p v
place_stored nums p v h = rw (drop-set-add place_column.base nums p v, take-set-lt place_rows (drop place_column.base nums) p v h)
