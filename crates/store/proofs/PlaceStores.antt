-- The place of a new name: the search for a free one, step by step as code takes it, and the store to it.
use Rattle.std.proofs.Common.{◌≡◌, ℕ, ◌+◌, ◌-◌, ◌<◌, ◌≤◌, eqb, List, sym, refl, ap, lt-ltb, eq-eqb, ne_eqb}
use Rattle.marks.specs.First.{first_of}
use Rattle.marks.proofs.Firsts.{first_hit, first_miss, first_end}
use Rattle.tables.specs.Entry.{name_rows, place_rows, place_column, store_at, places}
use Rattle.index.specs.Index.{place, entry, place_found, free}
use Rattle.store.specs.Store.{store_place}

-- the first free place of those at the distance d from home or further
unfoldable pub free_from : List ℕ → ℕ → ℕ → ℕ
free_from l home d = place_found home (first_of (λ d. eqb (entry l home d) 0) d (place_rows - d))

module _ (l : List ℕ) (home : ℕ) where
  pub free_begin : free l home ≡ free_from l home 0
  unfolding free free_from
  free_begin = refl

  pub free_here : (d : ℕ) → d < place_rows → entry l home d ≡ 0 → free_from l home d ≡ place home d
  unfolding free_from
  free_here d h e = ap (place_found home) (first_hit _ d place_rows h (eq-eqb (entry l home d) 0 e))

  pub free_on : (d : ℕ) → d < place_rows → (entry l home d ≡ 0 → ⊥) → free_from l home d ≡ free_from l home (d + 1)
  unfolding free_from
  free_on d h e = ap (place_found home) (first_miss _ d place_rows h (ne_eqb (entry l home d) 0 e))

  pub free_none : (d : ℕ) → place_rows ≤ d → free_from l home d ≡ place_rows
  unfolding free_from
  free_none d h = ap (place_found home) (first_end _ d place_rows h)

-- ---- the row i goes into the place found, where there is one

module _ (nums : List ℕ) (i home : ℕ) (row : i < name_rows) where
  pub placed : {p : ℕ} → p ≡ free (places nums) home → p < place_rows → store_at place_column nums p (i + 1) ≡ store_place nums i home
  unfolding store_place
  placed {p} found h = rw (lt-ltb i name_rows row, sym found, lt-ltb p place_rows h)

  pub unplaced : free (places nums) home ≡ place_rows → nums ≡ store_place nums i home
  unfolding store_place
  unplaced none = rw (lt-ltb i name_rows row, none)
