-- A search by the index, step by step as code takes it.
use Rattle.std.proofs.Common.{None, Some, Option}
use mathlib.Core.Path.{◌≡◌, refl, ap, ◌∙◌}
use mathlib.Core.Bool.{true, false}
use mathlib.Core.List.{List}
use Prim.Native.Nat.{ℕ, ◌+◌, ◌-◌, ◌≤◌, ◌<◌}
use borrow.Author.Tests.{eq-eqb, ne_eqb}
use Rattle.marks.specs.First.{first_of}
use Rattle.marks.proofs.Firsts.{first_hit, first_miss, first_end}
use Rattle.tables.specs.Entry.{place_rows}
use Rattle.index.specs.Index.{entry, sought}
use Rattle.lookup.specs.Find.{row_is, ends_at, row_met}

-- what is found at the distance d from home or further
unfoldable pub met_from : List ℕ → List ℕ → List ℕ → List ℕ → ℕ → ℕ → Option ℕ
met_from names nums name l home d = row_met l home (first_of (λ d. ends_at names nums name (entry l home d)) d (place_rows - d))

module _ (names nums name l : List ℕ) (home : ℕ) where
  abbrev met : ℕ → Option ℕ
  met = met_from names nums name l home

  pub seek_begin : row_met l home (sought l home (ends_at names nums name)) ≡ met 0
  unfolding met_from
  seek_begin = refl

  pub seek_free : (d : ℕ) → d < place_rows → entry l home d ≡ 0 → met d ≡ None
  unfolding met_from ends_at
  seek_free d h e =
      let z = eq-eqb (entry l home d) 0 e in
      ap (row_met l home) (first_hit _ d place_rows h (rw z)) ∙ rw z

  pub seek_hit : (d : ℕ) → d < place_rows → (entry l home d ≡ 0 → ⊥) → row_is names nums name (entry l home d - 1) ≡ true → met d ≡ Some (entry l home d - 1)
  unfolding met_from ends_at
  seek_hit d h o e =
      let z = ne_eqb (entry l home d) 0 o in
      ap (row_met l home) (first_hit _ d place_rows h (rw (z, e))) ∙ rw z

  pub seek_miss : (d : ℕ) → d < place_rows → (entry l home d ≡ 0 → ⊥) → row_is names nums name (entry l home d - 1) ≡ false → met d ≡ met (d + 1)
  unfolding met_from ends_at
  seek_miss d h o e = ap (row_met l home) (first_miss _ d place_rows h (rw (ne_eqb (entry l home d) 0 o, e)))

  pub seek_end : (d : ℕ) → place_rows ≤ d → met d ≡ None
  unfolding met_from
  seek_end d h = ap (row_met l home) (first_end _ d place_rows h)
