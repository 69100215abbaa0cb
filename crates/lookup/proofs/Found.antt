-- What the look-ups find: the last number that passes a test, for any test; each look-up in tables of their sizes; and what the tests of a row mean.
use Rattle.std.proofs.Common.{None, Some, Option}
use mathlib.Core.Path.{◌≡◌, refl, sym, ap, subst, ◌∙◌}
use mathlib.Core.Bool.{Bool, true, false, cond}
use mathlib.Core.List.{List}
use mathlib.Core.Logic.{⊎_elim}
use Prim.Native.Nat.{ℕ, zero, suc, ◌+◌, ◌-◌, ◌*◌, ◌≤◌, ◌<◌}
use native.Mathlib.Nat.{not-suc-le-zero, le_of_suc-le-suc, eq-or-lt_of_le}
use native.Mathlib.Decide.{le_ind}
use native.Mathlib.Omega.{arith}
use lib.ListN.{length, take, drop}
use borrow.Author.Tests.{le-leb, lt-ltb, eq-eqb}
use Rattle.text.specs.Bytes.{same_bytes}
use Rattle.text.proofs.Bools.{is_false}
use Rattle.text.proofs.Words.{same_eq, eq_same}
use Rattle.tables.specs.Entry.{name_rows, instance_rows, name_room, names_size, nums_size, length_at, name_at, instance_count, owner_at, instance_at, places}
use Rattle.tables.proofs.Means.{Means, means_le, means_lt, means_eq, means_and}
use Rattle.tables.proofs.NameBytes.{lent_name, name_size}
use Rattle.index.specs.Hash.{home_of}
use Rattle.index.specs.Index.{sought}
use Rattle.lookup.specs.Find.{last_below, row_is, ends_at, row_met, find_name, instance_is, find_instance, reaches_in, find_from}

-- the number found is the last that passes below n, or none does
abbrev Last : (ℕ → Bool) → ℕ → Option ℕ → Type 0
Last f n (Some k) = (k < n) × (f k ≡ true) × ((m : ℕ) → k < m → m < n → f m ≡ false)
Last f n None = (m : ℕ) → m < n → f m ≡ false

module _ (f : ℕ → Bool) where
  -- ---- the steps of a search, as code takes them

  back : (n : ℕ) → 0 < n → n ≡ suc (n - 1)
  back n h = omega arith

  pub last_hit : (n : ℕ) → 0 < n → f (n - 1) ≡ true → last_below f n ≡ Some (n - 1)
  unfolding last_below
  last_hit n h e = ap (last_below f) (back n h) ∙ rw (last_below, e)

  pub last_miss : (n : ℕ) → 0 < n → f (n - 1) ≡ false → last_below f n ≡ last_below f (n - 1)
  unfolding last_below
  last_miss n h e = ap (last_below f) (back n h) ∙ rw (last_below, e)

  pub last_end : (n : ℕ) → n ≤ 0 → last_below f n ≡ None
  unfolding last_below
  last_end n h = let e : n ≡ 0 = omega arith in rw (e, last_below)

  -- rows that don't pass are passed over
  pub last_over : (from to : ℕ) → from ≤ to → ((k : ℕ) → from ≤ k → k < to → f k ≡ false) → last_below f to ≡ last_below f from
  unfolding last_below
  last_over from to =
      le_ind (λ (n : ℕ). ((k : ℕ) → from ≤ k → k < n → f k ≡ false) → last_below f n ≡ last_below f from)
      (λ none. refl)
      (λ n h so none. rw (none n h (omega arith)) (so (λ k lo hi. none k lo (omega arith))))
      to

  -- ---- what was found

  last_step : (b : Bool) (n : ℕ) (r : Option ℕ) → f n ≡ b → Last f n r → Last f (suc n) (cond b (Some n) r)
  last_step true n r e h = (omega arith, e, λ m lo hi. absurd (omega arith))
  last_step false n (Some k) e h = (omega arith, h.1, λ m lo hi. ⊎_elim (λ q. rw q e) (λ l. h.2 m lo l) (eq-or-lt_of_le (le_of_suc-le-suc hi)))
  last_step false n None e h = λ m hi. ⊎_elim (λ q. rw q e) (λ l. h m l) (eq-or-lt_of_le (le_of_suc-le-suc hi))

  last : (n : ℕ) → Last f n (last_below f n)
  unfolding last_below
  last zero = λ m hi. absurd (not-suc-le-zero hi)
  last (suc n) = last_step (f n) n (last_below f n) refl (last n)

  pub last_at : (n i : ℕ) → last_below f n ≡ Some i → (i < n) × (f i ≡ true) × ((k : ℕ) → i < k → k < n → f k ≡ false)
  last_at n i e = subst (Last f n) e (last n)

  pub last_none : (n : ℕ) → last_below f n ≡ None → (k : ℕ) → k < n → f k ≡ false
  last_none n e = subst (Last f n) e (last n)

-- ---- the look-ups, in tables of their sizes

pub name_found : (names nums name : List ℕ) → length names ≡ names_size → length nums ≡ nums_size
    → find_name names nums name ≡ row_met (places nums) (home_of name) (sought (places nums) (home_of name) (ends_at names nums name))
unfolding find_name
name_found names nums name h k = rw (eq-eqb (length names) names_size h, eq-eqb (length nums) nums_size k)

pub instance_found : (nums : List ℕ) (owner number : ℕ) → length nums ≡ nums_size → find_instance nums owner number ≡ last_below (instance_is nums owner number) (instance_count nums)
unfolding find_instance
instance_found nums owner number h = rw (eq-eqb (length nums) nums_size h)

pub from_found : (nums : List ℕ) (owner number : ℕ) → length nums ≡ nums_size → find_from nums owner number ≡ last_below (reaches_in nums owner number) (instance_count nums)
unfolding find_from
from_found nums owner number h = rw (eq-eqb (length nums) nums_size h)

-- ---- what the tests of a row mean

means_same : (s t : List ℕ) → Means (same_bytes s t) (s ≡ t)
means_same s t = record { holds = same_eq s t; shows = eq_same s t }

-- the bytes of row i are the name: a row that there is, as long as the name, and no longer than it has room for
abbrev Holds : List ℕ → List ℕ → List ℕ → ℕ → Type 0
Holds names nums name i = (i < name_rows) × ((length_at nums i ≡ length name) × ((length_at nums i ≤ name_room) × (name_at names nums i ≡ name)))

pub row_means : (names nums name : List ℕ) (i : ℕ) → Means (row_is names nums name i) (Holds names nums name i)
unfolding row_is
row_means names nums name i =
    means_and (means_lt i name_rows) (means_and (means_eq (length_at nums i) (length name)) (means_and (means_le (length_at nums i) name_room) (means_same (name_at names nums i) name)))

pub row_name : (names nums name : List ℕ) (i : ℕ) → row_is names nums name i ≡ true → name_at names nums i ≡ name
row_name names nums name i e = ((row_means names nums name i).holds e).1.1.1

pub other_row : (names nums name : List ℕ) (i : ℕ) → (Holds names nums name i → ⊥) → row_is names nums name i ≡ false
other_row names nums name i h = is_false (row_is names nums name i) (λ e. h ((row_means names nums name i).holds e))

-- in a row as long as the name, the bytes that code lends for it decide
pub as_long : (names nums name : List ℕ) (i : ℕ) → i < name_rows → length name ≤ name_room → length_at nums i ≡ length name
    → same_bytes (take ((name_room * i + length name) - name_room * i) (drop (name_room * i) names)) name ≡ row_is names nums name i
unfolding row_is
as_long names nums name i h k e =
    let lent : take ((name_room * i + length name) - name_room * i) (drop (name_room * i) names) ≡ name_at names nums i = rw (← e) (lent_name names nums i) in
    rw (lt-ltb i name_rows h, eq-eqb (length_at nums i) (length name) e, le-leb (length_at nums i) name_room (omega arith), lent)

pub name_row : (names nums name : List ℕ) (i : ℕ) → length names ≡ names_size → i < name_rows → length_at nums i ≤ name_room → name_at names nums i ≡ name → row_is names nums name i ≡ true
name_row names nums name i s h k e = (row_means names nums name i).shows (h, (sym (name_size names nums i s h k) ∙ ap length e, (k, e)))

pub instance_means : (nums : List ℕ) (owner number j : ℕ) → Means (instance_is nums owner number j) ((j < instance_rows) × ((instance_at nums j ≡ number) × (owner_at nums j ≡ owner)))
unfolding instance_is
instance_means nums owner number j = means_and (means_lt j instance_rows) (means_and (means_eq (instance_at nums j) number) (means_eq (owner_at nums j) owner))

pub reaches_means : (nums : List ℕ) (owner number j : ℕ) → Means (reaches_in nums owner number j) ((j < instance_rows) × ((number ≤ instance_at nums j) × (owner_at nums j ≡ owner)))
unfolding reaches_in
reaches_means nums owner number j = means_and (means_lt j instance_rows) (means_and (means_le number (instance_at nums j)) (means_eq (owner_at nums j) owner))
