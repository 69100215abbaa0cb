-- The rows of instances when one of them is stored or given back: every other row is found again, unchanged, at the place that it then has, and there is no row but these and
-- the one that was stored. For any nums of the right size: nothing is asked of a history.
use Rattle.std.proofs.Common.{None, Some}
use mathlib.Core.Path.{◌≡◌, refl, sym, ap, ◌∙◌}
use mathlib.Core.Bool.{Bool, true, false, cond}
use mathlib.Core.Logic.{◌⊎◌, inl, inr, ⊎_elim}
use mathlib.Core.List.{List}
use Prim.Native.Nat.{ℕ, ◌+◌, ◌-◌, ◌≤◌, ◌<◌}
use native.Mathlib.Omega.{arith}
use lib.Dec.{eqb}
use lib.ListN.{length, set}
use borrow.Author.Tests.{eqb-true, eqb-false, eq-eqb, ne_eqb, lt-ltb}
use Rattle.text.proofs.Bools.{same_or_not}
use Rattle.tables.specs.Entry.{name_rows, instance_rows, nums_size, instances_index, owner_column, instance_column, state_column, instance_count, owner_at, instance_at, state_at}
use Rattle.tables.proofs.Stores.{same, before}
use Rattle.store.specs.Store.{store_instance, put_row, given_back}
use Rattle.store.proofs.Stores.{length_store_instance}
use Rattle.promises.proofs.RowStores.{instance_beside, instance_owner, instance_number, instance_state, given_count, given_owner, given_number, given_state}

-- the row r of the old nums is the row q of the new
pub record SameRow (nums nums' : List ℕ) (r q : ℕ) : Type 0 where
  pub owner : owner_at nums' q ≡ owner_at nums r
  pub number : instance_at nums' q ≡ instance_at nums r
  pub state : state_at nums' q ≡ state_at nums r

-- each row but k keeps what it has, at its place; and each row is one of these, or the one that was stored
pub record Carried (nums nums' : List ℕ) (k : ℕ) (Stored : ℕ → Type 0) : Type 0 where
  pub place : ℕ → ℕ
  pub kept : (r : ℕ) → r < instance_count nums → (r ≡ k → ⊥) → (place r < instance_count nums') × SameRow nums nums' r (place r)
  pub from : (q : ℕ) → q < instance_count nums' → Stored q ⊎ ((r : ℕ) × (r < instance_count nums) × (r ≡ k → ⊥) × (q ≡ place r))

-- what a stored row has
pub record HasRow (nums : List ℕ) (q i n t : ℕ) : Type 0 where
  pub below : q < instance_count nums
  pub owner : owner_at nums q ≡ i
  pub number : instance_at nums q ≡ n
  pub state : state_at nums q ≡ t

-- ---- no row is stored and none is given back

pub unmoved : (nums nums' : List ℕ) → instance_count nums' ≡ instance_count nums → ((r : ℕ) → SameRow nums nums' r r) → Carried nums nums' (instance_count nums) (λ q. ⊥)
unmoved nums nums' c f = record {
  place = λ r. r;
  kept = λ r b d. (omega arith, f r);
  from = λ q b. inr (q, omega arith, (λ z. omega arith), refl);
}

-- ---- three values are stored to the row j

record Written (nums nums' : List ℕ) (j i n t : ℕ) : Type 0 where
  owners : (q : ℕ) → q < instance_rows → owner_at nums' q ≡ cond (eqb q j) i (owner_at nums q)
  numbers : (q : ℕ) → q < instance_rows → instance_at nums' q ≡ cond (eqb q j) n (instance_at nums q)
  states : (q : ℕ) → q < instance_rows → state_at nums' q ≡ cond (eqb q j) t (state_at nums q)

module _ (nums nums' : List ℕ) (j i n t : ℕ) (w : Written nums nums' j i n t) where
  other_row : (r : ℕ) → r < instance_rows → (r ≡ j → ⊥) → SameRow nums nums' r r
  other_row r h d =
      let e = ne_eqb r j d in
      record { owner = w.owners r h ∙ rw e; number = w.numbers r h ∙ rw e; state = w.states r h ∙ rw e }

  own_row : j < instance_rows → j < instance_count nums' → HasRow nums' j i n t
  own_row h b =
      let e = eq-eqb j j refl in
      record { below = b; owner = w.owners j h ∙ rw e; number = w.numbers j h ∙ rw e; state = w.states j h ∙ rw e }

  -- no other row comes or goes
  put_carried : j < instance_count nums' → instance_count nums' ≤ instance_rows → instance_count nums ≤ instance_count nums' →
      ((q : ℕ) → q < instance_count nums' → (q ≡ j → ⊥) → q < instance_count nums) → Carried nums nums' j (λ q. q ≡ j)
  put_carried b m g f = record {
    place = λ r. r;
    kept = λ r a d. (omega arith, other_row r (omega arith) d);
    from = λ q a. ⊎_elim (λ y. inl y) (λ d. inr (q, f q a d, d, refl)) (same_or_not q j);
  }

-- ---- a row is stored

module _ (nums : List ℕ) (z : length nums ≡ nums_size) where
  stored : (j i n t : ℕ) → i < name_rows → Written nums (store_instance nums j i n t) j i n t
  stored j i n t o = record {
    owners = λ q h. instance_owner nums z j i q o h n t;
    numbers = λ q h. instance_number nums z j i q o h n t;
    states = λ q h. instance_state nums z j i q o h n t;
  }

  -- in the row found
  module _ (j i n t : ℕ) (o : i < name_rows) (b : j < instance_count nums) (m : instance_count nums ≤ instance_rows) where
    pub found_count : instance_count (put_row nums (Some j) i n t) ≡ instance_count nums
    unfolding put_row
    found_count = instance_beside nums j instances_index i n t (λ a b. omega arith)

    pub found_own : HasRow (put_row nums (Some j) i n t) j i n t
    unfolding put_row
    found_own = own_row nums _ j i n t (stored j i n t o) (omega arith) (omega (arith, found_count))

    pub found_carried : Carried nums (put_row nums (Some j) i n t) j (λ q. q ≡ j)
    unfolding put_row
    found_carried =
        put_carried nums _ j i n t (stored j i n t o) (omega (arith, found_count)) (omega (arith, found_count)) (omega (arith, found_count)) (λ q a d. omega (arith, found_count))

  -- in the next one
  module _ (i n t : ℕ) (o : i < name_rows) (b : instance_count nums < instance_rows) where
    abbrev one : List ℕ
    one = store_instance nums (instance_count nums) i n t

    opened_put : put_row nums None i n t ≡ set one instances_index (instance_count nums + 1)
    unfolding put_row
    opened_put = rw (lt-ltb (instance_count nums) instance_rows b)

    pub next_count : instance_count (put_row nums None i n t) ≡ instance_count nums + 1
    next_count =
        ap instance_count opened_put
        ∙ same one instances_index (instance_count nums + 1) (omega (arith, length_store_instance nums (instance_count nums) i n t))

    next_written : Written nums (put_row nums None i n t) (instance_count nums) i n t
    next_written =
        let w = stored (instance_count nums) i n t o in
        record {
          owners = λ q h. ap (λ (l : List ℕ). owner_at l q) opened_put ∙ before one instances_index owner_column.base q (instance_count nums + 1) refl ∙ w.owners q h;
          numbers = λ q h. ap (λ (l : List ℕ). instance_at l q) opened_put ∙ before one instances_index instance_column.base q (instance_count nums + 1) refl ∙ w.numbers q h;
          states = λ q h. ap (λ (l : List ℕ). state_at l q) opened_put ∙ before one instances_index state_column.base q (instance_count nums + 1) refl ∙ w.states q h;
        }

    pub next_own : HasRow (put_row nums None i n t) (instance_count nums) i n t
    next_own = own_row nums _ (instance_count nums) i n t next_written b (omega (arith, next_count))

    pub next_carried : Carried nums (put_row nums None i n t) (instance_count nums) (λ q. q ≡ instance_count nums)
    next_carried =
        put_carried nums _ (instance_count nums) i n t next_written (omega (arith, next_count)) (omega (arith, next_count)) (omega (arith, next_count)) (λ q a d. omega (arith, next_count))

  -- ---- a row is given back

  module _ (j : ℕ) (b : j < instance_count nums) (m : instance_count nums ≤ instance_rows) where
    abbrev final : ℕ
    final = instance_count nums - 1

    pub back_count : instance_count (given_back nums j) + 1 ≡ instance_count nums
    back_count = omega (arith, given_count nums z j (omega arith) (omega arith) m)

    written_back : Written nums (given_back nums j) j (owner_at nums final) (instance_at nums final) (state_at nums final)
    written_back = record {
      owners = λ q h. given_owner nums z j (omega arith) (omega arith) m q h;
      numbers = λ q h. given_number nums z j (omega arith) (omega arith) m q h;
      states = λ q h. given_state nums z j (omega arith) (omega arith) m q h;
    }

    -- the last row lies where the one given back lay, and every other where it did
    abbrev new_place : ℕ → ℕ
    new_place r = cond (eqb r final) j r

    pub back_carried : Carried nums (given_back nums j) j (λ q. ⊥)
    back_carried = record { place = new_place; kept = kept; from = from }
      where
        kept : (r : ℕ) → r < instance_count nums → (r ≡ j → ⊥) → (new_place r < instance_count (given_back nums j)) × SameRow nums (given_back nums j) r (new_place r)
        kept r a d = by_test (eqb r final) refl
          where
            by_test : (c : Bool) → eqb r final ≡ c → (cond c j r < instance_count (given_back nums j)) × SameRow nums (given_back nums j) r (cond c j r)
            by_test true q =
                let e = eqb-true r final q in
                let l : j < instance_count (given_back nums j) = omega (arith, back_count, e) in
                let own = own_row nums (given_back nums j) j _ _ _ written_back (omega arith) l in
                (l, record { owner = own.owner ∙ ap (owner_at nums) (sym e); number = own.number ∙ ap (instance_at nums) (sym e); state = own.state ∙ ap (state_at nums) (sym e) })
            by_test false q =
                let e = eqb-false r final q in
                (omega (arith, back_count, e), other_row nums (given_back nums j) j _ _ _ written_back r (omega arith) d)

        from : (q : ℕ) → q < instance_count (given_back nums j) → ⊥ ⊎ ((r : ℕ) × (r < instance_count nums) × (r ≡ j → ⊥) × (q ≡ new_place r))
        from q a = ⊎_elim at_j elsewhere (same_or_not q j)
          where
            at_j : q ≡ j → ⊥ ⊎ ((r : ℕ) × (r < instance_count nums) × (r ≡ j → ⊥) × (q ≡ new_place r))
            at_j e = inr (final, omega arith, (λ y. omega (arith, back_count, y, e)), rw (eq-eqb final final refl) e)

            elsewhere : (q ≡ j → ⊥) → ⊥ ⊎ ((r : ℕ) × (r < instance_count nums) × (r ≡ j → ⊥) × (q ≡ new_place r))
            elsewhere d = inr (q, omega (arith, back_count), d, rw (ne_eqb q final (λ y. omega (arith, back_count, y))))

-- ---- what was carried is carried by another name, and from and to nums with the same rows

-- a row found again, and again
found_again : (nums one nums' : List ℕ) (r q p : ℕ) → SameRow nums one r q → SameRow one nums' q p → SameRow nums nums' r p
found_again nums one nums' r q p v w = record { owner = w.owner ∙ v.owner; number = w.number ∙ v.number; state = w.state ∙ v.state }

pub carried_as : (nums nums' : List ℕ) (k : ℕ) (P Q : ℕ → Type 0) → ((q : ℕ) → P q → Q q) → Carried nums nums' k P → Carried nums nums' k Q
carried_as nums nums' k P Q f c = record { place = c.place; kept = c.kept; from = λ q b. ⊎_elim (λ p. inl (f q p)) (λ r. inr r) (c.from q b) }

pub carried_over : (nums one nums' : List ℕ) (k : ℕ) (P : ℕ → Type 0) → instance_count one ≡ instance_count nums → ((r : ℕ) → SameRow nums one r r) → Carried one nums' k P → Carried nums nums' k P
carried_over nums one nums' k P z same c = record { place = c.place; kept = kept; from = from }
  where
    kept : (r : ℕ) → r < instance_count nums → (r ≡ k → ⊥) → (c.place r < instance_count nums') × SameRow nums nums' r (c.place r)
    kept r b d =
        let w = c.kept r (rw z b) d in
        (w.0, found_again nums one nums' r r (c.place r) (same r) w.1)

    from : (q : ℕ) → q < instance_count nums' → P q ⊎ ((r : ℕ) × (r < instance_count nums) × (r ≡ k → ⊥) × (q ≡ c.place r))
    from q b = ⊎_elim (λ p. inl p) (λ r. inr (r.0, rw (← z) r.1, r.2, r.3)) (c.from q b)

module _ (one nums' : List ℕ) (z : instance_count nums' ≡ instance_count one) (same : (r : ℕ) → r < instance_count one → SameRow one nums' r r) where
  pub carried_on : (nums : List ℕ) (k : ℕ) (P : ℕ → Type 0) → Carried nums one k P → Carried nums nums' k P
  carried_on nums k P c = record {
    place = c.place;
    kept = λ r b d. let w = c.kept r b d in (rw z w.0, found_again nums one nums' r (c.place r) (c.place r) w.1 (same (c.place r) w.0));
    from = λ q b. c.from q (rw z at b);
  }

  pub has_on : (q i n t : ℕ) → HasRow one q i n t → HasRow nums' q i n t
  has_on q i n t w =
      let r = same q w.below in
      record { below = rw z w.below; owner = r.owner ∙ w.owner; number = r.number ∙ w.number; state = r.state ∙ w.state }
