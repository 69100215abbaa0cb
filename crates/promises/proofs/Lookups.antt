-- What is looked up in tables that show a history: a name's row is its place in the list of the names, and an instance's row is one that shows it, so
-- an event line finds in the tables what the history has. And the rows of names to which a line that is taken stores are those of the longer history.
use Rattle.std.proofs.Common.{None, Some, Option, is_some}
use mathlib.Core.Path.{◌≡◌, refl, sym, ap, subst, ◌∙◌}
use mathlib.Core.Bool.{Bool, true, false, not, ◌&&◌, cond}
use mathlib.Core.List.{List, ◌∷◌}
use Prim.Native.Nat.{ℕ, ◌+◌, ◌<◌}
use native.Mathlib.Omega.{arith}
use lib.Dec.{eqb}
use lib.ListN.{length}
use borrow.Author.Tests.{lt-ltb}
use Rattle.text.specs.Bytes.{same_bytes}
use Rattle.text.specs.Lists.{any}
use Rattle.text.proofs.Bools.{is_false}
use Rattle.marks.specs.First.{first_of}
use Rattle.marks.proofs.Firsts.{first_at, first_none}
use Rattle.rules.specs.Lists.{one_if}
use Rattle.rules.specs.Event.{Event, Instance, instance_of}
use Rattle.rules.specs.Core.{on_core, core_class, no_core}
use Rattle.rules.specs.History.{has_instances, is_tracked, names, kind_of, has_entry}
use Rattle.rules.specs.Refusals.{look, second_kind}
use Rattle.rules.specs.Verdict.{Accepted}
use Rattle.rules.proofs.Tests.{clash}
use Rattle.rules.proofs.Room.{all_fit, entries_now}
use Rattle.rules.proofs.Entries.{entry_listed}
use Rattle.rules.proofs.Tracked.{target_is}
use Rattle.rules.proofs.Seen.{own_number}
use Rattle.steps.proofs.CoreClasses.{class_on}
use Rattle.tables.specs.Entry.{instance_rows, name_rows, name_count, instance_count, name_at}
use Rattle.lookup.specs.Find.{last_below, row_is, find_name, walk_name, instance_is, find_instance}
use Rattle.lookup.proofs.Found.{last_at, last_none, instance_found, row_name, name_row, instance_means}
use Rattle.lookup.proofs.Walks.{find_walks}
use Rattle.lookup.specs.LookedUp.{look_if, instance_in, looked_up, rows_added, new_core, new_name}
use Rattle.store.specs.Store.{row_or, core_row, target_row}
use Rattle.judge.specs.Feed.{Tables}
use Rattle.promises.specs.Places.{place, seek, row_of}
use Rattle.promises.specs.Shown.{InstanceShown, Shown}
use Rattle.promises.specs.Taken.{looked_up_in, InstanceFound}
use Rattle.promises.proofs.Places.{place_bound}
use Rattle.promises.proofs.KindTests.{instances_tracked}
use Rattle.promises.proofs.Origins.{new_source, new_target}
use Rattle.promises.proofs.Listed.{name_kind, name_at_lem, instance_kind, instance_named, one_instance, AllMet, name_size}
use Rattle.promises.proofs.Grown.{row_stays, source_row_new, target_row_new}

-- ---- a search over rows, where the rows are the places of a list

module _ {A : Type 0} (f : ℕ → Bool) (g : A → Bool) (xs : List A)
    (told : (i : ℕ) → i < length xs → f i ≡ true → (any g xs ≡ true) × (place g xs ≡ i)) (there : any g xs ≡ true → f (place g xs) ≡ true) where
  -- a row that passes, or no row passes
  abbrev Searched : Option ℕ → Type 0
  Searched (Some i) = (i < length xs) × (f i ≡ true)
  Searched None = (i : ℕ) → i < length xs → f i ≡ false

  searched : (r : Option ℕ) → Searched r → r ≡ seek g xs
  unfolding seek
  searched (Some i) q = let p = told i q.0 q.1 in rw (p.0, p.1)
  searched None q = by_test (any g xs) refl
    where
      by_test : (b : Bool) → any g xs ≡ b → None ≡ cond b (Some (place g xs)) None
      by_test true t = absurd (clash (f (place g xs)) (there t) (q (place g xs) (place_bound g xs t)))
      by_test false t = refl

  first_sought : first_of f 0 (length xs) ≡ seek g xs
  first_sought = searched (first_of f 0 (length xs)) (by_found (first_of f 0 (length xs)) refl)
    where
      by_found : (r : Option ℕ) → first_of f 0 (length xs) ≡ r → Searched r
      by_found (Some i) q = let p = first_at f (length xs) i q in (p.0, p.1)
      by_found None q = first_none f (length xs) q

-- ---- the rows that there are

-- of a name that is listed, and of an instance that a row shows
pub name_below : (h : List Event) → Accepted h → (n : List ℕ) → any (same_bytes n) (names h) ≡ true → row_of h n < name_rows
name_below h a n q = omega (arith, place_bound (same_bytes n) (names h) q, (all_fit h a).names_fit)

pub instance_below : (h : List Event) → Accepted h → (t : Tables) → Shown h t → (j : ℕ) (x : Instance) → InstanceShown h t.nums j x → j < instance_rows
instance_below h a t s j x p = omega (arith, p.below, s.singles.entries_counted, entries_now h (all_fit h a))

-- ---- the two look-ups

module _ (h : List Event) (a : Accepted h) (m : AllMet h) (t : Tables) (s : Shown h t) where
  pub found_name : (n : List ℕ) → find_name t.names t.nums n ≡ seek (same_bytes n) (names h)
  unfolding walk_name
  found_name n =
      find_walks t.names t.nums s.sized.names_sized s.sized.nums_sized (omega (arith, s.singles.names_counted, (all_fit h a).names_fit)) s.indexed n
      ∙ ap (λ (k : ℕ). first_of (row_is t.names t.nums n) 0 k) s.singles.names_counted
      ∙ first_sought (row_is t.names t.nums n) (same_bytes n) (names h) told there
    where
      told : (i : ℕ) → i < length (names h) → row_is t.names t.nums n i ≡ true → (any (same_bytes n) (names h) ≡ true) × (row_of h n ≡ i)
      told i l q =
          let r = name_at_lem h i l in
          let w : r.0 ≡ n = sym (s.each_name r.0 r.1).name ∙ ap (name_at t.names t.nums) r.2 ∙ row_name t.names t.nums n i q in
          subst (λ (z : List ℕ). (any (same_bytes z) (names h) ≡ true) × (row_of h z ≡ i)) w (r.1, r.2)

      there : any (same_bytes n) (names h) ≡ true → row_is t.names t.nums n (row_of h n) ≡ true
      there q =
          let e = s.each_name n q in
          name_row t.names t.nums n (row_of h n) s.sized.names_sized (name_below h a n q) (omega (arith, e.size, (name_size h m n q).1)) e.name

  -- some row that shows it, or nothing and it has no entry
  pub found_instance : (x : Instance) → kind_of x.name h ≡ Some x.kind →
      InstanceFound h t.nums x (find_instance t.nums (row_of h x.name) x.number)
  found_instance x q =
      rw (instance_found t.nums (row_of h x.name) x.number s.sized.nums_sized) (by_found (last_below is (instance_count t.nums)) refl)
    where
      is : ℕ → Bool
      is = instance_is t.nums (row_of h x.name) x.number

      by_found : (r : Option ℕ) → last_below is (instance_count t.nums) ≡ r → InstanceFound h t.nums x r
      by_found (Some j) p =
          let l = last_at is (instance_count t.nums) j p in
          let c = (instance_means t.nums (row_of h x.name) x.number j).holds l.1 in
          let r = s.instance_rows_shown.owned j l.0 in
          let z = one_instance h r.0 x (instance_kind h a r.0 (entry_listed h r.0 r.1)).1 q (sym r.2.owner ∙ c.1.1) (sym r.2.number ∙ c.1.0) in
          subst (λ (y : Instance). (has_entry h y ≡ true) × InstanceShown h t.nums j y) z (r.1, r.2)
      by_found None p =
          is_false _ (λ b.
          let r = s.instance_rows_shown.each x b in
          let small = instance_below h a t s r.0 x r.1 in
          clash _ ((instance_means t.nums (row_of h x.name) x.number r.0).shows (small, (r.1.number, r.1.owner)))
          (last_none is (instance_count t.nums) p r.0 r.1.below))

  -- ---- what an event line finds

  pub looked_up_source : (e : Event) → (looked_up t.names t.nums e).source ≡ (looked_up_in h t e).source
  unfolding looked_up looked_up_in
  looked_up_source e = ap (look_if (not (eqb (core_class e.kind e.word) no_core))) (found_name e.source)

  pub looked_up_target : (e : Event) → (looked_up t.names t.nums e).target ≡ (looked_up_in h t e).target
  unfolding looked_up looked_up_in
  looked_up_target e = ap (look_if (is_tracked e.kind)) (found_name e.target)

  -- an instance of a name that the list lacks has none
  no_entry : (x : Instance) → any (same_bytes x.name) (names h) ≡ false → has_entry h x ≡ false
  no_entry x q = is_false _ (λ b. clash _ (instance_named h a x (entry_listed h x b)) q)

  -- the instance is looked up by the row of its name, and its name has one kind
  pub looked_up_instance : (e : Event) → second_kind (look h e) e ≡ false → has_instances e.kind ≡ true →
      InstanceFound h t.nums (instance_of e) (looked_up_in h t e).instance
  unfolding seek looked_up_in
  looked_up_instance e k i = rw (i, instances_tracked e.kind i) (by_test (any (same_bytes e.target) (names h)) refl)
    where
      by_test : (b : Bool) → any (same_bytes e.target) (names h) ≡ b →
          InstanceFound h t.nums (instance_of e) (instance_in t.nums true (cond b (Some (row_of h e.target)) None) e.target_instance)
      by_test true q =
          let w = name_kind h e.target q in
          let o : kind_of e.target h ≡ Some e.kind = w.1 ∙ ap Some (target_is h e k (instances_tracked e.kind i) w.0 w.1) in
          rw (lt-ltb (row_of h e.target) name_rows (name_below h a e.target q))
          (subst (λ (n : ℕ). InstanceFound h t.nums (instance_of e) (find_instance t.nums (row_of h e.target) n))
          (own_number e i) (found_instance (instance_of e) o))
      by_test false q = no_entry (instance_of e) q

  pub looked_up_shown : (e : Event) → looked_up t.names t.nums e ≡ looked_up_in h t e
  unfolding looked_up looked_up_in
  looked_up_shown e = λ i. record {
    class = core_class e.kind e.word;
    source = looked_up_source e i;
    target = looked_up_target e i;
    instance = ap (λ (f : Option ℕ). instance_in t.nums (has_instances e.kind) f e.target_instance) (looked_up_target e) i;
  }

  -- there is a row exactly for an instance that has an entry
  pub entry_told : (e : Event) → second_kind (look h e) e ≡ false → has_instances e.kind ≡ true → is_some (looked_up_in h t e).instance ≡ has_entry h (instance_of e)
  entry_told e k i = by_found (looked_up_in h t e).instance (looked_up_instance e k i)
    where
      by_found : (r : Option ℕ) → InstanceFound h t.nums (instance_of e) r → is_some r ≡ has_entry h (instance_of e)
      by_found (Some j) p = sym p.0
      by_found None p = sym p

-- ---- the rows of a line that is taken

-- a row that is looked up, or the next one; and one more where it is needed and there is none
module _ {A : Type 0} (g : A → Bool) (xs : List A) where
  sought_row : (n r : ℕ) → (any g xs ≡ true → r ≡ place g xs) → (any g xs ≡ false → r ≡ n) → row_or (seek g xs) n ≡ r
  unfolding seek
  sought_row n r f o = by_test (any g xs) f o
    where
      by_test : (b : Bool) → (b ≡ true → r ≡ place g xs) → (b ≡ false → r ≡ n) → row_or (cond b (Some (place g xs)) None) n ≡ r
      by_test true f o = sym (f refl)
      by_test false f o = sym (o refl)

  sought_new : (b : Bool) → rows_added b (look_if b (seek g xs)) ≡ one_if (b && not (any g xs))
  unfolding seek
  sought_new false = refl
  sought_new true = by_test (any g xs)
    where
      by_test : (c : Bool) → rows_added true (cond c (Some (place g xs)) None) ≡ one_if (not c)
      by_test true = refl
      by_test false = refl

module _ (h : List Event) (t : Tables) (e : Event) where
  pub new_core_lem : new_core (looked_up_in h t e) ≡ one_if (new_source h e)
  unfolding looked_up_in
  new_core_lem =
      sought_new (same_bytes e.source) (names h) (not (eqb (core_class e.kind e.word) no_core))
      ∙ ap (λ (b : Bool). one_if (b && not (any (same_bytes e.source) (names h)))) (class_on e)

  pub new_name_lem : new_name (looked_up_in h t e) e.kind ≡ one_if (new_target h e)
  unfolding looked_up_in
  new_name_lem = sought_new (same_bytes e.target) (names h) (is_tracked e.kind)

module _ (h : List Event) (t : Tables) (s : Shown h t) (e : Event) (k : second_kind (look h e) e ≡ false) where
  pub core_row_lem : on_core e ≡ true → core_row t.nums (looked_up_in h t e) ≡ row_of (e ∷ h) e.source
  unfolding core_row looked_up_in
  core_row_lem o =
      rw (class_on e, o)
      (sought_row (same_bytes e.source) (names h) (name_count t.nums) (row_of (e ∷ h) e.source) (row_stays h e k e.source)
      (λ q. source_row_new h e k (rw (o, q)) ∙ sym s.singles.names_counted))

  pub target_row_lem : is_tracked e.kind ≡ true → target_row t.nums (looked_up_in h t e) ≡ row_of (e ∷ h) e.target
  unfolding target_row looked_up_in
  target_row_lem i =
      rw (new_core_lem h t e, i)
      (sought_row (same_bytes e.target) (names h) (name_count t.nums + one_if (new_source h e)) (row_of (e ∷ h) e.target) (row_stays h e k e.target)
      (λ q. target_row_new h e k (rw (i, q)) ∙ ap (λ (n : ℕ). n + one_if (new_source h e)) (sym s.singles.names_counted)))
