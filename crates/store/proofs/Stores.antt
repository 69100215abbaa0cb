-- Laws of the stores of an event line. Each keeps the length of its table, and arms of an `if` that meet again leave what the definitions say.
use Rattle.std.proofs.Common.{◌≡◌, ℕ, ◌+◌, ◌-◌, ◌*◌, ◌%◌, ◌^◌, ◌<◌, Bool, true, false, cond, not, ◌&&◌, eqb, ltb, leb, List, length, get_or, set, sym, refl, ◌∙◌, arith, length-set, le-ltb, lt-ltb, eq-eqb, ne_eqb, leb-false, leb-true, None, Some, Option}
use Rattle.text.specs.Put.{put}
use Rattle.text.proofs.Writes.{put_length}
use Rattle.rules.specs.Words.{core, semaphore}
use Rattle.rules.specs.Core.{no_core, takes_core, gives_core}
use Rattle.rules.specs.Event.{Event}
use Rattle.rules.specs.History.{has_instances, activates}
use Rattle.tables.specs.Entry.{idle_core, Tables, store_at, first_number_column, numbered_at, name_rows, instance_rows, place_rows, name_room, lines_index, started_index, names_index, cores_index}
use Rattle.tables.specs.Entry.{line_count, started_entry, name_count, core_count, instance_count, first_time, places}
use Rattle.tables.specs.Sized.{Sized}
use Rattle.tables.proofs.Stores.{other}
use Rattle.tables.proofs.Sizes.{sizes_mean}
use Rattle.index.specs.Hash.{home_of}
use Rattle.index.specs.Index.{free}
use Rattle.lookup.specs.declared.look.LookedUp.{LookedUp}
use Rattle.lookup.specs.LookedUp.{new_core, new_name}
use Rattle.store.specs.Store.{core_row, target_row, store_name, store_row, store_place, store_sums, store_instance, store_standing, store_holder, store_number, store_activation}
use Rattle.store.specs.Store.{needs_row, put_row, given_back, without_row, with_entry}
use Rattle.store.specs.Store.{taken_names, with_rows, with_target, with_core, with_counts, with_places, taken_entries, taken_nums, settled, with_times, with_sums, taken_ticks}
use Rattle.store.specs.Store.{taken_tables, stored}

-- ---- tables of the right sizes

pub stored_sized : (t : Tables) (s : LookedUp) (state : ℕ) (e : Event) → Sized t.names t.nums t.ticks → stored t s state e ≡ taken_tables t s state e
unfolding stored
stored_sized t s state e z = rw ((sizes_mean t.names t.nums t.ticks).shows z)

-- ---- a number below another one does not reach it

pub below_unreached : (n f : ℕ) → ltb n f ≡ not (leb f n)
below_unreached n f = by_test (leb f n) refl
  where
    by_test : (b : Bool) → leb f n ≡ b → ltb n f ≡ not b
    by_test true q = le-ltb n f (leb-true f n q)
    by_test false q = lt-ltb n f (leb-false f n q)

-- ---- a store that is made where a number is 1

pub made : {r v : ℕ} {m x : List ℕ} (y : List ℕ) → r ≡ v → r ≡ 1 → m ≡ x → m ≡ cond (eqb v 1) x y
made {r} {v} y e t p = rw (eq-eqb v 1 (sym e ∙ t)) p

pub unmade : {r v : ℕ} {m y : List ℕ} (x : List ℕ) → r ≡ v → (r ≡ 1 → ⊥) → m ≡ y → m ≡ cond (eqb v 1) x y
unmade {r} {v} x e t p = rw (ne_eqb v 1 (λ q. t (e ∙ q))) p

-- and made in a row of what the store before it left
pub made_next : {r v n i : ℕ} {m l k : List ℕ} (f : List ℕ → ℕ → List ℕ) → r ≡ v → r ≡ 1 → l ≡ k → n ≡ i → m ≡ f l n → m ≡ cond (eqb v 1) (f k i) k
made_next {k = k} f e t p q h = made k e t (h ∙ rw (p, q))

-- ---- the counts after one another: each is read after the stores before it

skip : (l : List ℕ) (i j v : ℕ) → i < j → get_or (set l i v) j 0 ≡ get_or l j 0
skip l i j v h = other l i j v (λ q. omega arith)

pub counts_stored : {a b d : ℕ} (nums : List ℕ) (names cores : ℕ) →
    let one = set (set nums lines_index a) started_index 1 in
    let two = set one names_index b in
    a ≡ (line_count nums + 1) % 2 ^ 32 → b ≡ (name_count one + names) % 2 ^ 32 → d ≡ (core_count two + cores) % 2 ^ 32 →
    set two cores_index d ≡ with_counts nums names cores
unfolding with_counts
counts_stored {a} {b} {d} nums names cores p q r =
    let l = set (set nums lines_index a) started_index 1 in
    let f : (j : ℕ) → started_index < j → get_or l j 0 ≡ get_or nums j 0 =
    λ j h. skip (set nums lines_index a) started_index j 1 h ∙ skip nums lines_index j a (omega arith) in
    let q' : b ≡ (name_count nums + names) % 2 ^ 32 = rw (f names_index (omega arith)) at q in
    let r' : d ≡ (core_count nums + cores) % 2 ^ 32 = rw (skip l names_index cores_index b (omega arith), f cores_index (omega arith)) at r in
    rw (p, q', r')

-- ---- the stores to nums after one another, with the rows and counts as they were before them

pub entries_taken : {k w i p x y : ℕ} {a b d f g : List ℕ} (nums : List ℕ) (s : LookedUp) (t : ℕ) (e : Event) → k ≡ e.kind → w ≡ e.word
    → i ≡ core_row nums s → p ≡ target_row nums s → x ≡ new_core s → y ≡ new_name s k
    → a ≡ with_rows nums s k (length e.source) (length e.target) → b ≡ with_target a p t k w e.target_instance e.count
    → d ≡ with_core b s.class i p e.target_instance → f ≡ with_counts d (x + y) x
    → g ≡ with_entry f s.instance p k e.target_instance t → g ≡ taken_entries nums s t e
unfolding taken_entries
entries_taken nums s t e pk pw pi pp px py pa pb pd pf pg = pg ∙ rw (pf, pd, pb, pa, pi, pp, px, py, pk, pw)

-- and the places after them
pub nums_taken : {k i p : ℕ} {a b : List ℕ} (nums : List ℕ) (s : LookedUp) (t : ℕ) (e : Event) → k ≡ e.kind → i ≡ core_row nums s → p ≡ target_row nums s
    → a ≡ taken_entries nums s t e → b ≡ with_places a s k i p e.source e.target → b ≡ taken_nums nums s t e
unfolding taken_nums
nums_taken nums s t e pk pi pp pa pb = pb ∙ rw (pa, pi, pp, pk)

-- and so the stores to ticks
pub ticks_taken : {i p : ℕ} {a b d : List ℕ} (ticks nums : List ℕ) (s : LookedUp) (kind time : ℕ) → i ≡ core_row nums s → p ≡ target_row nums s
    → a ≡ with_sums ticks nums s kind time → b ≡ settled a s.class i p time → d ≡ with_times b (started_entry nums) time → d ≡ taken_ticks ticks nums s kind time
unfolding taken_ticks
ticks_taken ticks nums s kind time pi pp pa pb pd = pd ∙ rw (pb, pa, pi, pp)

-- ---- lengths

length_cond : (b : Bool) (x y : List ℕ) {n : ℕ} → length x ≡ n → length y ≡ n → length (cond b x y) ≡ n
length_cond true x y p q = p
length_cond false x y p q = q

-- a store that is made or not, and another after it
length_two : (a b : Bool) (f : List ℕ → List ℕ) (x l : List ℕ) → ((m : List ℕ) → length (f m) ≡ length m) → length x ≡ length l
    → length (cond b (f (cond a x l)) (cond a x l)) ≡ length l
length_two a b f x l h e =
    let i : length (cond a x l) ≡ length l = length_cond a x l e refl in
    length_cond b (f (cond a x l)) (cond a x l) (h (cond a x l) ∙ i) i

pub length_store_name : (names : List ℕ) (i : ℕ) (name : List ℕ) → length (store_name names i name) ≡ length names
unfolding store_name
length_store_name names i name =
    length_cond (ltb i name_rows) (put names (name_room * i) name).output names (put_length names (name_room * i) name refl) refl

pub length_store_row : (nums : List ℕ) (i kind n : ℕ) → length (store_row nums i kind n) ≡ length nums
unfolding store_row
length_store_row nums i kind n = length_cond (ltb i name_rows) _ nums (simp length-set) refl

pub length_store_place : (nums : List ℕ) (i home : ℕ) → length (store_place nums i home) ≡ length nums
unfolding store_place
length_store_place nums i home = length_cond (ltb i name_rows && ltb (free (places nums) home) place_rows) _ nums (simp length-set) refl

pub length_store_sums : (ticks : List ℕ) (i unknown since : ℕ) → length (store_sums ticks i unknown since) ≡ length ticks
unfolding store_sums
length_store_sums ticks i unknown since = length_cond (ltb i name_rows) _ ticks (simp length-set) refl

pub length_store_instance : (nums : List ℕ) (j owner number state : ℕ) → length (store_instance nums j owner number state) ≡ length nums
unfolding store_instance
length_store_instance nums j owner number state = length_cond (ltb j instance_rows && ltb owner name_rows) _ nums (simp length-set) refl

pub length_store_standing : (nums : List ℕ) (i standing : ℕ) → length (store_standing nums i standing) ≡ length nums
unfolding store_standing
length_store_standing nums i standing = length_cond (ltb i name_rows) _ nums (simp length-set) refl

pub length_store_holder : (nums : List ℕ) (i p n : ℕ) → length (store_holder nums i p n) ≡ length nums
unfolding store_holder
length_store_holder nums i p n = length_cond (ltb i name_rows && ltb p name_rows) _ nums (simp length-set) refl

pub length_store_number : (nums : List ℕ) (i n : ℕ) → length (store_number nums i n) ≡ length nums
unfolding store_number
length_store_number nums i n = length_cond (ltb i name_rows) _ nums (simp length-set) refl

-- with the first number, where there is none yet
pub length_first : (nums : List ℕ) (i n : ℕ) → length (cond (eqb (numbered_at nums i) 0) (store_at first_number_column nums i n) nums) ≡ length nums
length_first nums i n = length_cond (eqb (numbered_at nums i) 0) (store_at first_number_column nums i n) nums (length-set nums _ n) refl

pub length_store_activation : (nums : List ℕ) (i n : ℕ) → length (store_activation nums i n) ≡ length nums
unfolding store_activation
length_store_activation nums i n = length_cond (ltb i name_rows) _ nums (length_store_number _ i n ∙ length_first nums i n) refl

pub length_taken_names : (names nums : List ℕ) (s : LookedUp) (kind : ℕ) (source target : List ℕ)
    → length (taken_names names nums s kind source target) ≡ length names
unfolding taken_names
length_taken_names names nums s kind source target =
    length_two (eqb (new_core s) 1) (eqb (new_name s kind) 1) (λ m. store_name m (target_row nums s) target) _ names
    (λ m. length_store_name m (target_row nums s) target)
    (length_store_name names (name_count nums) source)

pub length_with_rows : (nums : List ℕ) (s : LookedUp) (kind n m : ℕ) → length (with_rows nums s kind n m) ≡ length nums
unfolding with_rows
length_with_rows nums s kind n m =
    length_two (eqb (new_core s) 1) (eqb (new_name s kind) 1) (λ l. store_row l (target_row nums s) kind m) _ nums
    (λ l. length_store_row l (target_row nums s) kind m)
    (length_store_row nums (name_count nums) core n)

pub length_with_places : (nums : List ℕ) (s : LookedUp) (kind i p : ℕ) (source target : List ℕ) → length (with_places nums s kind i p source target) ≡ length nums
unfolding with_places
length_with_places nums s kind i p source target =
    length_two (eqb (new_core s) 1) (eqb (new_name s kind) 1) (λ l. store_place l p (home_of target)) _ nums
    (λ l. length_store_place l p (home_of target))
    (length_store_place nums i (home_of source))

pub length_with_sums : (ticks nums : List ℕ) (s : LookedUp) (kind time : ℕ) → length (with_sums ticks nums s kind time) ≡ length ticks
unfolding with_sums
length_with_sums ticks nums s kind time =
    length_two (eqb (new_core s) 1) (eqb (new_name s kind) 1) (λ l. store_sums l (target_row nums s) 0 0) _ ticks
    (λ l. length_store_sums l (target_row nums s) 0 0)
    (length_store_sums ticks (name_count nums) (cond (eqb (started_entry nums) 0) 0 (time - first_time ticks)) time)

pub length_with_target : (nums : List ℕ) (i t kind word n c : ℕ) → length (with_target nums i t kind word n c) ≡ length nums
unfolding with_target
length_with_target nums i t kind word n c =
    length_cond (eqb kind semaphore) (store_number (store_standing nums i t) i c) _
    (length_store_number (store_standing nums i t) i c ∙ length_store_standing nums i t)
    (length_cond (activates kind word) (store_activation nums i n) nums (length_store_activation nums i n) refl)

pub length_with_core : (nums : List ℕ) (class i p n : ℕ) → length (with_core nums class i p n) ≡ length nums
unfolding with_core
length_with_core nums class i p n =
    length_cond (eqb class no_core) nums _ refl
    (length_cond (eqb class gives_core) (store_standing nums i idle_core) (store_holder nums i p n) (length_store_standing nums i idle_core) (length_store_holder nums i p n))

pub length_with_counts : (nums : List ℕ) (names cores : ℕ) → length (with_counts nums names cores) ≡ length nums
unfolding with_counts
length_with_counts nums names cores = simp length-set

pub length_put_row : (nums : List ℕ) (f : Option ℕ) (i n t : ℕ) → length (put_row nums f i n t) ≡ length nums
unfolding put_row
length_put_row nums (Some j) i n t = length_store_instance nums j i n t
length_put_row nums None i n t =
    length_cond (ltb (instance_count nums) instance_rows) _ nums (simp (length-set, length_store_instance)) refl

pub length_given_back : (nums : List ℕ) (j : ℕ) → length (given_back nums j) ≡ length nums
unfolding given_back
length_given_back nums j =
    length_cond (ltb j instance_rows && (not (eqb (instance_count nums) 0) && leb (instance_count nums) instance_rows)) _ nums (simp length-set) refl

length_without_row : (nums : List ℕ) (f : Option ℕ) → length (without_row nums f) ≡ length nums
unfolding without_row
length_without_row nums (Some j) = length_given_back nums j
length_without_row nums None = refl

pub length_with_entry : (nums : List ℕ) (f : Option ℕ) (i kind n t : ℕ) → length (with_entry nums f i kind n t) ≡ length nums
unfolding with_entry
length_with_entry nums f i kind n t =
    length_cond (has_instances kind) _ nums
    (length_cond (needs_row nums i n t) (put_row nums f i n t) (without_row nums f) (length_put_row nums f i n t) (length_without_row nums f))
    refl

pub length_taken_entries : (nums : List ℕ) (s : LookedUp) (t : ℕ) (e : Event) → length (taken_entries nums s t e) ≡ length nums
unfolding taken_entries
length_taken_entries nums s t e = simp (length_with_entry, length_with_counts, length_with_core, length_with_target, length_with_rows)

pub length_taken_nums : (nums : List ℕ) (s : LookedUp) (t : ℕ) (e : Event) → length (taken_nums nums s t e) ≡ length nums
unfolding taken_nums
length_taken_nums nums s t e = length_with_places _ s e.kind _ _ e.source e.target ∙ length_taken_entries nums s t e

pub length_settled : (ticks : List ℕ) (class i p time : ℕ) → length (settled ticks class i p time) ≡ length ticks
unfolding settled
length_settled ticks class i p time =
    length_cond (ltb i name_rows && ltb p name_rows) _ ticks
    (length_cond (eqb class takes_core) _ _ (simp length-set) (length_cond (eqb class gives_core) _ ticks (simp length-set) refl))
    refl

pub length_with_times : (ticks : List ℕ) (started time : ℕ) → length (with_times ticks started time) ≡ length ticks
unfolding with_times
length_with_times ticks started time = length_cond (eqb started 0) _ _ (simp length-set) (simp length-set)

pub length_taken_ticks : (ticks nums : List ℕ) (s : LookedUp) (kind time : ℕ) → length (taken_ticks ticks nums s kind time) ≡ length ticks
unfolding taken_ticks
length_taken_ticks ticks nums s kind time = simp (length_with_times, length_settled, length_with_sums)
