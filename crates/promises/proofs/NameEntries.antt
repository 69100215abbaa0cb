-- What each name is after an event line is taken: its bytes in names and its length in nums. For any tables of the right sizes: nothing is asked of a
-- history.
use Rattle.std.proofs.Common.{None, Some, Option}
use mathlib.Core.Path.{◌≡◌, refl, ap, ◌∙◌}
use mathlib.Core.Bool.{Bool, true, false, ◌&&◌, cond}
use mathlib.Core.List.{List, [], ◌∷◌, append_assoc}
use Prim.Native.Nat.{ℕ, suc, ◌+◌, ◌-◌, ◌*◌, ◌≤◌, ◌<◌}
use native.Mathlib.Omega.{arith}
use lib.Dec.{eqb, leb, ltb}
use lib.ListN.{length, set, take, drop}
use lib.Seq.{drop-set-lt, drop-set-add, take-set-le, length-take-le, drop_at, take-append_seam}
use mathlib.Core.Logic.{◌⊎◌, inl, inr}
use borrow.Author.Tests.{eq-eqb, ne_eqb, eqb-false, lt-ltb}
use Rattle.text.specs.Put.{written, after, put}
use Rattle.text.proofs.Bools.{lt_or_ge}
use Rattle.text.proofs.Writes.{written_parts, put_fits}
use Rattle.rules.specs.Event.{Event}
use Rattle.rules.specs.History.{is_tracked}
use Rattle.tables.specs.Entry.{name_rows, name_room, names_size, nums_size, name_count, length_at, name_at}
use Rattle.lookup.specs.declared.look.LookedUp.{LookedUp}
use Rattle.lookup.specs.LookedUp.{rows_added, new_core, new_name}
use Rattle.store.specs.Store.{row_or, target_row, store_name, taken_names, taken_nums}
use Rattle.store.proofs.Stores.{length_store_name}
use Rattle.promises.proofs.RowStores.{length_if}
use Rattle.promises.proofs.Columns.{is_new_core, is_new_target}
use Rattle.promises.proofs.Entries.{length_taken}

-- ---- the bytes of a name

-- k bytes from n on are not reached by bytes written before them, nor by bytes written after them
written_before : (vs l : List ℕ) (at n k : ℕ) → at + length vs ≤ n → take k (drop n (written l at vs)) ≡ take k (drop n l)
unfolding written
written_before [] l at n k h = refl
written_before (v ∷ vs) l at n k h = written_before vs (set l at v) (suc at) n k (omega arith) ∙ ap (take k) (drop-set-lt n l at v (omega arith))

written_after : (vs l : List ℕ) (at n k : ℕ) → n + k ≤ at → take k (drop n (written l at vs)) ≡ take k (drop n l)
unfolding written
written_after [] l at n k h = refl
written_after (v ∷ vs) l at n k h =
    let e : at ≡ n + (at - n) = omega arith in
    written_after vs (set l at v) (suc at) n k (omega arith)
    ∙ ap (λ (i : ℕ). take k (drop n (set l i v))) e
    ∙ ap (take k) (drop-set-add n l (at - n) v)
    ∙ take-set-le k (drop n l) (at - n) v (omega arith)

module _ (names : List ℕ) (i : ℕ) (name : List ℕ) (f : length name ≤ name_room) where
  name_beside : (r k : ℕ) → k ≤ name_room → eqb r i ≡ false → take k (drop (name_room * r) (store_name names i name)) ≡ take k (drop (name_room * r) names)
  unfolding store_name put
  name_beside r k h e = by_test (ltb i name_rows) (leb (name_room * i + length name) (length names))
    where
      by_side : (r < i) ⊎ (i ≤ r) → take k (drop (name_room * r) (written names (name_room * i) name)) ≡ take k (drop (name_room * r) names)
      by_side (inl l) = written_after name names (name_room * i) (name_room * r) k (omega arith)
      by_side (inr l) = let d = eqb-false r i e in written_before name names (name_room * i) (name_room * r) k (omega arith)

      by_test : (a b : Bool) →
          let named = cond b (after (name_room * i + length name) (written names (name_room * i) name)) (after (name_room * i) names) in
          take k (drop (name_room * r) (cond a named.output names)) ≡ take k (drop (name_room * r) names)
      by_test true true = by_side (lt_or_ge r i)
      by_test true false = refl
      by_test false b = refl

  name_own : length names ≡ names_size → i < name_rows → take (length name) (drop (name_room * i) (store_name names i name)) ≡ name
  unfolding store_name
  name_own z h =
      let fits : name_room * i + length name ≤ length names = omega arith in
      let front : length (take (name_room * i) names) ≡ name_room * i = length-take-le (name_room * i) names (omega arith) in
      rw (
        lt-ltb i name_rows h,
        put_fits names (name_room * i) name fits,
        written_parts names (name_room * i) name fits,
        append_assoc,
        drop_at (take (name_room * i) names) _ (name_room * i) front,
      )
      (take-append_seam name _)

  name_if : (b : Bool) (r k : ℕ) → k ≤ name_room → b && eqb r i ≡ false →
      take k (drop (name_room * r) (cond b (store_name names i name) names)) ≡ take k (drop (name_room * r) names)
  name_if true r k h e = name_beside r k h e
  name_if false r k h e = refl

-- the new core's row is not the new target's
new_apart : (nums : List ℕ) (s : LookedUp) (k : ℕ) → new_core s ≡ 1 → is_new_target nums s k (name_count nums) ≡ false
unfolding target_row
new_apart nums s k e = rw e (by_target (is_tracked k) s.target)
  where
    by_target : (b : Bool) (f : Option ℕ) → eqb (rows_added b f) 1 && eqb (name_count nums) (row_or f (name_count nums + 1)) ≡ false
    by_target false f = refl
    by_target true (Some i) = refl
    by_target true None = ne_eqb (name_count nums) (name_count nums + 1) (λ q. omega arith)

module _ (names nums : List ℕ) (s : LookedUp) (e : Event) (f : length e.source ≤ name_room) (g : length e.target ≤ name_room) where
  abbrev cores_named : List ℕ
  cores_named = cond (eqb (new_core s) 1) (store_name names (name_count nums) e.source) names

  -- the names after it
  abbrev next : List ℕ
  next = taken_names names nums s e.kind e.source e.target

  bytes_beside : (r k : ℕ) → k ≤ name_room → is_new_target nums s e.kind r ≡ false →
      take k (drop (name_room * r) next) ≡ take k (drop (name_room * r) cores_named)
  unfolding taken_names
  bytes_beside r k h p = name_if cores_named (target_row nums s) e.target g (eqb (new_name s e.kind) 1) r k h p

  bytes_kept : (r k : ℕ) → k ≤ name_room → is_new_target nums s e.kind r ≡ false → is_new_core nums s r ≡ false →
      take k (drop (name_room * r) next) ≡ take k (drop (name_room * r) names)
  bytes_kept r k h p q = bytes_beside r k h p ∙ name_if names (name_count nums) e.source f (eqb (new_core s) 1) r k h q

  module _ (z : length names ≡ names_size) where
    bytes_core : new_core s ≡ 1 → name_count nums < name_rows → take (length e.source) (drop (name_room * name_count nums) next) ≡ e.source
    bytes_core p h =
        bytes_beside (name_count nums) (length e.source) f (new_apart nums s e.kind p)
        ∙ rw p (name_own names (name_count nums) e.source f z h)

    bytes_target : new_name s e.kind ≡ 1 → target_row nums s < name_rows → take (length e.target) (drop (name_room * target_row nums s) next) ≡ e.target
    unfolding taken_names
    bytes_target p h =
        let y = length_if (eqb (new_core s) 1) _ names (length_store_name names (name_count nums) e.source) ∙ z in
        rw p (name_own cores_named (target_row nums s) e.target g y h)

-- ---- the name in a row, and its length

module _ (names nums : List ℕ) (y : length names ≡ names_size) (z : length nums ≡ nums_size) (s : LookedUp) (t : ℕ) (e : Event)
    (f : length e.source ≤ name_room) (g : length e.target ≤ name_room) where
  -- the name n is in the row r after the line
  abbrev pub NameNext : ℕ → List ℕ → Type 0
  NameNext r n =
      (name_at (next names nums s e f g) (taken_nums nums s t e) r ≡ n)
      × (length_at (taken_nums nums s t e) r ≡ length n)

  -- the bytes and the length make the name
  named : (r : ℕ) (n : List ℕ) → length_at (taken_nums nums s t e) r ≡ length n →
      take (length n) (drop (name_room * r) (next names nums s e f g)) ≡ n → NameNext r n
  named r n k b = (rw k b, k)

  -- a row that is not new keeps its name
  pub name_kept : (r : ℕ) (n : List ℕ) → r < name_rows → is_new_target nums s e.kind r ≡ false → is_new_core nums s r ≡ false →
      length n ≤ name_room → name_at names nums r ≡ n → length_at nums r ≡ length n → NameNext r n
  name_kept r n h p q l b k =
      named r n (length_taken nums z s t e r h ∙ rw (p, q) k)
      (bytes_kept names nums s e f g r (length n) l p q ∙ rw k at b)

  pub name_of_core : new_core s ≡ 1 → name_count nums < name_rows → NameNext (name_count nums) e.source
  name_of_core p h =
      named (name_count nums) e.source
      (length_taken nums z s t e (name_count nums) h
      ∙ rw (new_apart nums s e.kind p, p, eq-eqb (name_count nums) (name_count nums) refl) (omega arith))
      (bytes_core names nums s e f g y p h)

  pub name_of_target : new_name s e.kind ≡ 1 → target_row nums s < name_rows → NameNext (target_row nums s) e.target
  name_of_target p h =
      named (target_row nums s) e.target
      (length_taken nums z s t e (target_row nums s) h
      ∙ rw (p, eq-eqb (target_row nums s) (target_row nums s) refl) (omega arith))
      (bytes_target names nums s e f g y p h)
