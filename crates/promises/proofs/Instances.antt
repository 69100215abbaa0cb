-- A line that is taken keeps what the rows of instances show, wherever they lie: the row of its own instance shows it, every other row shows the instance that it did, at the place that it
-- then has, and no two rows are alike.
use Rattle.std.proofs.Common.{Some}
use mathlib.Core.Path.{◌≡◌, refl, sym, ap, subst, ◌∙◌}
use mathlib.Core.Bool.{Bool, true, false}
use mathlib.Core.Logic.{⊎_elim}
use mathlib.Core.List.{List, ◌∷◌}
use Prim.Native.Nat.{ℕ, ◌<◌}
use native.Mathlib.Omega.{arith}
use Rattle.text.proofs.Bools.{is_false}
use Rattle.rules.specs.Event.{Event, Instance, same_instance, instance_of, state_of}
use Rattle.rules.specs.History.{has_instances, kind_of, has_entry}
use Rattle.rules.specs.Verdict.{Accepted}
use Rattle.rules.proofs.Tests.{clash, instance_true, instance_refl}
use Rattle.rules.proofs.Changes.{state_other}
use Rattle.rules.proofs.Answers.{Passed, passed_accepted}
use Rattle.rules.proofs.Meets.{Met}
use Rattle.rules.proofs.Seen.{own_number}
use Rattle.rules.proofs.Entries.{entry_listed, entry_else}
use Rattle.steps.specs.Rows.{opened}
use Rattle.tables.specs.Entry.{instance_count, owner_at, instance_at}
use Rattle.store.specs.Store.{target_row, taken_tables}
use Rattle.judge.specs.Feed.{Tables}
use Rattle.promises.specs.Places.{row_of}
use Rattle.promises.specs.Shown.{InstanceShown, InstancesShown, Shown}
use Rattle.promises.specs.Taken.{looked_up_in}
use Rattle.promises.proofs.KindTests.{instances_tracked}
use Rattle.promises.proofs.Listed.{instance_kind, instance_named, one_instance, AllMet}
use Rattle.promises.proofs.Grown.{row_stays}
use Rattle.promises.proofs.Lookups.{target_row_lem}
use Rattle.promises.proofs.Moves.{SameRow, HasRow}
use Rattle.promises.proofs.RowsAfter.{RowsAfter, rows_after}

module _ (h : List Event) (a : Accepted h) (met : AllMet h) (t : Tables) (s : Shown h t) (e : Event) (f : Passed h e) (m : Met e) (state : ℕ)
    (l : opened state ≡ state_of (instance_of e) (e ∷ h)) where
  abbrev nums : List ℕ
  nums = t.nums

  abbrev after : Tables
  after = taken_tables t (looked_up_in h t e) state e

  abbrev own : Instance
  own = instance_of e

  -- the rows after it
  abbrev rows : RowsAfter h a met t s e f m state l after.nums
  rows = rows_after h a met t s e f m state l

  -- ---- what each row shows

  own_shown : has_instances e.kind ≡ true → (q : ℕ) → HasRow after.nums q (target_row t.nums (looked_up_in h t e)) e.target_instance state → InstanceShown (e ∷ h) after.nums q own
  own_shown i q w = record {
    below = w.below;
    owner = w.owner ∙ target_row_lem h t s e f.kinds (instances_tracked e.kind i);
    number = w.number ∙ sym (own_number e i);
    state = ap opened w.state ∙ l;
  }

  -- an entry is of its name's own kind, which has instances
  kind_after : (x : Instance) → has_entry (e ∷ h) x ≡ true → (has_instances x.kind ≡ true) × (kind_of x.name (e ∷ h) ≡ Some x.kind)
  kind_after x q = instance_kind (e ∷ h) (passed_accepted h a e f) x (entry_listed (e ∷ h) x q)

  module _ (x : Instance) (p : has_entry h x ≡ true) (d : same_instance x own ≡ false) where
    other_shown : (r q : ℕ) → InstanceShown h nums r x → q < instance_count after.nums → SameRow nums after.nums r q → InstanceShown (e ∷ h) after.nums q x
    other_shown r q w b u = record {
      below = b;
      owner = u.owner ∙ w.owner ∙ sym (row_stays h e f.kinds x.name (instance_named h a x (entry_listed h x p)));
      number = u.number ∙ w.number;
      state = ap opened u.state ∙ w.state ∙ sym (state_other x e h d);
    }

    -- its row is not that of the line's instance
    not_row : (r : ℕ) → InstanceShown h nums r x → r ≡ rows.row → ⊥
    not_row r w z = by_entry (has_entry h own) refl
      where
        by_entry : (b : Bool) → has_entry h own ≡ b → ⊥
        by_entry true q =
            let y = rows.had q in
            let k = one_instance h x own (instance_kind h a x (entry_listed h x p)).1 (instance_kind h a own (entry_listed h own q)).1
            (sym w.owner ∙ ap (owner_at nums) z ∙ y.owner)
            (sym w.number ∙ ap (instance_at nums) z ∙ y.number) in
            clash _ (subst (λ (y : Instance). same_instance x y ≡ true) k (instance_refl x)) d
        by_entry false q = omega (arith, w.below, rows.had_none q)

  -- ---- each instance with an entry has a row

  each_next : (x : Instance) → has_entry (e ∷ h) x ≡ true → (j : ℕ) × InstanceShown (e ∷ h) after.nums j x
  each_next x q = by_same (same_instance x own) refl
    where
      by_same : (b : Bool) → same_instance x own ≡ b → (j : ℕ) × InstanceShown (e ∷ h) after.nums j x
      by_same true u =
          let z = instance_true x own u in
          let q' = subst (λ (y : Instance). has_entry (e ∷ h) y ≡ true) z q in
          (rows.to, subst (InstanceShown (e ∷ h) after.nums rows.to) (sym z) (own_shown (kind_after own q').0 rows.to (rows.has q')))
      by_same false u =
          let p = sym (entry_else h e f.number x u) ∙ q in
          let r = s.instance_rows_shown.each x p in
          let c = rows.carried.kept r.0 r.1.below (not_row x p u r.0 r.1) in
          (rows.carried.place r.0, other_shown x p u r.0 _ r.1 c.0 c.1)

  -- ---- each row is an instance's, and no two are alike

  -- a row is the line's own, or it was there, shows another, and keeps it
  data RowNext (q : ℕ) : Type 0 where
    stored : has_entry (e ∷ h) own ≡ true → q ≡ rows.to → RowNext q
    other : (r : ℕ) (x : Instance) → has_entry h x ≡ true → same_instance x own ≡ false → InstanceShown h nums r x → q ≡ rows.carried.place r →
        SameRow nums after.nums r q → RowNext q

  row_next : (q : ℕ) → q < instance_count after.nums → RowNext q
  row_next q b = ⊎_elim (λ y. stored y.0 y.1) (λ r. from r.0 r.1 r.2 r.3) (rows.carried.from q b)
    where
      from : (r : ℕ) → r < instance_count nums → (r ≡ rows.row → ⊥) → q ≡ rows.carried.place r → RowNext q
      from r b d z =
          let w = s.instance_rows_shown.owned r b in
          let c = rows.carried.kept r b d in
          other r w.0 w.1 (is_false _ (apart w)) w.2 z (subst (SameRow nums after.nums r) (sym z) c.1)
        where
          apart : (w : (x : Instance) × (has_entry h x ≡ true) × InstanceShown h nums r x) → same_instance w.0 own ≡ true → ⊥
          apart (x, p, w) u =
              let y = instance_true x own u in
              let k = rows.had (subst (λ (y : Instance). has_entry h y ≡ true) y p) in
              d (s.instance_rows_shown.kept r rows.row w.below k.below
              (w.owner ∙ ap (λ (y : Instance). row_of h y.name) y ∙ sym k.owner)
              (w.number ∙ ap (λ (y : Instance). y.number) y ∙ sym k.number))

  owned_next : (q : ℕ) → q < instance_count after.nums → (x : Instance) × (has_entry (e ∷ h) x ≡ true) × InstanceShown (e ∷ h) after.nums q x
  owned_next q b = by_row (row_next q b)
    where
      by_row : RowNext q → (x : Instance) × (has_entry (e ∷ h) x ≡ true) × InstanceShown (e ∷ h) after.nums q x
      by_row (stored y z) =
          (own, y, subst (λ (k : ℕ). InstanceShown (e ∷ h) after.nums k own) (sym z) (own_shown (kind_after own y).0 rows.to (rows.has y)))
      by_row (other r x p d w z u) = (x, entry_else h e f.number x d ∙ p, other_shown x p d r q w b u)

  -- no other row has the name and number of the line's instance
  own_alone : (q j : ℕ) → InstanceShown (e ∷ h) after.nums j own → has_entry (e ∷ h) own ≡ true → (x : Instance) → has_entry (e ∷ h) x ≡ true → same_instance x own ≡ false →
      InstanceShown (e ∷ h) after.nums q x → owner_at after.nums q ≡ owner_at after.nums j → instance_at after.nums q ≡ instance_at after.nums j → ⊥
  own_alone q j w y x p d v c n =
      let z = one_instance (e ∷ h) x own (kind_after x p).1 (kind_after own y).1 (sym v.owner ∙ c ∙ w.owner) (sym v.number ∙ n ∙ w.number) in
      clash _ (subst (λ (y : Instance). same_instance x y ≡ true) z (instance_refl x)) d

  kept_next : (j k : ℕ) → j < instance_count after.nums → k < instance_count after.nums →
      owner_at after.nums j ≡ owner_at after.nums k → instance_at after.nums j ≡ instance_at after.nums k → j ≡ k
  kept_next j k b d c n = by_rows (row_next j b) (row_next k d)
    where
      shown_own : has_entry (e ∷ h) own ≡ true → (q : ℕ) → q ≡ rows.to → InstanceShown (e ∷ h) after.nums q own
      shown_own y q z = subst (λ (k : ℕ). InstanceShown (e ∷ h) after.nums k own) (sym z) (own_shown (kind_after own y).0 rows.to (rows.has y))

      by_rows : RowNext j → RowNext k → j ≡ k
      by_rows (stored y z) (stored v w) = z ∙ sym w
      by_rows (stored y z) (other r x p u w v g) =
          absurd (own_alone k j (shown_own y j z) y x (entry_else h e f.number x u ∙ p) u (other_shown x p u r k w d g) (sym c) (sym n))
      by_rows (other r x p u w v g) (stored y z) =
          absurd (own_alone j k (shown_own y k z) y x (entry_else h e f.number x u ∙ p) u (other_shown x p u r j w b g) c n)
      by_rows (other r x p u w v g) (other r' x' p' u' w' v' g') =
          let same = s.instance_rows_shown.kept r r' w.below w'.below (sym g.owner ∙ c ∙ g'.owner) (sym g.number ∙ n ∙ g'.number) in
          v ∙ ap rows.carried.place same ∙ sym v'

  pub instances_next : InstancesShown (e ∷ h) after.nums
  instances_next = record { each = each_next; owned = owned_next; kept = kept_next }
