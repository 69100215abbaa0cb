-- While a process or runnable has no first number, each of its instances that were seen has a row: so a number is above all that the rows have of it exactly if it is above all
-- that were seen of it.
use Rattle.std.proofs.Common.{None, Some, Option, is_none}
use mathlib.Core.Path.{◌≡◌, refl, sym, ap, subst, ◌∙◌}
use mathlib.Core.Bool.{Bool, true, false, not, cond}
use mathlib.Core.List.{List}
use Prim.Native.Nat.{ℕ}
use native.Mathlib.Omega.{arith}
use borrow.Author.Tests.{lt-ltb}
use Rattle.text.specs.Bytes.{same_bytes}
use Rattle.text.specs.Lists.{any}
use Rattle.text.proofs.Bools.{is_false}
use Rattle.text.proofs.Words.{same_eq, same_refl}
use Rattle.rules.specs.Event.{Event, same_instance}
use Rattle.rules.specs.History.{names, kind_of, instances, first_number, is_from, above_all}
use Rattle.rules.specs.Verdict.{Accepted}
use Rattle.rules.proofs.Tests.{clash, instance_true, instance_refl}
use Rattle.rules.proofs.Sums.{any_some, some_any}
use Rattle.rules.proofs.Activations.{what_from, is_from_lem}
use Rattle.rules.proofs.Entries.{entry_listed, none_given_back}
use Rattle.tables.specs.Entry.{name_rows, instance_count}
use Rattle.lookup.specs.Find.{last_below, reaches_in}
use Rattle.lookup.specs.LookedUp.{above_in}
use Rattle.lookup.proofs.Found.{last_at, last_none, from_found, reaches_means}
use Rattle.judge.specs.Feed.{Tables}
use Rattle.promises.specs.Places.{seek, row_of}
use Rattle.promises.specs.Shown.{Shown}
use Rattle.promises.proofs.Places.{place_one}
use Rattle.promises.proofs.Listed.{instance_kind, instance_named}
use Rattle.promises.proofs.Lookups.{name_below, instance_below}

module _ (h : List Event) (a : Accepted h) (t : Tables) (s : Shown h t) (k : ℕ) (n : List ℕ) (i : ℕ) (unnumbered : first_number k n h ≡ None) where
  abbrev seen : Bool
  seen = any (is_from k n i) (instances h)

  -- a name that has no row has no instances
  unlisted : any (same_bytes n) (names h) ≡ false → seen ≡ false
  unlisted q =
      is_false _ (λ b.
      let r = any_some same_instance instance_true instance_refl (is_from k n i) (instances h) b in
      let w = what_from k n i r.0 r.1 in
      clash _ (subst (λ (m : List ℕ). any (same_bytes m) (names h) ≡ true) (sym w.of_name) (instance_named h a r.0 r.2)) q)

  module _ (d : (j : ℕ) → kind_of n h ≡ Some j → j ≡ k) (q : any (same_bytes n) (names h) ≡ true) where
    abbrev rows : ℕ → Bool
    rows = reaches_in t.nums (row_of h n) i

    by_found : (r : Option ℕ) → last_below rows (instance_count t.nums) ≡ r → is_none r ≡ not seen
    by_found (Some j) p =
        let l = last_at rows (instance_count t.nums) j p in
        let c = (reaches_means t.nums (row_of h n) i j).holds l.1 in
        let r = s.instance_rows_shown.owned j l.0 in
        let z : r.0.name ≡ n = place_one same_bytes same_eq same_refl r.0.name n (names h) (instance_named h a r.0 (entry_listed h r.0 r.1)) q (sym r.2.owner ∙ c.1.1) in
        let y : r.0.kind ≡ k = d r.0.kind (ap (λ (m : List ℕ). kind_of m h) (sym z) ∙ (instance_kind h a r.0 (entry_listed h r.0 r.1)).1) in
        let from = is_from_lem k n i r.0 (record { of_kind = sym y; of_name = sym z; high = omega (arith, c.1.0, r.2.number) }) in
        sym (ap not (some_any same_instance instance_true instance_refl (is_from k n i) (instances h) r.0 from (entry_listed h r.0 r.1)))
    by_found None p =
        sym (ap not (is_false _ (λ b.
        let r = any_some same_instance instance_true instance_refl (is_from k n i) (instances h) b in
        let w = what_from k n i r.0 r.1 in
        let x = s.instance_rows_shown.each r.0 (none_given_back h r.0 (rw (← w.of_kind, ← w.of_name) unnumbered) ∙ r.2) in
        clash _
        ((reaches_means t.nums (row_of h n) i x.0).shows
        (instance_below h a t s x.0 r.0 x.1, (omega (arith, x.1.number, w.high), x.1.owner ∙ ap (row_of h) (sym w.of_name))))
        (last_none rows (instance_count t.nums) p x.0 x.1.below))))

  pub above_told : ((j : ℕ) → kind_of n h ≡ Some j → j ≡ k) → above_in t.nums (seek (same_bytes n) (names h)) i ≡ above_all k n i h
  unfolding seek above_all
  above_told d = by_test (any (same_bytes n) (names h)) refl
    where
      by_test : (b : Bool) → any (same_bytes n) (names h) ≡ b → above_in t.nums (cond b (Some (row_of h n)) None) i ≡ not seen
      by_test true q =
          rw (lt-ltb (row_of h n) name_rows (name_below h a n q), from_found t.nums (row_of h n) i s.sized.nums_sized) (by_found d q _ refl)
      by_test false q = sym (ap not (unlisted q))
