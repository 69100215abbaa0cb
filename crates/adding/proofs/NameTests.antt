-- The names of both sections, put in order one section after the other and then compared: what is found at each exit.
use mathlib.Core.Path.{◌≡◌, sym, subst, ◌∙◌}
use mathlib.Core.Bool.{Bool, true, false, not}
use mathlib.Core.List.{List, map}
use Prim.Native.Nat.{ℕ, ◌-◌}
use native.Mathlib.Omega.{arith}
use lib.ListN.{length, take}
use borrow.Author.Tests.{not-false}
use Rattle.text.specs.Sizes.{name_limit, core_limit}
use Rattle.sorting.specs.Sets.{meets, sorted_by, rising}
use Rattle.sorting.proofs.Keys.{map_sorted, rising_keys}
use Rattle.sorting.proofs.Meets.{meets_sorted}
use Rattle.paper.specs.Lines.{name_at}
use Rattle.adding.specs.SortCode.{SortedInto, Sorting}
use Rattle.adding.specs.SheetCode.{OrderedAs, NamesOnce}

-- sections in order meet exactly if they do as they were
meets_in_order : (text cs ps : List ℕ) → meets (map (name_at text) (sorted_by (name_at text) cs)) (map (name_at text) (sorted_by (name_at text) ps)) ≡ meets (map (name_at text) cs) (map (name_at text) ps)
meets_in_order text cs ps = rw (map_sorted (name_at text) cs, map_sorted (name_at text) ps) (meets_sorted (map (name_at text) cs) (map (name_at text) ps))

module _ (text cs ps : List ℕ) where
  module _ (cores : List ℕ) (h : length cores ≡ core_limit) (r : Bool) (s : Sorting text cs cores r) where
    module _ (e : not r ≡ false) where
      core_told : SortedInto text cs cores
      core_told = subst (λ t. Sorting text cs cores t) (not-false r e) s

      core_front : take (length cs - 0) cores ≡ sorted_by (name_at text) cs
      core_front = let n : length cs - 0 ≡ length cs = omega arith in rw n core_told.rows

      module _ (processes : List ℕ) (g : length processes ≡ name_limit) (q : Bool) (t : Sorting text ps processes q) where
        module _ (d : not q ≡ false) where
          process_told : SortedInto text ps processes
          process_told = subst (λ u. Sorting text ps processes u) (not-false q d) t

          process_front : take (length ps - 0) processes ≡ sorted_by (name_at text) ps
          process_front = let n : length ps - 0 ≡ length ps = omega arith in rw n process_told.rows

          pub both_rise : (rising (map (name_at text) (take (length cs - 0) cores)) ≡ true) × (rising (map (name_at text) (take (length ps - 0) processes)) ≡ true)
          both_rise = (rw core_front (rising_keys (name_at text) cs), rw process_front (rising_keys (name_at text) ps))

          both_told : (m : Bool) → meets (map (name_at text) cs) (map (name_at text) ps) ≡ m → OrderedAs (not m) text cs ps cores processes
          both_told true k = rw (core_told.once, process_told.once) k
          both_told false k = record {
            cores_once = core_told.once;
            processes_once = process_told.once;
            apart = k;
            core_order = core_told.rows;
            process_order = process_told.rows;
          }

          pub compared : (m : Bool) → m ≡ meets (map (name_at text) (take (length cs - 0) cores)) (map (name_at text) (take (length ps - 0) processes)) → NamesOnce text cs ps cores processes (not m)
          compared m k = record {
            cores_sized = h;
            processes_sized = g;
            told = both_told m (sym (meets_in_order text cs ps) ∙ rw (← core_front, ← process_front) (sym k));
          }
