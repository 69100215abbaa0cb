-- The sum of two sound bills that is not refused is sound (`sum_fine`): "The sum keeps demand 3's two totals". Its names are in order, each once.
use mathlib.Core.Path.{◌≡◌, refl, sym, ap, ap₂, ◌∙◌}
use mathlib.Core.Bool.{Bool, true, false, ◌||◌, or_assoc}
use mathlib.Core.List.{List, [], ◌∷◌, ◌++◌}
use Prim.Native.Nat.{ℕ, ◌+◌}
use native.Mathlib.Omega.{arith}
use Rattle.text.specs.Lists.{sum_over}
use Rattle.text.proofs.Lists.{sum_cong, sum_add}
use Rattle.bill.specs.Rows.{Row}
use Rattle.bill.specs.Reading.{Bill}
use Rattle.sorting.specs.Order.{Name}
use Rattle.sorting.specs.Sets.{meets, twice, sorted, rising}
use Rattle.sorting.proofs.Sets.{sorted_two}
use Rattle.sorting.proofs.Rising.{sum_beside}
use Rattle.sorting.proofs.Meets.{meets_append, meets_sorted}
use Rattle.shifts.specs.Sound.{names, first, firsts}
use Rattle.shifts.specs.Sum.{plus, figures_of, rows_of, add_rows, no_core, no_process, sum, clash, refusal}
use Rattle.shifts.proofs.Rows.{plus_first, figures_missing, rows_own, names_add}
use Rattle.shifts.proofs.Fine.{Fine}
use Rattle.shifts.proofs.AddedRows.{rising_add, once_add, named_add, counts_add, totals_add}
use Rattle.shifts.proofs.Refusals.{addable_exactly}

-- ---- the first figures add up: held ticks, and charges

firsts_rows : (f : Name → List ℕ) (ns : List Name) → firsts (rows_of f ns) ≡ sum_over (λ n. first (f n)) ns
unfolding names rows_of
firsts_rows f [] = refl
firsts_rows f (n ∷ ns) = ap (λ (k : ℕ). first (f n) + k) (firsts_rows f ns)

-- a section's own, over the names of both
own_firsts : (d : List ℕ) (rs qs : List Row) → first d ≡ 0 → twice (names rs) ≡ false →
    sum_over (λ n. first (figures_of d rs n)) (sorted (names rs ++ names qs)) ≡ firsts rs
own_firsts d rs qs z e =
    sum_beside (λ n. first (figures_of d rs n)) (names rs) (names qs) e (λ n h. ap first (figures_missing d rs n h) ∙ z)
    ∙ sym (firsts_rows (figures_of d rs) (names rs)) ∙ ap firsts (rows_own d rs e)

firsts_add : (x y : List ℕ) (rs qs : List Row) → first x ≡ 0 → first y ≡ 0 → twice (names rs) ≡ false → twice (names qs) ≡ false →
    firsts (add_rows x y rs qs) ≡ firsts rs + firsts qs
unfolding add_rows
firsts_add x y rs qs zx zy e f =
    firsts_rows (λ n. plus (figures_of x rs n) (figures_of y qs n)) ns
    ∙ sum_cong _ _ ns (λ n. plus_first (figures_of x rs n) (figures_of y qs n))
    ∙ sum_add (λ n. first (figures_of x rs n)) (λ n. first (figures_of y qs n)) ns
    ∙ ap₂ ◌+◌ (own_firsts x rs qs zx e) (ap (sum_over (λ n. first (figures_of y qs n))) (sorted_two (names rs) (names qs)) ∙ own_firsts y qs rs zy f)
  where
    ns : List Name
    ns = sorted (names rs ++ names qs)

-- ---- cores and processes stay apart

-- some name is in both sections
abbrev pub mixed : Bill → Bool
mixed b = meets (names b.sheet.cores) (names b.sheet.processes)

module _ (a b : Bill) where
  pub mixed_sum : mixed (sum a b) ≡ mixed a || clash a b || mixed b
  unfolding clash sum
  mixed_sum =
      let cs = names a.sheet.cores in
      let ds = names b.sheet.cores in
      let ps = names a.sheet.processes in
      let qs = names b.sheet.processes in
      rw (names_add (no_core a) (no_core b) a.sheet.cores b.sheet.cores, names_add no_process no_process a.sheet.processes b.sheet.processes)
      (meets_sorted (cs ++ ds) (ps ++ qs) ∙ meets_append cs ds ps qs ∙ inner (meets cs ps) (meets cs qs) (meets ds ps) (meets ds qs))
    where
      inner : (p q r s : Bool) → (p || q) || (r || s) ≡ p || (q || r) || s
      inner p q r s = sym (or_assoc (p || q) r s) ∙ ap (λ (t : Bool). t || s) (or_assoc p q r)

  -- ---- the sum

  pub sum_fine : Fine a → Fine b → refusal a b ≡ 0 → Fine (sum a b)
  unfolding sum
  sum_fine f g e =
      let k = (addable_exactly a b).0 e in
      let cs = a.sheet.cores in
      let ds = b.sheet.cores in
      let ps = a.sheet.processes in
      let qs = b.sheet.processes in
      record {
        low = f.low;
        high = f.high;
        short = k.short;
        core_names = named_add (no_core a) (no_core b) cs ds f.core_names g.core_names;
        process_names = named_add no_process no_process ps qs f.process_names g.process_names;
        core_counts = counts_add (no_core a) (no_core b) cs ds 3 refl refl f.core_counts g.core_counts;
        process_counts = counts_add no_process no_process ps qs 1 refl refl f.process_counts g.process_counts;
        cores_once = once_add (no_core a) (no_core b) cs ds;
        processes_once = once_add no_process no_process ps qs;
        apart = mixed_sum ∙ rw (f.apart, k.apart, g.apart);
        few = k.few;
        spans = totals_add (no_core a) (no_core b) cs ds a.sheet.span b.sheet.span (omega arith) (omega arith) f.spans g.spans;
        charges =
            firsts_add (no_core a) (no_core b) cs ds refl refl f.cores_once g.cores_once
            ∙ ap₂ ◌+◌ f.charges g.charges
            ∙ sym (firsts_add no_process no_process ps qs refl refl f.processes_once g.processes_once);
      }

  pub cores_rise : rising (names (sum a b).sheet.cores) ≡ true
  unfolding sum
  cores_rise = rising_add (no_core a) (no_core b) a.sheet.cores b.sheet.cores

  pub processes_rise : rising (names (sum a b).sheet.processes) ≡ true
  unfolding sum
  processes_rise = rising_add no_process no_process a.sheet.processes b.sheet.processes
