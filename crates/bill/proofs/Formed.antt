-- Lines whose form passes the tests are the lines of the bill that is read of them.
use mathlib.Core.Path.{◌≡◌, refl, sym, ap, ◌∙◌}
use mathlib.Core.Bool.{Bool, true}
use mathlib.Core.List.{List, [], ◌∷◌, ◌++◌, map}
use Prim.Native.Nat.{ℕ, ◌≤◌}
use native.Mathlib.Omega.{arith}
use lib.ListN.{length, get_or, take, drop, length-drop, length-map, take-append-drop}
use lib.Seq.{length-take-le}
use Rattle.text.proofs.Bools.{and_l, and_r}
use Rattle.bill.specs.declared.section.Section.TheVariants.{Cores, Processes}
use Rattle.bill.specs.Text.{title}
use Rattle.bill.specs.Reading.{count_in, count_exact, row_from, rows_exact, core_count, process_count, bill_from, at_end, all_of, form_tests}
use Rattle.bill.proofs.Lines.{head_line, section_lines, cores_part, bill_pieces}
use Rattle.bill.proofs.LineReadings.{head_low, head_high, head_exact_lem, count_exact_lem, rows_exact_lem}

-- ---- the tests taken apart

at_end_lem : (ls : List (List ℕ)) → at_end ls ≡ true → ls ≡ [] ∷ []
at_end_lem [] e = cc
at_end_lem ([] ∷ []) e = refl
at_end_lem ([] ∷ l ∷ ls) e = cc
at_end_lem ((x ∷ l) ∷ ls) e = cc

abbrev pub AllPass : List Bool → Type 0
AllPass [] = Unit {0}
AllPass (b ∷ bs) = (b ≡ true) × AllPass bs

pub all_pass : (bs : List Bool) → all_of bs ≡ true → AllPass bs
all_pass [] e = tt
all_pass (b ∷ bs) e = (and_l b (all_of bs) e, all_pass bs (and_r b (all_of bs) e))

-- ---- a section's first line, as many rows as it says, and something after them

module _ (head line : List ℕ) (ls : List (List ℕ)) (more : 1 ≤ length (drop (count_in head line) ls)) where
  abbrev n : ℕ
  n = count_in head line

  rows_count : length (map row_from (take n ls)) ≡ n
  rows_count = length-map (take n ls) row_from ∙ length-take-le n ls (omega (arith, length-drop n ls))

  section_exact : count_exact head line ≡ true → rows_exact (take n ls) ≡ true → section_lines head (map row_from (take n ls)) ++ drop n ls ≡ line ∷ ls
  section_exact e r = rw (rows_count, rows_exact_lem (take n ls) r, take-append-drop n ls, ← count_exact_lem head line e)

-- ---- the lines from the processes' title on: how many rows they have to have, and these

abbrev last_count : List (List ℕ) → ℕ
last_count rest = count_in (title Processes) (get_or rest 0 [])

abbrev last_lines : List (List ℕ) → List (List ℕ)
last_lines rest = take (last_count rest) (drop 1 rest)

last_exact : (rest : List (List ℕ)) → count_exact (title Processes) (get_or rest 0 []) ≡ true → rows_exact (last_lines rest) ≡ true → at_end (drop (last_count rest) (drop 1 rest)) ≡ true
    → (section_lines (title Processes) (map row_from (last_lines rest)) ++ ([] ∷ []) ≡ rest) × (length (map row_from (last_lines rest)) ≡ last_count rest)
last_exact [] e r z = let q = count_exact_lem (title Processes) [] e in (cc, cc)
last_exact (p ∷ ls) e r z =
    let d = at_end_lem (drop (count_in (title Processes) p) ls) z in
    let more : 1 ≤ length (drop (count_in (title Processes) p) ls) = omega (arith, ap length d) in
    (rw d at (section_exact (title Processes) p ls more e r), rows_count (title Processes) p ls more)

-- ---- all lines

-- such lines are those of the bill that is read of them, which has as many rows as they count and a time scale with a word
pub record Exact (ls : List (List ℕ)) : Type 0 where
  pub lines : bill_pieces (bill_from ls) ≡ ls
  pub low : 1 ≤ (bill_from ls).scale
  pub high : (bill_from ls).scale ≤ 5
  pub cores : length (bill_from ls).sheet.cores ≡ core_count ls
  pub processes : length (bill_from ls).sheet.processes ≡ process_count ls

pub exact : (ls : List (List ℕ)) → all_of (form_tests ls) ≡ true → Exact ls
unfolding form_tests bill_from
exact [] e =
    let q = head_exact_lem [] (all_pass (form_tests []) e).0 in
    let z : ◌≡◌ {A = ℕ} 0 1 = cc in
    absurd (omega arith)
exact (l ∷ []) e =
    let q = count_exact_lem (title Cores) [] (all_pass (form_tests (l ∷ [])) e).1.0 in
    let z : ◌≡◌ {A = ℕ} 0 1 = cc in
    absurd (omega arith)
exact (l ∷ k ∷ ls) e =
    let v = all_pass (form_tests (l ∷ k ∷ ls)) e in
    let w = v.1.1.1 in
    let b = bill_from (l ∷ k ∷ ls) in
    let rest = drop (count_in (title Cores) k) ls in
    let last = last_exact rest w.0 w.1.0 w.1.1.0 in
    let more : 1 ≤ length rest = omega (arith, ap length last.0) in
    record {
      lines =
          ap (λ (ps : List (List ℕ)). head_line b.scale b.sheet.span ∷ (cores_part b ++ ps)) last.0
          ∙ ap (λ (ps : List (List ℕ)). head_line b.scale b.sheet.span ∷ ps) (section_exact (title Cores) k ls more v.1.0 v.1.1.0)
          ∙ ap (λ (h : List ℕ). h ∷ k ∷ ls) (sym (head_exact_lem l v.0));
      low = head_low l v.0;
      high = head_high l v.0;
      cores = rows_count (title Cores) k ls more;
      processes = last.1;
    }
