-- A row of either section: what its tests say of its words.
use Rattle.std.proofs.Common.{None, Some}
use mathlib.Core.Path.{◌≡◌, refl, sym, ap, ◌∙◌}
use mathlib.Core.Bool.{Bool, true, false, ◌&&◌}
use mathlib.Core.List.{List, [], ◌∷◌}
use Prim.Native.Nat.{ℕ, suc, ◌+◌, ◌-◌, ◌≤◌, ◌<◌}
use native.Mathlib.Omega.{arith}
use lib.Dec.{eqb, leb}
use lib.ListN.{length, get_or, drop, length-drop, length-map, drop_of_length-le}
use lib.Seq.{drop-cons}
use borrow.Author.Tests.{eqb-true, eq-eqb, ne_eqb, leb-true}
use Rattle.text.specs.Name.{is_name}
use Rattle.text.specs.Number.{is_number, value_from, number_of}
use Rattle.text.specs.Pieces.{pieces}
use Rattle.text.proofs.Bools.{and_l, and_r, is_false, clash}
use Rattle.text.proofs.Pieces.{pieces_some}
use Rattle.bill.specs.Reading.{word_of, row_from, row_exact}
use Rattle.shifts.specs.Sound.{first}
use Rattle.paper.specs.Rows.{named_of, row_of, core_ok, core_held, process_charge}
use Rattle.paper.proofs.Numbers.{if_value, Told, untold}

-- ---- a line of k words, the first of them a name

module _ (k : ℕ) (line : List ℕ) where
  words_named : length (pieces 32 line) ≡ k → is_name (word_of line 0) ≡ true → named_of k line ≡ true
  unfolding named_of
  words_named w n = rw (eq-eqb (length (pieces 32 line)) k w, n)

  named_words : named_of k line ≡ true → (length (pieces 32 line) ≡ k) × (is_name (word_of line 0) ≡ true)
  unfolding named_of
  named_words e = (eqb-true (length (pieces 32 line)) k (and_l (eqb (length (pieces 32 line)) k) (is_name (word_of line 0)) e), and_r (eqb (length (pieces 32 line)) k) (is_name (word_of line 0)) e)

  -- what the code finds: another number of words, or the name's test
  pub other_words : (length (pieces 32 line) ≡ k → ⊥) → false ≡ named_of k line
  unfolding named_of
  other_words h = rw (ne_eqb (length (pieces 32 line)) k h)

  pub name_tested : {r : Bool} {w : List ℕ} → length (pieces 32 line) ≡ k → w ≡ word_of line 0 → r ≡ is_name w → r ≡ named_of k line
  unfolding named_of
  name_tested n e t = rw (eq-eqb (length (pieces 32 line)) k n, ← e, t)

-- ---- a row with a name and k figures

record RowParts (k : ℕ) (line : List ℕ) : Type 0 where
  named : is_name (word_of line 0) ≡ true
  words : length (pieces 32 line) ≡ suc k
  exact : row_exact line ≡ true

module _ (k : ℕ) (line : List ℕ) where
  figure_count : length (row_from line).figures ≡ length (pieces 32 line) - 1
  unfolding row_from
  figure_count = length-map (drop 1 (pieces 32 line)) (value_from 0) ∙ length-drop 1 (pieces 32 line)

  row_parts : row_of k line ≡ true → RowParts k line
  unfolding row_of
  row_parts e =
      let f = and_r (is_name (word_of line 0)) _ e in
      let n = eqb-true _ k (and_l (eqb (length (row_from line).figures) k) (row_exact line) f) in
      record {
        named = and_l (is_name (word_of line 0)) _ e;
        words = omega (arith, n, figure_count, pieces_some 32 line);
        exact = and_r (eqb (length (row_from line).figures) k) (row_exact line) f;
      }

  parts_row : RowParts k line → row_of k line ≡ true
  unfolding row_of
  parts_row p = rw (p.named, eq-eqb (length (row_from line).figures) k (omega (arith, p.words, figure_count)), p.exact)

-- ---- a core's row

abbrev figure_of : List ℕ → ℕ → ℕ
figure_of line k = value_from 0 (word_of line k)

-- the words after the name, where there are three; where there is one
three_words : (ps : List (List ℕ)) → length ps ≡ 4 → drop 1 ps ≡ get_or ps 1 [] ∷ get_or ps 2 [] ∷ get_or ps 3 [] ∷ []
three_words ps e = rw (drop-cons ps 1 [] (omega arith), drop-cons ps 2 [] (omega arith), drop-cons ps 3 [] (omega arith), drop_of_length-le ps {i = 4} (omega arith))

one_word : (ps : List (List ℕ)) → length ps ≡ 2 → drop 1 ps ≡ get_or ps 1 [] ∷ []
one_word ps e = rw (drop-cons ps 1 [] (omega arith), drop_of_length-le ps {i = 2} (omega arith))

record CoreParts (span : ℕ) (line : List ℕ) : Type 0 where
  named : is_name (word_of line 0) ≡ true
  words : length (pieces 32 line) ≡ 4
  one : is_number (word_of line 1) ≡ true
  two : is_number (word_of line 2) ≡ true
  three : is_number (word_of line 3) ≡ true
  sum : figure_of line 1 + (figure_of line 2 + figure_of line 3) ≡ span

module _ (span : ℕ) (line : List ℕ) where
  core_figures_lem : length (pieces 32 line) ≡ 4 → (row_from line).figures ≡ figure_of line 1 ∷ figure_of line 2 ∷ figure_of line 3 ∷ []
  unfolding row_from
  core_figures_lem e = rw (three_words (pieces 32 line) e)

  core_exact : length (pieces 32 line) ≡ 4 → row_exact line ≡ is_number (word_of line 1) && (is_number (word_of line 2) && (is_number (word_of line 3) && true))
  unfolding row_exact
  core_exact e = rw (three_words (pieces 32 line) e)

  core_parts : core_ok span line ≡ true → CoreParts span line
  unfolding core_ok
  core_parts e =
      let p = row_parts 3 line (and_l (row_of 3 line) _ e) in
      let n = sym (core_exact p.words) ∙ p.exact in
      let m = and_r (is_number (word_of line 1)) _ n in
      let s = eqb-true _ span (and_r (row_of 3 line) _ e) in
      record {
        named = p.named;
        words = p.words;
        one = and_l (is_number (word_of line 1)) _ n;
        two = and_l (is_number (word_of line 2)) _ m;
        three = and_l (is_number (word_of line 3)) true (and_r (is_number (word_of line 2)) _ m);
        sum = omega (arith, rw (core_figures_lem p.words) at s);
      }

  parts_core : CoreParts span line → core_ok span line ≡ true
  unfolding core_ok
  parts_core p =
      let r = parts_row 3 line (record { named = p.named; words = p.words; exact = rw (core_exact p.words, p.one, p.two, p.three) }) in
      rw (r, core_figures_lem p.words) (eq-eqb _ span (omega (arith, p.sum)))

  -- ---- what the code finds, exit by exit

  core_none : (CoreParts span line → ⊥) → None ≡ core_held span line
  unfolding core_held
  core_none h = rw (is_false (core_ok span line) (λ e. h (core_parts e)))

  pub core_unnamed : named_of 4 line ≡ false → None ≡ core_held span line
  core_unnamed e = core_none (λ p. clash _ (words_named 4 line p.words p.named) e)

  pub core_first : number_of (word_of line 1) span ≡ None → None ≡ core_held span line
  core_first e = core_none (λ p. omega (arith, untold (word_of line 1) span e p.one, p.sum))

  module _ (held : ℕ) (a : Told (word_of line 1) span held) where
    pub core_second : number_of (word_of line 2) (span - held) ≡ None → None ≡ core_held span line
    core_second e = core_none (λ p. omega (arith, untold (word_of line 2) (span - held) e p.two, p.sum, a.value))

    module _ (idle : ℕ) (b : Told (word_of line 2) (span - held) idle) where
      pub core_third : number_of (word_of line 3) (span - held - idle) ≡ None → None ≡ core_held span line
      core_third e = core_none (λ p. omega (arith, untold (word_of line 3) (span - held - idle) e p.three, p.sum, a.value, b.value))

      module _ (unknown : ℕ) (c : Told (word_of line 3) (span - held - idle) unknown) where
        pub core_short : unknown < span - held - idle → None ≡ core_held span line
        core_short h = core_none (λ p. omega (arith, p.sum, a.value, b.value, c.value))

        pub core_whole : named_of 4 line ≡ true → span - held - idle ≤ unknown → Some held ≡ core_held span line
        unfolding core_held
        core_whole n h =
            let w = named_words 4 line n in
            let p = parts_core (record {
              named = w.1;
              words = w.0;
              one = a.number;
              two = b.number;
              three = c.number;
              sum = omega (arith, a.value, b.value, c.value, a.small, b.small, c.small);
            }) in
            rw (p, core_figures_lem w.0, a.value)

-- ---- a process's row

and_true : (t : Bool) → t && true ≡ t
and_true true = refl
and_true false = refl

module _ (left : ℕ) (line : List ℕ) where
  pub process_unnamed : named_of 2 line ≡ false → None ≡ process_charge left line
  unfolding process_charge
  process_unnamed e = rw (is_false (row_of 1 line) (λ r. let p = row_parts 1 line r in clash _ (words_named 2 line p.words p.named) e))

  pub process_charge_lem : named_of 2 line ≡ true → number_of (word_of line 1) left ≡ process_charge left line
  unfolding process_charge number_of row_of row_exact row_from
  process_charge_lem n = let w = named_words 2 line n in rw (w.1, one_word (pieces 32 line) w.0, and_true (is_number (word_of line 1)))

-- ---- the figure that a row adds to the sums

pub held_small : (span : ℕ) (l : List ℕ) (h : ℕ) → core_held span l ≡ Some h → h ≤ span
unfolding core_held
held_small span l h e =
    let w = if_value (core_ok span l) (first (row_from l).figures) h e in
    let p = core_parts span l w.0 in
    omega (arith, p.sum, w.1, ap first (core_figures_lem span l p.words))

module _ (left : ℕ) (l : List ℕ) where
  abbrev charge : ℕ
  charge = first (row_from l).figures

  pub charged : (n : ℕ) → process_charge left l ≡ Some n → (row_of 1 l && leb charge left ≡ true) × (charge ≡ n)
  unfolding process_charge
  charged n e = if_value (row_of 1 l && leb charge left) charge n e

  pub charge_small : (n : ℕ) → process_charge left l ≡ Some n → n ≤ left
  charge_small n e = let w = charged n e in omega (arith, w.1, leb-true charge left (and_r (row_of 1 l) (leb charge left) w.0))
