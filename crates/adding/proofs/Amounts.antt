-- The figures that the code reads of a row are the row's own where the row may be added, and a sum of two has room in 64 bits.
use Rattle.std.proofs.Common.{unwrap_or}
use mathlib.Core.Path.{◌≡◌, refl, sym, ◌∙◌}
use mathlib.Core.Bool.{Bool, true, false, ◌&&◌}
use mathlib.Core.List.{List, [], ◌∷◌, map}
use Prim.Native.Nat.{ℕ, ◌^◌, ◌≤◌}
use native.Mathlib.Omega.{arith}
use lib.Dec.{eqb, leb}
use lib.ListN.{length, get_or, drop, length-drop, length-map, drop_of_length-le}
use lib.Seq.{drop-cons}
use borrow.Author.Tests.{eqb-true, leb-true}
use Rattle.text.specs.Name.{is_name}
use Rattle.text.specs.Number.{is_number, value_from, number_if, number_of}
use Rattle.text.specs.Pieces.{pieces}
use Rattle.text.proofs.Bools.{and_l, and_r}
use Rattle.bill.specs.declared.section.Section.{Section}
use Rattle.bill.specs.declared.section.Section.TheVariants.{Cores, Processes}
use Rattle.bill.specs.Reading.{word_of, row_from, all_numbers, row_exact}
use Rattle.shifts.specs.Sum.{plus}
use Rattle.adding.specs.declared.put.Figures.{Figures}
use Rattle.paper.specs.Lines.{line_from, row_at, amount_in}
use Rattle.paper.specs.Rows.{row_of}
use Rattle.adding.specs.MergeCode.{figures_at, none_for, sum_of, Small, shown, width, all_small, fine_row}

pub figures_read : {line : List ℕ} {a b c : ℕ} (text : List ℕ) (p : ℕ) → line ≡ line_from text p → a ≡ amount_in line 1 → b ≡ amount_in line 2 → c ≡ amount_in line 3 →
    record { first = a; second = b; third = c } ≡ figures_at text p
figures_read text p e x y z = rw (x, y, z, e)

-- ---- one word

abbrev amount : List ℕ → ℕ
amount w = unwrap_or (number_of w (2 ^ 62)) 0

amount_own : (w : List ℕ) → is_number w ≡ true → leb (value_from 0 w) (2 ^ 62) ≡ true → amount w ≡ value_from 0 w
unfolding number_of
amount_own w n s = rw (n, s)

amount_small : (w : List ℕ) → amount w ≤ 2 ^ 62
unfolding number_of
amount_small w = go (is_number w) (leb (value_from 0 w) (2 ^ 62)) refl
  where
    go : (b d : Bool) → leb (value_from 0 w) (2 ^ 62) ≡ d → unwrap_or (number_if (b && d) (value_from 0 w)) 0 ≤ 2 ^ 62
    go true true e = leb-true (value_from 0 w) (2 ^ 62) e
    go true false e = omega arith
    go false d e = omega arith

-- ---- the words of a row

words_own : (ws : List (List ℕ)) → all_numbers ws ≡ true → all_small (map (value_from 0) ws) ≡ true → map amount ws ≡ map (value_from 0) ws
words_own [] n s = refl
words_own (w ∷ ws) n s =
    let a = leb (value_from 0 w) (2 ^ 62) in
    let b = all_small (map (value_from 0) ws) in
    rw (amount_own w (and_l (is_number w) (all_numbers ws) n) (and_l a b s), words_own ws (and_r (is_number w) (all_numbers ws) n) (and_r a b s))

-- those after the name, as the code reads them
abbrev as_read : List (List ℕ) → Figures
as_read ws = record { first = amount (get_or ws 1 []); second = amount (get_or ws 2 []); third = amount (get_or ws 3 []) }

words_shown : (section : Section) (ws : List (List ℕ)) → length (drop 1 ws) ≡ width section → shown section (as_read ws) ≡ map amount (drop 1 ws)
words_shown Cores ws e =
    let l = length-drop 1 ws in
    rw (drop-cons ws 1 [] (omega arith), drop-cons ws 2 [] (omega arith), drop-cons ws 3 [] (omega arith), drop_of_length-le ws {i = 4} (omega arith))
words_shown Processes ws e =
    let l = length-drop 1 ws in
    rw (drop-cons ws 1 [] (omega arith), drop_of_length-le ws {i = 2} (omega arith))

-- ---- a row

line_own : (section : Section) (line : List ℕ) → fine_row section line ≡ true → shown section (as_read (pieces 32 line)) ≡ (row_from line).figures
unfolding fine_row row_of row_from row_exact
line_own section line h =
    let ws = drop 1 (pieces 32 line) in
    let fs = map (value_from 0) ws in
    let row = is_name (word_of line 0) && (eqb (length fs) (width section) && all_numbers ws) in
    let r = and_r (is_name (word_of line 0)) (eqb (length fs) (width section) && all_numbers ws) (and_l row (all_small fs) h) in
    let n : length ws ≡ width section = sym (length-map ws (value_from 0)) ∙ eqb-true (length fs) (width section) (and_l (eqb (length fs) (width section)) (all_numbers ws) r) in
    words_shown section (pieces 32 line) n ∙ words_own ws (and_r (eqb (length fs) (width section)) (all_numbers ws) r) (and_r row (all_small fs) h)

pub figures_own : (section : Section) (text : List ℕ) (p : ℕ) → fine_row section (line_from text p) ≡ true → shown section (figures_at text p) ≡ (row_at text p).figures
unfolding amount_in
figures_own section text p h = line_own section (line_from text p) h

-- ---- sums

pub plus_shown : (section : Section) (f g : Figures) → plus (shown section f) (shown section g) ≡ shown section (sum_of f g)
plus_shown Cores f g = refl
plus_shown Processes f g = refl

pub read_small : {f : Figures} (text : List ℕ) (p : ℕ) → f ≡ figures_at text p → Small f
unfolding amount_in
read_small text p e =
    let ws = pieces 32 (line_from text p) in
    rw e (record { first = amount_small (get_or ws 1 []); second = amount_small (get_or ws 2 []); third = amount_small (get_or ws 3 []) })

pub none_small : {f : Figures} (span : ℕ) → span ≤ 2 ^ 62 → f ≡ none_for span → Small f
none_small span h e = rw e (record { first = omega arith; second = omega arith; third = h })
