-- What is read of one line, and of the lines of rows: a printed line has its form and is read as what was printed, and a line that has its form is the one that
-- would be printed of what is read.
use mathlib.Core.Path.{◌≡◌, refl, sym, ap, ◌∙◌}
use mathlib.Core.Bool.{Bool, true, ◌&&◌}
use mathlib.Core.List.{List, [], ◌∷◌, ◌++◌, map, append-nil, append_assoc}
use Prim.Native.Nat.{ℕ, ◌≤◌}
use native.Mathlib.Omega.{arith}
use lib.Dec.{leb}
use lib.ListN.{length, get_or, take, drop, take-append-drop}
use lib.Seq.{take-append_seam, drop-append_seam}
use borrow.Author.Tests.{le-leb, leb-true}
use Rattle.text.specs.Literal.{bytes}
use Rattle.text.specs.Bytes.{starts_with, to_byte}
use Rattle.text.specs.Name.{is_name}
use Rattle.text.specs.Number.{is_number, digits_of, value_from}
use Rattle.text.specs.Pieces.{pieces}
use Rattle.text.proofs.Bools.{and_l, and_r}
use Rattle.text.proofs.Digits.{value_digits, digits_number, number_digits}
use Rattle.text.proofs.Pieces.{without, pieces_join, pieces_last, pieces_some, joined_by, join_pieces}
use Rattle.text.proofs.Words.{same_refl, starts_split}
use Rattle.bill.specs.Rows.{Row, all_named}
use Rattle.bill.specs.Scale.{scale_text}
use Rattle.bill.specs.Text.{figures_text}
use Rattle.bill.specs.Reading.{from_scale, from_span, scale_in, span_in, head_exact, count_in, count_exact, row_from, all_numbers, row_exact, rows_exact}
use Rattle.bill.proofs.Scales.{scale_back, scale_named}
use Rattle.bill.proofs.Clean.{name_clean, digits_clean, scale_clean, clean_to}
use Rattle.bill.proofs.Lines.{head_line, count_line, row_line}

starts_own : (s t : List ℕ) → starts_with (s ++ t) s ≡ true
unfolding starts_with
starts_own s t = rw (take-append_seam s t) (same_refl s)

-- ---- the verdict's line

-- a time scale's word and what stands behind it, parted at the first blank
module _ (n : ℕ) (d : List ℕ) where
  abbrev rest : List ℕ
  rest = scale_text n ++ bytes " span " ++ d

  to_span : to_byte 32 rest ≡ length (scale_text n)
  to_span = rw (append_assoc (scale_text n) (bytes " span ") d) (clean_to 32 (scale_text n) (bytes "span " ++ d) (scale_clean 32 n (omega arith)))

  word_read : take (to_byte 32 rest) rest ≡ scale_text n
  word_read = rw (to_span, append_assoc (scale_text n) (bytes " span ") d) (take-append_seam (scale_text n) (bytes " span " ++ d))

  span_from : from_span rest ≡ bytes " span " ++ d
  span_from = rw (to_span, append_assoc (scale_text n) (bytes " span ") d) (drop-append_seam (scale_text n) (bytes " span " ++ d))

module _ (n span : ℕ) (low : 1 ≤ n) (high : n ≤ 5) where
  pub head_scale : scale_in (head_line n span) ≡ n
  unfolding scale_in
  head_scale = rw (word_read n (digits_of span)) (scale_back n low high)

  pub head_span : span_in (head_line n span) ≡ span
  unfolding span_in
  head_span = rw (span_from n (digits_of span)) (value_digits span)

  pub head_printed : head_exact (head_line n span) ≡ true
  unfolding head_exact
  head_printed =
      rw (
        starts_own (bytes "verdict 0 line 0 scale ") (rest n (digits_of span)),
        head_scale,
        le-leb 1 n low,
        span_from n (digits_of span),
        starts_own (bytes " span ") (digits_of span),
        digits_number span,
      )

module _ (line : List ℕ) (e : head_exact line ≡ true) where
  abbrev word : List ℕ
  word = take (to_byte 32 (from_scale line)) (from_scale line)

  abbrev number : List ℕ
  number = drop 6 (from_span (from_scale line))

  abbrev begun : Bool
  begun = starts_with line (bytes "verdict 0 line 0 scale ")

  abbrev spanned : Bool
  spanned = starts_with (from_span (from_scale line)) (bytes " span ")

  tests : (begun ≡ true) × (1 ≤ scale_in line) × (spanned ≡ true) × (is_number number ≡ true)
  unfolding head_exact
  tests =
      let f = and_r begun (leb 1 (scale_in line) && (spanned && is_number number)) e in
      let g = and_r (leb 1 (scale_in line)) (spanned && is_number number) f in
      (and_l begun _ e, leb-true 1 (scale_in line) (and_l _ (spanned && is_number number) f), and_l spanned (is_number number) g, and_r spanned (is_number number) g)

  pub head_low : 1 ≤ scale_in line
  head_low = tests.1

  scale_known : (word ≡ scale_text (scale_in line)) × (scale_in line ≤ 5)
  unfolding scale_in
  scale_known = scale_named word head_low

  pub head_high : scale_in line ≤ 5
  head_high = scale_known.1

  pub head_exact_lem : line ≡ head_line (scale_in line) (span_in line)
  unfolding span_in
  head_exact_lem =
      starts_split line (bytes "verdict 0 line 0 scale ") tests.0
      ∙ ap (λ (r : List ℕ). bytes "verdict 0 line 0 scale " ++ r)
      (sym (take-append-drop (to_byte 32 (from_scale line)) (from_scale line))
      ∙ ap (λ (r : List ℕ). word ++ r) (starts_split (from_span (from_scale line)) (bytes " span ") tests.2)
      ∙ sym (append_assoc word (bytes " span ") number)
      ∙ rw (scale_known.0, number_digits number tests.3))

-- ---- a section's first line

module _ (head : List ℕ) where
  pub count_read : (n : ℕ) → count_in head (count_line head n) ≡ n
  unfolding count_in
  count_read n = rw (drop-append_seam head (digits_of n)) (value_digits n)

  pub count_printed : (n : ℕ) → count_exact head (count_line head n) ≡ true
  unfolding count_exact
  count_printed n = rw (starts_own head (digits_of n), drop-append_seam head (digits_of n), digits_number n)

  pub count_exact_lem : (line : List ℕ) → count_exact head line ≡ true → line ≡ count_line head (count_in head line)
  unfolding count_exact count_in
  count_exact_lem line e =
      let digits = drop (length head) line in
      starts_split line head (and_l (starts_with line head) (is_number digits) e)
      ∙ ap (λ (d : List ℕ). head ++ d) (sym (number_digits digits (and_r (starts_with line head) (is_number digits) e)))

-- ---- a printed row

row_words : (p fs : List ℕ) → without 32 p ≡ true → pieces 32 (p ++ figures_text fs) ≡ p ∷ map digits_of fs
unfolding figures_text
row_words p [] e = rw append-nil (pieces_last 32 p e)
row_words p (n ∷ ns) e = pieces_join 32 p (digits_of n ++ figures_text ns) e ∙ ap (λ (l : List (List ℕ)). p ∷ l) (row_words (digits_of n) ns (digits_clean 32 n (omega arith)))

values : (fs : List ℕ) → map (value_from 0) (map digits_of fs) ≡ fs
values [] = refl
values (n ∷ ns) = rw (value_digits n, values ns)

numbers : (fs : List ℕ) → all_numbers (map digits_of fs) ≡ true
numbers [] = refl
numbers (n ∷ ns) = rw (digits_number n, numbers ns)

module _ (r : Row) (e : is_name r.name ≡ true) where
  words : pieces 32 (row_line r) ≡ r.name ∷ map digits_of r.figures
  words = row_words r.name r.figures (name_clean 32 r.name (omega arith) e)

  row_read : row_from (row_line r) ≡ r
  unfolding row_from
  row_read = rw (words, values r.figures)

  row_printed : row_exact (row_line r) ≡ true
  unfolding row_exact
  row_printed = rw words (numbers r.figures)

pub rows_read : (rs : List Row) → all_named rs ≡ true → map row_from (map row_line rs) ≡ rs
rows_read [] e = refl
rows_read (r ∷ rs) e = rw (row_read r (and_l (is_name r.name) (all_named rs) e), rows_read rs (and_r (is_name r.name) (all_named rs) e))

pub rows_printed : (rs : List Row) → all_named rs ≡ true → rows_exact (map row_line rs) ≡ true
rows_printed [] e = refl
rows_printed (r ∷ rs) e = rw (row_printed r (and_l (is_name r.name) (all_named rs) e), rows_printed rs (and_r (is_name r.name) (all_named rs) e))

-- ---- a line that has a row's form

numbers_back : (ws : List (List ℕ)) → all_numbers ws ≡ true → map digits_of (map (value_from 0) ws) ≡ ws
numbers_back [] e = refl
numbers_back (w ∷ ws) e = rw (number_digits w (and_l (is_number w) (all_numbers ws) e), numbers_back ws (and_r (is_number w) (all_numbers ws) e))

row_joined : (p fs : List ℕ) → p ++ figures_text fs ≡ joined_by 32 (p ∷ map digits_of fs)
unfolding figures_text joined_by
row_joined p [] = append-nil p
row_joined p (n ∷ ns) = ap (λ (l : List ℕ). p ++ 32 ∷ l) (row_joined (digits_of n) ns)

row_exact_lem : (l : List ℕ) → row_exact l ≡ true → row_line (row_from l) ≡ l
unfolding row_exact row_from
row_exact_lem l e = by_words (pieces 32 l) (pieces_some 32 l) e ∙ join_pieces 32 l
  where
    by_words : (ps : List (List ℕ)) → 1 ≤ length ps → all_numbers (drop 1 ps) ≡ true → get_or ps 0 [] ++ figures_text (map (value_from 0) (drop 1 ps)) ≡ joined_by 32 ps
    by_words [] h e = absurd (omega arith)
    by_words (w ∷ ws) h e = row_joined w (map (value_from 0) ws) ∙ ap (λ (l : List (List ℕ)). joined_by 32 (w ∷ l)) (numbers_back ws e)

pub rows_exact_lem : (ls : List (List ℕ)) → rows_exact ls ≡ true → map row_line (map row_from ls) ≡ ls
rows_exact_lem [] e = refl
rows_exact_lem (l ∷ ls) e = rw (row_exact_lem l (and_l (row_exact l) (rows_exact ls) e), rows_exact_lem ls (and_r (row_exact l) (rows_exact ls) e))
