-- How tight the contracts of a line's functions are: no second answer, and wrong answers that they shut out. A function that takes a line which is to
-- be refused, or refuses one which is to be taken, is shut out whatever it tells of it and whatever else it does.
use Rattle.std.proofs.Common.{None, Some, Option, is_some}
use mathlib.Core.Path.{◌≡◌, refl}
use mathlib.Core.Bool.{Bool, true, false, not}
use mathlib.Core.List.{List, ◌∷◌, ◌++◌}
use Prim.Native.Nat.{ℕ, ◌+◌}
use lib.Dec.{eqb}
use lib.ListN.{length, take, drop}
use Rattle.text.specs.Literal.{bytes}
use Rattle.text.specs.Bytes.{same_bytes, starts_with, to_byte}
use Rattle.text.specs.Name.{is_name_byte, all_name_bytes, is_name}
use Rattle.text.specs.Number.{number_of}
use Rattle.text.specs.Pieces.{pieces}
use Rattle.text.proofs.Tight.{unique, ShutsOut, shut_out}
use Rattle.words.specs.Named.{pick}
use Rattle.words.specs.Scale.{scale_of, scale_word}
use Rattle.bill.specs.Scale.{scale_number}
use Rattle.bill.specs.Reading.{word_of, row_from, row_exact, scale_in, span_in, head_exact, count_in, count_exact}
use Rattle.sorting.specs.Order.{Name}
use Rattle.paper.specs.Lines.{line_from, name_at, amount_in}
use Rattle.paper.specs.Heads.{head_of, count_of}
use Rattle.paper.specs.Rows.{row_of, core_ok, core_held, process_charge}

abbrev Text : Type 0
Text = List ℕ

-- ---- `line_at`

abbrev lines : Text × ℕ → Text
lines (text, p) = line_from text p

pub line_at_unique : (text : Text) (p : ℕ) (x y : Text) → x ≡ line_from text p → y ≡ line_from text p → x ≡ y
line_at_unique text = unique (line_from text)

abbrev three_rows : Text
three_rows = bytes "a 7" ++ 10 ∷ bytes "bc 89" ++ 10 ∷ bytes "d 1"

-- with the byte 10 that ends it
pub line_at_not_with_its_end : ShutsOut lines (λ (text, p). take (to_byte 10 (drop p text) + 1) (drop p text))
unfolding line_from to_byte
line_at_not_with_its_end = shut_out (λ l. eqb (length l) 5) (three_rows, 4) refl refl

pub line_at_not_from_the_front : ShutsOut lines (λ (text, p). line_from text 0)
unfolding line_from to_byte
line_at_not_from_the_front = shut_out (λ l. eqb (length l) 5) (three_rows, 4) refl refl

-- ---- `name_at`

abbrev row_names : Text × ℕ → Name
row_names (text, p) = name_at text p

pub name_at_unique : (text : Text) (p : ℕ) (x y : Name) → x ≡ name_at text p → y ≡ name_at text p → x ≡ y
name_at_unique text = unique (name_at text)

pub name_at_not_the_line : ShutsOut row_names lines
unfolding line_from to_byte row_from pieces same_bytes
name_at_not_the_line = shut_out (same_bytes (bytes "bc")) (three_rows, 4) refl refl

-- words counted from 1
pub name_at_not_the_second : ShutsOut row_names (λ (text, p). word_of (line_from text p) 1)
unfolding line_from to_byte row_from pieces same_bytes
name_at_not_the_second = shut_out (same_bytes (bytes "bc")) (three_rows, 4) refl refl

-- ---- `amount`

abbrev amounts : Text × ℕ → ℕ
amounts (line, k) = amount_in line k

pub amount_unique : (line : Text) (k x y : ℕ) → x ≡ amount_in line k → y ≡ amount_in line k → x ≡ y
amount_unique line = unique (amount_in line)

-- 07 is no figure, whatever else is done
pub amount_not_from_a_zero : (g : Text × ℕ → ℕ) → g (bytes "c 07", 1) ≡ 7 → ShutsOut amounts g
unfolding amount_in number_of pieces
amount_not_from_a_zero g h = shut_out (eqb 0) (bytes "c 07", 1) refl (rw h)

-- the first figure for all
pub amount_not_the_first : ShutsOut amounts (λ (line, k). amount_in line 1)
unfolding amount_in number_of pieces
amount_not_the_first = shut_out (eqb 8) (bytes "c 7 8", 2) refl refl

-- ---- `read_head`

pub head_unique : (line : Text) (x y : Option (ℕ × ℕ)) → x ≡ head_of line → y ≡ head_of line → x ≡ y
head_unique = unique head_of

pub head_not_of_a_refusal : (g : Text → Option (ℕ × ℕ)) → is_some (g (bytes "verdict 9 line 3")) ≡ true → ShutsOut head_of g
unfolding head_of head_exact starts_with same_bytes
head_not_of_a_refusal g h = shut_out (λ x. not (is_some x)) (bytes "verdict 9 line 3") refl (rw h)

pub head_not_of_any_scale : (g : Text → Option (ℕ × ℕ)) → is_some (g (bytes "verdict 0 line 0 scale min span 9")) ≡ true → ShutsOut head_of g
unfolding head_of head_exact starts_with same_bytes scale_in to_byte scale_of pick scale_word
head_not_of_any_scale g h = shut_out (λ x. not (is_some x)) (bytes "verdict 0 line 0 scale min span 9") refl (rw h)

-- 2^56, one more than the largest
pub head_not_above : (g : Text → Option (ℕ × ℕ)) → is_some (g (bytes "verdict 0 line 0 scale ns span 72057594037927936")) ≡ true → ShutsOut head_of g
unfolding head_of head_exact starts_with same_bytes scale_in span_in to_byte scale_of pick scale_word scale_number
head_not_above g h = shut_out (λ x. not (is_some x)) (bytes "verdict 0 line 0 scale ns span 72057594037927936") refl (rw h)

-- and 2^56 − 1 is taken
pub head_not_below : (g : Text → Option (ℕ × ℕ)) → is_some (g (bytes "verdict 0 line 0 scale ns span 72057594037927935")) ≡ false → ShutsOut head_of g
unfolding head_of head_exact starts_with same_bytes scale_in span_in to_byte scale_of pick scale_word scale_number
head_not_below g h = shut_out is_some (bytes "verdict 0 line 0 scale ns span 72057594037927935") refl (rw h)

-- ---- `read_count`

abbrev tells : ℕ → Option ℕ → Bool
tells n (Some v) = eqb n v
tells n None = false

abbrev counts : Text × Text × ℕ → Option ℕ
counts (line, title, max) = count_of title line max

pub count_unique : (line title : Text) (max : ℕ) (x y : Option ℕ) → x ≡ count_of title line max → y ≡ count_of title line max → x ≡ y
count_unique line title = unique (count_of title line)

pub count_not_above : (g : Text × Text × ℕ → Option ℕ) → is_some (g (bytes "cores 65", bytes "cores ", 64)) ≡ true → ShutsOut counts g
unfolding count_of count_exact count_in starts_with same_bytes
count_not_above g h = shut_out (λ x. not (is_some x)) (bytes "cores 65", bytes "cores ", 64) refl (rw h)

pub count_not_of_any_title : (g : Text × Text × ℕ → Option ℕ) → is_some (g (bytes "tasks 7", bytes "cores ", 64)) ≡ true → ShutsOut counts g
unfolding count_of count_exact starts_with same_bytes
count_not_of_any_title g h = shut_out (λ x. not (is_some x)) (bytes "tasks 7", bytes "cores ", 64) refl (rw h)

-- as many as there may be
pub count_not_below : (g : Text × Text × ℕ → Option ℕ) → is_some (g (bytes "cores 64", bytes "cores ", 64)) ≡ false → ShutsOut counts g
unfolding count_of count_exact count_in starts_with same_bytes
count_not_below g h = shut_out is_some (bytes "cores 64", bytes "cores ", 64) refl (rw h)

-- ---- `held_in`

abbrev holds : Text × ℕ → Option ℕ
holds (line, span) = core_held span line

pub held_unique : (line : Text) (span : ℕ) (x y : Option ℕ) → x ≡ core_held span line → y ≡ core_held span line → x ≡ y
held_unique line span = unique (core_held span) line

-- figures that make less than the span
pub held_not_of_less : (g : Text × ℕ → Option ℕ) → is_some (g (bytes "c 5 3 1", 10)) ≡ true → ShutsOut holds g
unfolding core_held core_ok row_of row_from row_exact is_name all_name_bytes is_name_byte pieces
held_not_of_less g h = shut_out (λ x. not (is_some x)) (bytes "c 5 3 1", 10) refl (rw h)

-- no third figure, although two make the span
pub held_not_of_two : (g : Text × ℕ → Option ℕ) → is_some (g (bytes "c 6 4", 10)) ≡ true → ShutsOut holds g
unfolding core_held core_ok row_of row_from row_exact is_name all_name_bytes is_name_byte pieces
held_not_of_two g h = shut_out (λ x. not (is_some x)) (bytes "c 6 4", 10) refl (rw h)

-- idle for held
pub held_not_idle : ShutsOut holds (λ (line, span). number_of (word_of line 2) span)
unfolding core_held core_ok row_of row_from row_exact is_name all_name_bytes is_name_byte pieces number_of
held_not_idle = shut_out (tells 5) (bytes "c 5 3 2", 10) refl refl

-- ---- `charge_in`

abbrev charges : Text × ℕ → Option ℕ
charges (line, left) = process_charge left line

pub charge_unique : (line : Text) (left : ℕ) (x y : Option ℕ) → x ≡ process_charge left line → y ≡ process_charge left line → x ≡ y
charge_unique line left = unique (process_charge left) line

pub charge_not_above : (g : Text × ℕ → Option ℕ) → is_some (g (bytes "p 5", 4)) ≡ true → ShutsOut charges g
unfolding process_charge row_of row_from row_exact is_name all_name_bytes is_name_byte pieces
charge_not_above g h = shut_out (λ x. not (is_some x)) (bytes "p 5", 4) refl (rw h)

-- a core's row
pub charge_not_of_a_core : (g : Text × ℕ → Option ℕ) → is_some (g (bytes "c 5 3 2", 10)) ≡ true → ShutsOut charges g
unfolding process_charge row_of row_from row_exact is_name all_name_bytes is_name_byte pieces
charge_not_of_a_core g h = shut_out (λ x. not (is_some x)) (bytes "c 5 3 2", 10) refl (rw h)

-- all that is left
pub charge_not_below : (g : Text × ℕ → Option ℕ) → is_some (g (bytes "p 5", 5)) ≡ false → ShutsOut charges g
unfolding process_charge row_of row_from row_exact is_name all_name_bytes is_name_byte pieces
charge_not_below g h = shut_out is_some (bytes "p 5", 5) refl (rw h)
