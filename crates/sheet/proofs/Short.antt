-- How long figures, lines, sections and the sheet of valid tables are at most, so that no length wraps.
use mathlib.Core.Path.{◌≡◌}
use mathlib.Core.Bool.{Bool, true, false, cond}
use mathlib.Core.List.{List, [], ◌∷◌, ◌++◌, append-nil}
use Prim.Native.Nat.{ℕ, zero, suc, ◌+◌, ◌*◌, ◌%◌, ◌^◌, ◌≤◌, ◌<◌}
use native.Mathlib.Omega.{arith}
use lib.Dec.{eqb, ltb}
use lib.ListN.{length, length-append}
use Rattle.text.proofs.Digits.{digits_short}
use Rattle.bill.specs.declared.section.Section.{Section}
use Rattle.bill.specs.declared.section.Section.TheVariants.{Cores, Processes}
use Rattle.bill.specs.Rows.{Row}
use Rattle.bill.specs.Text.{figures_text, row_text, rows_text, section_text, sheet_text, title}
use Rattle.bill.proofs.Texts.{length_figure, length_three, length_row, length_section}
use Rattle.rules.specs.Lists.{keep}
use Rattle.tables.specs.Entry.{name_count, kind_at, length_at, standing_at, held_at, idle_at, unknown_at, name_at}
use Rattle.tables.proofs.NameBytes.{name_size}
use Rattle.ranges.proofs.Valid.{Valid}
use Rattle.sheet.specs.Figure.{open_at, held_in, idle_in, holds_core, charge_to, charge_in}
use Rattle.sheet.specs.Sheet.{belongs, figures_in, row_in, rows_to, rows_in, sheet_in, sheet_most}
use Rattle.sheet.proofs.Rows.{keep_lines}
use Rattle.sheet.proofs.Written.{sheet_length}

-- ---- a figure is an entry of 64 bits, so it has at most 20 digits

abbrev entry_end : ℕ
entry_end = 18446744073709551616

either_below : (b : Bool) (x y n : ℕ) → x < n → y < n → cond b x y < n
either_below true x y n h k = h
either_below false x y n h k = k

module _ (nums ticks : List ℕ) (i : ℕ) where
  held_below : held_at ticks i < entry_end → held_in nums ticks i < entry_end
  unfolding held_in
  held_below h = either_below (ltb (standing_at nums i) 2) (held_at ticks i) ((held_at ticks i + open_at ticks i) % 2 ^ 64) entry_end h (omega arith)

  idle_below : idle_at ticks i < entry_end → idle_in nums ticks i < entry_end
  unfolding idle_in
  idle_below h = either_below (eqb (standing_at nums i) 1) ((idle_at ticks i + open_at ticks i) % 2 ^ 64) (idle_at ticks i) entry_end (omega arith) h

  charge_to_below : (n : ℕ) → held_at ticks i < entry_end → charge_to nums ticks i n < entry_end
  unfolding charge_to
  charge_to_below zero h = h
  charge_to_below (suc n) h =
      let c = charge_to nums ticks i n in
      either_below (holds_core nums i n) ((c + open_at ticks n) % 2 ^ 64) c entry_end (omega arith) (charge_to_below n h)

  charge_below : held_at ticks i < entry_end → charge_in nums ticks i < entry_end
  unfolding charge_in
  charge_below h = charge_to_below (name_count nums) h

  pub figures_short : (s : Section)
      → held_at ticks i < entry_end → idle_at ticks i < entry_end → unknown_at ticks i < entry_end → length (figures_text (figures_in s nums ticks i)) ≤ 63
  figures_short Cores h k u =
      let held = held_in nums ticks i in
      let idle = idle_in nums ticks i in
      let unknown = unknown_at ticks i in
      omega (arith, length_three held idle unknown, digits_short held (held_below h), digits_short idle (idle_below k), digits_short unknown u)
  figures_short Processes h k u = omega (arith, length_figure (charge_in nums ticks i), digits_short (charge_in nums ticks i) (charge_below h))

-- ---- a section has a title of at most 10 bytes, a count, and at most 256 lines of a name, its figures and an end

title_short : (s : Section) → length (title s) ≤ 10
title_short Cores = omega arith
title_short Processes = omega arith

keep_few : (b : Bool) (rs : List Row) (r : Row) → length (rs ++ keep b r []) ≤ length rs + 1
keep_few true rs r = omega (arith, length-append rs (r ∷ []))
keep_few false rs r = rw append-nil (omega arith)

pub rows_few : (s : Section) (names nums ticks : List ℕ) (n : ℕ) → length (rows_to s names nums ticks n) ≤ n
unfolding rows_to
rows_few s names nums ticks zero = omega arith
rows_few s names nums ticks (suc n) =
    omega (arith, keep_few (belongs s (kind_at nums n)) (rows_to s names nums ticks n) (row_in s names nums ticks n), rows_few s names nums ticks n)

module _ {names nums ticks : List ℕ} (v : Valid names nums ticks) where
  pub name_sized : (i : ℕ) → i < name_count nums → length (name_at names nums i) ≡ length_at nums i
  name_sized i h = name_size names nums i v.sizes.names_sized (omega (arith, v.name_count_lem)) (v.name_row i h).length_most

  pub row_short : (s : Section) (i : ℕ) → i < name_count nums → length (row_text (row_in s names nums ticks i)) ≤ 128
  row_short s i h =
      let r = v.name_row i h in
      let figures = figures_short nums ticks i s (omega (arith, r)) (omega (arith, r)) (omega (arith, r)) in
      omega (arith, length_row (row_in s names nums ticks i), name_sized i h, r, figures)

  pub rows_short : (s : Section) (n : ℕ) → n ≤ name_count nums → length (rows_text (rows_to s names nums ticks n)) ≤ 128 * n
  unfolding rows_to rows_text
  rows_short s zero h = omega arith
  rows_short s (suc n) h =
      let one_more = keep_lines (belongs s (kind_at nums n)) (rows_to s names nums ticks n) (row_in s names nums ticks n) in
      omega (arith, one_more.1, row_short s n (omega arith), rows_short s n (omega arith))

  pub section_short : (s : Section) → length (section_text (title s) (rows_in s names nums ticks)) ≤ 32800
  unfolding rows_in
  section_short s =
      let n = name_count nums in
      let rows = rows_to s names nums ticks n in
      let few = rows_few s names nums ticks n in
      let count = digits_short (length rows) (omega (arith, v.name_count_lem)) in
      omega (arith, v.name_count_lem, length_section (title s) rows, title_short s, count, rows_short s n (omega arith))

  pub sheet_fits : length (sheet_text (sheet_in names nums ticks)) ≤ sheet_most
  sheet_fits = omega (arith, sheet_length names nums ticks, section_short Cores, section_short Processes)
