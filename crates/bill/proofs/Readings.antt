-- Reading a printed sheet: what is printed of a bill is read back (`print_read`), and a text that is read is what is printed of the bill read (`read_print`), with as
-- many lines as its sections count (`read_lengths`).
use Rattle.std.proofs.Common.{None, Some}
use mathlib.Core.Path.{◌≡◌, refl, sym, ap, ◌∙◌}
use mathlib.Core.Bool.{Bool, true, false, cond}
use mathlib.Core.List.{List, [], ◌∷◌, ◌++◌, map}
use Prim.Native.Nat.{ℕ, ◌+◌, ◌≤◌}
use native.Mathlib.Omega.{arith}
use lib.ListN.{length, length-map}
use lib.Seq.{take-append_seam, drop-append_seam}
use Rattle.text.specs.Pieces.{pieces, ended, unended, closed}
use Rattle.text.proofs.Pieces.{closed_unended}
use Rattle.bill.specs.declared.section.Section.TheVariants.{Cores, Processes}
use Rattle.bill.specs.Rows.{Row, Sheet, all_named}
use Rattle.bill.specs.Text.{title}
use Rattle.bill.specs.Reading.{Bill, bill_text, scale_in, span_in, head_exact, count_in, count_exact, row_from, rows_exact, core_count, process_count, bill_from, all_of, form_tests, read_sheet}
use Rattle.bill.proofs.Lines.{count_line, row_line, bill_pieces, pieces_ended, pieces_unended, pieces_text, length_lines, length_pieces, lines_of}
use Rattle.bill.proofs.LineReadings.{head_scale, head_span, head_printed, count_read, count_printed, rows_read, rows_printed}
use Rattle.bill.proofs.Formed.{exact}

-- ---- lines in the order of a print, where each section has as many rows as it says

module _ (h k p : List ℕ) (cs qs : List (List ℕ)) (e : count_in (title Cores) k ≡ length cs) (f : count_in (title Processes) p ≡ length qs) where
  abbrev ordered : List (List ℕ)
  ordered = h ∷ k ∷ (cs ++ (p ∷ (qs ++ ([] ∷ []))))

  abbrev told : Bill
  told = record { scale = scale_in h; sheet = record { span = span_in h; cores = map row_from cs; processes = map row_from qs } }

  abbrev tests : List Bool
  tests = head_exact h ∷ count_exact (title Cores) k ∷ rows_exact cs ∷ count_exact (title Processes) p ∷ rows_exact qs ∷ true ∷ []

  -- what is read of them, and the tests of their form
  in_order : (bill_from ordered ≡ told) × (form_tests ordered ≡ tests)
  unfolding bill_from form_tests
  in_order =
      rw (
        e,
        drop-append_seam cs (p ∷ (qs ++ ([] ∷ []))),
        take-append_seam cs (p ∷ (qs ++ ([] ∷ []))),
        f,
        take-append_seam qs ([] ∷ []),
        drop-append_seam qs ([] ∷ []),
      ) (refl, refl)

-- ---- what is printed is read back

rows_counted : (head : List ℕ) (rs : List Row) → count_in head (count_line head (length rs)) ≡ length (map row_line rs)
rows_counted head rs = count_read head (length rs) ∙ sym (length-map rs row_line)

module _ (b : Bill) (low : 1 ≤ b.scale) (high : b.scale ≤ 5) (cs : all_named b.sheet.cores ≡ true) (ps : all_named b.sheet.processes ≡ true) where
  abbrev scale : ℕ
  scale = b.scale

  abbrev s : Sheet
  s = b.sheet

  printed : (bill_from (bill_pieces b) ≡ b) × (all_of (form_tests (bill_pieces b)) ≡ true)
  printed =
      let o = in_order _ _ _ (map row_line s.cores) (map row_line s.processes) (rows_counted (title Cores) s.cores) (rows_counted (title Processes) s.processes) in (
        o.0 ∙ rw (head_scale scale s.span low high, head_span scale s.span low high, rows_read s.cores cs, rows_read s.processes ps),
        ap all_of o.1
            ∙ rw (
              head_printed scale s.span low high,
              count_printed (title Cores) (length s.cores),
              rows_printed s.cores cs,
              count_printed (title Processes) (length s.processes),
              rows_printed s.processes ps,
            ),
      )

  pub print_read : read_sheet (bill_text b) ≡ Some b
  unfolding read_sheet
  print_read = rw (lines_of b cs ps, printed.1, printed.0)

-- ---- what is read is what is printed of it

read_if : (c : Bool) (a b : Bill) → cond c (Some a) None ≡ Some b → (c ≡ true) × (a ≡ b)
read_if true a b e = (refl, cc)
read_if false a b e = (cc, cc)

-- a text and the bill that it shows: it is the print of the bill, which its lines have told, and the time scale has a word
pub record Shows (t : List ℕ) (b : Bill) : Type 0 where
  pub text : t ≡ bill_text b
  pub from : b ≡ bill_from (pieces 10 t)
  pub forms : all_of (form_tests (pieces 10 t)) ≡ true
  pub low : 1 ≤ b.scale
  pub high : b.scale ≤ 5

-- a bill's rows are as many as its lines count, and the lines are these, the three others, and nothing after the last one's end
pub record Counted (ls : List (List ℕ)) (b : Bill) : Type 0 where
  pub cores : length b.sheet.cores ≡ core_count ls
  pub processes : length b.sheet.processes ≡ process_count ls
  pub all : length ls ≡ 4 + core_count ls + process_count ls
  pub whole : length (ended ls) ≡ 3 + core_count ls + process_count ls
  pub rest : unended ls ≡ []

module _ (t : List ℕ) (b : Bill) (e : read_sheet t ≡ Some b) where
  abbrev ls : List (List ℕ)
  ls = pieces 10 t

  read : (all_of (form_tests ls) ≡ true) × (bill_from ls ≡ b)
  unfolding read_sheet
  read = read_if (all_of (form_tests ls)) (bill_from ls) b e

  lines : bill_pieces b ≡ ls
  lines = rw (← read.1) (exact ls read.0).lines

  pub read_print : Shows t b
  read_print = record {
    text =
        closed_unended 10 t
        ∙ ap (λ (ps : List (List ℕ)). closed 10 (ended ps) ++ unended ps) (sym lines)
        ∙ pieces_text b;
    from = sym read.1;
    forms = read.0;
    low = rw (← read.1) (exact ls read.0).low;
    high = rw (← read.1) (exact ls read.0).high;
  }

  pub read_lengths : Counted (pieces 10 t) b
  read_lengths =
      let c : length b.sheet.cores ≡ core_count ls = rw (← read.1) (exact ls read.0).cores in
      let p : length b.sheet.processes ≡ process_count ls = rw (← read.1) (exact ls read.0).processes in
      record {
        cores = c;
        processes = p;
        all = omega (arith, ap length lines, length_pieces b);
        whole = omega (arith, ap (λ (ps : List (List ℕ)). length (ended ps)) lines, ap length (pieces_ended b), length_lines b);
        rest = ap unended (sym lines) ∙ pieces_unended b;
      }
