-- The form of a sheet by its lines: what is told so far, and at each exit that the text may not be added.
use Rattle.std.proofs.Common.{None, Some, Option}
use mathlib.Core.Path.{◌≡◌, sym, ap, ◌∙◌}
use mathlib.Core.Bool.{true, false}
use mathlib.Core.List.{List, []}
use Prim.Native.Nat.{ℕ, ◌+◌, ◌-◌, ◌≤◌, ◌<◌}
use native.Mathlib.Omega.{arith}
use lib.ListN.{length, get_or, drop}
use lib.Seq.{drop-drop, get_or-drop}
use borrow.Author.Tests.{le-leb}
use Rattle.text.specs.Pieces.{pieces, ended}
use Rattle.text.specs.Sizes.{name_limit, core_limit}
use Rattle.text.proofs.Bools.{clash}
use Rattle.bill.specs.declared.section.Section.TheVariants.{Cores, Processes}
use Rattle.bill.specs.Text.{title}
use Rattle.bill.specs.Reading.{from_processes, at_end}
use Rattle.shifts.specs.Sound.{sound_sheet}
use Rattle.adding.specs.declared.form.Form.{Form}
use Rattle.paper.specs.Lines.{line_from}
use Rattle.adding.specs.PlaceCode.{lines_most, few_lines, Placed}
use Rattle.paper.specs.Heads.{head_of, count_of}
use Rattle.adding.specs.FormCode.{Begun, Formed}
use Rattle.adding.proofs.SheetLines.{line_count, line_is, part_is, end_is}
use Rattle.adding.proofs.SheetTests.{CountTold, count_told, Passing, not_passing}

-- ---- the lines

few_lines_lem : (text : List ℕ) → Passing text → few_lines text ≡ true
unfolding few_lines
few_lines_lem text p =
    let n = length (ended (pieces 10 text)) in
    rw (p.rest, le-leb n lines_most (omega (arith, p.whole, p.few)))

pub unlined : (text : List ℕ) → few_lines text ≡ false → sound_sheet text ≡ None
unlined text e = not_passing text (λ p. clash (few_lines text) (few_lines_lem text p) e)

pub too_few : (text starts : List ℕ) (n : ℕ) → Placed text starts n → n < 3 → sound_sheet text ≡ None
too_few text starts n k h = not_passing text (λ p. omega (arith, p.whole, line_count k))

module _ (text starts : List ℕ) (n : ℕ) (l : Placed text starts n) (h : 3 ≤ n) where
  first_line : get_or (pieces 10 text) 0 [] ≡ line_from text (get_or starts 0 0)
  first_line = line_is l 0 (omega arith)

  pub no_head : head_of (line_from text (get_or starts 0 0)) ≡ None → sound_sheet text ≡ None
  no_head e = not_passing text (λ p.
      let q = sym p.head ∙ ap head_of first_line ∙ e in
      let z : ◌≡◌ {A = ℕ} 0 1 = cc in omega arith)

  pub begun : (scale span : ℕ) → head_of (line_from text (get_or starts 0 0)) ≡ Some (scale, span) → Begun text starts n scale span
  begun scale span e = record { placed = l; three = h; head = ap head_of first_line ∙ e }

-- ---- the counts

module _ (text starts : List ℕ) (n scale span : ℕ) (b : Begun text starts n scale span) where
  title_line : get_or (pieces 10 text) 1 [] ≡ line_from text (get_or starts 1 0)
  title_line = line_is b.placed 1 (omega (arith, b.three))

  pub no_cores : count_of (title Cores) (line_from text (get_or starts 1 0)) core_limit ≡ None → sound_sheet text ≡ None
  no_cores e = not_passing text (λ p.
      let q = sym p.first ∙ ap (λ l. count_of (title Cores) l core_limit) title_line ∙ e in
      let z : ◌≡◌ {A = ℕ} 0 1 = cc in omega arith)

  module _ (k : ℕ) (e : count_of (title Cores) (line_from text (get_or starts 1 0)) core_limit ≡ Some k) where
    first : count_of (title Cores) (get_or (pieces 10 text) 1 []) core_limit ≡ Some k
    first = ap (λ l. count_of (title Cores) l core_limit) title_line ∙ e

    pub cores_told : CountTold (title Cores) (get_or (pieces 10 text) 1 []) core_limit k
    cores_told = count_told (title Cores) (get_or (pieces 10 text) 1 []) core_limit k first

    pub cores_cut_off : n < 3 + k → sound_sheet text ≡ None
    cores_cut_off h = not_passing text (λ p. omega (arith, p.whole, line_count b.placed, cores_told.count_is))

    module _ (h : 3 + k ≤ n) where
      second_line : get_or (from_processes (pieces 10 text)) 0 [] ≡ line_from text (get_or starts (2 + k) 0)
      second_line =
          let z : 2 + k + 0 ≡ 2 + k = omega arith in
          rw (cores_told.count_is, drop-drop, get_or-drop, z) (line_is b.placed (2 + k) (omega arith))

      second : (r : Option ℕ) → count_of (title Processes) (line_from text (get_or starts (2 + k) 0)) (name_limit - k) ≡ r → count_of (title Processes) (get_or (from_processes (pieces 10 text)) 0 []) (name_limit - k) ≡ r
      second r d = ap (λ l. count_of (title Processes) l (name_limit - k)) second_line ∙ d

      pub no_processes : count_of (title Processes) (line_from text (get_or starts (2 + k) 0)) (name_limit - k) ≡ None → sound_sheet text ≡ None
      no_processes d = not_passing text (λ p.
          let most = ap (λ j. count_of (title Processes) (get_or (from_processes (pieces 10 text)) 0 []) (name_limit - j)) cores_told.count_is in
          let q = sym p.second ∙ most ∙ second None d in
          let z : ◌≡◌ {A = ℕ} 0 1 = cc in omega arith)

      module _ (m : ℕ) (d : count_of (title Processes) (line_from text (get_or starts (2 + k) 0)) (name_limit - k) ≡ Some m) where
        pub processes_told : CountTold (title Processes) (get_or (from_processes (pieces 10 text)) 0 []) (name_limit - k) m
        processes_told = count_told (title Processes) (get_or (from_processes (pieces 10 text)) 0 []) (name_limit - k) m (second (Some m) d)

        abbrev form : Form
        form = record { scale = scale; span = span; cores = k; processes = m }

        from_rows : drop 1 (from_processes (pieces 10 text)) ≡ drop (3 + k) (pieces 10 text)
        from_rows =
            let y : 2 + (k + 1) ≡ 3 + k = omega arith in
            rw (cores_told.count_is, drop-drop 1 k, drop-drop (k + 1) 2, y)

        pub formed : n ≡ 3 + k + m → Formed text starts form
        formed s = record {
          sized = b.placed.sized;
          head = b.head;
          first = first;
          second = second (Some m) d;
          end = rw (processes_told.count_is, from_rows, drop-drop m (3 + k), ← s) (ap at_end (end_is b.placed));
          core_lines_told = part_is b.placed 2 k (omega arith) ∙ rw cores_told.count_is;
          process_lines_told = part_is b.placed (3 + k) m (omega arith) ∙ rw (processes_told.count_is, from_rows);
        }

        pub not_as_told : (n ≡ 3 + k + m → ⊥) → sound_sheet text ≡ None
        not_as_told q = not_passing text (λ p. q (omega (arith, p.whole, line_count b.placed, cores_told.count_is, processes_told.count_is)))
