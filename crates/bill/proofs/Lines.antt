-- The lines of a bill's text: its bytes are those of the lines that `bill_lines` lists, each with its end, and these are the lines that byte 10 parts.
use mathlib.Core.Path.{◌≡◌, refl, sym, ap, ◌∙◌}
use mathlib.Core.Bool.{true}
use mathlib.Core.List.{List, [], ◌∷◌, ◌++◌, map, append-nil, append_assoc}
use Prim.Native.Nat.{ℕ, ◌+◌}
use native.Mathlib.Omega.{arith}
use lib.ListN.{length, length-append, length-map}
use Rattle.text.specs.Literal.{bytes}
use Rattle.text.specs.Name.{is_name}
use Rattle.text.specs.Number.{digits_of}
use Rattle.text.specs.Pieces.{pieces, ended, unended, closed}
use Rattle.text.proofs.Bools.{and_l, and_r}
use Rattle.text.proofs.Pieces.{without, pieces_join, ended_append, unended_append}
use Rattle.bill.specs.declared.section.Section.TheVariants.{Cores, Processes}
use Rattle.bill.specs.Rows.{Row, all_named}
use Rattle.bill.specs.Scale.{scale_text}
use Rattle.bill.specs.Text.{figures_text, row_text, rows_text, title, section_text, sheet_text}
use Rattle.bill.specs.Verdict.{accepted_text}
use Rattle.bill.specs.Reading.{Bill, bill_text}
use Rattle.bill.proofs.Clean.{name_clean, digits_clean, scale_clean, figures_clean, clean_append}

-- ---- the lines, without their ends

abbrev pub head_line : ℕ → ℕ → List ℕ
head_line scale span = bytes "verdict 0 line 0 scale " ++ scale_text scale ++ bytes " span " ++ digits_of span

abbrev pub count_line : List ℕ → ℕ → List ℕ
count_line head n = head ++ digits_of n

abbrev pub row_line : Row → List ℕ
row_line r = r.name ++ figures_text r.figures

abbrev pub section_lines : List ℕ → List Row → List (List ℕ)
section_lines head rs = count_line head (length rs) ∷ map row_line rs

abbrev pub cores_part : Bill → List (List ℕ)
cores_part b = section_lines (title Cores) b.sheet.cores

abbrev pub processes_part : Bill → List (List ℕ)
processes_part b = section_lines (title Processes) b.sheet.processes

abbrev pub bill_lines : Bill → List (List ℕ)
bill_lines b = head_line b.scale b.sheet.span ∷ (cores_part b ++ processes_part b)

-- what byte 10 parts a bill's text into: these lines, and nothing after the last one's end
abbrev pub bill_pieces : Bill → List (List ℕ)
bill_pieces b = head_line b.scale b.sheet.span ∷ (cores_part b ++ (processes_part b ++ ([] ∷ [])))

-- ---- the text is the lines with their ends

rows_closed : (rs : List Row) → rows_text rs ≡ closed 10 (map row_line rs)
unfolding rows_text row_text closed
rows_closed [] = refl
rows_closed (r ∷ rs) = rw (append_assoc (row_line r) (10 ∷ []) (rows_text rs), rows_closed rs)

section_closed : (head : List ℕ) (rs : List Row) → section_text head rs ≡ closed 10 (section_lines head rs)
unfolding section_text closed
section_closed head rs = rw (rows_closed rs)

closed_append : (ps qs : List (List ℕ)) → closed 10 (ps ++ qs) ≡ closed 10 ps ++ closed 10 qs
unfolding closed
closed_append [] qs = refl
closed_append (p ∷ ps) qs = rw (append_assoc, closed_append ps qs)

bill_closed : (b : Bill) → bill_text b ≡ closed 10 (bill_lines b)
unfolding bill_text accepted_text sheet_text
bill_closed b =
    rw (section_closed (title Cores) b.sheet.cores, section_closed (title Processes) b.sheet.processes, ← closed_append (cores_part b) (processes_part b))
    (unfold closed in append_assoc (head_line b.scale b.sheet.span) (10 ∷ []) (closed 10 (cores_part b ++ processes_part b)))

-- ---- no line has an end in it

abbrev AllClean : List (List ℕ) → Type 0
AllClean [] = Unit {0}
AllClean (l ∷ ls) = (without 10 l ≡ true) × AllClean ls

pieces_closed : (ls : List (List ℕ)) → AllClean ls → pieces 10 (closed 10 ls) ≡ ls ++ ([] ∷ [])
unfolding closed pieces
pieces_closed [] c = refl
pieces_closed (l ∷ ls) c = pieces_join 10 l (closed 10 ls) c.0 ∙ ap (λ (ps : List (List ℕ)). l ∷ ps) (pieces_closed ls c.1)

head_clean : (scale span : ℕ) → without 10 (head_line scale span) ≡ true
head_clean scale span =
    unfold without in
    clean_append 10 (scale_text scale ++ bytes " span ") (digits_of span)
    (clean_append 10 (scale_text scale) (bytes " span ") (scale_clean 10 scale (omega arith)) refl)
    (digits_clean 10 span (omega arith))

rows_clean : (rs : List Row) → all_named rs ≡ true → AllClean (map row_line rs)
rows_clean [] e = tt
rows_clean (r ∷ rs) e =
    let n = name_clean 10 r.name (omega arith) (and_l (is_name r.name) (all_named rs) e) in
    (clean_append 10 r.name (figures_text r.figures) n (figures_clean r.figures), rows_clean rs (and_r (is_name r.name) (all_named rs) e))

section_clean : (head : List ℕ) (rs : List Row) → without 10 head ≡ true → all_named rs ≡ true → AllClean (section_lines head rs)
section_clean head rs h e = (clean_append 10 head (digits_of (length rs)) h (digits_clean 10 (length rs) (omega arith)), rows_clean rs e)

both_clean : (ps qs : List (List ℕ)) → AllClean ps → AllClean qs → AllClean (ps ++ qs)
both_clean [] qs c d = d
both_clean (p ∷ ps) qs c d = (c.0, both_clean ps qs c.1 d)

-- ---- the pieces are the lines and the end

pieces_lines : (b : Bill) → bill_pieces b ≡ bill_lines b ++ ([] ∷ [])
pieces_lines b = simp append_assoc

pub pieces_ended : (b : Bill) → ended (bill_pieces b) ≡ bill_lines b
unfolding ended
pieces_ended b = ap ended (pieces_lines b) ∙ ended_append (bill_lines b) ([] ∷ []) (omega arith) ∙ append-nil (bill_lines b)

pub pieces_unended : (b : Bill) → unended (bill_pieces b) ≡ []
unfolding unended
pieces_unended b = ap unended (pieces_lines b) ∙ unended_append (bill_lines b) ([] ∷ []) (omega arith)

pub length_lines : (b : Bill) → length (bill_lines b) ≡ 3 + length b.sheet.cores + length b.sheet.processes
length_lines b = simp (length-append, length-map) (omega arith)

pub length_pieces : (b : Bill) → length (bill_pieces b) ≡ 4 + length b.sheet.cores + length b.sheet.processes
length_pieces b = simp (length-append, length-map) (omega arith)

-- ---- the text of the lines, and the lines of the text

pub pieces_text : (b : Bill) → closed 10 (ended (bill_pieces b)) ++ unended (bill_pieces b) ≡ bill_text b
pieces_text b =
    ap (λ (ls : List (List ℕ)). closed 10 ls ++ unended (bill_pieces b)) (pieces_ended b)
    ∙ ap (λ (s : List ℕ). closed 10 (bill_lines b) ++ s) (pieces_unended b)
    ∙ append-nil (closed 10 (bill_lines b))
    ∙ sym (bill_closed b)

module _ (b : Bill) (cs : all_named b.sheet.cores ≡ true) (ps : all_named b.sheet.processes ≡ true) where
  lines_clean : AllClean (bill_lines b)
  unfolding without
  lines_clean =
      let front = section_clean (title Cores) b.sheet.cores refl cs in
      let back = section_clean (title Processes) b.sheet.processes refl ps in
      (head_clean b.scale b.sheet.span, both_clean (cores_part b) (processes_part b) front back)

  pub lines_of : pieces 10 (bill_text b) ≡ bill_pieces b
  lines_of = ap (pieces 10) (bill_closed b) ∙ pieces_closed (bill_lines b) lines_clean ∙ sym (pieces_lines b)

  pub line_count : (length (ended (pieces 10 (bill_text b))) ≡ 3 + length b.sheet.cores + length b.sheet.processes) × (unended (pieces 10 (bill_text b)) ≡ [])
  line_count = (ap (λ (ps : List (List ℕ)). length (ended ps)) lines_of ∙ ap length (pieces_ended b) ∙ length_lines b, ap unended lines_of ∙ pieces_unended b)
