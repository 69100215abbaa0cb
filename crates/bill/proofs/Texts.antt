-- Laws of the text of a sheet: its pieces one after another, and how long they are.
use mathlib.Core.Path.{◌≡◌, sym, ap}
use mathlib.Core.List.{List, [], ◌∷◌, ◌++◌, append-nil, append_assoc}
use Prim.Native.Nat.{ℕ, ◌+◌}
use native.Mathlib.Omega.{arith}
use lib.ListN.{length, length-append}
use Rattle.text.specs.Number.{digits_of}
use Rattle.bill.specs.Rows.{Row}
use Rattle.bill.specs.Text.{figures_text, row_text, rows_text, section_text}

-- ---- the pieces

pub figure_text : (n : ℕ) → figures_text (n ∷ []) ≡ 32 ∷ digits_of n
unfolding figures_text
figure_text n = rw append-nil

figures_cons : (n : ℕ) (ns : List ℕ) → figures_text (n ∷ ns) ≡ figures_text (n ∷ []) ++ figures_text ns
unfolding figures_text
figures_cons n ns = ap (λ (l : List ℕ). l ++ figures_text ns) (sym (figure_text n))

-- the figures of a core
pub three_figures : (a b c : ℕ) → figures_text (a ∷ b ∷ c ∷ []) ≡ figures_text (a ∷ []) ++ figures_text (b ∷ []) ++ figures_text (c ∷ [])
three_figures a b c = rw (figures_cons a (b ∷ c ∷ []), figures_cons b (c ∷ []), append_assoc)

-- one line more
pub rows_snoc : (rs : List Row) (r : Row) → rows_text (rs ++ r ∷ []) ≡ rows_text rs ++ row_text r
unfolding rows_text
rows_snoc [] r = append-nil (row_text r)
rows_snoc (q ∷ rs) r = rw (rows_snoc rs r, append_assoc)

-- ---- their lengths

pub length_figure : (n : ℕ) → length (figures_text (n ∷ [])) ≡ length (digits_of n) + 1
length_figure n = rw (figure_text n) (omega arith)

pub length_three : (a b c : ℕ) → length (figures_text (a ∷ b ∷ c ∷ [])) ≡ length (digits_of a) + length (digits_of b) + length (digits_of c) + 3
length_three a b c = rw (three_figures a b c) (simp (length-append, length_figure) (omega arith))

pub length_row : (r : Row) → length (row_text r) ≡ length r.name + length (figures_text r.figures) + 1
unfolding row_text
length_row r = simp length-append

pub length_rows : (rs : List Row) (r : Row) → length (rows_text (rs ++ r ∷ [])) ≡ length (rows_text rs) + length (row_text r)
length_rows rs r = rw (rows_snoc rs r) (length-append (rows_text rs) (row_text r))

pub length_section : (t : List ℕ) (rs : List Row) → length (section_text t rs) ≡ length t + length (digits_of (length rs)) + 1 + length (rows_text rs)
unfolding section_text
length_section t rs = simp length-append (omega arith)
