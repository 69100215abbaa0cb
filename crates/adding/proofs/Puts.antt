-- Pieces put one after another: any, and those of a row.
use mathlib.Core.Path.{◌≡◌, refl, ap, ◌∙◌}
use mathlib.Core.List.{List, [], ◌∷◌, ◌++◌}
use Prim.Native.Nat.{ℕ, ◌+◌, ◌≤◌}
use native.Mathlib.Nat.{add-zero}
use native.Mathlib.Omega.{arith}
use lib.ListN.{length, length-append}
use Rattle.text.specs.Put.{written, Put, after, put}
use Rattle.text.proofs.Writes.{put_fits, put_length, put_two, put_then}
use Rattle.bill.specs.declared.section.Section.{Section}
use Rattle.bill.specs.declared.section.Section.TheVariants.{Cores, Processes}
use Rattle.bill.specs.Rows.{Row}
use Rattle.bill.specs.Text.{figures_text, row_text}
use Rattle.bill.proofs.Texts.{three_figures, length_row}
use Rattle.adding.specs.declared.put.Figures.{Figures}
use Rattle.adding.specs.MergeCode.{shown}

-- where several have room, the later ones have it once the first is put
pub put_room : {m : List ℕ} {n : ℕ} (l : List ℕ) (at : ℕ) (xs : List ℕ) (k : ℕ) → after n m ≡ put l at xs → at + (length xs + k) ≤ length l → n + k ≤ length m
put_room {m} {n} l at xs k e h =
    let p : n ≡ at + length xs = ap (λ (q : Put). q.next) (e ∙ put_fits l at xs (omega arith)) in
    omega (arith, put_length l at xs e)

-- then all together are put once the later ones are
pub put_on : {m : List ℕ} {n : ℕ} (l : List ℕ) (at : ℕ) (xs ys : List ℕ) → after n m ≡ put l at xs → at + (length xs + length ys) ≤ length l → put m n ys ≡ put l at (xs ++ ys)
put_on {m} {n} l at xs ys e h = put_two {k = (put m n ys).output} {j = (put m n ys).next} l at xs ys e refl (omega (arith, length-append xs ys))

pub put_none : (l : List ℕ) (at : ℕ) → at ≤ length l → put l at [] ≡ after at l
unfolding written
put_none l at h = put_fits l at [] (omega arith) ∙ rw add-zero

-- the figures of a core, and that of a process
pub core_figures_lem : {l₁ l₂ l₃ : List ℕ} {n₁ n₂ n₃ : ℕ} {s : Section} (l : List ℕ) (at : ℕ) (f : Figures) → s ≡ Cores → at + length (figures_text (shown s f)) ≤ length l →
    after n₁ l₁ ≡ put l at (figures_text (f.first ∷ [])) → after n₂ l₂ ≡ put l₁ n₁ (figures_text (f.second ∷ [])) → after n₃ l₃ ≡ put l₂ n₂ (figures_text (f.third ∷ [])) →
    after n₃ l₃ ≡ put l at (figures_text (shown s f))
core_figures_lem l at f e h one two three =
    let t = three_figures f.first f.second f.third in
    rw (e, t) (put_then l at _ _ (put_two l at _ _ one two) three (rw (e, t) at h))

pub process_figures_lem : {m : List ℕ} {n : ℕ} {s : Section} (l : List ℕ) (at : ℕ) (f : Figures) → s ≡ Processes → after n m ≡ put l at (figures_text (f.first ∷ [])) →
    after n m ≡ put l at (figures_text (shown s f))
process_figures_lem l at f e one = rw e one

-- a row: its figures have room once its name is put, and with its end it is put
module _ (l : List ℕ) (at : ℕ) (r : Row) (h : at + length (row_text r) ≤ length l) where
  pub figures_room : {m : List ℕ} {n : ℕ} → after n m ≡ put l at r.name → n + length (figures_text r.figures) ≤ length m
  figures_room e = put_room l at r.name (length (figures_text r.figures)) e (omega (arith, length_row r))

  pub row_put : {l₁ l₂ l₃ : List ℕ} {n₁ n₂ n₃ : ℕ} → after n₁ l₁ ≡ put l at r.name → after n₂ l₂ ≡ put l₁ n₁ (figures_text r.figures) → after n₃ l₃ ≡ put l₂ n₂ (10 ∷ []) →
      after n₃ l₃ ≡ put l at (row_text r)
  unfolding row_text
  row_put one two three = put_then l at _ _ (put_two l at _ _ one two) three h
