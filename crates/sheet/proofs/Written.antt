-- The sheet put section by section: each section has room where the sheet has, and both together are the sheet.
use mathlib.Core.Path.{◌≡◌, refl, ap}
use mathlib.Core.List.{List, [], ◌∷◌, ◌++◌}
use Prim.Native.Nat.{ℕ, ◌+◌, ◌≤◌}
use native.Mathlib.Omega.{arith}
use lib.ListN.{length, length-append}
use Rattle.text.specs.Put.{after, put}
use Rattle.text.proofs.Writes.{put_two}
use Rattle.line.proofs.Texts.{Room}
use Rattle.bill.specs.declared.section.Section.{Section}
use Rattle.bill.specs.declared.section.Section.TheVariants.{Cores, Processes}
use Rattle.bill.specs.Text.{section_text, sheet_text, title}
use Rattle.sheet.specs.Sheet.{rows_in, sheet_in}

module _ (names nums ticks : List ℕ) where
  abbrev pub section_in : Section → List ℕ
  section_in s = section_text (title s) (rows_in s names nums ticks)

  abbrev text : List ℕ
  text = sheet_text (sheet_in names nums ticks)

  -- the sheet is its two sections
  two_sections : text ≡ section_in Cores ++ section_in Processes
  unfolding sheet_text sheet_in
  two_sections = refl

  pub sheet_length : length text ≡ length (section_in Cores) + length (section_in Processes)
  sheet_length = rw two_sections (length-append (section_in Cores) (section_in Processes))

  module _ (out : List ℕ) where
    pub sheet_room : length text ≤ length out → Room out 0 (section_in Cores ∷ section_in Processes ∷ [])
    sheet_room h = record { fit = omega (arith, sheet_length) }

    pub sheet_put : {j n : ℕ} {k m : List ℕ}
        → length text ≤ length out → after n m ≡ put out 0 (section_in Cores) → after j k ≡ put m n (section_in Processes) → after j k ≡ put out 0 text
    sheet_put h p q = rw two_sections (put_two out 0 (section_in Cores) (section_in Processes) p q (omega (arith, ap length two_sections)))
