-- The sheet of tables that show a history is the history's sheet: its span, and a row for each core and each process with its own figures.
use Rattle.std.proofs.Common.{Some}
use mathlib.Core.Path.{◌≡◌, refl, sym, ap, ◌∙◌}
use mathlib.Core.Bool.{Bool, true, false}
use mathlib.Core.List.{List, [], ◌∷◌, ◌++◌, append-nil, append_assoc}
use Prim.Native.Nat.{ℕ, suc}
use lib.Dec.{eqb}
use lib.ListN.{length}
use borrow.Author.Tests.{eqb-true}
use Rattle.text.specs.Bytes.{same_bytes}
use Rattle.text.specs.Lists.{any}
use Rattle.text.proofs.Words.{same_eq, same_refl}
use Rattle.bill.specs.declared.section.Section.{Section}
use Rattle.bill.specs.declared.section.Section.TheVariants.{Cores, Processes}
use Rattle.bill.specs.Rows.{Row}
use Rattle.rules.specs.Lists.{only, keep}
use Rattle.rules.specs.Words.{core}
use Rattle.rules.specs.Charts.{is_process}
use Rattle.rules.specs.Event.{Event}
use Rattle.rules.specs.History.{names, kind_of, is_kind}
use Rattle.rules.specs.Verdict.{Accepted}
use Rattle.rules.specs.Sheet.{core_rows, process_rows, sheet}
use Rattle.tables.specs.Entry.{kind_at}
use Rattle.judge.specs.Feed.{Tables}
use Rattle.sheet.specs.Sheet.{belongs, row_in, rows_to, rows_in, sheet_in}
use Rattle.promises.specs.Places.{row_of}
use Rattle.promises.specs.Shown.{Shown}
use Rattle.promises.proofs.Choices.{eqb_turned}
use Rattle.promises.proofs.Places.{by_rows}
use Rattle.promises.proofs.Listed.{AllMet, names_distinct}
use Rattle.promises.proofs.Bounds.{span_shown}
use Rattle.promises.proofs.Figures.{held_shown, idle_shown, unknown_shown, charge_shown}

-- ---- the names of a section and their rows, as the history has them

abbrev is_in : Section → List Event → List ℕ → Bool
is_in Cores h n = is_kind (eqb core) (kind_of n h)
is_in Processes h n = is_kind is_process (kind_of n h)

abbrev section_rows : Section → List (List ℕ) → List Event → List Row
section_rows Cores ns h = core_rows ns h
section_rows Processes ns h = process_rows ns h

kind_belongs : (x : Section) (h : List Event) (n : List ℕ) (k : ℕ) → kind_of n h ≡ Some k → belongs x k ≡ is_in x h n
kind_belongs Cores h n k q = eqb_turned k core ∙ sym (ap (is_kind (eqb core)) q)
kind_belongs Processes h n k q = sym (ap (is_kind is_process) q)

module _ (h : List Event) (a : Accepted h) (met : AllMet h) (t : Tables) (s : Shown h t) where
  -- the row of a name that belongs to the section
  row_shown : (x : Section) (n : List ℕ) → any (same_bytes n) (names h) ≡ true → belongs x (kind_at t.nums (row_of h n)) ≡ true →
      (ns : List (List ℕ)) → row_in x t.names t.nums t.ticks (row_of h n) ∷ section_rows x ns h ≡ section_rows x (n ∷ ns) h
  row_shown Cores n q b ns =
      let r = s.each_name n q in
      let k : kind_of n h ≡ Some core = r.kind ∙ ap Some (eqb-true _ core b) in
      rw (r.name, held_shown h a met t s n k, idle_shown h a met t s n k, unknown_shown h a met t s n k)
  row_shown Processes n q b ns =
      let r = s.each_name n q in
      rw (r.name, charge_shown h a met t s n (kind_at t.nums (row_of h n)) r.kind b)

  rows_shown : (x : Section) → rows_in x t.names t.nums t.ticks ≡ section_rows x (only (is_in x h) (names h)) h
  unfolding rows_in rows_to
  rows_shown x = rw s.singles.names_counted (by_rows same_bytes same_eq same_refl (names h) (names_distinct h) P (none x) step)
    where
      up_to : ℕ → List Row
      up_to = rows_to x t.names t.nums t.ticks

      -- the rows from j on, with the names ns, are still to be put after those before
      P : ℕ → List (List ℕ) → Type 0
      P j ns = up_to (length (names h)) ≡ up_to j ++ section_rows x (only (is_in x h) ns) h

      none : (y : Section) → up_to (length (names h)) ≡ up_to (length (names h)) ++ section_rows y [] h
      none Cores = sym (append-nil _)
      none Processes = sym (append-nil _)

      step : (n : List ℕ) → any (same_bytes n) (names h) ≡ true → (ns : List (List ℕ)) → P (suc (row_of h n)) ns → P (row_of h n) (n ∷ ns)
      step n q ns i =
          i
          ∙ append_assoc (up_to (row_of h n)) _ _
          ∙ ap {B = List Row} (λ l. up_to (row_of h n) ++ l)
          (rw (← kind_belongs x h n _ (s.each_name n q).kind) (by_test (belongs x (kind_at t.nums (row_of h n))) refl))
        where
          rest : List (List ℕ)
          rest = only (is_in x h) ns

          by_test : (b : Bool) → belongs x (kind_at t.nums (row_of h n)) ≡ b →
              keep b (row_in x t.names t.nums t.ticks (row_of h n)) [] ++ section_rows x rest h ≡ section_rows x (keep b n rest) h
          by_test true e = row_shown x n q e rest
          by_test false e = refl

  pub sheet_shown : sheet_in t.names t.nums t.ticks ≡ sheet h
  unfolding sheet_in sheet
  sheet_shown =
      let whole = span_shown h t.nums t.ticks s.singles in
      λ i. record { span = whole i; cores = rows_shown Cores i; processes = rows_shown Processes i }
