-- Calls of adding: in either order the same answer and the same output, in any grouping and any order of many sheets the same bytes where each output has room for
-- every sum, and the empty sheet changes no sorted one.
use Rattle.std.proofs.Common.{Some}
use mathlib.Core.Path.{◌≡◌, refl, sym, ap, ◌∙◌}
use mathlib.Core.Bool.{true}
use mathlib.Core.List.{List, Perm}
use Prim.Native.Nat.{ℕ, ◌≤◌}
use native.Mathlib.Omega.{arith}
use lib.ListN.{length}
use borrow.Author.Tests.{le-leb}
use Rattle.text.specs.Put.{written}
use Rattle.text.proofs.Writes.{take_written}
use Rattle.bill.specs.Reading.{Bill, bill_text}
use Rattle.shifts.specs.Sound.{sound_sheet}
use Rattle.shifts.specs.Sum.{Total, Text, Refusal, add_texts, add_totals}
use Rattle.shifts.specs.Sizes.{sheet_most}
use Rattle.shifts.specs.Grouping.{sheets_of, comes_to, bytes_of}
use Rattle.shifts.specs.Empty.{empty_bill, is_sorted}
use Rattle.shifts.proofs.Many.{sum_short}
use Rattle.shifts.proofs.Turned.{texts_turned}
use Rattle.shifts.proofs.Groupings.{texts_grouped}
use Rattle.shifts.proofs.AnyOrder.{any_way}
use Rattle.shifts.proofs.Empty.{empty_after}
use Rattle.std.specs.declared.result.Result.TheVariants.{Ok}
use Rattle.adding.specs.Adding.{summed, into_output, add_into, told, add_told, Calls, NoCall, Call, grouping_of, calls_tell, HaveRoom}

-- ---- two sheets, either way round

pub call_turned : (a b out : List ℕ) → add_into a b out ≡ add_into b a out
unfolding add_into
call_turned a b out = ap (λ (x : Total). into_output x out) (texts_turned a b)

-- ---- three sheets, where each output has room for every sum: a call then tells what the two sheets come to

pub call_told : (a b out : List ℕ) → sheet_most ≤ length out → told (add_into a b out) ≡ add_texts a b
unfolding add_into
call_told a b out room = by_total (add_texts a b) refl
  where
    by_total : (x : Total) → add_texts a b ≡ x → told (into_output x out) ≡ x
    by_total (Text t) e =
        let fits : length t ≤ length out = omega (arith, sum_short a b t e) in
        rw (le-leb (length t) (length out) fits, take_written out t fits)
    by_total (Refusal n) e = refl

totals_told : (x y : Total) (out : List ℕ) → sheet_most ≤ length out → add_told x y out ≡ add_totals x y
totals_told (Text t) (Text u) out room = call_told t u out room
totals_told (Text t) (Refusal n) out room = refl
totals_told (Refusal n) y out room = refl

pub calls_grouped : (a b c first second third fourth : List ℕ) →
    sheet_most ≤ length first → sheet_most ≤ length second → sheet_most ≤ length third → sheet_most ≤ length fourth →
    bytes_of (add_told (told (add_into a b first)) (Text c) second) ≡ bytes_of (add_told (Text a) (told (add_into b c third)) fourth)
calls_grouped a b c first second third fourth h k l m =
    rw (call_told a b first h, call_told b c third l)
    (ap bytes_of (totals_told (add_texts a b) (Text c) second k) ∙ texts_grouped a b c ∙ ap bytes_of (sym (totals_told (Text a) (add_texts b c) fourth m)))

-- ---- any number of sheets, in any grouping and any order

calls_told : (x : Calls) → HaveRoom x → calls_tell x ≡ comes_to (grouping_of x)
calls_told (NoCall t) h = refl
calls_told (Call x y out) h = rw (calls_told x h.0, calls_told y h.1.0) (totals_told (comes_to (grouping_of x)) (comes_to (grouping_of y)) out h.1.1)

pub calls_any_way : (x y : Calls) → HaveRoom x → HaveRoom y → Perm (sheets_of (grouping_of x)) (sheets_of (grouping_of y)) → bytes_of (calls_tell x) ≡ bytes_of (calls_tell y)
calls_any_way x y h k p = rw (calls_told x h, calls_told y k) (any_way (grouping_of x) (grouping_of y) p)

-- ---- a sorted sheet and the empty one

module _ (t out : List ℕ) (b : Bill) (s : sound_sheet t ≡ Some b) (o : is_sorted b ≡ true) (fits : length t ≤ length out) where
  pub call_empty_after : add_into t (bill_text (empty_bill b.scale)) out ≡ summed (Ok (length t)) (written out 0 t)
  unfolding add_into
  call_empty_after = rw (empty_after t b s o, le-leb (length t) (length out) fits)

  pub call_empty_before : add_into (bill_text (empty_bill b.scale)) t out ≡ summed (Ok (length t)) (written out 0 t)
  call_empty_before = call_turned (bill_text (empty_bill b.scale)) t out ∙ call_empty_after
