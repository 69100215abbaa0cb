-- Two sheets that were read, of which 22 and 23 don't hold: what their merged rows come to is the sum, or its refusal.
use mathlib.Core.Path.{◌≡◌, refl, sym, ap, ◌∙◌}
use mathlib.Core.Bool.{true, false}
use mathlib.Core.List.{List}
use Prim.Native.Nat.{ℕ, ◌+◌, ◌-◌, ◌≤◌, ◌<◌}
use native.Mathlib.Omega.{arith}
use lib.Dec.{eqb}
use lib.ListN.{length, take}
use Rattle.text.specs.Sizes.{max_time}
use Rattle.text.specs.Put.{after, put}
use Rattle.text.proofs.Writes.{put_front}
use Rattle.bill.specs.declared.section.Section.{Section}
use Rattle.bill.specs.declared.section.Section.TheVariants.{Cores, Processes}
use Rattle.bill.specs.Rows.{Row}
use Rattle.bill.specs.Text.{rows_text, section_text, sheet_text}
use Rattle.bill.specs.Reading.{Bill, bill_text, rows_in}
use Rattle.sorting.specs.Sets.{twice, sorted_by}
use Rattle.shifts.specs.Sound.{names, too_many}
use Rattle.shifts.specs.Sum.{by_name, no_core, no_process, sum, clash, refusal, Text, total_by}
use Rattle.shifts.proofs.Fine.{Fine, few_names, sound_is}
use Rattle.shifts.proofs.SortedRows.{add_sorted}
use Rattle.shifts.proofs.Sizes.{core_rows_most, process_rows_most}
use Rattle.shifts.proofs.AddedRows.{count_add}
use Rattle.std.specs.declared.result.Result.TheVariants.{Err}
use Rattle.adding.specs.declared.refusal.Refusal.{Refusal as Why}
use Rattle.adding.specs.declared.refusal.Refusal.TheVariants.{Output, Malformed, Scales, Names, TooMany, TooLong}
use Rattle.adding.specs.declared.sheet.Sheet.{Sheet}
use Rattle.adding.specs.declared.whole.Made.{Made}
use Rattle.adding.specs.Adding.{number_of, summed, into_output, add_into}
use Rattle.adding.specs.MergeCode.{sum_rows, Merging}
use Rattle.adding.specs.SheetCode.{places_of, WasRead}
use Rattle.adding.specs.AddCode.{counted_text, made_text, own_refusal, Paired, sums_of, room_of}
use Rattle.adding.proofs.Pairs.{comes_to}

-- rows in order, added, are the rows added
merged : (section : Section) (cs ds : List Row) {rs qs : List Row} {x y a b : ℕ} → rs ≡ sorted_by by_name cs → qs ≡ sorted_by by_name ds → x ≡ a → y ≡ b
    → twice (names cs) ≡ false → twice (names ds) ≡ false → sum_rows section rs x qs y ≡ sum_rows section cs a ds b
merged section cs ds e g h k m n = rw (e, g, h, k) (add_sorted _ _ _ _ m n)

-- the text from its parts is that of the bill
made_is : (b : Bill) (d : Made) → d.scale ≡ b.scale → d.span ≡ b.sheet.span
    → d.cores ≡ length b.sheet.cores → d.core_lines.now ≡ rows_text b.sheet.cores → d.processes ≡ length b.sheet.processes → d.process_lines.now ≡ rows_text b.sheet.processes
    → made_text d ≡ bill_text b
unfolding made_text counted_text bill_text sheet_text section_text
made_is b d e1 e2 e3 e4 e5 e6 = rw (e1, e2, e3, e4, e5, e6)

-- 24 and 25, where neither 22 nor 23 holds
own_by : (a b : Bill) {k m n : ℕ} → k ≡ length (sum a b).sheet.cores → m ≡ length (sum a b).sheet.processes → n ≡ (sum a b).sheet.span
    → eqb a.scale b.scale ≡ true → clash a b ≡ false → own_refusal k m n ≡ refusal a b
unfolding own_refusal refusal too_many sum
own_by a b e1 e2 e3 e4 e5 = rw (e1, e2, e3, e4, e5)

-- a refusal is answered, and nothing written
refused_as : (r : Why) (b : Bill) (out : List ℕ) → summed (Err (number_of r)) out ≡ into_output (total_by (number_of r) b) out
refused_as Output b out = refl
refused_as Malformed b out = refl
refused_as Scales b out = refl
refused_as Names b out = refl
refused_as TooMany b out = refl
refused_as TooLong b out = refl

-- what was put at the front of an output that has room
pub in_front : {m : List ℕ} {k : ℕ} (l t : List ℕ) → after k m ≡ put l 0 t → length t ≤ length l → (take k m ≡ t) × (k ≤ length m)
in_front {k = k} l t p h =
    let w = put_front l t p h in
    let z : k - 0 ≡ k = omega arith in
    (rw z at w.0, omega (arith, w.1))

module _ {x y : Sheet} (p : Paired x y) where
  abbrev first : Bill
  first = p.both.first.bill

  abbrev second : Bill
  second = p.both.second.bill

  fine_first : Fine first
  fine_first = (sound_is x.text.now first p.both.first.sound).1

  fine_second : Fine second
  fine_second = (sound_is y.text.now second p.both.second.sound).1

  sums_merged : (section : Section) → sums_of section x y ≡ rows_in section (sum first second)
  unfolding sum
  sums_merged section = by section
    where
      u : WasRead x
      u = p.both.first

      v : WasRead y
      v = p.both.second

      by : (section : Section) → sums_of section x y ≡ rows_in section (sum first second)
      by Cores = merged Cores first.sheet.cores second.sheet.cores (u.rows Cores) (v.rows Cores) u.span v.span fine_first.cores_once fine_second.cores_once
      by Processes = merged Processes first.sheet.processes second.sheet.processes (u.rows Processes) (v.rows Processes) u.span v.span fine_first.processes_once fine_second.processes_once

  -- the spans may be added
  first_short : x.form.span ≤ max_time
  first_short = omega (arith, p.both.first.span, fine_first.short)

  second_short : y.form.span ≤ max_time
  second_short = omega (arith, p.both.second.span, fine_second.short)

  pub spans_fit : x.form.span + y.form.span < 18446744073709551616
  spans_fit = omega (arith, first_short, second_short)

  -- there is room for the rows
  rows_room : (section : Section) → length (rows_text (rows_in section (sum first second))) ≤ room_of section
  rows_room Cores = core_rows_most first second fine_first fine_second
  rows_room Processes = process_rows_most first second fine_first fine_second

  pub sums_room : (section : Section) → length (rows_text (sums_of section x y)) ≤ room_of section
  sums_room section = rw (sums_merged section) (rows_room section)

  pub merging : (section : Section) {n : ℕ} → n ≡ room_of section → Merging section x.text.now (places_of section x) x.form.span y.text.now (places_of section y) y.form.span n
  merging section e = record {
    first = p.both.first.in_order section;
    second = p.both.second.in_order section;
    first_span = omega (arith, first_short);
    second_span = omega (arith, second_short);
    fits = rw e (sums_room section);
  }

  -- ---- what the merged rows come to

  -- k and m count the rows
  module _ {k m : ℕ} (cores : k ≡ length (sums_of Cores x y)) (processes : m ≡ length (sums_of Processes x y)) where
    k_is : k ≡ length (sum first second).sheet.cores
    k_is = cores ∙ ap length (sums_merged Cores)

    m_is : m ≡ length (sum first second).sheet.processes
    m_is = processes ∙ ap length (sums_merged Processes)

    pub few : (k ≤ 512) × (m ≤ 512)
    unfolding sum
    few =
        let u = fine_first in
        let v = fine_second in
        let c = count_add (no_core first) (no_core second) first.sheet.cores second.sheet.cores in
        let q = count_add no_process no_process first.sheet.processes second.sheet.processes in
        let a = few_names _ _ u.few in
        let b = few_names _ _ v.few in
        (omega (arith, k_is), omega (arith, m_is))

    scale_is : x.form.scale ≡ (sum first second).scale
    unfolding sum
    scale_is = p.both.first.scale

    spans : x.form.span + y.form.span ≡ (sum first second).sheet.span
    unfolding sum
    spans = omega (arith, p.both.first.span, p.both.second.span)

    own_is : own_refusal k m (x.form.span + y.form.span) ≡ refusal first second
    own_is = own_by first second k_is m_is spans p.one_scale p.no_clash

    pub sum_refused : (r : Why) (out : List ℕ) → number_of r ≡ own_refusal k m (x.form.span + y.form.span) → summed (Err (number_of r)) out ≡ add_into x.text.now y.text.now out
    unfolding add_into
    sum_refused r out e =
        refused_as r (sum first second) out ∙ ap (λ r. into_output (total_by r (sum first second)) out) (e ∙ own_is) ∙ ap (λ r. into_output r out) (sym (comes_to p.both))

    pub sum_made : (d : Made) (out : List ℕ) → own_refusal k m (x.form.span + y.form.span) ≡ 0 → d.scale ≡ x.form.scale → d.span ≡ x.form.span + y.form.span
        → d.cores ≡ k → d.core_lines.now ≡ rows_text (sums_of Cores x y) → d.processes ≡ m → d.process_lines.now ≡ rows_text (sums_of Processes x y)
        → into_output (Text (made_text d)) out ≡ add_into x.text.now y.text.now out
    unfolding add_into
    sum_made d out z e1 e2 e3 e4 e5 e6 =
        ap (λ r. into_output (Text r) out)
        (made_is (sum first second) d (e1 ∙ scale_is) (e2 ∙ spans) (e3 ∙ k_is) (e4 ∙ ap rows_text (sums_merged Cores)) (e5 ∙ m_is) (e6 ∙ ap rows_text (sums_merged Processes)))
        ∙ ap (λ r. into_output (total_by r (sum first second)) out) (sym z ∙ own_is)
        ∙ ap (λ r. into_output r out) (sym (comes_to p.both))
