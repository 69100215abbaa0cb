-- Two sheets that were read: 22 and 23, and that the sum or its refusal is what their bills come to.
use mathlib.Core.Path.{◌≡◌, sym, ap, ap₂, ◌∙◌}
use mathlib.Core.Bool.{Bool, true, false, ◌||◌}
use mathlib.Core.List.{List, map, map-map}
use Prim.Native.Nat.{ℕ}
use lib.Dec.{eqb}
use borrow.Author.Tests.{eq-eqb, ne_eqb}
use Rattle.bill.specs.declared.section.Section.TheVariants.{Cores, Processes}
use Rattle.bill.specs.Rows.{Row}
use Rattle.bill.specs.Reading.{Bill}
use Rattle.sorting.specs.Sets.{meets, sorted, sorted_by}
use Rattle.sorting.proofs.Keys.{map_sorted}
use Rattle.sorting.proofs.Meets.{meets_sorted}
use Rattle.shifts.specs.Sound.{names}
use Rattle.shifts.specs.Sum.{by_name, sum, clash, refusal, Refusal, total_by, add_texts}
use Rattle.adding.specs.declared.sheet.Sheet.{Sheet}
use Rattle.paper.specs.Lines.{row_at, name_at}
use Rattle.adding.specs.MergeCode.{rows_at}
use Rattle.adding.specs.SheetCode.{places_of}
use Rattle.adding.specs.AddCode.{BothRead, cores_met, Paired}

-- the names of rows by their places are those of the section, in order
in_order : (text places : List ℕ) (rs : List Row) → rows_at text places ≡ sorted_by by_name rs → map (name_at text) places ≡ sorted (names rs)
unfolding names
in_order text places rs e = sym (map-map by_name (row_at text) places) ∙ ap names e ∙ map_sorted by_name rs

-- ---- the first two refusals of a pair

by_scale : (a b : Bill) → eqb a.scale b.scale ≡ false → refusal a b ≡ 22
unfolding refusal
by_scale a b e = rw e

by_clash : (a b : Bill) → eqb a.scale b.scale ≡ true → clash a b ≡ true → refusal a b ≡ 23
unfolding refusal
by_clash a b e h = rw (e, h)

module _ {x y : Sheet} (p : BothRead x y) where
  abbrev a : Bill
  a = p.first.bill

  abbrev b : Bill
  b = p.second.bill

  pub comes_to : add_texts x.text.now y.text.now ≡ total_by (refusal a b) (sum a b)
  unfolding add_texts
  comes_to = rw (p.first.sound, p.second.sound)

  clash_is : clash a b ≡ cores_met x y || cores_met y x
  unfolding clash
  clash_is =
      let u = p.first.rows in
      let v = p.second.rows in
      sym (ap₂ ◌||◌
      (ap₂ meets (in_order x.text.now (places_of Cores x) _ (u Cores)) (in_order y.text.now (places_of Processes y) _ (v Processes)) ∙ meets_sorted _ _)
      (ap₂ meets (in_order y.text.now (places_of Cores y) _ (v Cores)) (in_order x.text.now (places_of Processes x) _ (u Processes)) ∙ meets_sorted _ _))

  pub scales_differ : (x.form.scale ≡ y.form.scale → ⊥) → add_texts x.text.now y.text.now ≡ Refusal 22
  scales_differ h =
      let e = ne_eqb a.scale b.scale (λ q. h (p.first.scale ∙ q ∙ sym p.second.scale)) in
      comes_to ∙ ap (λ n. total_by n (sum a b)) (by_scale a b e)

  module _ (e : x.form.scale ≡ y.form.scale) where
    one_scale : eqb a.scale b.scale ≡ true
    one_scale = eq-eqb a.scale b.scale (sym p.first.scale ∙ e ∙ p.second.scale)

    names_clash : cores_met x y || cores_met y x ≡ true → add_texts x.text.now y.text.now ≡ Refusal 23
    names_clash h = comes_to ∙ ap (λ n. total_by n (sum a b)) (by_clash a b one_scale (clash_is ∙ h))

    pub clash_here : {r : Bool} → r ≡ cores_met x y → r ≡ true → add_texts x.text.now y.text.now ≡ Refusal 23
    clash_here q h = names_clash (rw (sym q ∙ h))

    pub clash_there : {r : Bool} → r ≡ cores_met y x → r ≡ true → cores_met x y ≡ false → add_texts x.text.now y.text.now ≡ Refusal 23
    clash_there q h k = names_clash (rw (k, sym q ∙ h))

    pub paired : cores_met x y ≡ false → cores_met y x ≡ false → Paired x y
    paired h k = record { both = p; one_scale = one_scale; no_clash = clash_is ∙ rw (h, k) }
