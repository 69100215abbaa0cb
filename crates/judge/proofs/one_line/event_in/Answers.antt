-- `judge::one_line::event_in` meets its contract: the plan is the definition's, and either arm carries it out.
use Rattle.std.proofs.Common.{◌≡◌, ℕ, ◌+◌, ◌-◌, List, take, drop, sym, ap, ◌∙◌, add-one, arith}
use Rattle.fields.specs.declared.part.Commas.{Commas}
use Rattle.fields.specs.Part.{commas_of, field_of, part_from}
use Rattle.fields.proofs.Parts.{field_place}
use Rattle.line.proofs.Said.{event_order}
use Rattle.text.specs.Refusal.{numbered}
use Rattle.tables.specs.Sized.{Sized}
use Rattle.judge.specs.Feed.{remembered}
use Rattle.judge.proofs.Feeds.{refused_carried, taken_carried, carried_judged}
use Rattle.judge.proofs.one_line.event_in.Goals as goal

-- what stands after one comma and before another, as the code cuts it
abbrev cut : List ℕ → ℕ → ℕ → List ℕ
cut l a b = take (b - (a + 1)) (drop (a + 1) l)

-- source and target are the fields 2 and 5, which stand between their commas
fields : (l : List ℕ) (k : Commas) → k ≡ commas_of l → (cut l k.c1 k.c2 ≡ field_of l 2) × (cut l k.c4 k.c5 ≡ field_of l 5)
unfolding part_from
fields l k e = rw e (rw add-one (sym (field_place _ 0)), rw add-one (sym (field_place _ 3)))

-- an event line has six commas
pub overflow_add-after_first : goal.overflow_add-after_first
overflow_add-after_first c = omega (arith, event_order _ _ _ _ c.requires.0 c.requires.1)

pub overflow_add-after_fourth : goal.overflow_add-after_fourth
overflow_add-after_fourth c = omega (arith, event_order _ _ _ _ c.requires.0 c.requires.1)

pub slice_bounds-source-count : goal.slice_bounds-source-count
slice_bounds-source-count c = omega (arith, event_order _ _ _ _ c.requires.0 c.requires.1)

pub slice_bounds-source-start : goal.slice_bounds-source-start
slice_bounds-source-start c = omega (arith, event_order _ _ _ _ c.requires.0 c.requires.1)

pub slice_bounds-source-end : goal.slice_bounds-source-end
slice_bounds-source-end c = omega (arith, event_order _ _ _ _ c.requires.0 c.requires.1)

pub slice_bounds-target-count : goal.slice_bounds-target-count
slice_bounds-target-count c = omega (arith, event_order _ _ _ _ c.requires.0 c.requires.1)

pub slice_bounds-target-start : goal.slice_bounds-target-start
slice_bounds-target-start c = omega (arith, event_order _ _ _ _ c.requires.0 c.requires.1)

pub slice_bounds-target-end : goal.slice_bounds-target-end
slice_bounds-target-end c = omega (arith, event_order _ _ _ _ c.requires.0 c.requires.1)

pub returns-in-Err : goal.returns-in-Err
returns-in-Err c =
    let z : Sized c.args.names.now c.args.nums.now c.args.ticks.now = record { names_sized = omega arith; nums_sized = omega arith; ticks_sized = omega arith } in
    let f = fields c.args.l.now c.args.c c.requires.0 in
    let n = c.number.ensures in
    refused_carried _ _ (ap numbered c.in-Err.is) (c.remember.ensures.0 ∙ n) (c.remember.ensures.1 ∙ ap (remembered c.args.nums.now) n)
    ∙ carried_judged _ _ _ _ z f.0 f.1 c.decide-plan.ensures

pub returns-in-Ok : goal.returns-in-Ok
returns-in-Ok c =
    let z : Sized c.args.names.now c.args.nums.now c.args.ticks.now = record { names_sized = omega arith; nums_sized = omega arith; ticks_sized = omega arith } in
    let f = fields c.args.l.now c.args.c c.requires.0 in
    taken_carried _ _ z (ap numbered c.in-Ok.is) c.take.ensures ∙ carried_judged _ _ _ _ z f.0 f.1 c.decide-plan.ensures
