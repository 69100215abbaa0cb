-- `adding::add::add_rows` meets its contract: both sections put have room, and what they come to is the sum or its refusal.
use mathlib.Core.Path.{refl, sym, ap, ◌∙◌}
use native.Mathlib.Omega.{arith}
use lib.Seq.{length-take-le}
use Rattle.std.proofs.lemmas.Result.{err_from_is_err_and}
use Rattle.bill.specs.declared.section.Section.TheVariants.{Cores, Processes}
use Rattle.adding.specs.AddCode.{refused_by}
use Rattle.adding.proofs.Adds.{spans_fit, sums_room, few, sum_refused, sum_made, in_front}
use Rattle.adding.proofs.add.add_rows.Goals as goal

pub overflow_add-span : goal.overflow_add-span
overflow_add-span c = omega (arith, spans_fit c.requires)

pub own_refusal-requires : goal.own_refusal-requires
own_refusal-requires c = few c.requires c.put_section_rows-cores.ensures.0 c.put_section_rows-processes.ensures.0

pub returns-in_err-own_refusal : goal.returns-in_err-own_refusal
returns-in_err-own_refusal c =
    let p = err_from_is_err_and c.from_residual.result c.from_residual.ensures.1 in
    rw (p.1, p.2) (sum_refused c.requires c.put_section_rows-cores.ensures.0 c.put_section_rows-processes.ensures.0 _ c.args.out.now c.in_err-own_refusal.ensures)

pub slice_bounds-core_lines-end : goal.slice_bounds-core_lines-end
slice_bounds-core_lines-end c = (in_front _ _ c.put_section_rows-cores.ensures.1 (sums_room c.requires Cores)).1

pub slice_bounds-made-end : goal.slice_bounds-made-end
slice_bounds-made-end c = sym (length-take-le _ _ (in_front _ _ c.put_section_rows-cores.ensures.1 (sums_room c.requires Cores)).1)

pub slice_bounds-process_lines-end : goal.slice_bounds-process_lines-end
slice_bounds-process_lines-end c = (in_front _ _ c.put_section_rows-processes.ensures.1 (sums_room c.requires Processes)).1

pub slice_bounds-made-end-2 : goal.slice_bounds-made-end-2
slice_bounds-made-end-2 c = sym (length-take-le _ _ (in_front _ _ c.put_section_rows-processes.ensures.1 (sums_room c.requires Processes)).1)

pub returns : goal.returns
returns c =
    c.put_whole.ensures
    ∙ sum_made c.requires c.put_section_rows-cores.ensures.0 c.put_section_rows-processes.ensures.0 _ _ (sym c.own_refusal.ensures ∙ ap refused_by c.in_ok-own_refusal.was) refl refl refl
    (in_front _ _ c.put_section_rows-cores.ensures.1 (sums_room c.requires Cores)).0 refl (in_front _ _ c.put_section_rows-processes.ensures.1 (sums_room c.requires Processes)).0
