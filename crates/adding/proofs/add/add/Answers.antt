-- `adding::add::add` meets its contract: each text that may not be added is 21, and else both are added by the places of their rows.
use mathlib.Core.Path.{◌∙◌}
use Rattle.std.proofs.lemmas.Result.{err_from_is_err_and}
use Rattle.adding.proofs.Books.{not_read, booked, first_unsound, second_unsound}
use Rattle.adding.proofs.add.add.Goals as goal

pub returns-in_err-x : goal.returns-in_err-x
returns-in_err-x c =
    let p = err_from_is_err_and c.from_residual.result c.from_residual.ensures.1 in
    let n = not_read _ _ c.read_sheet.ensures c.ok_or.ensures.value _ c.in_err-x.was in
    rw (p.1, p.2, n.0) (first_unsound _ _ _ n.1)

pub returns-in_err-y : goal.returns-in_err-y
returns-in_err-y c =
    let p = err_from_is_err_and c.from_residual-in_err-y.result c.from_residual-in_err-y.ensures.1 in
    let n = not_read _ _ c.read_sheet-2.ensures c.ok_or-2.ensures.value _ c.in_err-y.was in
    rw (p.1, p.2, n.0) (second_unsound _ _ _ n.1)

pub add_read-requires : goal.add_read-requires
add_read-requires c = record {
  first = (booked _ _ c.read_sheet.ensures c.ok_or.ensures.value _ c.in_ok-x.was).1;
  second = (booked _ _ c.read_sheet-2.ensures c.ok_or-2.ensures.value _ c.in_ok-y.was).1;
}

pub returns : goal.returns
returns c =
    let a = (booked _ _ c.read_sheet.ensures c.ok_or.ensures.value _ c.in_ok-x.was).0 in
    let b = (booked _ _ c.read_sheet-2.ensures c.ok_or-2.ensures.value _ c.in_ok-y.was).0 in
    c.add_read.ensures ∙ rw (a, b)
