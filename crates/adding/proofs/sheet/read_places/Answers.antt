-- `adding::sheet::read_places` meets its contract: at each exit the text is none that may be added, or all is found of one that may.
use borrow.Author.Rules.{rules}
use Rattle.adding.proofs.Sheets.{formed_sized}
use Rattle.adding.proofs.SheetExits.{too_long, unread, rows_wrong, sheet_read}
use Rattle.adding.proofs.sheet.read_places.Goals as goal

pub returns-then-text-gt-SHEET_MOST : goal.returns-then-text-gt-SHEET_MOST
returns-then-text-gt-SHEET_MOST c = unread _ _ _ (search rules) (search rules) (too_long _ c.if-text-gt-SHEET_MOST.true)

pub rows_right-requires : goal.rows_right-requires
rows_right-requires c = (formed_sized c.in_ok-form.ensures, search rules, search rules)

pub returns-then-not-rows_right : goal.returns-then-not-rows_right
returns-then-not-rows_right c =
    let s = c.rows_right.ensures in
    unread _ _ _ s.cores_sized s.processes_sized (rows_wrong _ _ _ c.in_ok-form.ensures _ _ c.rows_right.result s (rw c.if-not-rows_right.true))

pub returns : goal.returns
returns c = sheet_read _ _ _ c.in_ok-form.ensures _ _ c.rows_right.result c.rows_right.ensures (rw c.if-not-rows_right.false)
