-- `adding::merge::put_next` meets its contract: of each section whose name comes next the first row is read, and their sum is put.
use borrow.Author.Rules.{rules}
use Rattle.adding.proofs.Amounts.{read_small, none_small}
use Rattle.adding.proofs.NextRows.{left_alone, in_both, right_alone, next_room, put_same}
use Rattle.adding.proofs.merge.put_next.Goals as goal

pub sum_of-f-requires : goal.sum_of-f-requires
sum_of-f-requires c = (read_small _ _ c.figures_at.ensures, none_small _ (search rules) c.none_for.ensures)

pub put_row-requires : goal.put_row-requires
put_row-requires c = next_room c.requires (left_alone c.requires c.in-Less.is c.name_at.ensures c.figures_at.ensures c.none_for.ensures c.sum_of-f.ensures)

pub sum_of-f-requires-in-Equal : goal.sum_of-f-requires-in-Equal
sum_of-f-requires-in-Equal c = (read_small _ _ c.figures_at-in-Equal.ensures, read_small _ _ c.figures_at-in-Equal-2.ensures)

pub put_row-requires-in-Equal : goal.put_row-requires-in-Equal
put_row-requires-in-Equal c = next_room c.requires (in_both c.requires c.in-Equal.is c.name_at-in-Equal.ensures c.figures_at-in-Equal.ensures c.figures_at-in-Equal-2.ensures c.sum_of-f-in-Equal.ensures)

pub sum_of-f-requires-in-Greater : goal.sum_of-f-requires-in-Greater
sum_of-f-requires-in-Greater c = (none_small _ (search rules) c.none_for-in-Greater.ensures, read_small _ _ c.figures_at-in-Greater.ensures)

pub put_row-requires-in-Greater : goal.put_row-requires-in-Greater
put_row-requires-in-Greater c = next_room c.requires (right_alone c.requires c.in-Greater.is c.name_at-in-Greater.ensures c.none_for-in-Greater.ensures c.figures_at-in-Greater.ensures c.sum_of-f-in-Greater.ensures)

pub returns-in-Less : goal.returns-in-Less
returns-in-Less c = put_same _ _ (left_alone c.requires c.in-Less.is c.name_at.ensures c.figures_at.ensures c.none_for.ensures c.sum_of-f.ensures) c.put_row.ensures

pub returns-in-Equal : goal.returns-in-Equal
returns-in-Equal c = put_same _ _ (in_both c.requires c.in-Equal.is c.name_at-in-Equal.ensures c.figures_at-in-Equal.ensures c.figures_at-in-Equal-2.ensures c.sum_of-f-in-Equal.ensures) c.put_row-in-Equal.ensures

pub returns-in-Greater : goal.returns-in-Greater
returns-in-Greater c = put_same _ _ (right_alone c.requires c.in-Greater.is c.name_at-in-Greater.ensures c.none_for-in-Greater.ensures c.figures_at-in-Greater.ensures c.sum_of-f-in-Greater.ensures) c.put_row-in-Greater.ensures
