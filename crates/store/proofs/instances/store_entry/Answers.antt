-- `store::instances::store_entry` meets its contract: nothing for a type without instances; else the row is stored where one is needed, and where none is the row
-- found is given back.
use Rattle.std.proofs.Common.{sym, ◌∙◌}
use Rattle.store.specs.Store.{without_row, with_entry}
use Rattle.store.proofs.instances.store_entry.Goals as goal

pub returns-then-not-with_instances : goal.returns-then-not-with_instances
unfolding with_entry
returns-then-not-with_instances c = rw (sym c.with_instances.ensures ∙ c.if-not-with_instances.true)

pub returns-then-needs_row : goal.returns-then-needs_row
unfolding with_entry
returns-then-needs_row c = rw (sym c.with_instances.ensures ∙ c.if-not-with_instances.false, sym c.needs_row.ensures ∙ c.if-needs_row.true) c.put_row.ensures

pub returns-in-Some : goal.returns-in-Some
unfolding with_entry without_row
returns-in-Some c = rw (sym c.with_instances.ensures ∙ c.if-not-with_instances.false, sym c.needs_row.ensures ∙ c.if-needs_row.false, c.in-Some.is) c.give_back.ensures

pub returns-in_default : goal.returns-in_default
unfolding with_entry without_row
returns-in_default c = rw (sym c.with_instances.ensures ∙ c.if-not-with_instances.false, sym c.needs_row.ensures ∙ c.if-needs_row.false, c.in_default.is)
