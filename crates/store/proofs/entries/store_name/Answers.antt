-- `store::entries::store_name` meets its contract: the bytes are put where the row is one of a name.
use Rattle.std.proofs.Common.{ap, le-ltb, lt-ltb}
use Rattle.text.specs.Put.{Put}
use Rattle.tables.specs.Entry.{name_rows}
use Rattle.store.specs.Store.{store_name}
use Rattle.store.proofs.entries.store_name.Goals as goal

pub returns-then-i-ge-NAME_ROWS : goal.returns-then-i-ge-NAME_ROWS
unfolding store_name
returns-then-i-ge-NAME_ROWS c = rw (le-ltb _ name_rows c.if-i-ge-NAME_ROWS.true)

pub returns : goal.returns
unfolding store_name
returns c = rw (lt-ltb _ name_rows c.if-i-ge-NAME_ROWS.false) (ap (λ (q : Put). q.output) c.put_bytes.ensures)
