-- `lookup::row::row_is` meets its contract: at each exit the tests passed say what the definition's tests say.
use mathlib.Core.Path.{sym, ◌∙◌}
use native.Mathlib.Omega.{arith}
use Rattle.lookup.proofs.Found.{other_row, as_long}
use Rattle.lookup.proofs.row.row_is.Goals as goal

pub returns-then-i-ge-NAME_ROWS : goal.returns-then-i-ge-NAME_ROWS
returns-then-i-ge-NAME_ROWS c = sym (other_row _ _ _ _ (λ m. omega (arith, m.0, c.if-i-ge-NAME_ROWS.true)))

pub returns-then-n-gt-NAME_ROOM : goal.returns-then-n-gt-NAME_ROOM
returns-then-n-gt-NAME_ROOM c = sym (other_row _ _ _ _ (λ m. omega (arith, m.1.0, m.1.1.0, c.if-n-gt-NAME_ROOM.true)))

pub returns-then-nums-i : goal.returns-then-nums-i
returns-then-nums-i c = sym (other_row _ _ _ _ (λ m. omega (arith, m.1.0, c.if-nums-i.true)))

pub returns : goal.returns
returns c =
    let a = c.args in
    c.same_name.ensures ∙ as_long a.names.now a.nums.now a.name.now a.i c.if-i-ge-NAME_ROWS.false c.if-n-gt-NAME_ROOM.false c.if-nums-i.false
