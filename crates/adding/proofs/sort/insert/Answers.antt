-- `adding::sort::insert` meets its contract: where the row's name is found nothing is put, and otherwise the row goes to the place for it.
use borrow.Author.Rules.{rules}
use Rattle.std.proofs.Common.{of_calls}
use Rattle.std.proofs.lemmas.Fn.{always_returns_same}
use Rattle.paper.specs.Lines.{name_at}
use Rattle.sorting.proofs.Places.{against}
use Rattle.adding.proofs.Inserts.{taken, inserted}
use Rattle.adding.proofs.sort.insert.Goals as goal

pub returns-in_default : goal.returns-in_default
returns-in_default c =
    let a = c.args in
    (search rules, taken a.text.now a.places.now a.n a.p (search rules) _ c.in_default.ensures.bound (c.in_default.ensures.position (against (name_at a.text.now) a.p) (always_returns_same _ _ _ (λ a r f k. search (rules, of_calls)))))

pub returns : goal.returns
returns c =
    let a = c.args in
    (search rules, inserted a.text.now a.places.now a.n a.p (search rules) c.in-Err.k c.in-Err.ensures.bound (search rules) (c.in-Err.ensures.position (against (name_at a.text.now) a.p) (always_returns_same _ _ _ (λ a r f k. search (rules, of_calls)))) _ c.put_at.ensures.1)
