use borrow.Author.Rules.{rules}
use Rattle.adding.proofs.Moves.{moved_put}
use Rattle.adding.proofs.sort.put_at.Goals as goal

pub returns : goal.returns
returns c = let a = c.args in (search rules, moved_put a.places.now a.n a.k a.p (search rules) (search rules) c.copy_within.ensures.after)
