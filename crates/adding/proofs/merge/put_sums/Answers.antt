use native.Mathlib.Omega.{arith}
use borrow.Author.Rules.{rules}
use Rattle.adding.proofs.Walks.{walk_start, walk_next, walk_step, all_counted, all_put}
use Rattle.adding.proofs.merge.put_sums.Goals as goal

pub loop-i-init : goal.loop-i-init
loop-i-init c = walk_start _ _ _ _ _ _ _ _ c.requires

pub put_next-at-requires : goal.put_next-at-requires
put_next-at-requires c = walk_next _ _ _ _ _ _ _ c.requires c.loop-i.invariant c.loop-i-test.true c.next_of-o.ensures

pub loop-i-preserved : goal.loop-i-preserved
loop-i-preserved c = walk_step _ _ _ _ _ _ _ c.requires c.loop-i.invariant c.loop-i-test.true c.next_of-o.ensures (search rules) (search rules) c.put_next-at.ensures

pub returns : goal.returns
returns c =
    let w = c.loop-i.invariant in
    (all_counted _ _ _ _ _ _ _ w (omega arith), all_put _ _ _ _ _ _ _ w (omega arith))
