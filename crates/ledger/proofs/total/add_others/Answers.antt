-- The total that is held grows by one sheet a turn.
use Rattle.std.proofs.Common.{rules, arith}
use Rattle.ledger.proofs.Grown.{holds_more, holds_all, next_not}
use Rattle.ledger.proofs.Answers.{text_put}
use Rattle.ledger.proofs.total.add_others.Goals as goal

pub loop-i-init : goal.loop-i-init
loop-i-init g c = (search rules, search rules, c.requires.0)

pub one_more-requires : goal.one_more-requires
one_more-requires g c = (c.loop-i.invariant.2.fits, search rules, search rules)

pub returns-in-Err : goal.returns-in-Err
returns-in-Err g c = next_not _ (omega arith) c.loop-i.invariant.2 _ _ _ (omega arith) c.in-Err.ensures

pub loop-i-preserved : goal.loop-i-preserved
loop-i-preserved g c = (search rules, search rules, holds_more _ (omega arith) c.loop-i.invariant.2 _ c.in-Ok.ensures)

-- past the loop all are held
pub returns : goal.returns
returns g c = (tt, text_put _ _ (holds_all (omega arith) c.loop-i.invariant.2) c.put_bytes.ensures (omega arith) c.requires.4)
