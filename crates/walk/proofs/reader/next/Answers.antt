-- `walk::reader::next` meets its contract: what lies between the reader's place and the one that it steps to is the next line.
use Rattle.walk.proofs.Nexts.{between_next}
use Rattle.walk.proofs.reader.next.Goals as goal

pub returns : goal.returns
returns c = rw (c.line_between.ensures, c.step-q.ensures.1) (between_next _ _)
