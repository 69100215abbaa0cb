-- `adding::whole::put_section` meets its contract: the title, the count, an end and the lines are put one after another.
use Rattle.adding.proofs.Made.{put_counted}
use Rattle.adding.proofs.whole.put_section.Goals as goal

pub returns : goal.returns
returns c = put_counted _ _ _ _ _ c.put_title-one.ensures c.put_number-two.ensures c.put_bytes-three.ensures c.put_bytes.ensures c.requires
