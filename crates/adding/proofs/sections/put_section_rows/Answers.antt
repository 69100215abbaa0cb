-- `adding::sections::put_section_rows` meets its contract.
use Rattle.adding.proofs.Adds.{merging}
use Rattle.adding.proofs.sections.put_section_rows.Goals as goal

pub put_sums-requires : goal.put_sums-requires
put_sums-requires c =
    let p = c.requires in
    let l = c.side-left.ensures in
    let r = c.side-right.ensures in
    rw (l.0, l.1, l.2, r.0, r.1, r.2) (merging p.0 c.args.section p.1)
