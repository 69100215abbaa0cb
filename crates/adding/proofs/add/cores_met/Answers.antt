-- `adding::add::cores_met` meets its contract: the places of both sections are in the order of their names.
use Rattle.bill.specs.declared.section.Section.TheVariants.{Cores, Processes}
use Rattle.adding.proofs.add.cores_met.Goals as goal

pub meet-requires : goal.meet-requires
meet-requires c =
    let p = c.requires in
    (rw c.places.ensures (p.first.in_order Cores).in_order, rw c.places-2.ensures (p.second.in_order Processes).in_order)
