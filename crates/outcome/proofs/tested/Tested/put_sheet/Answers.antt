-- `outcome::tested::Tested::put_sheet` meets its contract: the sections are put one after the other, and each has room since the sheet has.
use Rattle.std.proofs.Common.{ap, ◌∙◌, arith}
use Rattle.text.specs.Put.{Put}
use Rattle.text.proofs.Writes.{put_fits}
use Rattle.line.proofs.Texts.{first_room, next_room}
use Rattle.sheet.proofs.Written.{sheet_room, sheet_put}
use Rattle.outcome.proofs.tested.Tested.put_sheet.Goals as goal

pub put_section-next-requires : goal.put_section-next-requires
put_section-next-requires c = first_room (sheet_room _ _ _ _ c.requires)

pub put_section-requires : goal.put_section-requires
put_section-requires c = first_room (next_room (sheet_room _ _ _ _ c.requires) c.put_section-next.ensures)

pub returns : goal.returns
returns c =
    ap (λ (q : Put). q.output) (sheet_put _ _ _ _ c.requires c.put_section-next.ensures c.put_section.ensures ∙ put_fits _ 0 _ (omega (arith, c.requires)))
