-- `adding::whole::Made::put` meets its contract: the verdict's line and the two sections are put one after another, and each has room since the whole has.
use mathlib.Core.Path.{refl, ap, ◌∙◌}
use Rattle.text.specs.Put.{put}
use Rattle.bill.specs.Verdict.{verdict_text}
use Rattle.bill.proofs.VerdictLine.{verdict_accepted}
use Rattle.adding.proofs.Made.{first_room, second_room, put_made}
use Rattle.adding.proofs.whole.Made.put.Goals as goal

pub put_section-two-requires : goal.put_section-two-requires
put_section-two-requires c =
    first_room c.args.self.now _ (c.put_verdict-one.ensures ∙ ap (put c.args.out.now 0) (ap verdict_text c.head.ensures ∙ verdict_accepted _ refl)) c.requires

pub put_section-requires : goal.put_section-requires
put_section-requires c =
    second_room c.args.self.now _ (c.put_verdict-one.ensures ∙ ap (put c.args.out.now 0) (ap verdict_text c.head.ensures ∙ verdict_accepted _ refl)) c.requires c.put_section-two.ensures

pub returns : goal.returns
returns c =
    put_made c.args.self.now _ (c.put_verdict-one.ensures ∙ ap (put c.args.out.now 0) (ap verdict_text c.head.ensures ∙ verdict_accepted _ refl)) c.requires c.put_section-two.ensures c.put_section.ensures
