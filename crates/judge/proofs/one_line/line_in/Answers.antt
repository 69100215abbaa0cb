-- `judge::one_line::line_in` meets its contract: a verdict stays, and a line is refused by its place or stored by its reading.
use Rattle.std.proofs.Common.{ap, ◌∙◌}
use Rattle.line.specs.declared.reading.Split.{Split}
use Rattle.judge.proofs.Feeds.{verdict_again, in_place_judged, refused_in_place, read_in_place}
use Rattle.judge.proofs.one_line.line_in.Goals as goal

pub returns-then-v-ne0 : goal.returns-then-v-ne0
returns-then-v-ne0 c = verdict_again _ _ c.if-v-ne0.true

pub returns-then-n-ne0 : goal.returns-then-n-ne0
returns-then-n-ne0 c =
    refused_in_place _ _ c.if-n-ne0.true c.remember.ensures.0 c.remember.ensures.1
    ∙ in_place_judged _ _ c.if-v-ne0.false c.place_in.ensures (ap (λ (s : Split). s.reading) c.requires) c.answer_in_place-n.ensures

pub returns : goal.returns
returns c =
    let reading = ap (λ (s : Split). s.reading) c.requires in
    read_in_place _ _ c.if-n-ne0.false reading c.read_in.ensures
    ∙ in_place_judged _ _ c.if-v-ne0.false c.place_in.ensures reading c.answer_in_place-n.ensures
