-- `line::event::read_event` meets its contract: the commas tell whether there are seven fields or eight, and the parts cut between them
-- are the fields.
use mathlib.Core.Path.{◌≡◌}
use Prim.Native.Nat.{◌-◌}
use native.Mathlib.Omega.{arith}
use borrow.Author.Rules.{rules}
use Rattle.line.proofs.Events.{in_order, time_ends, event_few, event_many, event_fields}
use Rattle.line.proofs.Plain.{plain_fields}
use Rattle.line.proofs.event.read_event.Goals as goal

pub returns-then-n-c : goal.returns-then-n-c
returns-then-n-c c = event_few _ _ c.requires.0 c.if-n-c.true

pub returns-then-c-n : goal.returns-then-c-n
returns-then-c-n c = event_many _ _ c.requires.0 c.if-c-n.true

pub slice_bounds-time-end : goal.slice_bounds-time-end
slice_bounds-time-end c = let h = time_ends _ _ c.requires.0 in search rules

pub part-source-requires : goal.part-source-requires
part-source-requires c = let o = in_order _ _ c.requires.0 c.if-n-c.false in (o.second, omega arith)

pub part-source_instance-requires : goal.part-source_instance-requires
part-source_instance-requires c = let o = in_order _ _ c.requires.0 c.if-n-c.false in (o.third, omega arith)

pub part-kind-requires : goal.part-kind-requires
part-kind-requires c = let o = in_order _ _ c.requires.0 c.if-n-c.false in (o.fourth, omega arith)

pub part-target-requires : goal.part-target-requires
part-target-requires c = let o = in_order _ _ c.requires.0 c.if-n-c.false in (o.fifth, omega arith)

pub part-target_instance-requires : goal.part-target_instance-requires
part-target_instance-requires c = let o = in_order _ _ c.requires.0 c.if-n-c.false in (o.sixth, omega arith)

pub part-action-requires : goal.part-action-requires
part-action-requires c = let o = in_order _ _ c.requires.0 c.if-n-c.false in (o.seventh, o.inside)

pub invariant_of-fields : goal.invariant_of-fields
invariant_of-fields c = record {
  plain_bytes = λ p.
      rw (c.part-source.ensures, c.part-target.ensures, c.between-note.ensures.bytes) (plain_fields _ c.args.c c.requires.0 (c.requires.1 p));
}

pub returns : goal.returns
returns c =
    let commas = c.args.c in
    let whole : commas.c1 - 0 ≡ commas.c1 = omega arith in
    rw (
      c.read.ensures,
      c.part-source.ensures,
      c.part-source_instance.ensures,
      c.part-kind.ensures,
      c.part-target.ensures,
      c.part-target_instance.ensures,
      c.part-action.ensures,
      c.between-note.ensures.bytes,
      whole,
    ) (event_fields _ commas c.requires.0 c.if-n-c.false c.if-c-n.false)
