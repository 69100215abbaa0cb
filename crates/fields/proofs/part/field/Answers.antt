use mathlib.Core.Path.{refl, sym}
use native.Mathlib.Omega.{arith}
use borrow.Author.Rules.{rules}
use Rattle.fields.specs.Part.{field_of, field_at, part_from}
use Rattle.text.proofs.Finds.{found_within}
use Rattle.fields.proofs.Parts.{field_turn, field_stop, field_found, at_turn, at_stop, at_found}
use Rattle.fields.proofs.part.field.Goals as goal

pub returns-then-k-eq0 : goal.returns-then-k-eq0
unfolding field_of field_at
returns-then-k-eq0 c = record { block = refl; place = rw c.if-k-eq0.true; bytes = rw c.if-k-eq0.true }

pub returns-then-line-c : goal.returns-then-line-c
returns-then-line-c c =
    let l = c.loop-j in
    record {
      block = refl;
      place = rw (at_stop _ _ l.j _ _ c.find-c.ensures (omega arith) l.invariant.2 c.if-line-c.true c.loop-j-test.true);
      bytes = sym (field_stop _ _ l.j _ _ c.find-c.ensures (omega arith) l.invariant.1 c.if-line-c.true c.loop-j-test.true);
    }

pub loop-j-preserved : goal.loop-j-preserved
loop-j-preserved c =
    let l = c.loop-j in
    let next = field_turn _ _ _ _ c.find-c.ensures (omega arith) l.invariant.1 c.if-line-c.false in
    (omega arith, next, at_turn _ _ _ _ c.find-c.ensures (omega arith) l.invariant.2)

pub slice_bounds-result-count-2 : goal.slice_bounds-result-count-2
slice_bounds-result-count-2 c = (found_within 44 c.args.line.now c.loop-j.a c.find-b.result c.find-b.ensures c.loop-j.invariant.0).0

pub slice_bounds-result-start-2 : goal.slice_bounds-result-start-2
slice_bounds-result-start-2 c = let h = found_within 44 c.args.line.now c.loop-j.a c.find-b.result c.find-b.ensures c.loop-j.invariant.0 in search rules

pub slice_bounds-result-end-2 : goal.slice_bounds-result-end-2
slice_bounds-result-end-2 c = let h = found_within 44 c.args.line.now c.loop-j.a c.find-b.result c.find-b.ensures c.loop-j.invariant.0 in search rules

pub returns : goal.returns
unfolding part_from
returns c =
    let l = c.loop-j in
    record {
      block = refl;
      place = rw (at_found _ _ l.j _ (omega arith) l.invariant.2 l.invariant.0 (omega arith) c.loop-j-test.false);
      bytes = sym (field_found _ _ l.j _ _ c.find-b.ensures (omega arith) l.invariant.1 (omega arith) c.loop-j-test.false);
    }
