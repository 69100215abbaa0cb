-- `fields::part::between` meets its contract: at each exit the part handed back starts at `a + 1`, or at the line's start where that is past the end,
-- and has the bytes before `b`.
use mathlib.Core.Path.{refl, sym}
use Prim.Native.Nat.{suc}
use native.Mathlib.Numerals.{add-one}
use native.Mathlib.Omega.{arith}
use Rattle.fields.specs.Part.{part_from}
use Rattle.fields.proofs.Parts.{part_past, part_none, part_end, at_past, at_inside}
use Rattle.fields.proofs.part.between.Goals as goal

pub returns-then-n-a : goal.returns-then-n-a
returns-then-n-a c = record { block = refl; place = rw (at_past _ _ c.if-n-a.true); bytes = sym (part_past _ _ _ (omega arith)) }

pub returns-then-n-b : goal.returns-then-n-b
unfolding part_from
returns-then-n-b c =
    let a = c.args in
    record {
      block = refl;
      place = rw (add-one, at_inside _ _ c.if-n-a.false);
      bytes = rw add-one (part_end a.line.now (suc a.a) a.b (omega arith));
    }

pub returns-then-b-from : goal.returns-then-b-from
unfolding part_from
returns-then-b-from c =
    let a = c.args in
    record {
      block = refl;
      place = rw (add-one, at_inside _ _ c.if-n-a.false);
      bytes = rw add-one (part_none a.line.now (suc a.a) a.b (omega arith));
    }

pub returns : goal.returns
unfolding part_from
returns c = record { block = refl; place = rw (add-one, at_inside _ _ c.if-n-a.false); bytes = rw add-one }
