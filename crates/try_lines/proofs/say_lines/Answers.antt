use native.Mathlib.Omega.{arith}
use Rattle.text.proofs.Finds.{found_within}
use Rattle.try_lines.proofs.say_lines.Goals as goal

pub slice_bounds-say_line-count : goal.slice_bounds-say_line-count
slice_bounds-say_line-count c = omega (arith, found_within 10 c.args.s.now c.loop-at.at c.find-end.result c.find-end.ensures (omega arith))

pub slice_bounds-say_line-start : goal.slice_bounds-say_line-start
slice_bounds-say_line-start c = omega (arith, found_within 10 c.args.s.now c.loop-at.at c.find-end.result c.find-end.ensures (omega arith))

pub slice_bounds-say_line-end : goal.slice_bounds-say_line-end
slice_bounds-say_line-end c = omega (arith, found_within 10 c.args.s.now c.loop-at.at c.find-end.result c.find-end.ensures (omega arith))

pub overflow_add-at : goal.overflow_add-at
overflow_add-at c = omega (arith, found_within 10 c.args.s.now c.loop-at.at c.find-end.result c.find-end.ensures (omega arith))

pub loop-at-smaller : goal.loop-at-smaller
loop-at-smaller c = omega (arith, found_within 10 c.args.s.now c.loop-at.at c.find-end.result c.find-end.ensures (omega arith))

pub loop-at-preserved : goal.loop-at-preserved
loop-at-preserved c = omega (arith, found_within 10 c.args.s.now c.loop-at.at c.find-end.result c.find-end.ensures (omega arith))
