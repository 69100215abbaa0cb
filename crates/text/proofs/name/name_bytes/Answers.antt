use Rattle.std.proofs.Common.{◌+◌, ◌-◌, length, sym, refl, ◌∙◌, arith, rules}
use Rattle.text.specs.Name.{all_name_bytes}
use Rattle.text.proofs.Names.{part_more, part_odd, part_last}
use Rattle.text.proofs.name.name_bytes.Goals as goal

pub loop-i-init : goal.loop-i-init
unfolding all_name_bytes
loop-i-init c = (search rules, refl)

pub returns-then-not-all_named : goal.returns-then-not-all_named
returns-then-not-all_named c =
    let i = c.loop-i.i in
    sym (part_odd _ i (i + 8) c.loop-i.invariant.1 (sym c.all_named-in-loop-i.ensures ∙ c.if-not-all_named.true))

pub loop-i-preserved : goal.loop-i-preserved
loop-i-preserved c =
    let i = c.loop-i.i in
    (search rules, part_more _ i (i + 8) (omega arith) c.loop-i.invariant.1 (sym c.all_named-in-loop-i.ensures ∙ c.if-not-all_named.false))

pub returns : goal.returns
returns c =
    let s = c.args.s.now in
    c.all_named-2.ensures ∙ sym (part_last s c.loop-i.i (length s - 8) c.loop-i.invariant.1 c.loop-i-test.false)
