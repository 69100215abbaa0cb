-- What was lent is refused for its sizes alone.
use Rattle.std.proofs.Common.{refl, sym, ◌∙◌}
use Rattle.input.specs.Whole.{lent}
use Rattle.input.proofs.Sizes.{wrong_sizes, all_sized}
use Rattle.input.proofs.whole.text_of_input.Goals as goal

pub returns-then-not-are_sized : goal.returns-then-not-are_sized
returns-then-not-are_sized g c =
    let a = c.args in
    record {
      number = sym (wrong_sizes (lent a.names.now a.nums.now a.ticks.now a.buf.now a.out.now) (sym c.are_sized.ensures ∙ c.if-not-are_sized.true));
      leaves = refl;
    }

pub text_from_fresh-requires : goal.text_from_fresh-requires
text_from_fresh-requires g c =
    let a = c.args in
    all_sized (lent a.names.now a.nums.now a.ticks.now a.buf.now a.out.now) (sym c.are_sized.ensures ∙ c.if-not-are_sized.false)
