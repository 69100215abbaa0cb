use Rattle.std.proofs.Common.{◌≡◌, ◌-◌, length, length-take, refl, ◌∙◌, arith}
use Rattle.std.specs.Int.{w32, from_le_bytes}
use Rattle.index.specs.Hash.{word, fours}
use Rattle.index.proofs.Folds.{lent_word, fold_short, chunk_turn, fold_end}
use Rattle.index.proofs.hash.fold.Goals as goal

pub returns-in_default : goal.returns-in_default
returns-in_default c = c.step.ensures ∙ rw c.short_word.ensures (fold_short _ c.in_default.ensures.cases)

pub loop-four-init : goal.loop-four-init
unfolding fours
loop-four-init c = refl

pub loop-four-preserved : goal.loop-four-preserved
loop-four-preserved c =
    c.step-h.ensures ∙ rw c.from_le_bytes.ensures
    (chunk_turn c.args.name.now c.as_chunks.result.0.now c.loop-four.h c.loop-four.four-index c.as_chunks.ensures.front c.as_chunks.ensures.front_len c.loop-four-test.true c.loop-four.invariant)

pub returns : goal.returns
returns c =
    let n = c.args.name.now in
    let read : from_le_bytes w32 c.in-Some.last.now ≡ word n (length n - 4) = rw (c.in-Some.ensures.cases).1.same (lent_word n (length n - 4)) in
    let last : c.from_le_bytes-2.result ≡ word n (length n - 4) = omega (arith, c.from_le_bytes-2.ensures, read) in
    c.step-2.ensures ∙ rw last
    (fold_end n c.loop-four.h c.loop-four.four-index (omega (arith, c.as_chunks.ensures.front_len, c.loop-four.auto.four-index-end, length-take (length n - 1) n)) c.loop-four.invariant)
