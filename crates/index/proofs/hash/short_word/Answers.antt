-- `index::hash::short_word` meets its contract: the bytes that a name does not have count 0.
use Rattle.std.proofs.Common.{arith}
use Rattle.index.specs.Hash.{word}
use Rattle.index.proofs.Folds.{past}
use Rattle.index.proofs.hash.short_word.Goals as goal

pub returns-in-empty : goal.returns-in-empty
unfolding word
returns-in-empty c =
    let s = c.args.s.now in
    let l = c.in-empty.len_below in
    omega (arith, past s 0 0 (omega arith), past s 0 1 (omega arith), past s 0 2 (omega arith), past s 0 3 (omega arith))

pub returns-in-len1 : goal.returns-in-len1
unfolding word
returns-in-len1 c =
    let s = c.args.s.now in
    omega (arith, c.from_le_bytes.ensures, past s 1 0 (omega arith), past s 1 1 (omega arith), past s 1 2 (omega arith))

pub returns-in-len2 : goal.returns-in-len2
unfolding word
returns-in-len2 c =
    let s = c.args.s.now in
    omega (arith, c.from_le_bytes-in-len2.ensures, past s 2 0 (omega arith), past s 2 1 (omega arith))

pub returns-in-len3-up : goal.returns-in-len3-up
unfolding word
returns-in-len3-up c = omega (arith, c.from_le_bytes-in-len3-up.ensures, past c.args.s.now 3 0 (omega arith))
