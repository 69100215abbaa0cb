-- `line::writing::line_length` meets its contract: the numbers, the words and the names with six commas, and the note with one more. No sum
-- wraps, since the numbers and words have few bytes and names at most 64.
use mathlib.Core.Path.{ap}
use native.Mathlib.Omega.{arith}
use lib.ListN.{length}
use Rattle.line.proofs.Texts.{words_short, length_text, note_none, note_some}
use Rattle.line.proofs.writing.line_length.Goals as goal

-- the sums, as they are added up: none wraps
pub overflow_add-numbers : goal.overflow_add-numbers
overflow_add-numbers c = omega (arith, words_short c.args.event (omega arith) (omega arith) (omega arith))

pub overflow_add-numbers-2 : goal.overflow_add-numbers-2
overflow_add-numbers-2 c = omega (arith, words_short c.args.event (omega arith) (omega arith) (omega arith))

pub overflow_add-words : goal.overflow_add-words
overflow_add-words c = omega (arith, words_short c.args.event (omega arith) (omega arith) (omega arith))

pub overflow_add-n : goal.overflow_add-n
overflow_add-n c = omega (arith, words_short c.args.event (omega arith) (omega arith) (omega arith))

pub overflow_add-n-2 : goal.overflow_add-n-2
overflow_add-n-2 c = omega (arith, words_short c.args.event (omega arith) (omega arith) (omega arith))

pub overflow_add-n-3 : goal.overflow_add-n-3
overflow_add-n-3 c = omega (arith, words_short c.args.event (omega arith) (omega arith) (omega arith))

pub overflow_add-n-4 : goal.overflow_add-n-4
overflow_add-n-4 c = omega (arith, words_short c.args.event (omega arith) (omega arith) (omega arith))

pub returns-then-note-eq0 : goal.returns-then-note-eq0
returns-then-note-eq0 c =
    let a = c.args in
    omega (arith, length_text a.event a.source.now a.target.now a.note.now, ap length (note_none a.note.now c.if-note-eq0.true))

pub overflow_add-result : goal.overflow_add-result
overflow_add-result c = omega (arith, words_short c.args.event (omega arith) (omega arith) (omega arith))

pub overflow_add-result-2 : goal.overflow_add-result-2
overflow_add-result-2 c = omega (arith, words_short c.args.event (omega arith) (omega arith) (omega arith))

pub returns : goal.returns
returns c =
    let a = c.args in
    omega (arith, length_text a.event a.source.now a.target.now a.note.now, ap length (note_some a.note.now c.if-note-eq0.false))
