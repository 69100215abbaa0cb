-- There is a list of reads, of `total` bytes together, that leads from the tables at the start to those now, with what is carried over at the front of the
-- buffer. The measure is how many bytes may still come.
use Rattle.std.proofs.Common.{◌≡◌, ◌-◌, ◌≤◌, length, take}
use Rattle.judge.specs.Feed.{tables}
use Rattle.run.specs.Chunk.{carried_most}
use Rattle.input.specs.Reads.{ReadSoFar}
use Rattle.input.proofs.reads.read_to_end.Given as goal

abbrev pub invariant-loop-total : goal.invariant-loop-total
invariant-loop-total g l =
    (l.have ≤ carried_most)
    × (length l.buf ≡ length l.fn.buf)
    × (length l.names ≡ length l.fn.names)
    × (length l.nums ≡ length l.fn.nums)
    × (length l.ticks ≡ length l.fn.ticks)
    × ReadSoFar l.total (tables l.fn.names l.fn.nums l.fn.ticks) (tables l.names l.nums l.ticks) (take l.have l.buf)

abbrev pub decreases-loop-total : goal.decreases-loop-total
decreases-loop-total g l = 9223372036854775808 - l.total
