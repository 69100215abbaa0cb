-- `scan::window::joined` meets its contract: each sum is one byte of the number.
use Rattle.std.proofs.Common.{◌∙◌, arith}
use Rattle.scan.specs.Window.{joined_of}
use Rattle.scan.proofs.window.joined.Goals as goal

pub returns : goal.returns
unfolding joined_of
returns c =
    c.from_le_bytes.ensures
    ∙ rw (c.eight.ensures, c.eight-2.ensures, c.eight-3.ensures, c.eight-4.ensures, c.eight-5.ensures, c.eight-6.ensures, c.eight-7.ensures, c.eight-8.ensures) (omega arith)
