-- `scan::window::eight` meets its contract: seven sums that wrap are one that does.
use native.Mathlib.Nat.{mod-add-mod}
use Rattle.scan.specs.Window.{eight_from}
use Rattle.scan.proofs.window.eight.Goals as goal

pub returns : goal.returns
unfolding eight_from
returns c = simp mod-add-mod
