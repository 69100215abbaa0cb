-- A text that was read as a sheet may be added, and one that was not may not.
use Rattle.std.proofs.Common.{None, Some, Option, is_some}
use mathlib.Core.Path.{◌≡◌}
use mathlib.Core.List.{List}
use Prim.Native.Nat.{ℕ}
use Rattle.shifts.specs.Many.{is_sound}
use Rattle.adding.specs.declared.sheet.Sheet.{Sheet}
use Rattle.adding.specs.SheetCode.{ReadAs}

pub sound_told : (text : List ℕ) (r : Option Sheet) → ReadAs text r → is_some r ≡ is_sound text
unfolding is_sound
sound_told text (Some x) w = rw (← w.0, w.1.sound)
sound_told text None w = rw w
