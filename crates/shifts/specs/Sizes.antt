-- How long a sheet is that may be added.
use Rattle.std.specs.Prelude.{ℕ}

-- none is longer (`Sizes.sound_longest`), so that an output of so many bytes has room for every sum
abbrev pub sheet_most : ℕ
sheet_most = 24008
