-- The sizes of 01 that both a trace and a sheet have: the latest time, and what is tracked at most.
use Rattle.std.specs.Prelude.{ℕ}

-- "time | 72,057,594,037,927,935 (2^56 − 1)"
abbrev pub max_time : ℕ
max_time = 72057594037927935

-- "tracked names (cores, T, I, R, SEM) | 256, of them 64 cores"
abbrev pub name_limit : ℕ
name_limit = 256

abbrev pub core_limit : ℕ
core_limit = 64
