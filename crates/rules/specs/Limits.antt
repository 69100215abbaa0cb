-- The most lines of a trace, the most instances that are tracked, and the highest refusal that is remembered. Names and cores are of text/specs/Sizes.antt.
use Rattle.std.specs.Prelude.{ℕ, ◌+◌}

-- "lines | 1,000,000,000"
abbrev pub line_limit : ℕ
line_limit = 1000000000

-- the line of a verdict: that of the line after them at most
abbrev pub verdict_line_limit : ℕ
verdict_line_limit = line_limit + 1

-- "process and runnable instances | 1,024"
abbrev pub instance_limit : ℕ
instance_limit = 1024

-- "15 and 16 write nothing and are not remembered"
abbrev pub last_refusal : ℕ
last_refusal = 14
