-- The verdict if the trace ended now, from tables of the right sizes.
use Rattle.std.specs.Prelude.{ℕ, ◌+◌, ◌-◌, ◌%◌, ◌^◌, cond, List, ◌==◌}
use Rattle.bill.specs.declared.verdict.Verdict.{Verdict}
use Rattle.tables.specs.Entry.{verdict_number, verdict_line, line_count, scale_entry, first_time, last_time}

abbrev pub verdict : ℕ → ℕ → ℕ → ℕ → Verdict
verdict n l scale span = record { number = n; line = l; scale = scale; span = span }

-- "An empty trace is refusal 2 at line 1. A trace of n taken lines that ends without a scale is refusal 4 at line n + 1."
unfoldable pub verdict_in : List ℕ → List ℕ → Verdict
verdict_in nums ticks =
    let span = last_time ticks - first_time ticks in
    cond (verdict_number nums == 0)
    (cond (line_count nums == 0) (verdict 2 1 0 span)
    (cond (scale_entry nums == 0) (verdict 4 ((line_count nums + 1) % 2 ^ 32) 0 span) (verdict 0 0 (scale_entry nums) span)))
    (verdict (verdict_number nums) (verdict_line nums) (scale_entry nums) span)
