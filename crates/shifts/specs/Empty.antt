-- 02, No. 12: "A sheet in the same scale with span 0, no cores and no processes changes a sorted, well-formed sheet not at all."
use Rattle.std.specs.Prelude.{Bool, ◌&&◌, [], ℕ}
use Rattle.bill.specs.Reading.{Bill}
use Rattle.sorting.specs.Sets.{rising}
use Rattle.shifts.specs.Sound.{names}

abbrev pub empty_bill : ℕ → Bill
empty_bill scale = record { scale = scale; sheet = record { span = 0; cores = []; processes = [] } }

-- "sorted": both its sections are
abbrev pub is_sorted : Bill → Bool
is_sorted b = rising (names b.sheet.cores) && rising (names b.sheet.processes)
