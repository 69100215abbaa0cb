-- The charge sheet's figures, each a sum over the gaps between neighbouring event lines.
use Rattle.std.specs.Prelude.{List, [], ◌∷◌, ℕ, ◌+◌, ◌-◌, ◌*◌}
use Rattle.text.specs.Bytes.{same_bytes}
use Rattle.text.specs.Lists.{sum_over}
use Rattle.bill.specs.Rows.{Row, Sheet}
use Rattle.rules.specs.Lists.{one_if}
use Rattle.rules.specs.Event.{Event}
use Rattle.rules.specs.Core.{Core, unknown, idle, held, core_at}
use Rattle.rules.specs.History.{cores, processes}

-- the gap before the newest event
abbrev pub gap : Event → List Event → ℕ
gap e [] = 0
gap e (d ∷ h) = e.time - d.time

-- "For each gap between neighbouring event lines": each gap, times what is counted in the history as it stood after the earlier line.
-- "With no event or one, all is 0."
unfoldable pub ticks : (List Event → ℕ) → List Event → ℕ
ticks count [] = 0
ticks count (e ∷ h) = gap e h * count h + ticks count h

abbrev pub is_held : Core → ℕ
is_held unknown = 0
is_held idle = 0
is_held (held x) = 1

abbrev pub is_idle : Core → ℕ
is_idle unknown = 0
is_idle idle = 1
is_idle (held x) = 0

abbrev pub is_unknown : Core → ℕ
is_unknown unknown = 1
is_unknown idle = 0
is_unknown (held x) = 0

abbrev pub is_held_by : List ℕ → Core → ℕ
is_held_by p unknown = 0
is_held_by p idle = 0
is_held_by p (held x) = one_if (same_bytes p x.name)

-- "each core .. gets the gap as held, idle or unknown, as it stood after the earlier line (unknown before it is tracked)"
abbrev pub held_ticks : List ℕ → List Event → ℕ
held_ticks c = ticks (λ h. is_held (core_at c h))

abbrev pub idle_ticks : List ℕ → List Event → ℕ
idle_ticks c = ticks (λ h. is_idle (core_at c h))

abbrev pub unknown_ticks : List ℕ → List Event → ℕ
unknown_ticks c = ticks (λ h. is_unknown (core_at c h))

-- "A process's charge is the sum of gaps times the number of cores its instances hold."
abbrev pub holding : List ℕ → List Event → ℕ
holding p h = sum_over (λ c. is_held_by p (core_at c h)) (cores h)

abbrev pub charge : List ℕ → List Event → ℕ
charge p = ticks (holding p)

-- what a process has of one core
abbrev pub charge_on : List ℕ → List ℕ → List Event → ℕ
charge_on p c = ticks (λ h. is_held_by p (core_at c h))

-- the span: the last event time less the first
abbrev pub first_time : Event → List Event → ℕ
first_time e [] = e.time
first_time e (d ∷ h) = first_time d h

abbrev pub span : List Event → ℕ
span [] = 0
span (e ∷ h) = e.time - first_time e h

-- ---- the sheet: a row for each name, "in order of first mention"

-- "a core line gives held, idle, unknown"
abbrev pub core_rows : List (List ℕ) → List Event → List Row
core_rows [] h = []
core_rows (c ∷ cs) h = record { name = c; figures = held_ticks c h ∷ idle_ticks c h ∷ unknown_ticks c h ∷ [] } ∷ core_rows cs h

abbrev pub process_rows : List (List ℕ) → List Event → List Row
process_rows [] h = []
process_rows (p ∷ ps) h = record { name = p; figures = charge p h ∷ [] } ∷ process_rows ps h

unfoldable pub sheet : List Event → Sheet
sheet h = record { span = span h; cores = core_rows (cores h) h; processes = process_rows (processes h) h }
