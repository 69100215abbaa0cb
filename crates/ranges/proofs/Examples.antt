-- Which states are in range by kind, computed by the definitions and beside what document 01's charts say; and which index is the one that two names give in order.
use mathlib.Core.Path.{◌≡◌, refl}
use mathlib.Core.Bool.{true, false}
use mathlib.Core.List.{List, [], ◌∷◌}
use Prim.Native.Nat.{ℕ}
use lib.ListN.{replicate, set}
use Rattle.text.specs.Bytes.{same_bytes}
use Rattle.marks.specs.First.{before, first_of}
use Rattle.rules.specs.Lists.{only}
use Rattle.rules.specs.Words.{core, task, interrupt, runnable, semaphore}
use Rattle.rules.specs.Words.{TERMINATED, ACTIVE, RUNNING, READY, WAITING, POLLING, PARKING, SUSPENDED, FREE, USED, FULL, OVERFULL}
use Rattle.rules.specs.Chart.{is_state_of}
use Rattle.rules.specs.Charts.{is_process, process_chart, runnable_chart, semaphore_chart, chart_of}
use Rattle.rules.specs.History.{has_instances}
use Rattle.tables.specs.Entry.{store_at, names_index, instances_index, kind_column, length_column, owner_column, state_column, place_column, nums_size}
use Rattle.index.specs.Hash.{word, step, fours, folded, home_of}
use Rattle.index.specs.Index.{free, index_of, home_at, index_from}
use Rattle.ranges.specs.Range.{holder_ok, core_ok, standing_ok, instance_ok, index_ok}

-- one name, of the kind k, and two instances: the first is its own and in the state s, the second belongs to no name
abbrev rows : ℕ → ℕ → List ℕ
rows k s = store_at state_column (store_at owner_column (store_at kind_column (set (set (replicate nums_size 0) names_index 1) instances_index 2) 0 k) 1 1) 0 s

-- of the numbers 0 to 9, the states in which an instance of a kind is in range
abbrev states_of : ℕ → List ℕ
states_of k = only (λ s. instance_ok (rows k s) 0) (0 ∷ 1 ∷ 2 ∷ 3 ∷ 4 ∷ 5 ∷ 6 ∷ 7 ∷ 8 ∷ 9 ∷ [])

abbrev of_process : List ℕ
of_process = TERMINATED ∷ ACTIVE ∷ RUNNING ∷ READY ∷ WAITING ∷ POLLING ∷ PARKING ∷ []

pub instance_states :
    (states_of 0 ∷ states_of core ∷ states_of task ∷ states_of interrupt ∷ states_of runnable ∷ states_of semaphore ∷ states_of 6 ∷ [])
    ≡ ([] ∷ [] ∷ of_process ∷ of_process ∷ (TERMINATED ∷ RUNNING ∷ SUSPENDED ∷ []) ∷ [] ∷ [] ∷ [])
unfolding instance_ok has_instances is_process is_state_of chart_of process_chart runnable_chart semaphore_chart
instance_states = refl

-- of the numbers 0 to 5, the states in which a name of a kind is in range beside such rows
abbrev standings_of : ℕ → ℕ → List ℕ
standings_of kind k = only (λ m. standing_ok (rows k RUNNING) kind m) (0 ∷ 1 ∷ 2 ∷ 3 ∷ 4 ∷ 5 ∷ [])

-- a core is idle, 1, or held by an instance of the name, 2, where that is a process's; those of names that are not there, 3 and on, hold none
pub core_states :
    (standings_of core core ∷ standings_of core task ∷ standings_of core interrupt ∷ standings_of core runnable ∷ standings_of core semaphore ∷ [])
    ≡ ((1 ∷ []) ∷ (1 ∷ 2 ∷ []) ∷ (1 ∷ 2 ∷ []) ∷ (1 ∷ []) ∷ (1 ∷ []) ∷ [])
unfolding standing_ok core_ok holder_ok is_process
core_states = refl

pub name_states :
    (standings_of task task ∷ standings_of interrupt task ∷ standings_of runnable task ∷ standings_of semaphore task ∷ [])
    ≡ ((0 ∷ []) ∷ (0 ∷ []) ∷ (0 ∷ []) ∷ (0 ∷ FREE ∷ USED ∷ FULL ∷ OVERFULL ∷ []) ∷ [])
unfolding standing_ok is_process is_state_of chart_of semaphore_chart
name_states = refl

-- two names with one home, 25: "A" in row 0 and "RE" in row 1; and an index with row 0 in the place p, row 1 in the place q, and v in the place 0
abbrev two_names : List ℕ
two_names = set (set (set (replicate 128 0) 0 65) 64 82) 65 69

abbrev indexed : ℕ → ℕ → ℕ → List ℕ
indexed p q v =
    store_at place_column (store_at place_column (store_at place_column (store_at length_column (store_at length_column (set (replicate nums_size 0) names_index 2) 0 1) 1 2) p 1) q 2) 0 v

-- each row in turn in the first free place: not the later row first, no place passed over, no row left out, nothing else in the index
pub index_order :
    (index_ok two_names (indexed 25 26 0)
    ∷ index_ok two_names (indexed 26 25 0)
    ∷ index_ok two_names (indexed 25 27 0)
    ∷ index_ok two_names (indexed 25 0 0)
    ∷ index_ok two_names (indexed 25 26 1)
    ∷ index_ok two_names (indexed 25 26 3)
    ∷ [])
    ≡ (true ∷ false ∷ false ∷ false ∷ false ∷ false ∷ [])
unfolding index_ok index_from index_of free first_of before home_at home_of folded fours step word same_bytes
index_order = refl
