-- "A fresh start .. never gives 16": tables of zeros are in range, and so are those that a fresh start leaves.
use mathlib.Core.Path.{◌≡◌, sym, ap, ◌∙◌}
use mathlib.Core.List.{List}
use mathlib.Core.Logic.{⊎_elim}
use Prim.Native.Nat.{ℕ}
use native.Mathlib.Omega.{arith}
use lib.ListN.{length, get_or}
use lib.Seq.{ext_get_or}
use Rattle.tables.specs.Entry.{verdict_index, verdict_line_index, lines_index, scale_index, creator_index, date_index, started_index, names_index, cores_index, instances_index}
use Rattle.tables.specs.Entry.{first_index, last_index, names_size, nums_size, ticks_size, place_rows, places}
use Rattle.tables.specs.Sized.{Sized}
use Rattle.tables.specs.Fresh.{Cleared, cleared_of}
use Rattle.tables.proofs.Zeros.{zeros, entry_zero, length_zeros, clear_answers}
use Rattle.index.specs.Index.{index_of, index_from}
use Rattle.index.proofs.Indexes.{places_size, place_entry}
use Rattle.ranges.specs.Range.{table_answer}
use Rattle.ranges.proofs.Valid.{Valid, answers}

-- no name is in the index, and no place is taken
zeros_indexed : (names nums : List ℕ) → length nums ≡ nums_size → ((i : ℕ) → get_or nums i 0 ≡ 0) → places nums ≡ index_from names nums
unfolding index_from index_of
zeros_indexed names nums z n =
    rw (n names_index)
    (ext_get_or 0 (places nums) (zeros place_rows) (places_size nums z ∙ sym (length_zeros place_rows))
    (λ i h. place_entry nums i (omega (arith, places_size nums z)) ∙ n _ ∙ sym (entry_zero place_rows i)))

zeros_valid : (names nums ticks : List ℕ) → Sized names nums ticks → ((i : ℕ) → get_or nums i 0 ≡ 0) → ((i : ℕ) → get_or ticks i 0 ≡ 0) → Valid names nums ticks
zeros_valid names nums ticks s n t =
    record {
      sizes = s;
      verdict = omega (arith, n verdict_index);
      verdict_line_lem = omega (arith, n verdict_line_index);
      lines = omega (arith, n lines_index);
      scale = omega (arith, n scale_index);
      creator = omega (arith, n creator_index);
      date = omega (arith, n date_index);
      started = omega (arith, n started_index);
      name_count_lem = omega (arith, n names_index);
      core_count_lem = omega (arith, n cores_index);
      instance_count_lem = omega (arith, n instances_index);
      last_time_lem = omega (arith, t last_index);
      first_time_lem = omega (arith, t first_index);
      name_row = λ i h. absurd (omega (arith, n names_index));
      instance_row = λ j h. absurd (omega (arith, n instances_index));
      indexed = zeros_indexed names nums s.nums_sized n;
    }

pub fresh_valid : Valid (zeros names_size) (zeros nums_size) (zeros ticks_size)
fresh_valid =
    zeros_valid (zeros names_size) (zeros nums_size) (zeros ticks_size)
    (record { names_sized = length_zeros names_size; nums_sized = length_zeros nums_size; ticks_sized = length_zeros ticks_size })
    (entry_zero nums_size)
    (entry_zero ticks_size)

pub fresh_answer : table_answer (zeros names_size) (zeros nums_size) (zeros ticks_size) ≡ 0
fresh_answer = answers (zeros names_size) (zeros nums_size) (zeros ticks_size) fresh_valid

module _ (names nums ticks : List ℕ) where
  pub clear_valid : (cleared_of names nums ticks).answer ≡ 0 → Valid (cleared_of names nums ticks).names (cleared_of names nums ticks).nums (cleared_of names nums ticks).ticks
  clear_valid e = ⊎_elim (λ z. rw z fresh_valid) (λ z. absurd (omega (arith, ap (λ (c : Cleared). c.answer) z))) (clear_answers names nums ticks)
