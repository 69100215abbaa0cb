-- The single entries of nums after a line that is no event line. One that is taken is counted, and may be a parameter, whose entry is stored to before; of one
-- that is refused the number and the line are remembered. For any nums: nothing is asked of a history.
use mathlib.Core.Path.{◌≡◌, refl, ap, ap₂, ◌∙◌}
use mathlib.Core.Bool.{true, cond}
use mathlib.Core.List.{List}
use Prim.Native.Nat.{ℕ, ◌+◌, ◌%◌, ◌^◌, ◌<◌}
use native.Mathlib.Omega.{arith}
use lib.Dec.{eqb, ltb}
use lib.ListN.{length, get_or, set, length-set}
use borrow.Author.Tests.{lt-ltb, ltb-true}
use Rattle.tables.specs.Entry.{nums_size, verdict_index, verdict_line_index, lines_index, started_index, verdict_number, verdict_line, line_count}
use Rattle.tables.proofs.Stores.{same, other, single}
use Rattle.judge.specs.Feed.{remembered, counted}
use Rattle.promises.proofs.Agreeing.{AgreeFrom}

-- ---- the line is counted

module _ (nums : List ℕ) where
  pub counted_entry : length nums ≡ nums_size → (j : ℕ) → get_or (counted nums) j 0 ≡ cond (eqb lines_index j) ((line_count nums + 1) % 2 ^ 32) (get_or nums j 0)
  unfolding counted
  counted_entry z j = single nums_size nums lines_index j _ refl z

  counted_other : (j : ℕ) → (lines_index ≡ j → ⊥) → get_or (counted nums) j 0 ≡ get_or nums j 0
  unfolding counted
  counted_other j h = other nums lines_index j _ h

  -- the remembered verdict, and the entries of the events
  pub counted_before : (j : ℕ) → j < lines_index → get_or (counted nums) j 0 ≡ get_or nums j 0
  counted_before j h = counted_other j (λ e. omega arith)

  pub counted_later : AgreeFrom started_index nums (counted nums)
  counted_later j h = counted_other j (λ e. omega arith)

-- ---- and the entry of a parameter is stored to before: one between the count of lines and the first of the events

module _ (nums : List ℕ) (k v : ℕ) (lo : ltb lines_index k ≡ true) (hi : ltb k started_index ≡ true) where
  above : lines_index < k
  above = ltb-true lines_index k lo

  below : k < started_index
  below = ltb-true k started_index hi

  pub stored_entry : length nums ≡ nums_size → (j : ℕ) →
      get_or (counted (set nums k v)) j 0 ≡ cond (eqb lines_index j) ((line_count nums + 1) % 2 ^ 32) (cond (eqb k j) v (get_or nums j 0))
  stored_entry z j =
      counted_entry (set nums k v) (length-set nums k v ∙ z) j
      ∙ ap₂ (cond (eqb lines_index j))
      (ap (λ (n : ℕ). (n + 1) % 2 ^ 32) (other nums k lines_index v (λ e. omega (arith, above))))
      (single nums_size nums k j v (lt-ltb k nums_size (omega (arith, below))) z)

  pub stored_before : (j : ℕ) → j < lines_index → get_or (counted (set nums k v)) j 0 ≡ get_or nums j 0
  stored_before j h = counted_before (set nums k v) j h ∙ other nums k j v (λ e. omega (arith, above))

  pub stored_later : AgreeFrom started_index nums (counted (set nums k v))
  stored_later j h = counted_later (set nums k v) j h ∙ other nums k j v (λ e. omega (arith, below))

-- ---- its refusal is remembered

module _ (nums : List ℕ) (n : ℕ) where
  pub remembered_later : AgreeFrom lines_index nums (remembered nums n)
  unfolding remembered
  remembered_later j h = other (set nums verdict_index n) verdict_line_index j _ (λ e. omega arith) ∙ other nums verdict_index j n (λ e. omega arith)

  pub remembered_number : length nums ≡ nums_size → verdict_number (remembered nums n) ≡ n
  unfolding remembered
  remembered_number z = other (set nums verdict_index n) verdict_line_index verdict_index _ (λ e. omega arith) ∙ same nums verdict_index n (omega arith)

  pub remembered_line : length nums ≡ nums_size → verdict_line (remembered nums n) ≡ (line_count nums + 1) % 2 ^ 32
  unfolding remembered
  remembered_line z = same (set nums verdict_index n) verdict_line_index _ (omega (arith, length-set nums verdict_index n))
