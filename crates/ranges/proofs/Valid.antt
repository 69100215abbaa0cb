-- What answer 0 says of the lent tables: `Valid` holds exactly where `table_answer` is 0. The answers are 0, 15 and 16, and 15 is for a wrong size.
use mathlib.Core.Path.{◌≡◌, refl}
use mathlib.Core.Bool.{Bool, true, false, cond}
use mathlib.Core.List.{List}
use mathlib.Core.Logic.{◌⊎◌, inl, inr}
use Prim.Native.Nat.{ℕ, ◌≤◌, ◌<◌, ◌*◌}
use native.Mathlib.Omega.{arith}
use lib.ListN.{length, drop, length-take}
use Rattle.text.specs.Name.{is_name}
use Rattle.text.specs.Sizes.{max_time, core_limit}
use Rattle.text.proofs.Names.{name_length}
use Rattle.text.proofs.Words.{same_eq, eq_same}
use Rattle.rules.specs.Words.{core, semaphore}
use Rattle.rules.specs.Limits.{verdict_line_limit, line_limit, last_refusal}
use Rattle.rules.specs.Chart.{is_state_of}
use Rattle.rules.specs.Charts.{chart_of}
use Rattle.rules.specs.History.{has_instances}
use Rattle.tables.specs.Entry.{name_rows, instance_rows, name_room, verdict_number, verdict_line, line_count, scale_entry, creator_entry, date_entry, started_entry}
use Rattle.tables.specs.Entry.{name_count, core_count, instance_count, kind_at, length_at, standing_at, numbered_at, owner_at, state_at}
use Rattle.tables.specs.Entry.{first_time, last_time, held_at, idle_at, unknown_at, since_at, name_at, places}
use Rattle.tables.specs.Sized.{Sized, is_sized}
use Rattle.tables.proofs.Means.{Means, means_le, means_lt, means_true, means_and, means_as, fails}
use Rattle.tables.proofs.Sizes.{sizes_mean}
use Rattle.index.specs.Index.{index_from}
use Rattle.ranges.specs.Range.{line_level_ok, counts_ok, times_ok, standing_ok, max_sum, sums_ok, bytes_ok, name_ok, instance_ok, index_ok, in_range, table_answer}
use Rattle.ranges.proofs.UpTo.{means_up}

-- ---- what is in range

pub record NameRow (names nums ticks : List ℕ) (i : ℕ) : Type 0 where
  pub kind_some : core ≤ kind_at nums i
  pub kind_known : kind_at nums i ≤ semaphore
  pub numbered : numbered_at nums i ≤ 1
  pub standing : standing_ok nums (kind_at nums i) (standing_at nums i) ≡ true
  pub length_some : 1 ≤ length_at nums i
  pub length_most : length_at nums i ≤ name_room
  pub named : is_name (name_at names nums i) ≡ true
  pub held : held_at ticks i ≤ max_sum
  pub idle : idle_at ticks i ≤ max_sum
  pub unknown : unknown_at ticks i ≤ max_sum
  pub since : since_at ticks i ≤ last_time ticks

pub record InstanceRow (nums : List ℕ) (j : ℕ) : Type 0 where
  pub owner : owner_at nums j < name_count nums
  pub owner_kind : has_instances (kind_at nums (owner_at nums j)) ≡ true
  pub state : is_state_of (chart_of (kind_at nums (owner_at nums j))) (state_at nums j) ≡ true

pub record Valid (names nums ticks : List ℕ) : Type 0 where
  pub sizes : Sized names nums ticks
  pub verdict : verdict_number nums ≤ last_refusal
  pub verdict_line_lem : verdict_line nums ≤ verdict_line_limit
  pub lines : line_count nums ≤ line_limit
  pub scale : scale_entry nums ≤ 5
  pub creator : creator_entry nums ≤ 1
  pub date : date_entry nums ≤ 1
  pub started : started_entry nums ≤ 1
  pub name_count_lem : name_count nums ≤ name_rows
  pub core_count_lem : core_count nums ≤ core_limit
  pub instance_count_lem : instance_count nums ≤ instance_rows
  pub last_time_lem : last_time ticks ≤ max_time
  pub first_time_lem : first_time ticks ≤ last_time ticks
  pub name_row : (i : ℕ) → i < name_count nums → NameRow names nums ticks i
  pub instance_row : (j : ℕ) → j < instance_count nums → InstanceRow nums j
  pub indexed : places nums ≡ index_from names nums

-- ---- what the tests mean

line_level_mean : (nums : List ℕ)
    → Means (line_level_ok nums)
    ((verdict_number nums ≤ last_refusal)
    × ((verdict_line nums ≤ verdict_line_limit) × ((line_count nums ≤ line_limit) × ((scale_entry nums ≤ 5) × ((creator_entry nums ≤ 1) × (date_entry nums ≤ 1))))))
unfolding line_level_ok
line_level_mean nums =
    means_and (means_le (verdict_number nums) last_refusal)
    (means_and (means_le (verdict_line nums) verdict_line_limit)
    (means_and (means_le (line_count nums) line_limit)
    (means_and (means_le (scale_entry nums) 5) (means_and (means_le (creator_entry nums) 1) (means_le (date_entry nums) 1)))))

pub counts_mean : (nums : List ℕ)
    → Means (counts_ok nums) ((started_entry nums ≤ 1) × ((name_count nums ≤ name_rows) × ((core_count nums ≤ core_limit) × (instance_count nums ≤ instance_rows))))
unfolding counts_ok
counts_mean nums =
    means_and (means_le (started_entry nums) 1)
    (means_and (means_le (name_count nums) name_rows) (means_and (means_le (core_count nums) core_limit) (means_le (instance_count nums) instance_rows)))

times_mean : (ticks : List ℕ) → Means (times_ok ticks) ((last_time ticks ≤ max_time) × (first_time ticks ≤ last_time ticks))
unfolding times_ok
times_mean ticks = means_and (means_le (last_time ticks) max_time) (means_le (first_time ticks) (last_time ticks))

sums_mean : (ticks : List ℕ) (i : ℕ)
    → Means (sums_ok ticks i) ((held_at ticks i ≤ max_sum) × ((idle_at ticks i ≤ max_sum) × ((unknown_at ticks i ≤ max_sum) × (since_at ticks i ≤ last_time ticks))))
unfolding sums_ok
sums_mean ticks i =
    means_and (means_le (held_at ticks i) max_sum)
    (means_and (means_le (idle_at ticks i) max_sum) (means_and (means_le (unknown_at ticks i) max_sum) (means_le (since_at ticks i) (last_time ticks))))

bytes_mean : (names nums : List ℕ) (i : ℕ) → Means (bytes_ok names nums i) ((length_at nums i ≤ name_room) × (is_name (name_at names nums i) ≡ true))
unfolding bytes_ok
bytes_mean names nums i = means_and (means_le (length_at nums i) name_room) (means_true (is_name (name_at names nums i)))

pub name_mean : (names nums ticks : List ℕ) (i : ℕ) → Means (name_ok names nums ticks i) (NameRow names nums ticks i)
unfolding name_ok
name_mean names nums ticks i =
    means_as
    (means_and (means_le core (kind_at nums i))
    (means_and (means_le (kind_at nums i) semaphore)
    (means_and (means_le (numbered_at nums i) 1)
    (means_and (means_true (standing_ok nums (kind_at nums i) (standing_at nums i))) (means_and (bytes_mean names nums i) (sums_mean ticks i))))))
    (λ p.
    record {
      kind_some = p.0;
      kind_known = p.1.0;
      numbered = p.1.1.0;
      standing = p.1.1.1.0;
      length_some = omega (arith, name_length (name_at names nums i) p.1.1.1.1.0.1, length-take (length_at nums i) (drop (name_room * i) names));
      length_most = p.1.1.1.1.0.0;
      named = p.1.1.1.1.0.1;
      held = p.1.1.1.1.1.0;
      idle = p.1.1.1.1.1.1.0;
      unknown = p.1.1.1.1.1.1.1.0;
      since = p.1.1.1.1.1.1.1.1;
    })
    (λ r. (r.kind_some, (r.kind_known, (r.numbered, (r.standing, ((r.length_most, r.named), (r.held, (r.idle, (r.unknown, r.since)))))))))

instance_mean : (nums : List ℕ) (j : ℕ) → Means (instance_ok nums j) (InstanceRow nums j)
unfolding instance_ok
instance_mean nums j =
    let kind = kind_at nums (owner_at nums j) in
    means_as
    (means_and (means_lt (owner_at nums j) (name_count nums))
    (means_and (means_true (has_instances kind)) (means_true (is_state_of (chart_of kind) (state_at nums j)))))
    (λ p. record { owner = p.0; owner_kind = p.1.0; state = p.1.1 })
    (λ r. (r.owner, (r.owner_kind, r.state)))

index_mean : (names nums : List ℕ) → Means (index_ok names nums) (places nums ≡ index_from names nums)
unfolding index_ok
index_mean names nums = record { holds = same_eq (places nums) (index_from names nums); shows = eq_same (places nums) (index_from names nums) }

module _ (names nums ticks : List ℕ) where
  range_mean : Sized names nums ticks → Means (in_range names nums ticks) (Valid names nums ticks)
  unfolding in_range
  range_mean s =
      means_as
      (means_and (line_level_mean nums)
      (means_and (counts_mean nums)
      (means_and (times_mean ticks)
      (means_and (means_up (name_count nums) (name_mean names nums ticks))
      (means_and (means_up (instance_count nums) (instance_mean nums)) (index_mean names nums))))))
      (λ p.
      record {
        sizes = s;
        verdict = p.0.0;
        verdict_line_lem = p.0.1.0;
        lines = p.0.1.1.0;
        scale = p.0.1.1.1.0;
        creator = p.0.1.1.1.1.0;
        date = p.0.1.1.1.1.1;
        started = p.1.0.0;
        name_count_lem = p.1.0.1.0;
        core_count_lem = p.1.0.1.1.0;
        instance_count_lem = p.1.0.1.1.1;
        last_time_lem = p.1.1.0.0;
        first_time_lem = p.1.1.0.1;
        name_row = p.1.1.1.0;
        instance_row = p.1.1.1.1.0;
        indexed = p.1.1.1.1.1;
      })
      (λ v. (
        (v.verdict, (v.verdict_line_lem, (v.lines, (v.scale, (v.creator, v.date))))),
        ((v.started, (v.name_count_lem, (v.core_count_lem, v.instance_count_lem))), ((v.last_time_lem, v.first_time_lem), (v.name_row, (v.instance_row, v.indexed)))),
      ))

-- ---- the answer

-- 0, 15 and 16 by the two tests
abbrev answer_by : Bool → Bool → ℕ
answer_by s r = cond s (cond r 0 16) 15

answer_zero : (s r : Bool) → answer_by s r ≡ 0 → (s ≡ true) × (r ≡ true)
answer_zero true true e = (refl, refl)
answer_zero true false e = absurd (omega (arith, e))
answer_zero false r e = absurd (omega (arith, e))

answer_some : (s r : Bool) → (answer_by s r ≡ 0) ⊎ (answer_by s r ≡ 15) ⊎ (answer_by s r ≡ 16)
answer_some true true = inl refl
answer_some true false = inr (inr refl)
answer_some false r = inr (inl refl)

answer_15 : (s r : Bool) → answer_by s r ≡ 15 → s ≡ true → ⊥
answer_15 true true e h = omega (arith, e)
answer_15 true false e h = omega (arith, e)
answer_15 false r e h = let z : ◌≡◌ {A = ℕ} 0 1 = cc in omega arith

module _ (names nums ticks : List ℕ) where
  pub valid : table_answer names nums ticks ≡ 0 → Valid names nums ticks
  unfolding table_answer
  valid e =
      let a = answer_zero (is_sized (length names) (length nums) (length ticks)) (in_range names nums ticks) e in
      (range_mean names nums ticks ((sizes_mean names nums ticks).holds a.0)).holds a.1

  pub answers : Valid names nums ticks → table_answer names nums ticks ≡ 0
  unfolding table_answer
  answers v = rw ((sizes_mean names nums ticks).shows v.sizes, (range_mean names nums ticks v.sizes).shows v)

  pub three_answers : (table_answer names nums ticks ≡ 0) ⊎ (table_answer names nums ticks ≡ 15) ⊎ (table_answer names nums ticks ≡ 16)
  unfolding table_answer
  three_answers = answer_some (is_sized (length names) (length nums) (length ticks)) (in_range names nums ticks)

  pub answer_unsized : table_answer names nums ticks ≡ 15 → Sized names nums ticks → ⊥
  unfolding table_answer
  answer_unsized e s = answer_15 (is_sized (length names) (length nums) (length ticks)) (in_range names nums ticks) e ((sizes_mean names nums ticks).shows s)

  pub unsized_answer : (Sized names nums ticks → ⊥) → table_answer names nums ticks ≡ 15
  unfolding table_answer
  unsized_answer h = rw (fails (sizes_mean names nums ticks) h)
