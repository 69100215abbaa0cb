-- How tight the contracts of what is looked up are: no second answer, and wrong answers that they shut out.
use Rattle.std.proofs.Common.{None, Some, Option, is_none}
use mathlib.Core.Path.{◌≡◌, refl}
use mathlib.Core.Bool.{Bool, true, false, cond}
use mathlib.Core.List.{List, []}
use Prim.Native.Nat.{ℕ}
use lib.Dec.{eqb}
use Rattle.text.specs.Literal.{bytes}
use Rattle.text.proofs.Tight.{unique, ShutsOut, shut_out}
use Rattle.rules.specs.Words.{runnable, task, start}
use Rattle.rules.specs.Charts.{is_process}
use Rattle.rules.specs.Core.{no_core, takes, core_class}
use Rattle.lookup.specs.Find.{find_name, find_instance}
use Rattle.lookup.specs.declared.look.LookedUp.{LookedUp}
use Rattle.lookup.specs.LookedUp.{looked_up_for, rows_added, above_in}

-- ---- `find_name`, `find_instance`

pub find_name_unique : (names nums name : List ℕ) (x y : Option ℕ) → x ≡ find_name names nums name → y ≡ find_name names nums name → x ≡ y
find_name_unique names nums = unique (find_name names nums)

pub find_instance_unique : (nums : List ℕ) (owner number : ℕ) (x y : Option ℕ) → x ≡ find_instance nums owner number → y ≡ find_instance nums owner number → x ≡ y
find_instance_unique nums owner = unique (find_instance nums owner)

-- ---- `look`

pub look_unique : (names nums : List ℕ) (kind word number : ℕ) (source target : List ℕ) (x y : LookedUp)
    → x ≡ looked_up_for names nums kind word number source target → y ≡ looked_up_for names nums kind word number source target → x ≡ y
look_unique names nums kind word number source = unique (looked_up_for names nums kind word number source)

-- the tables are empty, and the event is the start of A on C by a kind
abbrev looks : ℕ → LookedUp
looks kind = looked_up_for [] [] kind start 0 (bytes "C") (bytes "A")

-- a name that is not there has no row, and not the first
pub look_not_the_first : ShutsOut looks (λ kind. record { class = (looks kind).class; source = Some 0; target = Some 0; instance = Some 0 })
unfolding find_name core_class is_process takes
look_not_the_first = shut_out (λ s. is_none s.source) task refl refl

-- a runnable's start takes no core
pub look_not_by_word :
    ShutsOut looks (λ kind. record { class = core_class task start; source = (looks kind).source; target = (looks kind).target; instance = (looks kind).instance })
unfolding core_class is_process takes
look_not_by_word = shut_out (λ s. eqb s.class no_core) runnable refl refl

-- ---- `rows_added`

pub rows_added_unique : (needed : Bool) (f : Option ℕ) (x y : ℕ) → x ≡ rows_added needed f → y ≡ rows_added needed f → x ≡ y
rows_added_unique needed = unique (rows_added needed)

abbrev news : Bool × Option ℕ → ℕ
news (needed, f) = rows_added needed f

-- a row that is not needed is not new
pub rows_added_not_unneeded : ShutsOut news (λ (needed, f). rows_added true f)
rows_added_not_unneeded = shut_out (λ n. eqb n 0) (false, None) refl refl

-- nor one that is there
pub rows_added_not_found : ShutsOut news (λ (needed, f). cond needed 1 0)
rows_added_not_found = shut_out (λ n. eqb n 0) (true, Some 0) refl refl

-- ---- `above_all`

pub above_all_unique : (nums : List ℕ) (target : Option ℕ) (number : ℕ) (x y : Bool) → x ≡ above_in nums target number → y ≡ above_in nums target number → x ≡ y
above_all_unique nums target = unique (above_in nums target)

abbrev above : List ℕ × Option ℕ × ℕ → Bool
above (nums, target, number) = above_in nums target number

-- where nothing was seen any number is above it
pub above_all_not_never : ShutsOut above (λ given. false)
above_all_not_never = shut_out (λ b. b) ([], None, 0) refl refl
