-- A core's state in the tables names the row of its holder's name, and its number is the holder's. So it serves an instance exactly if the core of
-- the history does.
use Rattle.std.proofs.Common.{None, Some}
use mathlib.Core.Path.{◌≡◌, refl, sym, ap, subst, ◌∙◌}
use mathlib.Core.Bool.{Bool, true, false, not, ◌&&◌, cond, and-false}
use mathlib.Core.List.{List}
use Prim.Native.Nat.{ℕ}
use native.Mathlib.Omega.{arith}
use lib.Dec.{eqb}
use borrow.Author.Tests.{eqb-true, eqb-false, eq-eqb, ne_eqb}
use Rattle.text.specs.Bytes.{same_bytes}
use Rattle.text.specs.Lists.{any}
use Rattle.text.proofs.Bools.{is_false}
use Rattle.text.proofs.Words.{same_eq, same_refl}
use Rattle.rules.specs.Event.{Event, Instance, same_instance}
use Rattle.rules.specs.Core.{Core, unknown, idle, held, core_at}
use Rattle.rules.specs.History.{names, kind_of}
use Rattle.rules.specs.Refusals.{serves}
use Rattle.rules.specs.Verdict.{Accepted}
use Rattle.rules.proofs.Tests.{clash, instance_true, instance_refl}
use Rattle.tables.specs.Entry.{idle_core, held_by}
use Rattle.decide.specs.Known.{another, is_holder, core_in}
use Rattle.decide.proofs.Plans.{another_differs}
use Rattle.promises.specs.Places.{seek, row_of}
use Rattle.promises.specs.Shown.{core_standing}
use Rattle.promises.proofs.Places.{one_row}
use Rattle.promises.proofs.CoreNames.{holder_kind, holder_named}
use Rattle.promises.proofs.Told.{Only}

-- two states name one row exactly if the rows are one
pub standings_alike : (i j : ℕ) → eqb (held_by i) (held_by j) ≡ eqb i j
standings_alike i j = by_test (eqb i j) refl
  where
    by_test : (b : Bool) → eqb i j ≡ b → eqb (held_by i) (held_by j) ≡ b
    by_test true q = eq-eqb _ _ (ap held_by (eqb-true i j q))
    by_test false q = ne_eqb _ _ (λ (p : held_by i ≡ held_by j). eqb-false i j q (omega arith))

module _ (h : List Event) (a : Accepted h) (x : Instance) (only : Only (kind_of x.name h) x.kind) where
  -- state and number name the instance x exactly if it is the holder: its name has one kind
  holds_own : (c : List ℕ) (y : Instance) → core_at c h ≡ held y →
      is_holder (held_by (row_of h y.name)) y.number (seek (same_bytes x.name) (names h)) x.number ≡ same_instance y x
  unfolding seek
  holds_own c y p = by_row (any (same_bytes x.name) (names h)) refl
    where
      listed : any (same_bytes y.name) (names h) ≡ true
      listed = holder_named h a c y p

      by_name : (b : Bool) → same_bytes y.name x.name ≡ b →
          b && eqb y.number x.number ≡ eqb y.kind x.kind && (b && eqb y.number x.number)
      by_name true r =
          let k = only y.kind (ap (λ (n : List ℕ). kind_of n h) (sym (same_eq y.name x.name r)) ∙ holder_kind h a c y p) in
          rw (eq-eqb y.kind x.kind k)
      by_name false r = sym (and-false (eqb y.kind x.kind))

      by_row : (b : Bool) → any (same_bytes x.name) (names h) ≡ b →
          is_holder (held_by (row_of h y.name)) y.number (cond b (Some (row_of h x.name)) None) x.number ≡ same_instance y x
      by_row true q =
          rw (standings_alike (row_of h y.name) (row_of h x.name), one_row same_bytes same_eq same_refl y.name x.name (names h) listed q)
          (by_name (same_bytes y.name x.name) refl)
      by_row false q =
          sym (is_false _ (λ r. clash _ (subst (λ (z : Instance). any (same_bytes z.name) (names h) ≡ true) (instance_true y x r) listed) q))

  -- whom a core serves
  pub serves_shown : (c : List ℕ) (number : ℕ) → ((y : Instance) → core_at c h ≡ held y → number ≡ y.number) → (taking new : Bool) →
      serves (core_in (core_standing h (core_at c h)) number (seek (same_bytes x.name) (names h)) x) taking new x ≡ serves (core_at c h) taking new x
  unfolding core_in
  serves_shown c number told taking new = by_core (core_at c h) refl
    where
      by_same : (b : Bool) → serves (cond b (held x) (held (another x))) taking new x ≡ (not taking && b)
      by_same true = rw (instance_refl x)
      by_same false = rw (another_differs x)

      by_core : (k : Core) → core_at c h ≡ k →
          serves (core_in (core_standing h k) number (seek (same_bytes x.name) (names h)) x) taking new x ≡ serves k taking new x
      by_core unknown p = refl
      by_core idle p = refl
      by_core (held y) p =
          rw (
            ne_eqb (held_by (row_of h y.name)) 0 (λ q. omega arith),
            ne_eqb (held_by (row_of h y.name)) idle_core (λ q. omega arith),
            told y p,
            holds_own c y p,
          )
          (by_same (same_instance y x))
