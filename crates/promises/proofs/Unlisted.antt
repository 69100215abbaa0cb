-- The figures of a name that is not of the kind that has them: a name that is no core was unknown all along, and one that is no process has no charge.
use Rattle.std.proofs.Common.{Option, None, Some}
use mathlib.Core.Path.{◌≡◌, refl, sym, ap, ◌∙◌}
use mathlib.Core.Bool.{Bool, true, false}
use mathlib.Core.List.{List, [], ◌∷◌}
use Prim.Native.Nat.{ℕ}
use native.Mathlib.Omega.{arith}
use lib.Dec.{eqb}
use Rattle.text.specs.Bytes.{same_bytes}
use Rattle.text.proofs.Words.{same_eq}
use Rattle.text.proofs.Lists.{sum_cong}
use Rattle.rules.specs.Lists.{one_if}
use Rattle.rules.specs.Words.{core}
use Rattle.rules.specs.Charts.{is_process}
use Rattle.rules.specs.Event.{Event}
use Rattle.rules.specs.Core.{Core, unknown, idle, held, core_at}
use Rattle.rules.specs.History.{kind_of, is_kind, cores}
use Rattle.rules.specs.Verdict.{Accepted}
use Rattle.rules.specs.Sheet.{ticks, is_held, is_idle, is_held_by, holding, charge, span}
use Rattle.rules.proofs.Tests.{clash}
use Rattle.rules.proofs.Sums.{sum_zero}
use Rattle.rules.proofs.Answers.{passed}
use Rattle.rules.proofs.Totals.{core_total}
use Rattle.rules.proofs.Tracked.{Tracked, tracked, kind_stays}
use Rattle.promises.specs.Shifts.{core_figures}
use Rattle.promises.proofs.CoreNames.{core_unknown}

module _ (k : ℕ → Bool) (n : List ℕ) where
  -- a name that is of no such kind was of none before
  earlier : (e : Event) (h : List Event) → Accepted (e ∷ h) → is_kind k (kind_of n (e ∷ h)) ≡ false → is_kind k (kind_of n h) ≡ false
  earlier e h a q = by_kind (kind_of n h) refl
    where
      by_kind : (o : Option ℕ) → kind_of n h ≡ o → is_kind k o ≡ false
      by_kind None p = refl
      by_kind (Some j) p = sym (ap (is_kind k) (kind_stays h e (passed h e a.0).kinds n j p)) ∙ q

  -- so what counts nothing for it never counted
  never_counted : (count : List Event → ℕ) → ((h : List Event) → Accepted h → is_kind k (kind_of n h) ≡ false → count h ≡ 0) →
      (h : List Event) → Accepted h → is_kind k (kind_of n h) ≡ false → ticks count h ≡ 0
  unfolding ticks
  never_counted count nothing [] a q = refl
  never_counted count nothing (e ∷ h) a q =
      let p = earlier e h a q in
      rw (nothing h a.1 p) (omega (arith, never_counted count nothing h a.1 p))

module _ (n : List ℕ) where
  -- ---- no core: "unknown before it is tracked"

  pub uncounted_ticks : (v : Core → ℕ) → v unknown ≡ 0 → (h : List Event) → Accepted h → is_kind (eqb core) (kind_of n h) ≡ false → ticks (λ g. v (core_at n g)) h ≡ 0
  uncounted_ticks v z = never_counted (eqb core) n (λ g. v (core_at n g)) then
    where
      then : (g : List Event) → Accepted g → is_kind (eqb core) (kind_of n g) ≡ false → v (core_at n g) ≡ 0
      then g a q = ap v (core_unknown n g a (λ k. clash (is_kind (eqb core) (kind_of n g)) (ap (is_kind (eqb core)) k) q)) ∙ z

  pub no_core_lem : (h : List Event) → Accepted h → is_kind (eqb core) (kind_of n h) ≡ false → core_figures h n ≡ 0 ∷ 0 ∷ span h ∷ []
  no_core_lem h a q =
      let no-held = uncounted_ticks is_held refl h a q in
      let no_idle = uncounted_ticks is_idle refl h a q in
      rw (no-held, no_idle) (ap (λ (m : ℕ). 0 ∷ 0 ∷ m ∷ []) (omega (arith, core_total h a n, no-held, no_idle)))

  -- ---- no process

  pub not_holding : (c : List ℕ) (h : List Event) → is_kind is_process (kind_of n h) ≡ false → (k : Core) → Tracked c h k → is_held_by n k ≡ 0
  not_holding c h q unknown t = refl
  not_holding c h q idle t = refl
  not_holding c h q (held x) t = by_name (same_bytes n x.name) refl
    where
      by_name : (b : Bool) → same_bytes n x.name ≡ b → one_if b ≡ 0
      by_name false r = refl
      by_name true r = absurd (clash (is_kind is_process (kind_of n h)) (rw (same_eq n x.name r, t.1) t.2) q)

  pub no_process_lem : (h : List Event) → Accepted h → is_kind is_process (kind_of n h) ≡ false → charge n h ≡ 0
  no_process_lem = never_counted is_process n (holding n) then
    where
      then : (g : List Event) → Accepted g → is_kind is_process (kind_of n g) ≡ false → holding n g ≡ 0
      then g a q =
          sum_cong (λ c. is_held_by n (core_at c g)) (λ c. 0) (cores g) (λ c. not_holding c g q (core_at c g) (tracked c g a)) ∙ sum_zero (cores g)
