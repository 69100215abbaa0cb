-- The ticks of each name that is no core, after an event line is taken: with what it holds at the end, a process's charge in the longer history.
use Rattle.std.proofs.Common.{Some}
use mathlib.Core.Path.{◌≡◌, refl, sym, ap, subst, ◌∙◌}
use mathlib.Core.Bool.{Bool, true, false, ◌&&◌, cond}
use mathlib.Core.List.{List, [], ◌∷◌}
use Prim.Native.Nat.{ℕ, ◌+◌, ◌*◌, ◌%◌, ◌^◌, ◌<◌}
use native.Mathlib.Omega.{arith}
use lib.Dec.{eqb}
use Rattle.text.specs.Bytes.{same_bytes}
use Rattle.text.specs.Lists.{any, sum_over}
use Rattle.text.proofs.Words.{same_eq, same_refl}
use Rattle.text.proofs.Lists.{sum_cong, sum_add}
use Rattle.rules.specs.Lists.{one_if, add_all}
use Rattle.rules.specs.Words.{core}
use Rattle.rules.specs.Charts.{is_process}
use Rattle.rules.specs.Event.{Event, instance_of}
use Rattle.rules.specs.Core.{Core, unknown, idle, held, on_core, core_class, on, core_at, gives_core}
use Rattle.rules.specs.History.{is_tracked, named, names, kind_of, is_kind}
use Rattle.rules.specs.Verdict.{Accepted}
use Rattle.rules.specs.Sheet.{gap, ticks, is_held_by, holding, charge}
use Rattle.rules.proofs.Tests.{both, clash}
use Rattle.rules.proofs.Sums.{sum_zero, sum_added}
use Rattle.rules.proofs.Answers.{Passed}
use Rattle.rules.proofs.Changes.{core_other}
use Rattle.rules.proofs.Tracked.{now, tracked, names_once, named_kind, kind_named, kind_stays}
use Rattle.rules.proofs.Charges.{holding_later, charge_at_most}
use Rattle.rules.proofs.Meets.{Met}
use Rattle.tables.specs.Entry.{since_at}
use Rattle.judge.specs.Feed.{Tables}
use Rattle.promises.specs.Places.{row_of}
use Rattle.promises.specs.Shown.{Shown, OtherTicks, open_ticks, open_charge}
use Rattle.promises.proofs.Choices.{same_choice}
use Rattle.promises.proofs.KindTests.{core_tracked}
use Rattle.promises.proofs.CoreNames.{held_core, absent_unknown}
use Rattle.promises.proofs.Unlisted.{not_holding, no_process_lem}
use Rattle.promises.proofs.TickStores.{Sums, sums, sums_at, target_settled}
use Rattle.promises.proofs.Turns.{Turn, first, took, gave, kept, turn}
use Rattle.promises.proofs.TickRows.{ticks_before, since_settled, ticks_after, giving_on_core, accepted_next, name_kept, source_first, source_settled}
use Rattle.promises.proofs.TickRows.{other_next}
use Rattle.promises.proofs.OpenTicks.{not_target, until_event, unsettled, anew}

sum_times : {A : Type 0} (k : ℕ) (g : A → ℕ) (xs : List A) → sum_over (λ x. k * g x) xs ≡ k * sum_over g xs
sum_times k g [] = omega arith
sum_times k g (x ∷ xs) = omega (arith, sum_times k g xs)

names_step : (h : List Event) (e : Event) → names (e ∷ h) ≡ add_all same_bytes (names h) (named e)
unfolding names
names_step h e = refl

-- ---- a name that is not tracked holds nothing

absent_open : (h : List Event) → Accepted h → (ticks : List ℕ) (p : List ℕ) → any (same_bytes p) (names h) ≡ false → open_charge h ticks p ≡ 0
absent_open h a ticks p q =
    sum_cong (λ c. is_held_by p (core_at c h) * open_ticks h ticks c) (λ c. 0) (names h)
    (λ c. rw (not_holding p c h (ap (is_kind is_process) (kind_named h p q)) (core_at c h) (tracked c h a)) (omega arith)) ∙ sum_zero (names h)

-- ---- what a process has of one core: the open ticks o that count v times, before and after the event, and the ticks d that it settles

-- the core stays as it is
longer : (v v' o o' g d : ℕ) → v' ≡ v → o' ≡ o + g → d ≡ 0 → v' * o' + d ≡ v * o + g * v
longer v v' o o' g d p q r = rw (p, q, r) (omega arith)

-- the process did not hold it, and what it may hold now begins anew
none_then : (v v' o o' g d : ℕ) → v ≡ 0 → v' * o' ≡ 0 → d ≡ 0 → v' * o' + d ≡ v * o + g * v
none_then v v' o o' g d p q r = rw (q, p, r) (omega arith)

-- it gives it back
handed : (v v' o o' g d : ℕ) → v' ≡ 0 → d ≡ v * (o + g) → v' * o' + d ≡ v * o + g * v
handed v v' o o' g d p q = rw (p, q) (omega arith)

-- the ticks that the event's target gets, where it gives a core back
abbrev given_back : List Event → Event → List ℕ → ℕ
given_back h e ticks = cond (eqb (core_class e.kind e.word) gives_core) (since_settled h e ticks) 0

abbrev share : List Event → Event → List ℕ → List ℕ → ℕ
share h e ticks p = one_if (same_bytes p e.target) * given_back h e ticks

module _ (h : List Event) (a : Accepted h) (t : Tables) (s : Shown h t) (e : Event) (f : Passed h e) (p : List ℕ) where
  -- where the event is on no core, or its core is new, nothing is given back
  none_given : on_core e ≡ false → given_back h e t.ticks ≡ 0
  none_given o = rw (class_zero (eqb (core_class e.kind e.word) gives_core) refl)
    where
      class_zero : (b : Bool) → eqb (core_class e.kind e.word) gives_core ≡ b → b ≡ false
      class_zero false q = refl
      class_zero true q = absurd (clash (on_core e) (giving_on_core e q) o)

  none_new : any (same_bytes e.source) (names h) ≡ false → given_back h e t.ticks ≡ 0
  none_new q = rw q (same_choice (eqb (core_class e.kind e.word) gives_core) 0)

  -- the process's ticks of the core c
  abbrev Counted : List ℕ → Type 0
  Counted c =
      is_held_by p (core_at c (e ∷ h)) * open_ticks (e ∷ h) (ticks_after h t e) c + share h e t.ticks p * one_if (same_bytes c e.source)
      ≡ is_held_by p (core_at c h) * open_ticks h t.ticks c + gap e h * is_held_by p (core_at c h)

  -- a core that is not the event's
  elsewhere : (c : List ℕ) → on c e ≡ false → Counted c
  elsewhere c o = by_core (core_at c h) refl
    where
      same : is_held_by p (core_at c (e ∷ h)) ≡ is_held_by p (core_at c h)
      same = ap (is_held_by p) (core_other c e h o)

      unshared : (b : Bool) → on_core e ≡ b → b && same_bytes c e.source ≡ false → share h e t.ticks p * one_if (same_bytes c e.source) ≡ 0
      unshared true q r = rw r (omega arith)
      unshared false q r = rw (none_given q) (omega arith)

      None : is_held_by p (core_at c h) ≡ 0 → Counted c
      None q = none_then _ _ _ _ _ _ q (rw (same, q) (omega arith)) (unshared (on_core e) refl o)

      by_core : (k : Core) → core_at c h ≡ k → Counted c
      by_core unknown q = None (ap (is_held_by p) q)
      by_core idle q = None (ap (is_held_by p) q)
      by_core (held x) q =
          let k = held_core h a c x q in
          let w = named_kind h c core k _ refl in
          let r = name_kept h t s e f c w o (not_target h e c (kind_stays h e f.kinds c core k) _ refl) in
          longer _ _ _ _ _ _ same (unsettled h a t s e f c w k (ap (λ (u : Sums). u.since) r)).0 (unshared (on_core e) refl o)

  -- the event's own
  module _ (o : on_core e ≡ true) where
    begins : since_at (ticks_after h t e) (row_of (e ∷ h) e.source) ≡ e.time →
        is_held_by p (core_at e.source (e ∷ h)) * open_ticks (e ∷ h) (ticks_after h t e) e.source ≡ 0
    begins r = rw (anew h a t s e f e.source r).0 (omega arith)

    unshared : given_back h e t.ticks ≡ 0 → share h e t.ticks p * one_if (same_bytes e.source e.source) ≡ 0
    unshared q = rw q (omega arith)

    at_source : Turn h e → Counted e.source
    at_source (first q was) =
        none_then _ _ _ _ _ _ (ap (is_held_by p) was) (begins (ap (λ (u : Sums). u.since) (source_first h t s e f o q))) (unshared (none_new q))
    at_source (took q c was is) =
        none_then _ _ _ _ _ _ (ap (is_held_by p) was) (begins (ap (λ (u : Sums). u.since) (source_settled h t s e f o q c))) (unshared (rw c))
    at_source (gave q c was is) =
        let k = held_core h a e.source (instance_of e) was in
        let w = until_event h a t s e f e.source q k in
        handed _ _ _ _ _ _ (ap (is_held_by p) is) (rw (same_refl e.source, c, q, w, was) (omega arith))
    at_source (kept q c was is) =
        let k = held_core h a e.source (instance_of e) was in
        let r = source_settled h t s e f o q c in
        longer _ _ _ _ _ _ (ap (is_held_by p) (is ∙ sym was)) (unsettled h a t s e f e.source q k (ap (λ (u : Sums). u.since) r)).0 (unshared (rw c))

  counted : (c : List ℕ) → Counted c
  counted c = by_test (on c e) refl
    where
      by_test : (b : Bool) → on c e ≡ b → Counted c
      by_test true q =
          let r = both (on_core e) (same_bytes c e.source) q in
          subst Counted (sym (same_eq c e.source r.1)) (at_source r.0 (turn h a e f r.0))
      by_test false q = elsewhere c q

  -- ---- over all names

  -- what is settled is settled once
  shared_once : sum_over (λ c. share h e t.ticks p * one_if (same_bytes c e.source)) (names h) ≡ share h e t.ticks p
  shared_once =
      sum_times (share h e t.ticks p) (λ c. one_if (same_bytes c e.source)) (names h)
      ∙ ap (λ (n : ℕ). share h e t.ticks p * n) (names_once h e.source)
      ∙ by_test (any (same_bytes e.source) (names h)) refl
    where
      by_test : (b : Bool) → any (same_bytes e.source) (names h) ≡ b → share h e t.ticks p * one_if b ≡ share h e t.ticks p
      by_test true q = omega arith
      by_test false q = rw (none_new q) (omega arith)

  -- What a process holds at the end, and what it is given, is what it held and each gap as often as it held a core.
  open_next : share h e t.ticks p + open_charge (e ∷ h) (ticks_after h t e) p ≡ open_charge h t.ticks p + gap e h * holding p h
  open_next =
      let holds : List ℕ → ℕ = λ c. is_held_by p (core_at c h) in
      let was : List ℕ → ℕ = λ c. holds c * open_ticks h t.ticks c in
      let is : List ℕ → ℕ = λ c. is_held_by p (core_at c (e ∷ h)) * open_ticks (e ∷ h) (ticks_after h t e) c in
      let shared : List ℕ → ℕ = λ c. share h e t.ticks p * one_if (same_bytes c e.source) in
      omega (
        arith,
        no_more,
        shared_once,
        sum_add is shared (names h),
        sum_cong (λ c. is c + shared c) (λ c. was c + gap e h * holds c) (names h) counted,
        sum_add was (λ c. gap e h * holds c) (names h),
        sum_times (gap e h) holds (names h) ∙ ap (λ (n : ℕ). gap e h * n) (sym (holding_later p h h now a)),
      )
    where
      no_more : open_charge (e ∷ h) (ticks_after h t e) p ≡ sum_over (λ c. is_held_by p (core_at c (e ∷ h)) * open_ticks (e ∷ h) (ticks_after h t e) c) (names h)
      no_more =
          ap (sum_over (λ c. is_held_by p (core_at c (e ∷ h)) * open_ticks (e ∷ h) (ticks_after h t e) c)) (names_step h e)
          ∙ sum_added same_bytes same_eq same_refl _ (names h) (named e) None
        where
          None : (c : List ℕ) → any (same_bytes c) (names h) ≡ false → is_held_by p (core_at c (e ∷ h)) * open_ticks (e ∷ h) (ticks_after h t e) c ≡ 0
          None c q =
              let w : is_held_by p (core_at c h) ≡ 0 = ap (is_held_by p) (absent_unknown h a c q) in
              omega (arith, rw w at (counted c))

  -- ---- the ticks of a name that is no core

  -- before the event
  record Had (u : Sums) : Type 0 where
    charged : u.held + open_charge h t.ticks p ≡ charge p h
    idle_none : u.idle ≡ 0
    unknown_none : u.unknown ≡ 0
    since_none : u.since ≡ 0

  had : (kind_of p (e ∷ h) ≡ Some core → ⊥) → Had (ticks_before h t.ticks p)
  had k = by_test (any (same_bytes p) (names h)) refl
    where
      by_test : (b : Bool) → any (same_bytes p) (names h) ≡ b → Had (cond b (sums_at t.ticks (row_of h p)) (sums 0 0 0 0))
      by_test true q =
          let o = (s.each_ticks p q).of_other (λ c. k (kind_stays h e f.kinds p core c)) in
          record { charged = o.charge_ticks; idle_none = o.no_idle; unknown_none = o.no_unknown; since_none = o.no_since }
      by_test false q =
          record { charged = omega (arith, absent_open h a t.ticks p q, no_process_lem p h a (ap (is_kind is_process) (kind_named h p q))); idle_none = refl; unknown_none = refl; since_none = refl }

  -- what it has with what it is given
  given : (u : Sums) → u.held + share h e t.ticks p < 2 ^ 64 →
      cond (is_tracked e.kind && same_bytes p e.target) (target_settled (core_class e.kind e.word) (since_settled h e t.ticks) u) u
      ≡ sums (u.held + share h e t.ticks p) u.idle u.unknown u.since
  given u = by_tests (is_tracked e.kind) refl (same_bytes p e.target) (eqb (core_class e.kind e.word) gives_core) refl
    where
      with_held : {m n : ℕ} → m ≡ n → sums m u.idle u.unknown u.since ≡ sums n u.idle u.unknown u.since
      with_held q = ap (λ (m : ℕ). sums m u.idle u.unknown u.since) q

      by_tests : (w : Bool) → is_tracked e.kind ≡ w → (x y : Bool) → eqb (core_class e.kind e.word) gives_core ≡ y →
          u.held + one_if x * cond y (since_settled h e t.ticks) 0 < 2 ^ 64 →
          cond (w && x) (cond y (sums ((u.held + since_settled h e t.ticks) % 2 ^ 64) u.idle u.unknown u.since) u) u
          ≡ sums (u.held + one_if x * cond y (since_settled h e t.ticks) 0) u.idle u.unknown u.since
      by_tests true q true true r l = with_held (omega arith)
      by_tests true q true false r l = with_held (omega arith)
      by_tests true q false y r l = with_held (omega arith)
      by_tests false q x true r l = absurd (clash (is_tracked e.kind) (core_tracked e (giving_on_core e r)) q)
      by_tests false q x false r l = with_held (omega arith)

  pub charge_next : Met e → any (same_bytes p) (names (e ∷ h)) ≡ true → (kind_of p (e ∷ h) ≡ Some core → ⊥) →
      OtherTicks (e ∷ h) (ticks_after h t e) (row_of (e ∷ h) p) p
  unfolding ticks
  charge_next m q k =
      let u = had k in
      let before = (ticks_before h t.ticks p).held in
      let total : before + share h e t.ticks p + open_charge (e ∷ h) (ticks_after h t e) p ≡ charge p (e ∷ h) = omega (arith, u.charged, open_next) in
      let fits = charge_at_most (e ∷ h) (accepted_next h a e f) p in
      let r = other_next h t s e f p q k ∙ given (ticks_before h t.ticks p) (omega (arith, total, fits, m.time_size)) in
      record {
        charge_ticks = omega (arith, ap (λ (v : Sums). v.held) r, total);
        no_idle = ap (λ (v : Sums). v.idle) r ∙ u.idle_none;
        no_unknown = ap (λ (v : Sums). v.unknown) r ∙ u.unknown_none;
        no_since = ap (λ (v : Sums). v.since) r ∙ u.since_none;
      }
