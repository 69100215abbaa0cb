-- The ticks of each name after an event line is taken, against those before: its core's are settled, its target gets what a core had that is given
-- back, and every other name's are kept.
use Rattle.std.proofs.Common.{Some}
use mathlib.Core.Path.{◌≡◌, refl, sym, ap, ◌∙◌}
use mathlib.Core.Bool.{Bool, true, false, ◌&&◌, cond}
use mathlib.Core.List.{List, ◌∷◌}
use Prim.Native.Nat.{ℕ, ◌+◌, ◌-◌, ◌%◌, ◌^◌}
use native.Mathlib.Omega.{arith}
use lib.Dec.{eqb}
use borrow.Author.Tests.{eqb-true, not-true}
use Rattle.text.specs.Bytes.{same_bytes}
use Rattle.text.specs.Lists.{any}
use Rattle.text.proofs.Words.{same_eq, same_refl, eq_same}
use Rattle.rules.specs.Lists.{one_if}
use Rattle.rules.specs.Words.{core}
use Rattle.rules.specs.Event.{Event}
use Rattle.rules.specs.Core.{on_core, core_class, on, no_core, gives_core}
use Rattle.rules.specs.History.{is_tracked, names, kind_of}
use Rattle.rules.specs.Refusals.{not_allowed, event_tests, answer_to}
use Rattle.rules.specs.Verdict.{Accepted}
use Rattle.rules.proofs.Tests.{both, and_true, clash}
use Rattle.rules.proofs.Answers.{Passed}
use Rattle.rules.proofs.Tracked.{two_names, source_kind}
use Rattle.steps.proofs.CoreClasses.{class_on}
use Rattle.tables.specs.Entry.{last_time, since_at}
use Rattle.lookup.specs.LookedUp.{new_core, new_name}
use Rattle.store.specs.Store.{core_row, target_row, taken_ticks}
use Rattle.judge.specs.Feed.{Tables}
use Rattle.promises.specs.Places.{row_of}
use Rattle.promises.specs.Shown.{Shown}
use Rattle.promises.specs.Taken.{looked_up_in}
use Rattle.promises.proofs.Places.{place_one}
use Rattle.promises.proofs.KindTests.{core_tracked}
use Rattle.promises.proofs.Origins.{NameFrom, new_target, name_stays, source_named, target_named, name_from}
use Rattle.promises.proofs.Origins.NameFrom.{before, as_source, as_target}
use Rattle.promises.proofs.Grown.{row_stays}
use Rattle.promises.proofs.Lookups.{new_core_lem, new_name_lem, core_row_lem, target_row_lem}
use Rattle.promises.proofs.Rows.{row_bound, target_bound}
use Rattle.promises.proofs.TickStores.{Sums, sums, sums_at, core_settled, target_settled}
use Rattle.promises.proofs.TickEntries.{unknown_before, Rows, last_taken, core_new, core_settled_lem, target_settled_lem, row_kept}

-- the ticks of a name, none where it is new
abbrev pub ticks_before : List Event → List ℕ → List ℕ → Sums
ticks_before h ticks n = cond (any (same_bytes n) (names h)) (sums_at ticks (row_of h n)) (sums 0 0 0 0)

-- the ticks of the event's core since it was settled, none where it is new
abbrev pub since_settled : List Event → Event → List ℕ → ℕ
since_settled h e ticks = cond (any (same_bytes e.source) (names h)) (e.time - since_at ticks (row_of h e.source)) 0

-- the ticks after the event
abbrev pub ticks_after : List Event → Tables → Event → List ℕ
ticks_after h t e = taken_ticks t.ticks t.nums (looked_up_in h t e) e.kind e.time

pub giving_on_core : (e : Event) → eqb (core_class e.kind e.word) gives_core ≡ true → on_core e ≡ true
giving_on_core e q = sym (class_on e) ∙ rw (eqb-true (core_class e.kind e.word) gives_core q)

-- an event that breaks no rule is answered 0
pub accepted_next : (h : List Event) → Accepted h → (e : Event) → Passed h e → Accepted (e ∷ h)
unfolding answer_to event_tests not_allowed
accepted_next h a e f = (rw (f.time, f.kinds, f.room, f.chart, f.activated, f.number, f.core, f.count), a)

module _ (h : List Event) (t : Tables) (s : Shown h t) (e : Event) (f : Passed h e) where
  pub last_next : last_time (ticks_after h t e) ≡ e.time
  last_next = last_taken t.ticks t.nums s.sized.ticks_sized (looked_up_in h t e) e.kind e.time

  -- ---- the rows stand as the stores want them

  classed : eqb (looked_up_in h t e).class no_core ≡ false → on_core e ≡ true
  unfolding looked_up_in
  classed q = sym (class_on e) ∙ rw q

  class_some : on_core e ≡ true → eqb (looked_up_in h t e).class no_core ≡ false
  unfolding looked_up_in
  class_some o = not-true _ (class_on e ∙ o)

  tracked_new : new_name (looked_up_in h t e) e.kind ≡ 1 → (b : Bool) → new_target h e ≡ b → is_tracked e.kind ≡ true
  tracked_new q true w = (both (is_tracked e.kind) _ w).0
  tracked_new q false w = absurd (omega (arith, sym (new_name_lem h t e ∙ ap one_if w) ∙ q))

  rows : Rows t.nums (looked_up_in h t e) e.kind
  rows = record {
    core = λ q. let o = classed q in rw (core_row_lem h t s e f.kinds o) (row_bound h t s e f e.source (source_named h e o));
    target = λ q. target_bound h t s e f (core_tracked e (classed q));
    apart = λ q p. let o = classed q in
        let w = core_tracked e o in
        let same = place_one same_bytes same_eq same_refl e.source e.target (names (e ∷ h)) (source_named h e o) (target_named h e w)
        (sym (core_row_lem h t s e f.kinds o) ∙ p ∙ target_row_lem h t s e f.kinds w) in
        clash (same_bytes e.source e.target) (eq_same e.source e.target same) (two_names h e f.kinds o);
    new_name_lem = λ q. target_bound h t s e f (tracked_new q (new_target h e) refl);
  }

  -- ---- a name that is neither the event's core nor its target

  pub name_old : (n : List ℕ) → any (same_bytes n) (names (e ∷ h)) ≡ true → on n e ≡ false → is_tracked e.kind && same_bytes n e.target ≡ false →
      any (same_bytes n) (names h) ≡ true
  name_old n q o w = by_origin (name_from h e n q)
    where
      by_origin : NameFrom h e n → any (same_bytes n) (names h) ≡ true
      by_origin (before p) = p
      by_origin (as_source p r) = absurd (clash (on n e) (and_true (on_core e) (same_bytes n e.source) (both (on_core e) _ p).0 (eq_same n e.source r)) o)
      by_origin (as_target p r) =
          let both-pass = and_true (is_tracked e.kind) (same_bytes n e.target) (both (is_tracked e.kind) _ p).0 (eq_same n e.target r) in
          absurd (clash (is_tracked e.kind && same_bytes n e.target) both-pass w)

  pub name_kept : (n : List ℕ) → any (same_bytes n) (names h) ≡ true → on n e ≡ false → is_tracked e.kind && same_bytes n e.target ≡ false →
      sums_at (ticks_after h t e) (row_of (e ∷ h) n) ≡ sums_at t.ticks (row_of h n)
  name_kept n q o w =
      row_kept t.ticks t.nums s.sized.ticks_sized (looked_up_in h t e) e.kind e.time rows (row_of (e ∷ h) n)
      (row_bound h t s e f n (name_stays h e n q))
      (λ c. (not_source (classed c), not_target (core_tracked e (classed c))))
      (λ c. not_target (tracked_new c (new_target h e) refl))
      ∙ ap (sums_at t.ticks) (row_stays h e f.kinds n q)
    where
      apart : (m : List ℕ) → any (same_bytes m) (names (e ∷ h)) ≡ true → same_bytes n m ≡ false → row_of (e ∷ h) m ≡ row_of (e ∷ h) n → ⊥
      apart m p d r = clash (same_bytes n m) (eq_same n m (place_one same_bytes same_eq same_refl n m (names (e ∷ h)) (name_stays h e n q) p (sym r))) d

      not_source : on_core e ≡ true → core_row t.nums (looked_up_in h t e) ≡ row_of (e ∷ h) n → ⊥
      not_source c r = apart e.source (source_named h e c) (rw c at o) (sym (core_row_lem h t s e f.kinds c) ∙ r)

      not_target : is_tracked e.kind ≡ true → target_row t.nums (looked_up_in h t e) ≡ row_of (e ∷ h) n → ⊥
      not_target c r = apart e.target (target_named h e c) (rw c at w) (sym (target_row_lem h t s e f.kinds c) ∙ r)

  -- ---- the event's core

  pub source_first : on_core e ≡ true → any (same_bytes e.source) (names h) ≡ false →
      sums_at (ticks_after h t e) (row_of (e ∷ h) e.source) ≡ sums 0 0 (unknown_before t.ticks t.nums e.time) e.time
  source_first o q =
      ap (sums_at (ticks_after h t e)) (sym (core_row_lem h t s e f.kinds o))
      ∙ core_new t.ticks t.nums s.sized.ticks_sized (looked_up_in h t e) e.kind e.time rows (new_core_lem h t e ∙ rw (o, q))

  pub source_settled : {class : ℕ} → on_core e ≡ true → any (same_bytes e.source) (names h) ≡ true → core_class e.kind e.word ≡ class →
      sums_at (ticks_after h t e) (row_of (e ∷ h) e.source) ≡ core_settled class e.time (sums_at t.ticks (row_of h e.source))
  unfolding looked_up_in
  source_settled o q c =
      let r = core_row_lem h t s e f.kinds o in
      ap (sums_at (ticks_after h t e)) (sym r)
      ∙ core_settled_lem t.ticks t.nums s.sized.ticks_sized (looked_up_in h t e) e.kind e.time rows (class_some o) (new_core_lem h t e ∙ rw (o, q))
      ∙ ap (λ (i : ℕ). core_settled (core_class e.kind e.word) e.time (sums_at t.ticks i)) (r ∙ row_stays h e f.kinds e.source q)
      ∙ ap (λ (k : ℕ). core_settled k e.time (sums_at t.ticks (row_of h e.source))) c

  -- ---- its target

  target_had : is_tracked e.kind ≡ true →
      cond (eqb (new_name (looked_up_in h t e) e.kind) 1) (sums 0 0 0 0) (sums_at t.ticks (target_row t.nums (looked_up_in h t e)))
      ≡ ticks_before h t.ticks e.target
  target_had w = by_test (any (same_bytes e.target) (names h)) refl
    where
      by_test : (b : Bool) → any (same_bytes e.target) (names h) ≡ b →
          cond (eqb (new_name (looked_up_in h t e) e.kind) 1) (sums 0 0 0 0) (sums_at t.ticks (target_row t.nums (looked_up_in h t e)))
          ≡ cond b (sums_at t.ticks (row_of h e.target)) (sums 0 0 0 0)
      by_test true q = rw (new_name_lem h t e, w, q) (ap (sums_at t.ticks) (target_row_lem h t s e f.kinds w ∙ row_stays h e f.kinds e.target q))
      by_test false q = rw (new_name_lem h t e, w, q)

  source_had : on_core e ≡ true →
      cond (eqb (new_core (looked_up_in h t e)) 1) 0 (e.time - since_at t.ticks (core_row t.nums (looked_up_in h t e))) ≡ since_settled h e t.ticks
  source_had o = by_test (any (same_bytes e.source) (names h)) refl
    where
      by_test : (b : Bool) → any (same_bytes e.source) (names h) ≡ b →
          cond (eqb (new_core (looked_up_in h t e)) 1) 0 (e.time - since_at t.ticks (core_row t.nums (looked_up_in h t e)))
          ≡ cond b (e.time - since_at t.ticks (row_of h e.source)) 0
      by_test true q =
          rw (new_core_lem h t e, o, q) (ap (λ (i : ℕ). e.time - since_at t.ticks i) (core_row_lem h t s e f.kinds o ∙ row_stays h e f.kinds e.source q))
      by_test false q = rw (new_core_lem h t e, o, q)

  target_next : is_tracked e.kind ≡ true → sums_at (ticks_after h t e) (row_of (e ∷ h) e.target)
      ≡ target_settled (core_class e.kind e.word) (since_settled h e t.ticks) (ticks_before h t.ticks e.target)
  unfolding looked_up_in
  target_next w =
      let r = target_row_lem h t s e f.kinds w in
      ap (sums_at (ticks_after h t e)) (sym r)
      ∙ target_settled_lem t.ticks t.nums s.sized.ticks_sized (looked_up_in h t e) e.kind e.time rows (target_bound h t s e f w)
      ∙ settled_with (core_class e.kind e.word) (λ q. source_had (giving_on_core e q)) (target_had w)
    where
      settled_with : (class : ℕ) {u v : ℕ} {x y : Sums} → (eqb class gives_core ≡ true → u ≡ v) → x ≡ y → target_settled class u x ≡ target_settled class v y
      settled_with class {u} {v} {x} {y} p q = by_test (eqb class gives_core) p
        where
          by_test : (b : Bool) → (b ≡ true → u ≡ v) → cond b (sums ((x.held + u) % 2 ^ 64) x.idle x.unknown x.since) x
              ≡ cond b (sums ((y.held + v) % 2 ^ 64) y.idle y.unknown y.since) y
          by_test true p = rw (p refl, q)
          by_test false p = q

  -- ---- a name that is no core

  -- what it has from the event's core
  pub other_next : (n : List ℕ) → any (same_bytes n) (names (e ∷ h)) ≡ true → (kind_of n (e ∷ h) ≡ Some core → ⊥) → sums_at (ticks_after h t e) (row_of (e ∷ h) n)
      ≡ cond (is_tracked e.kind && same_bytes n e.target)
      (target_settled (core_class e.kind e.word) (since_settled h e t.ticks) (ticks_before h t.ticks n))
      (ticks_before h t.ticks n)
  other_next n q k = by_test (is_tracked e.kind && same_bytes n e.target) refl
    where
      off : (b : Bool) → on n e ≡ b → b ≡ false
      off true o =
          let p = both (on_core e) (same_bytes n e.source) o in
          absurd (k (ap (λ (m : List ℕ). kind_of m (e ∷ h)) (same_eq n e.source p.1) ∙ source_kind h e f.kinds p.0))
      off false o = refl

      by_test : (b : Bool) → is_tracked e.kind && same_bytes n e.target ≡ b → sums_at (ticks_after h t e) (row_of (e ∷ h) n)
          ≡ cond b (target_settled (core_class e.kind e.word) (since_settled h e t.ticks) (ticks_before h t.ticks n)) (ticks_before h t.ticks n)
      by_test true w =
          let p = both (is_tracked e.kind) (same_bytes n e.target) w in
          rw (same_eq n e.target p.1) (target_next p.0)
      by_test false w =
          let o = name_old n q (off (on n e) refl) w in
          name_kept n o (off (on n e) refl) w ∙ rw o
