-- The ticks of each core after an event line is taken are those of the longer history: held, idle and unknown as sums over its gaps.
use Rattle.std.proofs.Common.{Some}
use mathlib.Core.Path.{◌≡◌, refl, sym, ap, subst, ◌∙◌}
use mathlib.Core.Bool.{Bool, true, false}
use mathlib.Core.List.{List, [], ◌∷◌}
use Prim.Native.Nat.{ℕ, ◌+◌, ◌-◌, ◌*◌, ◌%◌, ◌^◌, ◌<◌}
use native.Mathlib.Omega.{arith}
use lib.Dec.{eqb}
use Rattle.text.specs.Bytes.{same_bytes}
use Rattle.text.specs.Lists.{any}
use Rattle.text.proofs.Words.{same_eq}
use Rattle.rules.specs.Words.{core}
use Rattle.rules.specs.Event.{Event, instance_of}
use Rattle.rules.specs.Core.{Core, unknown, idle, held, on_core, core_class, on, core_at, takes_core, gives_core}
use Rattle.rules.specs.History.{names, kind_of, is_kind}
use Rattle.rules.specs.Verdict.{Accepted}
use Rattle.rules.specs.Sheet.{gap, ticks, is_held, is_idle, is_unknown, held_ticks, idle_ticks, span}
use Rattle.rules.proofs.Tests.{both}
use Rattle.rules.proofs.Answers.{Passed}
use Rattle.rules.proofs.Changes.{core_other}
use Rattle.rules.proofs.Totals.{core_total}
use Rattle.rules.proofs.Meets.{Met}
use Rattle.rules.proofs.Tracked.{kind_stays, kind_named}
use Rattle.tables.specs.Entry.{since_at}
use Rattle.judge.specs.Feed.{Tables}
use Rattle.promises.specs.Places.{row_of}
use Rattle.promises.specs.Shown.{Shown, CoreTicks, open_ticks}
use Rattle.promises.proofs.Listed.{name_kind}
use Rattle.promises.proofs.CoreNames.{core_known, idle_core, held_core}
use Rattle.promises.proofs.Unlisted.{uncounted_ticks}
use Rattle.promises.proofs.TickStores.{Sums, sums_at}
use Rattle.promises.proofs.TickEntries.{unknown_before}
use Rattle.promises.proofs.Turns.{Turn, first, took, gave, kept, turn}
use Rattle.promises.proofs.TickRows.{ticks_after, accepted_next, name_old, name_kept, source_first, source_settled}
use Rattle.promises.proofs.OpenTicks.{not_target, until_event, unsettled, anew}

-- ---- a sum x up to the last settling and the open ticks o that count v times, against the total; and both after a gap g

-- nothing is settled, and the open ticks grow
still_open : (x x' v v' o o' g total : ℕ) → x' ≡ x → v' ≡ v → o' ≡ o + g → x + v * o ≡ total → x' + v' * o' ≡ g * v + total
still_open x x' v v' o o' g total p q r w = rw (p, q, r) (omega arith)

-- they are settled where they count
now_settled : (x x' v v' o o' g total d : ℕ) → v ≡ 1 → v' ≡ 0 → d ≡ o + g → x + v * o ≡ total → g * v + total < 2 ^ 64 → x' ≡ (x + d) % 2 ^ 64 →
    x' + v' * o' ≡ g * v + total
now_settled x x' v v' o o' g total d p q r w l z = rw (q, p) (omega (arith, rw p at w, rw p at l))

-- they do not count, and begin anew
opened_now : (x x' v v' o o' g total : ℕ) → v ≡ 0 → x' ≡ x → o' ≡ 0 → x + v * o ≡ total → x' + v' * o' ≡ g * v + total
opened_now x x' v v' o o' g total p q r w = rw (q, r, p) (omega (arith, rw p at w))

uncounted : (x x' v g total : ℕ) → x' ≡ x → v ≡ 0 → x ≡ total → x' ≡ g * v + total
uncounted x x' v g total p q w = rw q (omega arith)

-- ---- a core is not unknown

not_unknown : (n : List ℕ) (h : List Event) → kind_of n h ≡ Some core → is_unknown (core_at n h) ≡ 0
not_unknown n h k = by_core (core_at n h) (core_known n h k)
  where
    by_core : (j : Core) → (j ≡ unknown → ⊥) → is_unknown j ≡ 0
    by_core unknown w = absurd (w refl)
    by_core idle w = refl
    by_core (held x) w = refl

-- what a new core's ticks are before the event
unknown_all : (h : List Event) (t : Tables) → Shown h t → (e : Event) → unknown_before t.ticks t.nums e.time ≡ span (e ∷ h)
unknown_all [] t s e = rw s.singles.started (omega arith)
unknown_all (d ∷ h) t s e = rw (s.singles.started, s.singles.first)

module _ (h : List Event) (a : Accepted h) (t : Tables) (s : Shown h t) (e : Event) (f : Passed h e) (m : Met e) where
  abbrev Next : List ℕ → Type 0
  Next n = CoreTicks (e ∷ h) (ticks_after h t e) (row_of (e ∷ h) n) n

  -- no sum of the longer history comes near to the modulus
  small : (n : List ℕ) → held_ticks n (e ∷ h) + idle_ticks n (e ∷ h) < 2 ^ 64
  small n = omega (arith, core_total (e ∷ h) (accepted_next h a e f) n, m.time_size)

  -- a core that has a row, and stays as it is
  stays : (n : List ℕ) → any (same_bytes n) (names h) ≡ true → kind_of n h ≡ Some core → core_at n (e ∷ h) ≡ core_at n h →
      sums_at (ticks_after h t e) (row_of (e ∷ h) n) ≡ sums_at t.ticks (row_of h n) → Next n
  unfolding ticks
  stays n q k same r =
      let had = (s.each_ticks n q).of_core k in
      let longer = unsettled h a t s e f n q k (ap (λ (u : Sums). u.since) r) in
      record {
        held_ticks_shown = still_open _ _ _ _ _ _ _ _ (ap (λ (u : Sums). u.held) r) (ap is_held same) longer.0 had.held_ticks_shown;
        idle_ticks_shown = still_open _ _ _ _ _ _ _ _ (ap (λ (u : Sums). u.idle) r) (ap is_idle same) longer.0 had.idle_ticks_shown;
        unknown_ticks_shown = uncounted _ _ _ _ _ (ap (λ (u : Sums). u.unknown) r) (not_unknown n h k) had.unknown_ticks_shown;
        since = longer.1;
      }

  -- the event's core has a row: what it was is settled, and what it becomes begins anew
  module _ (o : on_core e ≡ true) (q : any (same_bytes e.source) (names h) ≡ true) (k : kind_of e.source h ≡ Some core) where
    had : CoreTicks h t.ticks (row_of h e.source) e.source
    had = (s.each_ticks e.source q).of_core k

    until : e.time - since_at t.ticks (row_of h e.source) ≡ open_ticks h t.ticks e.source + gap e h
    until = until_event h a t s e f e.source q k

    on_taking : core_class e.kind e.word ≡ takes_core → core_at e.source h ≡ idle → core_at e.source (e ∷ h) ≡ held (instance_of e) → Next e.source
    unfolding ticks
    on_taking c was is =
        let r = source_settled h t s e f o q c in
        let n = anew h a t s e f e.source (ap (λ (u : Sums). u.since) r) in
        record {
          held_ticks_shown = opened_now _ _ _ _ _ _ _ _ (ap is_held was) (ap (λ (u : Sums). u.held) r) n.0 had.held_ticks_shown;
          idle_ticks_shown =
              now_settled _ _ _ _ _ _ _ _ _ (ap is_idle was) (ap is_idle is) until had.idle_ticks_shown (omega (arith, small e.source))
              (ap (λ (u : Sums). u.idle) r);
          unknown_ticks_shown = uncounted _ _ _ _ _ (ap (λ (u : Sums). u.unknown) r) (not_unknown e.source h k) had.unknown_ticks_shown;
          since = n.1;
        }

    on_giving : core_class e.kind e.word ≡ gives_core → core_at e.source h ≡ held (instance_of e) → core_at e.source (e ∷ h) ≡ idle → Next e.source
    unfolding ticks
    on_giving c was is =
        let r = source_settled h t s e f o q c in
        let n = anew h a t s e f e.source (ap (λ (u : Sums). u.since) r) in
        record {
          held_ticks_shown =
              now_settled _ _ _ _ _ _ _ _ _ (ap is_held was) (ap is_held is) until had.held_ticks_shown (omega (arith, small e.source))
              (ap (λ (u : Sums). u.held) r);
          idle_ticks_shown = opened_now _ _ _ _ _ _ _ _ (ap is_idle was) (ap (λ (u : Sums). u.idle) r) n.0 had.idle_ticks_shown;
          unknown_ticks_shown = uncounted _ _ _ _ _ (ap (λ (u : Sums). u.unknown) r) (not_unknown e.source h k) had.unknown_ticks_shown;
          since = n.1;
        }

  -- it has none
  at_first : on_core e ≡ true → any (same_bytes e.source) (names h) ≡ false → core_at e.source h ≡ unknown → Next e.source
  unfolding ticks
  at_first o q was =
      let r = source_first h t s e f o q in
      let n = anew h a t s e f e.source (ap (λ (u : Sums). u.since) r) in
      let none_yet = ap (is_kind (eqb core)) (kind_named h e.source q) in
      let no-held = uncounted_ticks e.source is_held refl h a none_yet in
      let no_idle = uncounted_ticks e.source is_idle refl h a none_yet in
      let held_zero : held_ticks e.source (e ∷ h) ≡ 0 = rw was (omega arith) in
      let idle_zero : idle_ticks e.source (e ∷ h) ≡ 0 = rw was (omega arith) in
      record {
        held_ticks_shown = opened_now 0 _ _ _ 0 _ _ _ (ap is_held was) (ap (λ (u : Sums). u.held) r) n.0 (omega arith);
        idle_ticks_shown = opened_now 0 _ _ _ 0 _ _ _ (ap is_idle was) (ap (λ (u : Sums). u.idle) r) n.0 (omega arith);
        unknown_ticks_shown = ap (λ (u : Sums). u.unknown) r ∙ unknown_all h t s e ∙ omega (arith, core_total (e ∷ h) (accepted_next h a e f) e.source);
        since = n.1;
      }

  -- ---- each core

  on_source : on_core e ≡ true → Turn h e → Next e.source
  on_source o (first q was) = at_first o q was
  on_source o (took q c was is) = on_taking o q (idle_core h a e.source was) c was is
  on_source o (gave q c was is) = on_giving o q (held_core h a e.source (instance_of e) was) c was is
  on_source o (kept q c was is) =
      let k = held_core h a e.source (instance_of e) was in
      stays e.source q k (is ∙ sym was) (source_settled h t s e f o q c)

  pub core_next : (n : List ℕ) → any (same_bytes n) (names (e ∷ h)) ≡ true → kind_of n (e ∷ h) ≡ Some core →
      CoreTicks (e ∷ h) (ticks_after h t e) (row_of (e ∷ h) n) n
  core_next n q k = by_test (on n e) refl
    where
      was_core : any (same_bytes n) (names h) ≡ true → kind_of n h ≡ Some core
      was_core w = let j = name_kind h n w in let g = kind_stays h e f.kinds n j.0 j.1 in let r = j.1 in cc

      by_test : (b : Bool) → on n e ≡ b → Next n
      by_test true o =
          let p = both (on_core e) (same_bytes n e.source) o in
          subst Next (sym (same_eq n e.source p.1)) (on_source p.0 (turn h a e f p.0))
      by_test false o =
          let b = not_target h e n k _ refl in
          let w = name_old h t s e f n q o b in
          stays n w (was_core w) (core_other n e h o) (name_kept h t s e f n w o b)
