-- The open ticks of a core, from the time up to which it is settled to the last event: an event that does not settle them lengthens them by its gap,
-- and one that does begins them anew.
use Rattle.std.proofs.Common.{Some}
use mathlib.Core.Path.{◌≡◌, refl, ap, ◌∙◌}
use mathlib.Core.Bool.{Bool, true, false, ◌&&◌}
use mathlib.Core.List.{List, [], ◌∷◌}
use Prim.Native.Nat.{ℕ, ◌+◌, ◌-◌, ◌≤◌}
use native.Mathlib.Omega.{arith}
use Rattle.text.specs.Bytes.{same_bytes}
use Rattle.text.specs.Lists.{any}
use Rattle.text.proofs.Words.{same_eq}
use Rattle.rules.specs.Words.{core}
use Rattle.rules.specs.Event.{Event}
use Rattle.rules.specs.History.{is_tracked, names, kind_of}
use Rattle.rules.specs.Verdict.{Accepted}
use Rattle.rules.specs.Sheet.{gap}
use Rattle.rules.proofs.Tests.{both, clash}
use Rattle.rules.proofs.Answers.{Passed, neighbours}
use Rattle.rules.proofs.Tracked.{target_kind}
use Rattle.tables.specs.Entry.{last_time, since_at}
use Rattle.judge.specs.Feed.{Tables}
use Rattle.promises.specs.Places.{row_of}
use Rattle.promises.specs.Shown.{Shown, last_of, open_ticks}
use Rattle.promises.proofs.KindTests.{tracked_range}
use Rattle.promises.proofs.TickRows.{ticks_after, accepted_next, last_next}

-- where there was an event, the last time moves by the gap
moved : (h : List Event) → Accepted h → (e : Event) → Passed h e → (n : List ℕ) → any (same_bytes n) (names h) ≡ true → e.time ≡ last_of h + gap e h
unfolding names
moved [] a e f n q = absurd (clash false q refl)
moved (d ∷ h) a e f n q = omega (arith, neighbours e d h (accepted_next (d ∷ h) a e f))

-- a core is not the target of an event, which has another kind
pub not_target : (h : List Event) (e : Event) (n : List ℕ) → kind_of n (e ∷ h) ≡ Some core → (b : Bool) →
    is_tracked e.kind && same_bytes n e.target ≡ b → b ≡ false
not_target h e n k false w = refl
not_target h e n k true w =
    let p = both (is_tracked e.kind) (same_bytes n e.target) w in
    let j : kind_of n (e ∷ h) ≡ Some e.kind = ap (λ (m : List ℕ). kind_of m (e ∷ h)) (same_eq n e.target p.1) ∙ target_kind h e p.0 in
    let z : e.kind ≡ core = cc in
    absurd (omega (arith, tracked_range e.kind p.0))

module _ (h : List Event) (a : Accepted h) (t : Tables) (s : Shown h t) (e : Event) (f : Passed h e) where
  -- the ticks since a core was settled, up to the event
  pub until_event : (n : List ℕ) → any (same_bytes n) (names h) ≡ true → kind_of n h ≡ Some core →
      e.time - since_at t.ticks (row_of h n) ≡ open_ticks h t.ticks n + gap e h
  until_event n q k =
      let time-moved = moved h a e f n q in
      let last-before = s.singles.last in
      let since-before = ((s.each_ticks n q).of_core k).since in
      omega arith

  pub unsettled : (n : List ℕ) → any (same_bytes n) (names h) ≡ true → kind_of n h ≡ Some core →
      since_at (ticks_after h t e) (row_of (e ∷ h) n) ≡ since_at t.ticks (row_of h n) →
      (open_ticks (e ∷ h) (ticks_after h t e) n ≡ open_ticks h t.ticks n + gap e h)
      × (since_at (ticks_after h t e) (row_of (e ∷ h) n) ≤ last_time (ticks_after h t e))
  unsettled n q k r =
      let time-moved = moved h a e f n q in
      let last-before = s.singles.last in
      let last-after = last_next h t s e f in
      let since-before = ((s.each_ticks n q).of_core k).since in
      (omega (arith, until_event n q k), omega arith)

  pub anew : (n : List ℕ) → since_at (ticks_after h t e) (row_of (e ∷ h) n) ≡ e.time →
      (open_ticks (e ∷ h) (ticks_after h t e) n ≡ 0) × (since_at (ticks_after h t e) (row_of (e ∷ h) n) ≤ last_time (ticks_after h t e))
  anew n r = let last-after = last_next h t s e f in (omega arith, omega arith)
