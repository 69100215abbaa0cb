-- What an answer says: 0 exactly if no rule is broken, and otherwise the lowest number of a broken rule; a history is accepted exactly if no rule is
-- broken at any of its events. What follows at once: time never falls.
use mathlib.Core.Path.{◌≡◌, refl, ap}
use mathlib.Core.Logic.{◌↔◌}
use mathlib.Core.Bool.{Bool, false}
use mathlib.Core.List.{List, [], ◌∷◌, Memᴰ}
use Prim.Native.Nat.{ℕ, ◌≤◌, ◌<◌}
use native.Mathlib.Omega.{arith}
use borrow.Author.Tests.{ltb-false}
use Rattle.line.specs.Answer.{holds, IsLowest}
use Rattle.line.proofs.Lowest.{lowest_exactly, lowest_none}
use Rattle.rules.specs.Event.{Event}
use Rattle.rules.specs.Refusals.{Known, look, time_falls, second_kind, no_room, off_chart, never_activated, not_allowed, not_next, core_broken, count_broken, event_tests, answer_to}
use Rattle.rules.specs.Verdict.{answer, Accepted, Never}
use Rattle.rules.proofs.Tests.{neither}

-- ---- the rules 8 to 14, by the laws of any list of tests

-- An answer is 0 exactly if no rule is broken.
pub answer_zero : (k : Known) (e : Event) → (answer_to k e ≡ 0) ↔ ((n : ℕ) → holds n (event_tests k e) ≡ false)
unfolding answer_to event_tests
answer_zero k e = lowest_none (event_tests k e) refl

-- Any other is the lowest number that applies.
pub answer_lowest : (k : Known) (e : Event) (n : ℕ) → 0 < n → (answer_to k e ≡ n) ↔ IsLowest (event_tests k e) n
unfolding answer_to event_tests
answer_lowest k e n pos = lowest_exactly (event_tests k e) refl n pos

-- the rule of number n is broken
abbrev pub is_broken : ℕ → Known → Event → Bool
is_broken n k e = holds n (event_tests k e)

-- A history is accepted exactly if no rule is broken at any event.
accepted_never : (h : List Event) → Accepted h → (n : ℕ) → Never (is_broken n) h
accepted_never [] a n = tt
accepted_never (e ∷ h) a n = ((answer_zero (look h e) e).0 a.0 n, accepted_never h a.1 n)

never_accepted : (h : List Event) → ((n : ℕ) → Never (is_broken n) h) → Accepted h
never_accepted [] f = tt
never_accepted (e ∷ h) f = ((answer_zero (look h e) e).1 (λ n. (f n).0), never_accepted h (λ n. (f n).1))

pub accepted_exactly : (h : List Event) → Accepted h ↔ ((n : ℕ) → Never (is_broken n) h)
accepted_exactly h = (accepted_never h, never_accepted h)

-- The same by name: what an event answered 0 has passed.
pub record Passed (h : List Event) (e : Event) : Type 0 where
  pub time : time_falls (look h e) e ≡ false
  pub kinds : second_kind (look h e) e ≡ false
  pub room : no_room (look h e) e ≡ false
  pub chart : off_chart (look h e) e ≡ false
  pub activated : never_activated (look h e) e ≡ false
  pub number : not_next (look h e) e ≡ false
  pub core : core_broken (look h e) e ≡ false
  pub count : count_broken (look h e) e ≡ false

pub passed : (h : List Event) (e : Event) → answer h e ≡ 0 → Passed h e
unfolding event_tests not_allowed
passed h e a =
    let f = (answer_zero (look h e) e).0 a in
    let c = neither (off_chart (look h e) e) (never_activated (look h e) e) (f 11) in
    record { time = f 8; kinds = f 9; room = f 10; chart = c.0; activated = c.1; number = f 12; core = f 13; count = f 14 }

-- and an event that passes all of it is answered 0
pub passed_accepted : (h : List Event) → Accepted h → (e : Event) → Passed h e → Accepted (e ∷ h)
unfolding event_tests not_allowed answer_to
passed_accepted h a e p = (rw (p.time, p.kinds, p.room, p.chart, p.activated, p.number, p.core, p.count), a)

-- ---- a rule of two halves: it is never broken exactly if neither half is

pub never_halves : (b f g : Known → Event → Bool) → ((k : Known) (e : Event) → (b k e ≡ false) ↔ ((f k e ≡ false) × (g k e ≡ false))) →
    (h : List Event) → Never b h ↔ (Never f h × Never g h)
never_halves b f g s h = (apart h, λ n. together h n.0 n.1)
  where
    apart : (h : List Event) → Never b h → Never f h × Never g h
    apart [] n = (tt, tt)
    apart (e ∷ h) n = let p = (s (look h e) e).0 n.0 in let r = apart h n.1 in ((p.0, r.0), (p.1, r.1))

    together : (h : List Event) → Never f h → Never g h → Never b h
    together [] n m = tt
    together (e ∷ h) n m = ((s (look h e) e).1 (n.0, m.0), together h n.1 m.1)

-- 11 is off the chart, or never activated
pub allowed_exactly : (h : List Event) → Never not_allowed h ↔ (Never off_chart h × Never never_activated h)
unfolding not_allowed
allowed_exactly = never_halves not_allowed off_chart never_activated (λ k e. (neither (off_chart k e) (never_activated k e), λ p. rw (p.0, p.1)))

-- ---- time never falls

pub neighbours : (e d : Event) (h : List Event) → Accepted (e ∷ d ∷ h) → d.time ≤ e.time
unfolding time_falls
neighbours e d h a = ltb-false e.time d.time (passed (d ∷ h) e a.0).time

pub time_never_falls : (e d : Event) (h : List Event) → Accepted (e ∷ h) → Memᴰ d h → d.time ≤ e.time
time_never_falls e d [] a m = elim m [ ]
time_never_falls e d (f ∷ h) a m = by_place m (time_never_falls f d h a.1)
  where
    by_place : Memᴰ d (f ∷ h) → (Memᴰ d h → d.time ≤ f.time) → d.time ≤ e.time
    by_place (Memᴰ.head q) r = omega (arith, neighbours e f h a, ap (λ (x : Event). x.time) q)
    by_place (Memᴰ.tail n) r = omega (arith, neighbours e f h a, r n)
