-- What an event does to a core: the classes of events say what the definition says, and what each of its numbers means.
use mathlib.Core.Path.{◌≡◌, refl, sym, ap, ◌∙◌}
use mathlib.Core.Bool.{Bool, true, false, not, ◌&&◌, ◌||◌, cond}
use Prim.Native.Nat.{ℕ, zero, suc, ◌<◌}
use native.Mathlib.Omega.{arith}
use lib.Dec.{eqb, ltb}
use borrow.Author.Tests.{ne_eqb, eqb-true, eqb-false, ltb-true, ltb-false}
use Rattle.words.specs.Class.{polling, leaving, unparking, ending, beginning, class_at}
use Rattle.words.proofs.Classes.{past_classes}
use Rattle.rules.specs.Words.{start, resume, poll_parking, preempt, wait, park, terminate, poll, run, waiting}
use Rattle.rules.specs.Charts.{is_process}
use Rattle.rules.specs.Core.{takes, gives, keeps, on_core, no_core, takes_core, gives_core, keeps_core, core_class}
use Rattle.rules.specs.Event.{Event}
use Rattle.rules.proofs.Tests.{both}

-- ---- by the class of an event, and by its word

unfoldable pub by_class : ℕ → ℕ
by_class c = cond (eqb c beginning || eqb c unparking) takes_core (cond (eqb c leaving || eqb c ending) gives_core (cond (eqb c polling) keeps_core no_core))

unfoldable by_word : ℕ → ℕ
by_word a = cond (takes a) takes_core (cond (gives a) gives_core (cond (keeps a) keeps_core no_core))

-- one computed test for the 38 events
abbrev agree_below : ℕ → Bool
agree_below zero = true
agree_below (suc n) = eqb (by_class (class_at n)) (by_word n) && agree_below n

agree_at : (n a : ℕ) → agree_below n ≡ true → a < n → by_class (class_at a) ≡ by_word a
agree_at zero a t h = absurd (omega arith)
agree_at (suc n) a t h = let p = both (eqb (by_class (class_at n)) (by_word n)) (agree_below n) t in by_test (eqb a n) refl p.0 (agree_at n a p.1)
  where
    by_test : (b : Bool) → eqb a n ≡ b → eqb (by_class (class_at n)) (by_word n) ≡ true → (a < n → by_class (class_at a) ≡ by_word a) → by_class (class_at a) ≡ by_word a
    by_test true q x below = rw (eqb-true a n q) (eqb-true _ _ x)
    by_test false q x below = below (omega (arith, eqb-false a n q))

computed : agree_below 38 ≡ true
unfolding by_class by_word class_at takes gives keeps
computed = refl

-- a number past the last code does nothing
above : (m n : ℕ) → m < n → eqb n m ≡ false
above m n h = ne_eqb n m (λ q. omega arith)

beyond : (a : ℕ) → waiting < a → by_word a ≡ no_core
unfolding by_word takes gives keeps
beyond a h =
    rw (
      above start a (omega arith),
      above resume a (omega arith),
      above poll_parking a (omega arith),
      above preempt a (omega arith),
      above wait a (omega arith),
      above park a (omega arith),
      above terminate a (omega arith),
      above poll a (omega arith),
      above run a (omega arith),
    )

past : (a : ℕ) → waiting < a → by_class (class_at a) ≡ no_core
unfolding by_class
past a h = rw (← past_classes a h)

class_word : (a : ℕ) → by_class (class_at a) ≡ by_word a
class_word a = by_test (ltb a 38) refl
  where
    by_test : (b : Bool) → ltb a 38 ≡ b → by_class (class_at a) ≡ by_word a
    by_test true q = agree_at 38 a computed (ltb-true a 38 q)
    by_test false q = let h : waiting < a = omega (arith, ltb-false a 38 q) in past a h ∙ sym (beyond a h)

pub class_off : (k a : ℕ) → is_process k ≡ false → no_core ≡ core_class k a
unfolding core_class
class_off k a p = rw p

pub class_says : (k a c : ℕ) → is_process k ≡ true → c ≡ class_at a → by_class c ≡ core_class k a
unfolding core_class by_word
class_says k a c p e = ap by_class e ∙ class_word a ∙ rw p

-- ---- the numbers of the definition

-- an event does something to a core exactly if it is on one
pub class_on : (e : Event) → not (eqb (core_class e.kind e.word) no_core) ≡ on_core e
unfolding core_class on_core
class_on e = by_test (is_process e.kind) (takes e.word) (gives e.word) (keeps e.word)
  where
    by_test : (p t g k : Bool) → not (eqb (cond p (cond t takes_core (cond g gives_core (cond k keeps_core no_core))) no_core) no_core) ≡ p && (t || (g || k))
    by_test false t g k = refl
    by_test true true g k = refl
    by_test true false true k = refl
    by_test true false false true = refl
    by_test true false false false = refl

-- and takes it exactly by one of the words that do
pub class_takes : (e : Event) → on_core e ≡ true → eqb (core_class e.kind e.word) takes_core ≡ takes e.word
unfolding core_class on_core
class_takes e o = by_test (is_process e.kind) (takes e.word) (gives e.word) (keeps e.word) o
  where
    by_test : (p t g k : Bool) → p && (t || (g || k)) ≡ true → eqb (cond p (cond t takes_core (cond g gives_core (cond k keeps_core no_core))) no_core) takes_core ≡ t
    by_test false t g k o = cc
    by_test true true g k o = refl
    by_test true false true k o = refl
    by_test true false false true o = refl
    by_test true false false false o = refl
