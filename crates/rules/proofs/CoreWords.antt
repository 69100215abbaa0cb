-- The words that take, give and keep a core, against the process chart: by computed tests over the chart's steps and the words' lists.
use Rattle.std.proofs.Common.{Option, None, Some}
use mathlib.Core.Path.{◌≡◌, refl, sym, ap, subst, ◌∙◌}
use mathlib.Core.Bool.{Bool, true, false, not, ◌&&◌, ◌||◌, beq}
use mathlib.Core.List.{List, [], ◌∷◌}
use Prim.Native.Nat.{ℕ}
use lib.Dec.{eqb}
use borrow.Author.Tests.{eqb-true, not-true}
use Rattle.text.specs.Lists.{all}
use Rattle.rules.specs.Lists.{member, when, or_else}
use Rattle.rules.specs.Chart.{Step, leaves, step_for}
use Rattle.rules.specs.Charts.{is_process, process_chart}
use Rattle.rules.specs.Event.{Event}
use Rattle.rules.specs.Core.{takers, givers, keepers, takes, gives, keeps, on_core, occupies}
use Rattle.rules.proofs.Tests.{both}

-- ---- a test that every element passes

pub of_member : (f : ℕ → Bool) (a : ℕ) (xs : List ℕ) → all f xs ≡ true → member a xs ≡ true → f a ≡ true
of_member f a [] t m = cc
of_member f a (x ∷ xs) t m =
    let p = both (f x) (all f xs) t in
    by_test (eqb a x) refl m p.0 (of_member f a xs p.1)
  where
    by_test : (b : Bool) → eqb a x ≡ b → b || member a xs ≡ true → f x ≡ true → (member a xs ≡ true → f a ≡ true) → f a ≡ true
    by_test true q m k r = subst (λ (n : ℕ). f n ≡ true) (sym (eqb-true a x q)) k
    by_test false q m k r = r m

pub of_step : (f : Step → Bool) (t : List Step) → all f t ≡ true → (a : ℕ) (r : Step) → step_for t a ≡ Some r → (f r ≡ true) × (a ≡ r.word)
of_step f [] p a r q = (cc, cc)
of_step f (s ∷ t) p a r q =
    let k = both (f s) (all f t) p in
    by_test (eqb a s.word) refl k.0 q (of_step f t k.1 a r)
  where
    by_test : (b : Bool) → eqb a s.word ≡ b → f s ≡ true → or_else (when b s) (step_for t a) ≡ Some r → (step_for t a ≡ Some r → (f r ≡ true) × (a ≡ r.word)) →
        (f r ≡ true) × (a ≡ r.word)
    by_test true e k q i = let z : s ≡ r = cc in (subst (λ (x : Step). f x ≡ true) z k, eqb-true a s.word e ∙ ap (λ (x : Step). x.word) z)
    by_test false e k q i = i q

pub beq_true : (a b : Bool) → beq a b ≡ true → a ≡ b
beq_true true true q = refl
beq_true true false q = sym q
beq_true false true q = q
beq_true false false q = refl

-- ---- the steps of the process chart

-- a step enters RUNNING or POLLING exactly if its word takes or keeps a core, and leaves these exactly if it gives or keeps one
agrees : Step → Bool
agrees r =
    beq (occupies (Some r.enters)) (takes r.word || keeps r.word)
    && all (λ s. beq (occupies (Some s)) (gives r.word || keeps r.word)) (r.first ∷ r.others)

chart_agrees : all agrees process_chart ≡ true
unfolding agrees process_chart occupies takes gives keeps
chart_agrees = refl

pub enters_core : (a : ℕ) (r : Step) → step_for process_chart a ≡ Some r → occupies (Some r.enters) ≡ takes a || keeps a
unfolding agrees
enters_core a r q =
    let k = of_step agrees process_chart chart_agrees a r q in
    subst (λ (w : ℕ). occupies (Some r.enters) ≡ takes w || keeps w) (sym k.1)
    (beq_true _ _ (both (beq (occupies (Some r.enters)) (takes r.word || keeps r.word)) _ k.0).0)

pub leaves_core : (a : ℕ) (r : Step) (s : ℕ) → step_for process_chart a ≡ Some r → leaves r s ≡ true → occupies (Some s) ≡ gives a || keeps a
unfolding agrees
leaves_core a r s q l =
    let k = of_step agrees process_chart chart_agrees a r q in
    subst (λ (w : ℕ). occupies (Some s) ≡ gives w || keeps w) (sym k.1)
    (beq_true _ _
    (of_member (λ z. beq (occupies (Some z)) (gives r.word || keeps r.word)) s (r.first ∷ r.others)
    (both (beq (occupies (Some r.enters)) (takes r.word || keeps r.word)) _ k.0).1 l))

-- ---- a core word is of one sort, and the chart has a step for it

unfoldable pub is_step : Option Step → Bool
is_step None = false
is_step (Some r) = true

pub takes_only : (a : ℕ) → takes a ≡ true → (gives a ≡ false) × (keeps a ≡ false) × (is_step (step_for process_chart a) ≡ true)
unfolding process_chart takes gives keeps is_step
takes_only a q = (
  not-true _ (of_member (λ n. not (gives n)) a takers refl q),
  not-true _ (of_member (λ n. not (keeps n)) a takers refl q),
  of_member (λ n. is_step (step_for process_chart n)) a takers refl q,
)

pub gives_only : (a : ℕ) → gives a ≡ true → (takes a ≡ false) × (keeps a ≡ false) × (is_step (step_for process_chart a) ≡ true)
unfolding process_chart takes gives keeps is_step
gives_only a q = (
  not-true _ (of_member (λ n. not (takes n)) a givers refl q),
  not-true _ (of_member (λ n. not (keeps n)) a givers refl q),
  of_member (λ n. is_step (step_for process_chart n)) a givers refl q,
)

pub keeps_only : (a : ℕ) → keeps a ≡ true → (takes a ≡ false) × (gives a ≡ false) × (is_step (step_for process_chart a) ≡ true)
unfolding process_chart takes gives keeps is_step
keeps_only a q = (
  not-true _ (of_member (λ n. not (takes n)) a keepers refl q),
  not-true _ (of_member (λ n. not (gives n)) a keepers refl q),
  of_member (λ n. is_step (step_for process_chart n)) a keepers refl q,
)

-- an event on a core is one of the three
pub data Sort (a : ℕ) : Type 0 where
  taker : takes a ≡ true → gives a ≡ false → Sort a
  giver : gives a ≡ true → takes a ≡ false → Sort a
  keeper : keeps a ≡ true → takes a ≡ false → gives a ≡ false → Sort a

pub on_process : (e : Event) → on_core e ≡ true → is_process e.kind ≡ true
unfolding on_core
on_process e o = (both (is_process e.kind) (takes e.word || (gives e.word || keeps e.word)) o).0

pub sort : (e : Event) → on_core e ≡ true → Sort e.word
unfolding on_core
sort e o = by_test (takes e.word) refl (gives e.word) refl (both (is_process e.kind) (takes e.word || (gives e.word || keeps e.word)) o).1
  where
    by_test : (t : Bool) → takes e.word ≡ t → (g : Bool) → gives e.word ≡ g → t || (g || keeps e.word) ≡ true → Sort e.word
    by_test true t g u z = taker t (takes_only e.word t).0
    by_test false t true u z = giver u t
    by_test false t false u z = keeper z t u
