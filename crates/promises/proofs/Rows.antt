-- The rows of names to which a line that is taken stores: a test on rows is a test on names. So each entry of the row of a name is told by the history
-- alone and by what the entry was before.
use mathlib.Core.Path.{◌≡◌, refl, sym, ap, ◌∙◌}
use mathlib.Core.Bool.{Bool, true, false, not, ◌&&◌, ◌||◌, cond}
use mathlib.Core.List.{List, ◌∷◌}
use Prim.Native.Nat.{ℕ, ◌<◌}
use native.Mathlib.Omega.{arith}
use lib.Dec.{eqb}
use Rattle.text.specs.Bytes.{same_bytes}
use Rattle.text.specs.Lists.{any}
use Rattle.text.proofs.Words.{same_eq, same_refl}
use Rattle.rules.specs.Lists.{one_if}
use Rattle.rules.specs.Words.{core, semaphore}
use Rattle.rules.specs.Charts.{is_process}
use Rattle.rules.specs.Event.{Event}
use Rattle.rules.specs.Core.{takes, gives, keeps, on_core, core_class, on, no_core, takes_core, gives_core, keeps_core}
use Rattle.rules.specs.History.{is_tracked, names, activates}
use Rattle.rules.proofs.Tests.{both, clash}
use Rattle.rules.proofs.Answers.{Passed}
use Rattle.rules.proofs.Room.{room_parts}
use Rattle.rules.proofs.CoreWords.{gives_only}
use Rattle.rules.proofs.Activations.{activates_instances}
use Rattle.steps.proofs.CoreClasses.{class_on}
use Rattle.tables.specs.Entry.{idle_core, held_by, name_rows, kind_at, standing_at, number_at, numbered_at, first_number_at}
use Rattle.store.specs.Store.{core_row, target_row, taken_nums}
use Rattle.judge.specs.Feed.{Tables}
use Rattle.promises.specs.Places.{row_of}
use Rattle.promises.specs.Shown.{Shown}
use Rattle.promises.specs.Taken.{looked_up_in}
use Rattle.promises.proofs.Choices.{where_true, first_choice}
use Rattle.promises.proofs.Places.{place_bound, one_row}
use Rattle.promises.proofs.KindTests.{core_tracked, instances_tracked, semaphore_tracked}
use Rattle.promises.proofs.Origins.{new_source, new_target, source_named, target_named}
use Rattle.promises.proofs.Grown.{source_row_new}
use Rattle.promises.proofs.Lookups.{new_core_lem, new_name_lem, core_row_lem, target_row_lem}
use Rattle.promises.proofs.Columns.{is_new_core, is_new_target}
use Rattle.promises.proofs.Entries.{or_none, kind_taken, standing_taken, number_taken, numbered_taken, first_taken}

-- an event on a core is of the class that gives the core back exactly if its word does
class_gives : (e : Event) → on_core e ≡ true → eqb (core_class e.kind e.word) gives_core ≡ gives e.word
unfolding core_class on_core
class_gives e o = by_test (is_process e.kind) (takes e.word) refl (gives e.word) refl (keeps e.word) o
  where
    by_test : (p t : Bool) → takes e.word ≡ t → (g : Bool) → gives e.word ≡ g → (k : Bool) → p && (t || (g || k)) ≡ true →
        eqb (cond p (cond t takes_core (cond g gives_core (cond k keeps_core no_core))) no_core) gives_core ≡ g
    by_test false t u g v k o = cc
    by_test true true u true v k o = absurd (clash (takes e.word) u (gives_only e.word v).0)
    by_test true true u false v k o = refl
    by_test true false u true v k o = refl
    by_test true false u false v true o = refl
    by_test true false u false v false o = cc

-- ---- the rows of a line

module _ (h : List Event) (t : Tables) (s : Shown h t) (e : Event) (f : Passed h e) where
  pub row_bound : (n : List ℕ) → any (same_bytes n) (names (e ∷ h)) ≡ true → row_of (e ∷ h) n < name_rows
  row_bound n q = omega (arith, place_bound (same_bytes n) (names (e ∷ h)) q, (room_parts h e f.room).0)

  pub target_bound : is_tracked e.kind ≡ true → target_row t.nums (looked_up_in h t e) < name_rows
  target_bound k = rw (target_row_lem h t s e f.kinds k) (row_bound e.target (target_named h e k))

  -- an event on a core is a process's, and its target has a row
  holder_bound : eqb (core_class e.kind e.word) no_core ≡ false → target_row t.nums (looked_up_in h t e) < name_rows
  holder_bound k = target_bound (core_tracked e (sym (class_on e) ∙ ap not k))

  module _ (n : List ℕ) (q : any (same_bytes n) (names (e ∷ h)) ≡ true) where
    at_target : (b : Bool) → (b ≡ true → is_tracked e.kind ≡ true) →
        b && eqb (row_of (e ∷ h) n) (target_row t.nums (looked_up_in h t e)) ≡ b && same_bytes n e.target
    at_target b k =
        where_true b _ _
        (λ u. ap (eqb (row_of (e ∷ h) n)) (target_row_lem h t s e f.kinds (k u))
        ∙ one_row same_bytes same_eq same_refl n e.target (names (e ∷ h)) q (target_named h e (k u)))

    at_core : not (eqb (core_class e.kind e.word) no_core) && eqb (row_of (e ∷ h) n) (core_row t.nums (looked_up_in h t e)) ≡ on n e
    at_core =
        rw (class_on e)
        (where_true (on_core e) _ _
        (λ o. ap (eqb (row_of (e ∷ h) n)) (core_row_lem h t s e f.kinds o)
        ∙ one_row same_bytes same_eq same_refl n e.source (names (e ∷ h)) q (source_named h e o)))

    is_one : (b : Bool) → eqb (one_if b) 1 ≡ b
    is_one true = refl
    is_one false = refl

    -- the name is new as the line's source, as its target
    pub at_new_core : is_new_core t.nums (looked_up_in h t e) (row_of (e ∷ h) n) ≡ new_source h e && same_bytes n e.source
    at_new_core =
        rw (new_core_lem h t e, is_one (new_source h e))
        (where_true (new_source h e) _ _
        (λ u. ap (eqb (row_of (e ∷ h) n)) (s.singles.names_counted ∙ sym (source_row_new h e f.kinds u))
        ∙ one_row same_bytes same_eq same_refl n e.source (names (e ∷ h)) q (source_named h e (both (on_core e) _ u).0)))

    pub at_new_target : is_new_target t.nums (looked_up_in h t e) e.kind (row_of (e ∷ h) n) ≡ new_target h e && same_bytes n e.target
    at_new_target = rw (new_name_lem h t e, is_one (new_target h e)) (at_target (new_target h e) (λ u. (both (is_tracked e.kind) _ u).0))

-- ---- the entries of a row

-- what a new name has, as target and as source, and otherwise what the name had
abbrev pub or_old : List Event → Event → List ℕ → ℕ → ℕ → ℕ → ℕ
or_old h e n u v old = cond (new_target h e && same_bytes n e.target) u (cond (new_source h e && same_bytes n e.source) v old)

-- the count or number that the event gives its target
abbrev pub or_given : Event → List ℕ → ℕ → ℕ → ℕ → ℕ
or_given e n u v old =
    cond (eqb e.kind semaphore && same_bytes n e.target) u (cond (activates e.kind e.word && same_bytes n e.target) v old)

module _ (h : List Event) (t : Tables) (s : Shown h t) (e : Event) (f : Passed h e) (state : ℕ) where
  abbrev next : List ℕ
  next = taken_nums t.nums (looked_up_in h t e) state e

  module _ (n : List ℕ) (q : any (same_bytes n) (names (e ∷ h)) ≡ true) where
    abbrev row : ℕ
    row = row_of (e ∷ h) n

    bound : row < name_rows
    bound = row_bound h t s e f n q

    new_or_old : (u v old : ℕ) →
        cond (is_new_target t.nums (looked_up_in h t e) e.kind row) u (cond (is_new_core t.nums (looked_up_in h t e) row) v old) ≡ or_old h e n u v old
    new_or_old u v old = rw (at_new_target h t s e f n q, at_new_core h t s e f n q)

    pub kind_at_lem : kind_at next row ≡ or_old h e n e.kind core (kind_at t.nums row)
    kind_at_lem = kind_taken t.nums s.sized.nums_sized (looked_up_in h t e) state e row bound ∙ new_or_old e.kind core (kind_at t.nums row)

    pub standing_at_lem : standing_at next row ≡
        cond (on n e) (cond (gives e.word) idle_core (held_by (row_of (e ∷ h) e.target)))
        (cond (eqb e.kind semaphore && same_bytes n e.target) state (or_old h e n 0 0 (standing_at t.nums row)))
    unfolding looked_up_in
    standing_at_lem =
        standing_taken t.nums s.sized.nums_sized (looked_up_in h t e) state e (holder_bound h t s e f) row bound
        ∙ rw (at_core h t s e f n q, at_target h t s e f n q (eqb e.kind semaphore) (semaphore_tracked e.kind), new_or_old 0 0 (standing_at t.nums row))
        (first_choice (on n e) _ _ _ (λ o. let c = (both (on_core e) _ o).0 in rw (class_gives e c, target_row_lem h t s e f.kinds (core_tracked e c))))

    given_or_old : (u v old : ℕ) →
        cond (eqb e.kind semaphore && eqb row (target_row t.nums (looked_up_in h t e))) u
        (cond (activates e.kind e.word && eqb row (target_row t.nums (looked_up_in h t e))) v (or_none t.nums (looked_up_in h t e) e.kind row old))
        ≡ or_given e n u v (or_old h e n 0 0 old)
    given_or_old u v old =
        rw (
          at_target h t s e f n q (eqb e.kind semaphore) (semaphore_tracked e.kind),
          at_target h t s e f n q (activates e.kind e.word) (λ a. instances_tracked e.kind (activates_instances e.kind e.word a)),
          new_or_old 0 0 old,
        )

    pub number_at_lem :
        let old = or_given e n e.count e.target_instance (or_old h e n 0 0 (number_at t.nums row)) in
        number_at next row ≡ cond (on n e) (cond (gives e.word) old e.target_instance) old
    unfolding looked_up_in
    number_at_lem =
        number_taken t.nums s.sized.nums_sized (looked_up_in h t e) state e (holder_bound h t s e f) row bound
        ∙ rw (at_core h t s e f n q, given_or_old e.count e.target_instance (number_at t.nums row))
        (first_choice (on n e) _ _ _ (λ o. rw (class_gives e (both (on_core e) _ o).0)))

    pub first_at :
        let old = or_old h e n 0 0 (first_number_at t.nums row) in
        first_number_at next row
        ≡ cond (activates e.kind e.word && same_bytes n e.target) (cond (eqb (or_old h e n 0 0 (numbered_at t.nums row)) 0) e.target_instance old) old
    first_at =
        first_taken t.nums s.sized.nums_sized (looked_up_in h t e) state e row bound
        ∙ rw (
          at_target h t s e f n q (activates e.kind e.word) (λ a. instances_tracked e.kind (activates_instances e.kind e.word a)),
          new_or_old 0 0 (numbered_at t.nums row),
          new_or_old 0 0 (first_number_at t.nums row),
        )

    pub numbered_at_lem : numbered_at next row ≡ or_given e n 1 1 (or_old h e n 0 0 (numbered_at t.nums row))
    numbered_at_lem =
        numbered_taken t.nums s.sized.nums_sized (looked_up_in h t e) state e row bound ∙ given_or_old 1 1 (numbered_at t.nums row)
