-- What the lists of a history hold: each name once, of one of the five kinds and with a row of its own, and each instance of its name's kind, told by the
-- row of its name and its number. And of events as lines give them: names of 1 to 64 bytes.
use Rattle.std.proofs.Common.{Option, None, Some}
use mathlib.Core.Path.{◌≡◌, refl, sym, subst}
use mathlib.Core.Bool.{Bool, true, false, ◌&&◌}
use mathlib.Core.List.{List, [], ◌∷◌}
use Prim.Native.Nat.{ℕ, ◌≤◌, ◌<◌}
use native.Mathlib.Omega.{arith}
use lib.ListN.{length}
use Rattle.text.specs.Bytes.{same_bytes}
use Rattle.text.specs.Name.{is_name}
use Rattle.text.specs.Lists.{any}
use Rattle.text.proofs.Names.{name_length}
use Rattle.text.proofs.Words.{same_eq, same_refl, eq_same}
use Rattle.rules.specs.Lists.{when, or_else}
use Rattle.rules.specs.Words.{core, semaphore}
use Rattle.rules.specs.Event.{Event, Instance, same_instance}
use Rattle.rules.specs.Core.{on_core}
use Rattle.rules.specs.History.{has_instances, is_tracked, named, names, kind_in, kind_of, instances}
use Rattle.rules.specs.Verdict.{Accepted}
use Rattle.rules.proofs.Tests.{both, and_true, clash}
use Rattle.rules.proofs.Answers.{passed}
use Rattle.rules.proofs.Tracked.{target_kind, kind_stays, named_kind}
use Rattle.rules.proofs.Meets.{Met}
use Rattle.promises.specs.Places.{row_of}
use Rattle.promises.proofs.Places.{place_one, Distinct, distinct_all, at_place}
use Rattle.promises.proofs.KindTests.{instances_tracked, tracked_range}
use Rattle.promises.proofs.Origins.{NameFrom, name_from, InstanceFrom, instance_from}
use Rattle.promises.proofs.Origins.NameFrom.{before, as_source, as_target}
use Rattle.promises.proofs.Origins.InstanceFrom.{before, as_new}
use Rattle.tables.specs.Entry.{name_room}

-- ---- the kinds of names

-- one of the five
abbrev OneOfFive : Option ℕ → Type 0
OneOfFive None = ⊥
OneOfFive (Some k) = (core ≤ k) × (k ≤ semaphore)

five : (h : List Event) (n : List ℕ) → any (same_bytes n) (names h) ≡ true → OneOfFive (kind_of n h)
unfolding names kind_in
five [] n q = absurd (clash false q refl)
five (e ∷ h) n q =
    by_test (is_tracked e.kind && same_bytes n e.target) refl (on_core e && same_bytes n e.source) refl (name_from h e n q) (five h n)
  where
    by_test : (a : Bool) → is_tracked e.kind && same_bytes n e.target ≡ a → (b : Bool) → on_core e && same_bytes n e.source ≡ b → NameFrom h e n →
        (any (same_bytes n) (names h) ≡ true → OneOfFive (kind_of n h)) → OneOfFive (or_else (or_else (when a e.kind) (when b core)) (kind_of n h))
    by_test true t b u f i = let r = tracked_range e.kind (both (is_tracked e.kind) _ t).0 in (omega arith, omega arith)
    by_test false t true u f i = (omega arith, omega arith)
    by_test false t false u (before w) i = i w
    by_test false t false u (as_source w p) i =
        absurd (clash _ (and_true (on_core e) (same_bytes n e.source) (both (on_core e) _ w).0 (eq_same n e.source p)) u)
    by_test false t false u (as_target w p) i =
        absurd (clash _ (and_true (is_tracked e.kind) (same_bytes n e.target) (both (is_tracked e.kind) _ w).0 (eq_same n e.target p)) t)

pub name_kind : (h : List Event) (n : List ℕ) → any (same_bytes n) (names h) ≡ true → (k : ℕ) × (kind_of n h ≡ Some k) × (core ≤ k) × (k ≤ semaphore)
name_kind h n q = by_kind (kind_of n h) refl (five h n q)
  where
    by_kind : (o : Option ℕ) → kind_of n h ≡ o → OneOfFive o → (k : ℕ) × (kind_of n h ≡ Some k) × (core ≤ k) × (k ≤ semaphore)
    by_kind None p r = absurd r
    by_kind (Some k) p r = (k, p, r.0, r.1)

-- ---- each name is listed once, and each row of a name has one

pub names_distinct : (h : List Event) → Distinct same_bytes same_eq same_refl (names h)
unfolding names
names_distinct [] = tt
names_distinct (e ∷ h) = distinct_all same_bytes same_eq same_refl (names h) (named e) (names_distinct h)

pub name_at_lem : (h : List Event) (i : ℕ) → i < length (names h) → (n : List ℕ) × (any (same_bytes n) (names h) ≡ true) × (row_of h n ≡ i)
name_at_lem h = at_place same_bytes same_eq same_refl (names h) (names_distinct h)

-- ---- the instances of an accepted history

-- an instance is one of its name's own kind
pub instance_kind : (h : List Event) → Accepted h → (x : Instance) → any (same_instance x) (instances h) ≡ true →
    (has_instances x.kind ≡ true) × (kind_of x.name h ≡ Some x.kind)
unfolding instances
instance_kind [] a x q = absurd (clash false q refl)
instance_kind (e ∷ h) a x q = by_origin (instance_from h e x q) (instance_kind h a.1 x)
  where
    by_origin : InstanceFrom h e x → (any (same_instance x) (instances h) ≡ true → (has_instances x.kind ≡ true) × (kind_of x.name h ≡ Some x.kind)) →
        (has_instances x.kind ≡ true) × (kind_of x.name (e ∷ h) ≡ Some x.kind)
    by_origin (before w) i = let r = i w in (r.0, kind_stays h e (passed h e a.0).kinds x.name x.kind r.1)
    by_origin (as_new w p) i =
        let t = (both (has_instances e.kind) _ w).0 in
        subst (λ (y : Instance). (has_instances y.kind ≡ true) × (kind_of y.name (e ∷ h) ≡ Some y.kind)) (sym p)
        (t, target_kind h e (instances_tracked e.kind t))

-- so its name is listed
pub instance_named : (h : List Event) → Accepted h → (x : Instance) → any (same_instance x) (instances h) ≡ true → any (same_bytes x.name) (names h) ≡ true
instance_named h a x q = named_kind h x.name x.kind (instance_kind h a x q).1 _ refl

-- an instance of its name's kind is told by the row of its name and by its number
pub one_instance : (h : List Event) (x y : Instance) → kind_of x.name h ≡ Some x.kind → kind_of y.name h ≡ Some y.kind →
    row_of h x.name ≡ row_of h y.name → x.number ≡ y.number → x ≡ y
one_instance h x y p q r o =
    let w : x.name ≡ y.name =
    place_one same_bytes same_eq same_refl x.name y.name (names h)
    (named_kind h x.name x.kind p _ refl) (named_kind h y.name y.kind q _ refl) r in
    let u : x.kind ≡ y.kind = cc in
    λ i. record { kind = u i; name = w i; number = o i }

-- ---- the names of lines that were read

abbrev pub AllMet : List Event → Type 0
AllMet [] = Unit {0}
AllMet (e ∷ h) = Met e × AllMet h

-- "name, note | 1 to 64 bytes"
pub named_well : (h : List Event) → AllMet h → (n : List ℕ) → any (same_bytes n) (names h) ≡ true → is_name n ≡ true
unfolding names
named_well [] m n q = absurd (clash false q refl)
named_well (e ∷ h) m n q = by_origin (name_from h e n q) (named_well h m.1 n)
  where
    by_origin : NameFrom h e n → (any (same_bytes n) (names h) ≡ true → is_name n ≡ true) → is_name n ≡ true
    by_origin (before w) i = i w
    by_origin (as_source w p) i = rw p m.0.source_name
    by_origin (as_target w p) i = rw p m.0.target_name

pub name_size : (h : List Event) → AllMet h → (n : List ℕ) → any (same_bytes n) (names h) ≡ true → (1 ≤ length n) × (length n ≤ name_room)
name_size h m n q = name_length n (named_well h m n q)
