-- A short history and after it n starts of instances of one runnable: n entries more, and what is asked of any other name is as the short history has it. By these laws the answers
-- at 1,023 and 1,024 entries are computed in one walk of the history.
use Rattle.std.proofs.Common.{None}
use mathlib.Core.Path.{◌≡◌, refl, ap, ◌∙◌}
use mathlib.Core.Bool.{Bool, true, false, not, ◌&&◌, and-false}
use mathlib.Core.List.{List, [], ◌∷◌}
use Prim.Native.Nat.{ℕ, zero, suc, ◌+◌, ◌-◌, ◌≤◌, ◌<◌}
use native.Mathlib.Omega.{arith}
use lib.Dec.{eqb}
use lib.ListN.{length}
use borrow.Author.Tests.{ne_eqb, eq-eqb, eqb-true, eqb-false}
use Rattle.text.specs.Literal.{bytes}
use Rattle.text.specs.Bytes.{same_bytes}
use Rattle.text.specs.Lists.{any}
use Rattle.rules.specs.Lists.{one_if}
use Rattle.rules.specs.Words.{runnable, start, terminate}
use Rattle.rules.specs.Charts.{is_process, chart_of, runnable_chart}
use Rattle.rules.specs.Event.{Event, Instance, same_instance, instance_of, state_of}
use Rattle.rules.specs.Core.{core_at}
use Rattle.rules.specs.History.{has_instances, names, cores, kind_of, instances, last_time, activates, numbers, last_number, first_number, is_from, above_all, needs_entry, entries, has_entry, last_count}
use Rattle.rules.specs.Refusals.{Known, look, not_next, answer_to}
use Rattle.rules.specs.Verdict.{answer}
use Rattle.rules.proofs.Sums.{any_one_more, other_one_more, none_one_more}
use Rattle.rules.proofs.Changes.{state_own}
use Rattle.rules.proofs.Entries.{entry_exactly, listed, entries_counted}
use Rattle.rules.proofs.ManyNames.{line}

-- an event of an instance of a runnable, its start among them
abbrev pub of_runnable : ℕ → ℕ → Event
of_runnable i word = line runnable 0 (bytes "P") 0 (bytes "r") i word

abbrev pub new_instance : ℕ → Event
new_instance i = of_runnable i start

abbrev numbered : ℕ → Instance
numbered i = record { kind = runnable; name = bytes "r"; number = i }

-- the instances 0 to n - 1 of it are started after a history
abbrev pub filled : List Event → ℕ → List Event
filled es zero = es
filled es (suc n) = new_instance n ∷ filled es n

-- and then one of them ends
abbrev pub ended : List Event → ℕ → ℕ → List Event
ended es n j = of_runnable j terminate ∷ filled es n

-- a history that has none of its instances
pub record Strange (es : List Event) : Type 0 where
  pub unlisted : (m : ℕ) → any (same_instance (numbered m)) (instances es) ≡ false
  pub none_from : any (is_from runnable (bytes "r") 0) (instances es) ≡ false
  pub unnumbered : last_number runnable (bytes "r") es ≡ None

module _ (es : List Event) (s : Strange es) where
  -- an instance of a higher number is none of them, and one of a lower is
  absent : (n m : ℕ) → n ≤ m → any (same_instance (numbered m)) (instances (filled es n)) ≡ false
  unfolding instances has_instances is_process same_bytes
  absent zero m h = s.unlisted m
  absent (suc n) m h =
      none_one_more (same_instance (numbered m)) (any (same_instance (numbered n)) (instances (filled es n))) (instances (filled es n)) (numbered n)
      (absent n m (omega arith)) (rw (ne_eqb m n (λ q. omega arith)))

  present : (n m : ℕ) → m < n → any (same_instance (numbered m)) (instances (filled es n)) ≡ true
  unfolding instances has_instances is_process
  present zero m h = absurd (omega arith)
  present (suc n) m h = by_number (eqb m n) refl (present n m)
    where
      by_number : (b : Bool) → eqb m n ≡ b → (m < n → any (same_instance (numbered m)) (instances (filled es n)) ≡ true) →
          any (same_instance (numbered m)) (instances (filled es (suc n))) ≡ true
      by_number true q i = rw (eqb-true m n q) (listed (filled es n) (new_instance n) refl)
      by_number false q i =
          let d = eqb-false m n q in
          any_one_more (same_instance (numbered m)) (any (same_instance (numbered n)) (instances (filled es n))) (instances (filled es n)) (numbered n)
          (i (omega (arith, d)))

  -- what is asked of others is asked of the history before them
  elsewhere : (f : Instance → Bool) → ((m : ℕ) → f (numbered m) ≡ false) → (n : ℕ) → any f (instances (filled es n)) ≡ any f (instances es)
  unfolding instances has_instances is_process
  elsewhere f q zero = refl
  elsewhere f q (suc n) =
      other_one_more f (any (same_instance (numbered n)) (instances (filled es n))) (instances (filled es n)) (numbered n) (q n) ∙ elsewhere f q n

  -- each start bears the next number, and brings an entry
  next : (n : ℕ) → not_next (look (filled es n) (new_instance n)) (new_instance n) ≡ false
  unfolding not_next activates is_process numbers last_number above_all same_bytes
  next zero = rw (s.unnumbered, s.none_from)
  next (suc n) = rw (eq-eqb (suc n) (n + 1) (omega arith))

  had_none : (n : ℕ) → has_entry (filled es n) (numbered n) ≡ false
  had_none n = entry_exactly (filled es n) (numbered n) ∙ rw (absent n n (omega arith))

  has_one : (n : ℕ) → has_entry (filled es (suc n)) (numbered n) ≡ true
  unfolding needs_entry has_instances is_process chart_of runnable_chart
  has_one n = entry_exactly (filled es (suc n)) (numbered n) ∙ rw (listed (filled es n) (new_instance n) refl, state_own (new_instance n) (filled es n)) refl

  filled_entries : (n : ℕ) → length (entries (filled es n)) ≡ length (entries es) + n
  filled_entries zero = omega arith
  filled_entries (suc n) = omega (arith, filled_entries n, entries_counted (filled es n) (new_instance n) (next n), ap one_if (had_none n), ap one_if (has_one n))

-- ---- what is known, but for what the laws tell: how many entries there are, whether the event's instance has one, whether its number is above all seen

abbrev known_with : ℕ → Bool → Bool → List Event → Event → Known
known_with n entry above h e = record {
  time = last_time h;
  source_kind = kind_of e.source h;
  target_kind = kind_of e.target h;
  names = length (names (e ∷ h));
  cores = length (cores (e ∷ h));
  entries = n;
  entry = entry;
  state = state_of (instance_of e) h;
  number = last_number e.kind e.target h;
  first = first_number e.kind e.target h;
  above = above;
  core = core_at e.source h;
  count = last_count e.target h;
}

answer_with : (h : List Event) (e : Event) (n : ℕ) (entry above : Bool) → length (entries h) ≡ n → has_entry h (instance_of e) ≡ entry →
    above_all e.kind e.target e.target_instance h ≡ above → answer h e ≡ answer_to (known_with n entry above h e) e
answer_with h e n entry above p q r = λ i. answer_to (known_with (p i) (q i) (r i) h e) e

module _ (es : List Event) (s : Strange es) (n : ℕ) where
  -- an event of an instance of the runnable that was not started
  pub unstarted : (m word : ℕ) → n ≤ m →
      let e = of_runnable m word in
      let h = filled es n in
      answer h e ≡ answer_to (known_with (length (entries es) + n) false (above_all runnable (bytes "r") m h) h e) e
  unstarted m word l =
      answer_with (filled es n) (of_runnable m word) (length (entries es) + n) false _ (filled_entries es s n)
      (entry_exactly (filled es n) (numbered m) ∙ rw (absent es s n m l)) refl

  -- an event of another name
  pub another : (e : Event) → same_bytes e.target (bytes "r") ≡ false →
      let h = filled es n in
      answer h e
      ≡ answer_to (known_with (length (entries es) + n) (any (same_instance (instance_of e)) (instances es) && needs_entry h (instance_of e))
      (not (any (is_from e.kind e.target e.target_instance) (instances es))) h e) e
  unfolding above_all is_from
  another e d =
      answer_with (filled es n) e (length (entries es) + n) _ _ (filled_entries es s n)
      (entry_exactly (filled es n) (instance_of e)
      ∙ ap (λ (b : Bool). b && needs_entry (filled es n) (instance_of e)) (elsewhere es s (same_instance (instance_of e)) (λ m. rw d (and-false (eqb e.kind runnable))) n))
      (ap not (elsewhere es s (is_from e.kind e.target e.target_instance) (λ m. rw d (and-false (eqb e.kind runnable))) n))

  -- ---- one of them ends

  module _ (j : ℕ) (l : j < n) where
    -- it needs no entry any more
    room_again : needs_entry (filled es n) (numbered j) ≡ true → needs_entry (ended es n j) (numbered j) ≡ false → length (entries (ended es n j)) + 1 ≡ length (entries es) + n
    unfolding not_next activates is_process has_instances
    room_again p q =
        let had : has_entry (filled es n) (numbered j) ≡ true = entry_exactly (filled es n) (numbered j) ∙ rw (present es s n j l, p) in
        let has : has_entry (ended es n j) (numbered j) ≡ false = entry_exactly (ended es n j) (numbered j) ∙ rw (listed (filled es n) (of_runnable j terminate) refl, q) in
        omega (arith, filled_entries es s n, entries_counted (filled es n) (of_runnable j terminate) refl, ap one_if had, ap one_if has)

    still : (m : ℕ) → any (same_instance (numbered m)) (instances (ended es n j)) ≡ any (same_instance (numbered m)) (instances (filled es n))
    unfolding instances has_instances is_process
    still m = rw (present es s n j l)

    module _ (p : needs_entry (filled es n) (numbered j) ≡ true) (q : needs_entry (ended es n j) (numbered j) ≡ false) where
      after_end : (m word : ℕ) → has_entry (ended es n j) (numbered m) ≡ false →
          let e = of_runnable m word in
          answer (ended es n j) e ≡ answer_to (known_with (length (entries es) + n - 1) false (above_all runnable (bytes "r") m (ended es n j)) (ended es n j) e) e
      after_end m word o = answer_with (ended es n j) (of_runnable m word) (length (entries es) + n - 1) false _ (omega (arith, room_again p q)) o refl

      -- an event of one that was not started, and one more of that which has ended
      pub new_after_end : (m word : ℕ) → n ≤ m →
          let e = of_runnable m word in
          answer (ended es n j) e ≡ answer_to (known_with (length (entries es) + n - 1) false (above_all runnable (bytes "r") m (ended es n j)) (ended es n j) e) e
      new_after_end m word o = after_end m word (entry_exactly (ended es n j) (numbered m) ∙ rw (still m, absent es s n m o))

      pub ended_again : (word : ℕ) →
          let e = of_runnable j word in
          answer (ended es n j) e ≡ answer_to (known_with (length (entries es) + n - 1) false (above_all runnable (bytes "r") j (ended es n j)) (ended es n j) e) e
      ended_again word = after_end j word (entry_exactly (ended es n j) (numbered j) ∙ rw q (and-false (any (same_instance (numbered j)) (instances (ended es n j)))))
