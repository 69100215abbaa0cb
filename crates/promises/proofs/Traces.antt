-- Many lines from tables that show a history: the tables show the lines taken, and remember the first refusal and its line.
use mathlib.Core.Path.{◌≡◌, refl, sym, ap, ◌∙◌}
use mathlib.Core.List.{List, [], ◌∷◌}
use Prim.Native.Nat.{ℕ, zero, suc, ◌+◌, ◌%◌, ◌^◌}
use native.Mathlib.Omega.{arith}
use lib.ListN.{length}
use Rattle.rules.specs.declared.place.Place.{Place}
use Rattle.rules.specs.Lists.{if_zero}
use Rattle.rules.specs.Lines.{events_of}
use Rattle.rules.specs.First.{taken_of, first_refusal}
use Rattle.rules.specs.Trace.{place_of, answer_at, taken_lines, refusal_on}
use Rattle.rules.proofs.Traces.{Kept, kept_next}
use Rattle.tables.specs.Entry.{lines_index, scale_index, creator_index, date_index, started_index, verdict_number, verdict_line, line_count}
use Rattle.judge.specs.Feed.{Tables, tables, After, place_in, remembered, judged_line, judged_lines}
use Rattle.judge.proofs.Sizes.{length_remembered}
use Rattle.judge.proofs.Feeds.{verdict_again}
use Rattle.promises.specs.Shown.{Shows}
use Rattle.promises.specs.Fed.{remembered_in}
use Rattle.promises.proofs.Agreeing.{shown_later}
use Rattle.promises.proofs.LineEntries.{remembered_later, remembered_number, remembered_line}
use Rattle.promises.proofs.PlaceAnswers.{lines_fit}
use Rattle.promises.proofs.Lines.{LineOutcome, line_outcome}
use Rattle.promises.proofs.Events.{event_outcome}

-- ---- a refusal remembered

shows_remembered : (h : List (List ℕ)) (t : Tables) (n : ℕ) → Shows h t → Shows h (tables t.names (remembered t.nums n) t.ticks)
unfolding place_in
shows_remembered h t n s =
    let g = remembered_later t.nums n in
    record {
      place =
          rw (g lines_index (omega arith), g scale_index (omega arith), g creator_index (omega arith), g date_index (omega arith), g started_index (omega arith))
          s.place;
      creator = rw (g creator_index (omega arith)) s.creator;
      date = rw (g date_index (omega arith)) s.date;
      events =
          shown_later (events_of h) t.names t.nums (remembered t.nums n) t.ticks (λ j k. g j (omega arith)) (length_remembered t.nums n)
          s.events;
    }

-- "Further lines get that verdict again."
pub further : (t : Tables) → (verdict_number t.nums ≡ 0 → ⊥) → (ls : List (List ℕ)) → judged_lines t ls ≡ t
unfolding judged_lines
further t v [] = refl
further t v (l ∷ ls) = ap (λ (x : After). judged_lines x.left ls) (sym (verdict_again t l v)) ∙ further t v ls

-- ---- many lines

-- tables that show a history and remember a refusal
pub record Both (h : List (List ℕ)) (v : ℕ × ℕ) (t : Tables) : Type 0 where
  pub shows : Shows h t
  pub remembers : remembered_in t ≡ v

abbrev pub Followed : List (List ℕ) → List (List ℕ) → Tables → Type 0
Followed h ls = Both (taken_lines h ls) (refusal_on h ls)

refused_here : (h : List (List ℕ)) → Kept h → (t : Tables) → Shows h t → (n : ℕ) → (n ≡ 0 → ⊥) → (ls : List (List ℕ)) (u : Tables) →
    u ≡ tables t.names (remembered t.nums n) t.ticks → Both h (n, length h + 1) (judged_lines u ls)
unfolding place_in place_of
refused_here h k t s n some ls u e =
    let z = s.events.sized.nums_sized in
    let v = remembered_number t.nums n z in
    let m : (line_count t.nums + 1) % 2 ^ 32 ≡ length h + 1 = omega (arith, lines_fit h k.in_place, ap (λ (p : Place). p.lines) s.place) in
    let f : judged_lines u ls ≡ u = further u (rw e (λ q. some (sym v ∙ q))) ls in
    rw (f, e) (record { shows = shows_remembered h t n s; remembers = rw (v, remembered_line t.nums n z, m) })

pub followed : (ls h : List (List ℕ)) → Kept h → (t : Tables) → Shows h t → verdict_number t.nums ≡ 0 → verdict_line t.nums ≡ 0 →
    Followed h ls (judged_lines t ls)
unfolding judged_lines taken_of first_refusal
followed [] h k t s v w = record { shows = s; remembers = rw (v, w) }
followed (l ∷ ls) h k t s v w =
    let o = line_outcome h t s l (event_outcome h k t s l) v in
    by_answer (answer_at h l) refl o
    (λ q. followed ls (l ∷ h) (kept_next h l k q) (judged_line t l).left (o.shows q) ((o.verdict_kept q).0 ∙ v) ((o.verdict_kept q).1 ∙ w))
  where
    by_answer : (n : ℕ) → answer_at h l ≡ n → LineOutcome h t l (judged_line t l) →
        (answer_at h l ≡ 0 → Followed (l ∷ h) ls (judged_lines (judged_line t l).left ls)) →
        Both (if_zero n (taken_lines (l ∷ h) ls) h) (if_zero n (refusal_on (l ∷ h) ls) (n, length h + 1)) (judged_lines (judged_line t l).left ls)
    by_answer zero q o f = f q
    by_answer (suc n) q o f = refused_here h k t s (suc n) (λ e. omega arith) ls (judged_line t l).left (o.remembers (λ e. omega (arith, q)) ∙ rw q)
