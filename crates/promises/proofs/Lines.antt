-- One line against tables that show a history of lines: the answer is the history's; a line taken leaves tables that show it too, and a refused line
-- only the remembered verdict.
use Rattle.std.proofs.Common.{Option, None, Some}
use mathlib.Core.Path.{◌≡◌, refl, sym, ap, ap₂, ◌∙◌}
use mathlib.Core.Bool.{true, not, cond}
use mathlib.Core.List.{List, ◌∷◌}
use Prim.Native.Nat.{ℕ, zero, suc, ◌+◌, ◌%◌, ◌^◌, ◌≤◌, ◌<◌}
use native.Mathlib.Omega.{arith}
use lib.Dec.{eqb, ltb}
use lib.ListN.{length, get_or, set}
use borrow.Author.Tests.{eq-eqb}
use Rattle.words.specs.declared.scale.Scale.{Scale}
use Rattle.fields.specs.Part.{field_of}
use Rattle.line.specs.declared.event.Event.{Event as ReadEvent}
use Rattle.line.specs.declared.reading.Reading.{Reading}
use Rattle.line.specs.declared.reading.Reading.TheVariants.{Version, Comment, TimeScale, Creator, CreationDate, EventLine, Refused}
use Rattle.line.specs.Reading.{read_line}
use Rattle.bill.specs.Scale.{scale_number}
use Rattle.rules.specs.declared.place.Place.{Place}
use Rattle.rules.specs.Event.{Event}
use Rattle.rules.specs.Verdict.{answer}
use Rattle.rules.specs.Lines.{event_from, event_in, event_of_line, events_of}
use Rattle.rules.specs.Trace.{place_of, answer_in_place, event_answer, answer_at}
use Rattle.rules.proofs.Places.{next_place, place_next}
use Rattle.steps.specs.PlaceCode.{answer_by_reading}
use Rattle.steps.proofs.ByReading.{by_reading_right}
use Rattle.tables.specs.Entry.{nums_size, verdict_index, verdict_line_index, lines_index, scale_index, creator_index, date_index, started_index}
use Rattle.tables.specs.Entry.{verdict_number, verdict_line, line_count, scale_entry, creator_entry, date_entry}
use Rattle.judge.specs.Feed.{Tables, tables, After, after, place_in, remembered, counted, judged_event, judged_reading, judged_in_place, judged_line}
use Rattle.judge.proofs.Sizes.{length_counted, length_entry}
use Rattle.promises.specs.Shown.{Shown, Shows}
use Rattle.promises.proofs.Agreeing.{AgreeFrom, shown_later}
use Rattle.promises.proofs.LineEntries.{counted_entry, counted_before, counted_later, stored_entry, stored_before, stored_later}
use Rattle.promises.proofs.PlaceAnswers.{few_short, not_refused}

-- ---- what becomes of a line

-- the entries of the line level but for the count of lines: the remembered verdict and the parameters
pub record LevelKept (nums nums' : List ℕ) : Type 0 where
  pub number : verdict_number nums' ≡ verdict_number nums
  pub line : verdict_line nums' ≡ verdict_line nums
  pub scale : scale_entry nums' ≡ scale_entry nums
  pub creator : creator_entry nums' ≡ creator_entry nums
  pub date : date_entry nums' ≡ date_entry nums

-- what is left after an event line is decided and stored
pub record EventOutcome (h : List Event) (t : Tables) (e : Event) (x : After) : Type 0 where
  pub answered : x.answer ≡ answer h e
  pub shown : answer h e ≡ 0 → Shown (e ∷ h) x.left
  pub line_counted : answer h e ≡ 0 → line_count x.left.nums ≡ (line_count t.nums + 1) % 2 ^ 32
  pub level_kept : answer h e ≡ 0 → LevelKept t.nums x.left.nums
  pub remembers : (answer h e ≡ 0 → ⊥) → x.left ≡ tables t.names (remembered t.nums (answer h e)) t.ticks

pub record LineOutcome (h : List (List ℕ)) (t : Tables) (l : List ℕ) (x : After) : Type 0 where
  pub answered : x.answer ≡ answer_at h l
  pub shows : answer_at h l ≡ 0 → Shows (l ∷ h) x.left
  pub verdict_kept : answer_at h l ≡ 0 → (verdict_number x.left.nums ≡ verdict_number t.nums) × (verdict_line x.left.nums ≡ verdict_line t.nums)
  pub remembers : (answer_at h l ≡ 0 → ⊥) → x.left ≡ tables t.names (remembered t.nums (answer_at h l)) t.ticks

-- ---- a line in its place

module _ (h : List (List ℕ)) (t : Tables) (s : Shows h t) (l : List ℕ) (q : answer_in_place (place_of h) l ≡ 0) where
  in_place_answer : answer_at h l ≡ event_answer (event_of_line l) (events_of h)
  unfolding answer_at
  in_place_answer = rw q

  one_line_more : (line_count t.nums + 1) % 2 ^ 32 ≡ line_count t.nums + 1
  unfolding place_in
  one_line_more =
      let e = ap (λ (p : Place). p.lines) s.place in
      let k = (few_short (place_of h) l q).0 in
      omega arith

  -- a line that changes only the line level
  level_outcome : (nums : List ℕ) → length nums ≡ length t.nums → AgreeFrom started_index t.nums nums →
      ((j : ℕ) → j < lines_index → get_or nums j 0 ≡ get_or t.nums j 0) → creator_entry nums ≤ 1 → date_entry nums ≤ 1 →
      (r : Reading) → read_line l ≡ r → event_in r l ≡ None → place_in nums ≡ next_place (place_in t.nums) r →
      LineOutcome h t l (after 0 t.names nums t.ticks)
  unfolding events_of event_of_line
  level_outcome nums z g v c d r e o p =
      let no_event : event_of_line l ≡ None = ap (λ (x : Reading). event_in x l) e ∙ o in
      let a : answer_at h l ≡ 0 = in_place_answer ∙ ap (λ (x : Option Event). event_answer x (events_of h)) no_event in
      record {
        answered = sym a;
        shows = λ k.
            record {
              place = p ∙ ap₂ next_place s.place (sym e) ∙ sym (place_next h l q);
              creator = c;
              date = d;
              events = rw no_event (shown_later (events_of h) t.names t.nums nums t.ticks g z s.events);
            };
        verdict_kept = λ k. (v verdict_index (omega arith), v verdict_line_index (omega arith));
        remembers = λ n. absurd (n a);
      }

  abbrev nums : List ℕ
  nums = t.nums

  sized : length nums ≡ nums_size
  sized = s.events.sized.nums_sized

  -- it is counted
  counted_outcome : (r : Reading) → read_line l ≡ r → event_in r l ≡ None → next_place (place_in nums) r ≡ next_place (place_in nums) Comment →
      LineOutcome h t l (after 0 t.names (counted nums) t.ticks)
  unfolding place_in
  counted_outcome r e o n =
      let at = counted_entry nums sized in
      level_outcome (counted nums) (length_counted nums) (counted_later nums) (counted_before nums)
      (rw (at creator_index) s.creator) (rw (at date_index) s.date) r e o
      (rw (at lines_index ∙ one_line_more, at scale_index, at creator_index, at date_index, at started_index) (sym n))

  -- and the entry k of a parameter is stored to
  module _ (k v : ℕ) (lo : ltb lines_index k ≡ true) (hi : ltb k started_index ≡ true) where
    abbrev entry : ℕ → ℕ
    entry j = cond (eqb k j) v (get_or nums j 0)

    at : (j : ℕ) → get_or (counted (set nums k v)) j 0 ≡ cond (eqb lines_index j) ((line_count nums + 1) % 2 ^ 32) (entry j)
    at = stored_entry nums k v lo hi sized

    stored_outcome : (r : Reading) → read_line l ≡ r → event_in r l ≡ None → entry creator_index ≤ 1 → entry date_index ≤ 1 →
        record {
          lines = line_count nums + 1;
          scale = entry scale_index;
          creator = not (eqb (entry creator_index) 0);
          date = not (eqb (entry date_index) 0);
          started = not (eqb (entry started_index) 0);
        }
        ≡ next_place (place_in nums) r → LineOutcome h t l (after 0 t.names (counted (set nums k v)) t.ticks)
    unfolding place_in
    stored_outcome r e o c d p =
        level_outcome (counted (set nums k v)) (length_entry nums k v) (stored_later nums k v lo hi) (stored_before nums k v lo hi)
        (rw (at creator_index) c) (rw (at date_index) d) r e o
        (rw (at lines_index ∙ one_line_more, at scale_index, at creator_index, at date_index, at started_index) p)

  scale_outcome : (c : Scale) → read_line l ≡ TimeScale c → LineOutcome h t l (after 0 t.names (counted (set nums scale_index (scale_number c))) t.ticks)
  unfolding place_in
  scale_outcome c e = stored_outcome scale_index (scale_number c) refl refl (TimeScale c) e refl s.creator s.date refl

  creator_outcome : read_line l ≡ Creator → LineOutcome h t l (after 0 t.names (counted (set nums creator_index 1)) t.ticks)
  unfolding place_in
  creator_outcome e = stored_outcome creator_index 1 refl refl Creator e refl (omega arith) s.date refl

  date_outcome : read_line l ≡ CreationDate → LineOutcome h t l (after 0 t.names (counted (set nums date_index 1)) t.ticks)
  unfolding place_in
  date_outcome e = stored_outcome date_index 1 refl refl CreationDate e refl s.creator (omega arith) refl

  -- an event line
  event_outcome : (e : ReadEvent) (count : ℕ) → read_line l ≡ EventLine e count →
      let d = event_from e (field_of l 2) (field_of l 5) count in
      (x : After) → EventOutcome (events_of h) t d x → LineOutcome h t l x
  unfolding event_of_line events_of place_in
  event_outcome e count r x o =
      let d = event_from e (field_of l 2) (field_of l 5) count in
      let found : event_of_line l ≡ Some d = ap (λ (y : Reading). event_in y l) r in
      let a : answer_at h l ≡ answer (events_of h) d = in_place_answer ∙ ap (λ (y : Option Event). event_answer y (events_of h)) found in
      record {
        answered = o.answered ∙ sym a;
        shows = λ k.
            let n = sym a ∙ k in
            let f = o.level_kept n in
            record {
              place =
                  rw (o.line_counted n, one_line_more, f.scale, f.creator, f.date, (o.shown n).singles.started)
                  (ap (λ (p : Place). next_place p (EventLine e count)) s.place ∙ sym (place_next h l q ∙ ap (next_place (place_of h)) r));
              creator = rw f.creator s.creator;
              date = rw f.date s.date;
              events = rw found (o.shown n);
            };
        verdict_kept = λ k. let f = o.level_kept (sym a ∙ k) in (f.number, f.line);
        remembers = λ k. rw a (o.remembers (λ n. k (a ∙ n)));
      }

  -- by its reading
  read_outcome : ((e : ReadEvent) (count : ℕ) → read_line l ≡ EventLine e count →
      EventOutcome (events_of h) t (event_from e (field_of l 2) (field_of l 5) count) (judged_event t l e count)) →
      (r : Reading) → read_line l ≡ r → LineOutcome h t l (judged_reading r t l)
  read_outcome o Version e = counted_outcome Version e refl refl
  read_outcome o Comment e = counted_outcome Comment e refl refl
  read_outcome o (TimeScale c) e = scale_outcome c e
  read_outcome o Creator e = creator_outcome e
  read_outcome o CreationDate e = date_outcome e
  read_outcome o (EventLine d count) e = event_outcome d count e (judged_event t l d count) (o d count e)
  read_outcome o (Refused n) e = absurd (not_refused (place_of h) l q n e)

-- ---- any line

module _ (h : List (List ℕ)) (t : Tables) (s : Shows h t) (l : List ℕ)
    (o : (e : ReadEvent) (count : ℕ) → read_line l ≡ EventLine e count →
    EventOutcome (events_of h) t (event_from e (field_of l 2) (field_of l 5) count) (judged_event t l e count)) where
  in_place_outcome : (n : ℕ) → answer_in_place (place_of h) l ≡ n → LineOutcome h t l (judged_in_place n t l)
  unfolding judged_in_place answer_at
  in_place_outcome zero q = read_outcome h t s l q o (read_line l) refl
  in_place_outcome (suc n) q =
      let a : answer_at h l ≡ suc n = rw q in
      record {
        answered = sym a;
        shows = λ k. absurd (omega (arith, sym a ∙ k));
        verdict_kept = λ k. absurd (omega (arith, sym a ∙ k));
        remembers = λ k. rw a;
      }

  pub line_outcome : verdict_number t.nums ≡ 0 → LineOutcome h t l (judged_line t l)
  unfolding judged_line
  line_outcome v =
      let p : answer_by_reading (place_in t.nums) (read_line l) ≡ answer_in_place (place_of h) l =
      ap (λ (x : Place). answer_by_reading x (read_line l)) s.place ∙ by_reading_right (place_of h) l in
      rw (eq-eqb (verdict_number t.nums) 0 v, p) (in_place_outcome (answer_in_place (place_of h) l) refl)
