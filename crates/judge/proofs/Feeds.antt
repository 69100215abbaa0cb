-- One line against the tables: each return of the code is what the definitions say. So too where the tables are tested first, for a line and a chunk.
use Rattle.std.proofs.Common.{◌≡◌, ℕ, List, sym, ◌∙◌, eq-eqb, ne_eqb, None, Some, Option, Err, Ok}
use Rattle.walk.specs.Lines.{whole_lines, used_up}
use Rattle.fields.specs.Part.{field_of, part_from}
use Rattle.line.specs.declared.event.Event.{Event as ReadEvent}
use Rattle.line.specs.declared.reading.Reading.{Reading}
use Rattle.line.specs.Reading.{read_line}
use Rattle.rules.specs.declared.place.Place.{Place}
use Rattle.rules.specs.Event.{Event}
use Rattle.rules.specs.Lines.{event_from}
use Rattle.rules.proofs.Tests.{if_some}
use Rattle.steps.specs.PlaceCode.{answer_by_reading}
use Rattle.tables.specs.Entry.{verdict_number}
use Rattle.tables.specs.Sized.{Sized}
use Rattle.ranges.specs.Range.{table_answer}
use Rattle.ranges.proofs.Valid.{valid}
use Rattle.lookup.specs.declared.look.LookedUp.{LookedUp}
use Rattle.decide.specs.Decide.{Plan, decided}
use Rattle.decide.proofs.Decided.{decided_sized}
use Rattle.store.specs.Store.{stored}
use Rattle.store.proofs.Stores.{stored_sized}
use Rattle.judge.specs.Feed.{Tables, After, after, place_in, remembered, carried, judged_event, judged_reading, judged_in_place, judged_line, fed_line}
use Rattle.judge.specs.Feed.{judged_lines, chunked, fed_next, fed_chunk}

-- ---- an event line

module _ (t : Tables) where
  pub refused_carried : {p : Plan} {r n : ℕ} {m : List ℕ} (e : Event) → p ≡ Err n → r ≡ n → m ≡ remembered t.nums n
      → after r t.names m t.ticks ≡ carried p t e
  refused_carried e p r m = rw (p, r, m)

  pub taken_carried : {p : Plan} {s : LookedUp} {state : ℕ} {u : Tables} (e : Event) → Sized t.names t.nums t.ticks
      → p ≡ Ok (s, state) → u ≡ stored t s state e → after 0 u.names u.nums u.ticks ≡ carried p t e
  taken_carried {s = s} {state} e z p q = rw (p, q, stored_sized t s state e z)

  pub carried_judged : {p : Plan} {source target : List ℕ} (l : List ℕ) (e : ReadEvent) (count : ℕ) → Sized t.names t.nums t.ticks
      → source ≡ field_of l 2 → target ≡ field_of l 5
      → p ≡ decided t.names t.nums t.ticks (event_from e source target count) → carried p t (event_from e source target count) ≡ judged_event t l e count
  unfolding judged_event
  carried_judged {source = source} {target} l e count z ps pt pp = rw (pp, decided_sized (event_from e source target count) z, ps, pt)

-- ---- a line

module _ (t : Tables) (l : List ℕ) where
  pub verdict_again : (verdict_number t.nums ≡ 0 → ⊥) → after (verdict_number t.nums) t.names t.nums t.ticks ≡ judged_line t l
  unfolding judged_line
  verdict_again h = rw (ne_eqb (verdict_number t.nums) 0 h)

  pub in_place_judged : {p : Place} {r : Reading} {n : ℕ} → verdict_number t.nums ≡ 0 → p ≡ place_in t.nums → r ≡ read_line l
      → n ≡ answer_by_reading p r → judged_in_place n t l ≡ judged_line t l
  unfolding judged_line
  in_place_judged h pp pr pn = rw (eq-eqb (verdict_number t.nums) 0 h, pn, pp, pr)

  pub refused_in_place : {r n : ℕ} {m : List ℕ} → (n ≡ 0 → ⊥) → r ≡ n → m ≡ remembered t.nums n → after r t.names m t.ticks ≡ judged_in_place n t l
  unfolding judged_in_place
  refused_in_place {r} {n} h pr pm = rw (pr, pm) (sym (if_some n (judged_reading (read_line l) t l) (after n t.names (remembered t.nums n) t.ticks) h))

  pub read_in_place : {x : After} {r : Reading} {n : ℕ} → n ≡ 0 → r ≡ read_line l → x ≡ judged_reading r t l → x ≡ judged_in_place n t l
  unfolding judged_in_place
  read_in_place h pr px = rw (h, ← pr) px

-- ---- the next line of a chunk

module _ (t : Tables) (s : List ℕ) (at : ℕ) where
  pub none_next : {n : Option (ℕ × ℕ)} → n ≡ None → chunked (record { answer = 0; used = at }) t.names t.nums t.ticks ≡ fed_next t s at n
  none_next q = rw q

  pub judged_next : {n : Option (ℕ × ℕ)} {x : After} (end start : ℕ) → n ≡ Some (end, start) → x ≡ judged_line t (part_from s at end)
      → chunked (record { answer = x.answer; used = start }) x.left.names x.left.nums x.left.ticks ≡ fed_next t s at n
  judged_next end start q e = rw (q, e)

-- ---- the tables tested first

module _ (t : Tables) where
  abbrev answer : ℕ
  answer = table_answer t.names t.nums t.ticks

  pub sized : {r : ℕ} → r ≡ answer → r ≡ 0 → Sized t.names t.nums t.ticks
  sized e z = (valid t.names t.nums t.ticks (sym e ∙ z)).sizes

  pub refused_fed : {r : ℕ} (l : List ℕ) → r ≡ answer → (r ≡ 0 → ⊥) → after r t.names t.nums t.ticks ≡ fed_line t l
  unfolding fed_line
  refused_fed {r} l e h = rw (← e) (sym (if_some r (judged_line t l) (after r t.names t.nums t.ticks) h))

  pub judged_fed : {r : ℕ} {x : After} (l : List ℕ) → r ≡ answer → r ≡ 0 → x ≡ judged_line t l → x ≡ fed_line t l
  unfolding fed_line
  judged_fed l e z p = rw (← e, z) p

  pub refused_chunk : {r : ℕ} (s : List ℕ) → r ≡ answer → (r ≡ 0 → ⊥)
      → chunked (record { answer = r; used = 0 }) t.names t.nums t.ticks ≡ fed_chunk t s
  unfolding fed_chunk
  refused_chunk {r} s e h =
      let u = judged_lines t (whole_lines s) in
      rw (← e)
      (sym
      (if_some r (chunked (record { answer = verdict_number u.nums; used = used_up s }) u.names u.nums u.ticks)
      (chunked (record { answer = r; used = 0 }) t.names t.nums t.ticks) h))

  pub judged_chunk : {r n : ℕ} {u : Tables} (s : List ℕ) → r ≡ answer → r ≡ 0 → n ≡ used_up s → u ≡ judged_lines t (whole_lines s)
      → chunked (record { answer = verdict_number u.nums; used = n }) u.names u.nums u.ticks ≡ fed_chunk t s
  unfolding fed_chunk
  judged_chunk s e z pn pu = rw (← e, z, pn, pu)
