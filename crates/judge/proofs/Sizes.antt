-- Every line keeps the sizes of the three tables, and so do many lines and a fresh start.
use Rattle.std.proofs.Common.{◌≡◌, ℕ, zero, suc, Bool, true, false, cond, eqb, List, [], ◌∷◌, length, set, refl, ◌∙◌, length-set, Err, Ok}
use Rattle.fields.specs.Part.{field_of}
use Rattle.line.specs.declared.event.Event.{Event as ReadEvent}
use Rattle.line.specs.declared.reading.Reading.{Reading}
use Rattle.line.specs.declared.reading.Reading.TheVariants.{Version, Comment, TimeScale, Creator, CreationDate, EventLine, Refused}
use Rattle.line.specs.Reading.{read_line}
use Rattle.bill.specs.Scale.{scale_number}
use Rattle.rules.specs.Event.{Event}
use Rattle.rules.specs.Lines.{event_from}
use Rattle.steps.specs.PlaceCode.{answer_by_reading}
use Rattle.tables.specs.Entry.{scale_index, creator_index, date_index, verdict_number}
use Rattle.tables.specs.Sized.{Sized}
use Rattle.ranges.proofs.FreshTables.{fresh_valid}
use Rattle.decide.specs.Decide.{Plan, plan_of}
use Rattle.store.proofs.Stores.{length_taken_names, length_taken_nums, length_taken_ticks}
use Rattle.judge.specs.Feed.{Tables, tables, After, after, place_in, remembered, counted, carried, judged_event, judged_reading, judged_in_place, judged_line}
use Rattle.judge.specs.Feed.{judged_lines, fresh_tables}

pub record Alike (t u : Tables) : Type 0 where
  pub names_kept : length u.names ≡ length t.names
  pub nums_kept : length u.nums ≡ length t.nums
  pub ticks_kept : length u.ticks ≡ length t.ticks

pub same : (t : Tables) → Alike t t
same t = record { names_kept = refl; nums_kept = refl; ticks_kept = refl }

pub chain : {t u v : Tables} → Alike t u → Alike u v → Alike t v
chain a b =
    record {
      names_kept = b.names_kept ∙ a.names_kept;
      nums_kept = b.nums_kept ∙ a.nums_kept;
      ticks_kept = b.ticks_kept ∙ a.ticks_kept;
    }

pub length_remembered : (nums : List ℕ) (n : ℕ) → length (remembered nums n) ≡ length nums
unfolding remembered
length_remembered nums n = simp length-set

pub length_counted : (nums : List ℕ) → length (counted nums) ≡ length nums
unfolding counted
length_counted nums = simp length-set

-- only nums changes
only_nums : (t : Tables) (m : List ℕ) → length m ≡ length t.nums → Alike t (tables t.names m t.ticks)
only_nums t m e = record { names_kept = refl; nums_kept = e; ticks_kept = refl }

carried_alike : (p : Plan) (t : Tables) (e : Event) → Alike t (carried p t e).left
carried_alike (Err n) t e = only_nums t (remembered t.nums n) (length_remembered t.nums n)
carried_alike (Ok (s, state)) t e =
    record {
      names_kept = length_taken_names t.names t.nums s e.kind e.source e.target;
      nums_kept = length_taken_nums t.nums s state e;
      ticks_kept = length_taken_ticks t.ticks t.nums s e.kind e.time;
    }

judged_event_alike : (t : Tables) (l : List ℕ) (e : ReadEvent) (count : ℕ) → Alike t (judged_event t l e count).left
unfolding judged_event
judged_event_alike t l e count =
    let event = event_from e (field_of l 2) (field_of l 5) count in
    carried_alike (plan_of t.names t.nums t.ticks event) t event

pub length_entry : (nums : List ℕ) (i v : ℕ) → length (counted (set nums i v)) ≡ length nums
length_entry nums i v = length_counted (set nums i v) ∙ length-set nums i v

judged_reading_alike : (r : Reading) (t : Tables) (l : List ℕ) → Alike t (judged_reading r t l).left
judged_reading_alike Version t l = only_nums t (counted t.nums) (length_counted t.nums)
judged_reading_alike Comment t l = only_nums t (counted t.nums) (length_counted t.nums)
judged_reading_alike (TimeScale s) t l = only_nums t (counted (set t.nums scale_index (scale_number s))) (length_entry t.nums scale_index (scale_number s))
judged_reading_alike Creator t l = only_nums t (counted (set t.nums creator_index 1)) (length_entry t.nums creator_index 1)
judged_reading_alike CreationDate t l = only_nums t (counted (set t.nums date_index 1)) (length_entry t.nums date_index 1)
judged_reading_alike (EventLine e count) t l = judged_event_alike t l e count
judged_reading_alike (Refused n) t l = same t

judged_in_place_alike : (n : ℕ) (t : Tables) (l : List ℕ) → Alike t (judged_in_place n t l).left
unfolding judged_in_place
judged_in_place_alike zero t l = judged_reading_alike (read_line l) t l
judged_in_place_alike (suc n) t l = only_nums t (remembered t.nums (suc n)) (length_remembered t.nums (suc n))

either_alike : (b : Bool) (t : Tables) (x y : After) → Alike t x.left → Alike t y.left → Alike t (cond b x y).left
either_alike true t x y p q = p
either_alike false t x y p q = q

pub judged_line_alike : (t : Tables) (l : List ℕ) → Alike t (judged_line t l).left
unfolding judged_line
judged_line_alike t l =
    let n = answer_by_reading (place_in t.nums) (read_line l) in
    either_alike (eqb (verdict_number t.nums) 0) t (judged_in_place n t l) (after (verdict_number t.nums) t.names t.nums t.ticks)
    (judged_in_place_alike n t l) (same t)

pub judged_lines_alike : (t : Tables) (ls : List (List ℕ)) → Alike t (judged_lines t ls)
unfolding judged_lines
judged_lines_alike t [] = same t
judged_lines_alike t (l ∷ ls) = chain (judged_line_alike t l) (judged_lines_alike (judged_line t l).left ls)

pub alike_sized : {t u : Tables} → Alike t u → Sized t.names t.nums t.ticks → Sized u.names u.nums u.ticks
alike_sized a s = record { names_sized = a.names_kept ∙ s.names_sized; nums_sized = a.nums_kept ∙ s.nums_sized; ticks_sized = a.ticks_kept ∙ s.ticks_sized }

pub fresh_sized : {t : Tables} → t ≡ fresh_tables → Sized t.names t.nums t.ticks
fresh_sized e = rw e fresh_valid.sizes
