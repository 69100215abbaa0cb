-- One line against the tables, and many lines.
use Rattle.std.specs.Prelude.{ℕ, ◌+◌, ◌%◌, ◌^◌, Bool, true, false, cond, not, List, [], ◌∷◌, length, replicate, ◌==◌, slice_set, None, Some, Option, Err, Ok}
use Rattle.walk.specs.Lines.{whole_lines, used_up}
use Rattle.fields.specs.Part.{field_of, part_from}
use Rattle.line.specs.declared.event.Event.{Event as ReadEvent}
use Rattle.line.specs.declared.reading.Reading.{Reading}
use Rattle.line.specs.declared.reading.Reading.TheVariants.{Version, Comment, TimeScale, Creator, CreationDate, EventLine, Refused}
use Rattle.line.specs.Reading.{read_line}
use Rattle.bill.specs.Scale.{scale_number}
use Rattle.rules.specs.declared.place.Place.{Place}
use Rattle.rules.specs.Event.{Event}
use Rattle.rules.specs.Lines.{event_from}
use Rattle.rules.specs.Lists.{if_zero}
use Rattle.steps.specs.PlaceCode.{answer_by_reading}
pub use Rattle.tables.specs.Entry.{Tables, tables}
use Rattle.tables.specs.Entry.{verdict_index, verdict_line_index, lines_index, scale_index, creator_index, date_index, names_size, nums_size, ticks_size, verdict_number, line_count, scale_entry, creator_entry, date_entry, started_entry}
use Rattle.ranges.specs.Range.{table_answer}
use Rattle.decide.specs.Decide.{Plan, plan_of}
use Rattle.store.specs.Store.{taken_tables}
use Rattle.judge.specs.declared.feed.Fed.{Fed}

-- an answer with the three tables afterwards
pub record After : Type 0 where
  pub answer : ℕ
  pub left : Tables

abbrev pub after : ℕ → List ℕ → List ℕ → List ℕ → After
after r names nums ticks = record { answer = r; left = tables names nums ticks }

-- ---- one line

-- what the lines taken say of the next line's place
unfoldable pub place_in : List ℕ → Place
place_in nums = record {
  lines = line_count nums;
  scale = scale_entry nums;
  creator = not (creator_entry nums == 0);
  date = not (date_entry nums == 0);
  started = not (started_entry nums == 0);
}

-- "A refused line changes nothing but the remembered verdict: number and line, counted from 1."
unfoldable pub remembered : List ℕ → ℕ → List ℕ
remembered nums n = slice_set (slice_set nums verdict_index n) verdict_line_index ((line_count nums + 1) % 2 ^ 32)

unfoldable pub counted : List ℕ → List ℕ
counted nums = slice_set nums lines_index ((line_count nums + 1) % 2 ^ 32)

-- an event line decided and stored
abbrev pub carried : Plan → Tables → Event → After
carried (Err n) t e = after n t.names (remembered t.nums n) t.ticks
carried (Ok (s, state)) t e = record { answer = 0; left = taken_tables t s state e }

unfoldable pub judged_event : Tables → List ℕ → ReadEvent → ℕ → After
judged_event t l e count =
    let event = event_from e (field_of l 2) (field_of l 5) count in
    carried (plan_of t.names t.nums t.ticks event) t event

-- a line in its place, by its reading
abbrev pub judged_reading : Reading → Tables → List ℕ → After
judged_reading Version t l = after 0 t.names (counted t.nums) t.ticks
judged_reading Comment t l = after 0 t.names (counted t.nums) t.ticks
judged_reading (TimeScale s) t l = after 0 t.names (counted (slice_set t.nums scale_index (scale_number s))) t.ticks
judged_reading Creator t l = after 0 t.names (counted (slice_set t.nums creator_index 1)) t.ticks
judged_reading CreationDate t l = after 0 t.names (counted (slice_set t.nums date_index 1)) t.ticks
judged_reading (EventLine e count) t l = judged_event t l e count
judged_reading (Refused n) t l = after 0 t.names t.nums t.ticks

unfoldable pub judged_in_place : ℕ → Tables → List ℕ → After
judged_in_place n t l = if_zero n (judged_reading (read_line l) t l) (after n t.names (remembered t.nums n) t.ticks)

-- "Further lines get that verdict again."
unfoldable pub judged_line : Tables → List ℕ → After
judged_line t l =
    cond (verdict_number t.nums == 0) (judged_in_place (answer_by_reading (place_in t.nums) (read_line l)) t l)
    (after (verdict_number t.nums) t.names t.nums t.ticks)

-- "the judge tests 15 and 16 before all others"; "15 and 16 write nothing and are not remembered"
unfoldable pub fed_line : Tables → List ℕ → After
fed_line t l = if_zero (table_answer t.names t.nums t.ticks) (judged_line t l) (after (table_answer t.names t.nums t.ticks) t.names t.nums t.ticks)

-- ---- many lines

unfoldable pub judged_lines : Tables → List (List ℕ) → Tables
judged_lines t [] = t
judged_lines t (l ∷ ls) = judged_lines (judged_line t l).left ls

-- every whole line of a chunk; the answer is the remembered verdict, 0 where there is none
pub record AfterChunk : Type 0 where
  pub fed : Fed
  pub left : Tables

abbrev pub chunked : Fed → List ℕ → List ℕ → List ℕ → AfterChunk
chunked f names nums ticks = record { fed = f; left = tables names nums ticks }

-- the next line of a chunk, and where what stands after it begins; with none left, nothing changes
abbrev pub fed_next : Tables → List ℕ → ℕ → Option (ℕ × ℕ) → AfterChunk
fed_next t s at (Some (end, start)) =
    let judged = judged_line t (part_from s at end) in
    record { fed = record { answer = judged.answer; used = start }; left = judged.left }
fed_next t s at None = record { fed = record { answer = 0; used = at }; left = t }

-- every whole line in turn, after which none is left to answer; where `whole`, all of it as one line
abbrev pub fed_lines : Bool → Tables → List ℕ → AfterChunk
fed_lines true t s = record { fed = record { answer = (judged_line t s).answer; used = length s }; left = (judged_line t s).left }
fed_lines false t s = record { fed = record { answer = 0; used = used_up s }; left = judged_lines t (whole_lines s) }

unfoldable pub fed_chunk : Tables → List ℕ → AfterChunk
fed_chunk t chunk =
    if_zero (table_answer t.names t.nums t.ticks)
    (record {
      fed = record { answer = verdict_number (judged_lines t (whole_lines chunk)).nums; used = used_up chunk };
      left = judged_lines t (whole_lines chunk);
    })
    (record { fed = record { answer = table_answer t.names t.nums t.ticks; used = 0 }; left = t })

-- ---- a fresh start

abbrev pub fresh_tables : Tables
fresh_tables = tables (replicate names_size 0) (replicate nums_size 0) (replicate ticks_size 0)
