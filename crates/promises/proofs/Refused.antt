-- Over any tables. 3: a refused line changes no entry but the two of the remembered verdict, and every further line gets that verdict again and changes
-- nothing, one by one and many at once. 4: 15 and 16 change nothing. 6: no second answer and no second table satisfies the contracts.
use Rattle.std.proofs.Common.{Err, Ok}
use mathlib.Core.Path.{◌≡◌, refl, sym, ap, ◌∙◌}
use mathlib.Core.Bool.{Bool, true, false, cond}
use mathlib.Core.List.{List, [], ◌∷◌, ◌++◌}
use Prim.Native.Nat.{ℕ, zero, suc, ◌≤◌}
use native.Mathlib.Omega.{arith}
use lib.Dec.{eqb}
use lib.ListN.{length}
use Rattle.text.proofs.Tight.{unique}
use Rattle.fields.specs.Part.{field_of}
use Rattle.line.specs.declared.reading.Reading.{Reading}
use Rattle.line.specs.declared.reading.Reading.TheVariants.{Version, Comment, TimeScale, Creator, CreationDate, EventLine, Refused}
use Rattle.line.specs.Reading.{read_line}
use Rattle.rules.specs.Limits.{last_refusal}
use Rattle.rules.specs.Event.{Event}
use Rattle.rules.specs.Lines.{event_from}
use Rattle.rules.specs.Lists.{if_zero}
use Rattle.steps.specs.PlaceCode.{answer_by_reading}
use Rattle.tables.specs.Entry.{nums_size, lines_index, verdict_number}
use Rattle.ranges.specs.Range.{table_answer}
use Rattle.decide.specs.Decide.{Plan, plan_of}
use Rattle.judge.specs.Feed.{Tables, tables, After, after, place_in, remembered, carried, judged_event, judged_reading, judged_in_place}
use Rattle.judge.specs.Feed.{judged_line, judged_lines, fed_line, AfterChunk, fed_chunk}
use Rattle.judge.proofs.Sizes.{judged_line_alike}
use Rattle.judge.proofs.Feeds.{verdict_again}
use Rattle.outcome.specs.Outcome.{asked, refused_by, outcome_in}
use Rattle.promises.proofs.Agreeing.{AgreeFrom}
use Rattle.promises.proofs.LineEntries.{remembered_later}
use Rattle.promises.proofs.Traces.{further}
use Rattle.promises.proofs.Numbers.{judged_numbered}

-- ---- 3: a refused line

-- nothing but the two entries of the remembered verdict
pub record OnlyVerdict (t u : Tables) : Type 0 where
  pub names : u.names ≡ t.names
  pub nums : AgreeFrom lines_index t.nums u.nums
  pub ticks : u.ticks ≡ t.ticks

unchanged : (t : Tables) → OnlyVerdict t t
unchanged t = record { names = refl; nums = λ j h. refl; ticks = refl }

verdict_stored : (t : Tables) (n : ℕ) → OnlyVerdict t (tables t.names (remembered t.nums n) t.ticks)
verdict_stored t n = record { names = refl; nums = remembered_later t.nums n; ticks = refl }

-- an answer other than 0 leaves only that
abbrev pub Spares : Tables → After → Type 0
Spares t x = (x.answer ≡ 0 → ⊥) → OnlyVerdict t x.left

module _ (t : Tables) where
  carried_spares : (p : Plan) (e : Event) → Spares t (carried p t e)
  carried_spares (Err n) e n' = verdict_stored t n
  carried_spares (Ok (s, state)) e n' = absurd (n' refl)

  read_spares : (r : Reading) (l : List ℕ) → Spares t (judged_reading r t l)
  unfolding judged_event
  read_spares Version l n = absurd (n refl)
  read_spares Comment l n = absurd (n refl)
  read_spares (TimeScale s) l n = absurd (n refl)
  read_spares Creator l n = absurd (n refl)
  read_spares CreationDate l n = absurd (n refl)
  read_spares (EventLine e count) l n =
      let event = event_from e (field_of l 2) (field_of l 5) count in
      carried_spares (plan_of t.names t.nums t.ticks event) event n
  read_spares (Refused m) l n = absurd (n refl)

  in_place_spares : (m : ℕ) (l : List ℕ) → Spares t (judged_in_place m t l)
  unfolding judged_in_place
  in_place_spares zero l = read_spares (read_line l) l
  in_place_spares (suc m) l = λ n. verdict_stored t (suc m)

  judged_spares : (l : List ℕ) → Spares t (judged_line t l)
  unfolding judged_line
  judged_spares l = by_verdict (eqb (verdict_number t.nums) 0)
    where
      by_verdict : (b : Bool) →
          let again = after (verdict_number t.nums) t.names t.nums t.ticks in
          Spares t (cond b (judged_in_place (answer_by_reading (place_in t.nums) (read_line l)) t l) again)
      by_verdict true = in_place_spares (answer_by_reading (place_in t.nums) (read_line l)) l
      by_verdict false = λ n. unchanged t

  pub refused_spares : (l : List ℕ) → Spares t (fed_line t l)
  unfolding fed_line
  refused_spares l = by_answer (table_answer t.names t.nums t.ticks)
    where
      by_answer : (m : ℕ) → Spares t (if_zero m (judged_line t l) (after m t.names t.nums t.ticks))
      by_answer zero = judged_spares l
      by_answer (suc m) = λ n. unchanged t

-- ---- further lines

-- after a refusal a line gets it again, whatever it is, and the tables stay as they are
pub again : (t : Tables) → table_answer t.names t.nums t.ticks ≡ 0 → (verdict_number t.nums ≡ 0 → ⊥) → (l : List ℕ) →
    fed_line t l ≡ record { answer = verdict_number t.nums; left = t }
unfolding fed_line
again t q v l = rw q (sym (verdict_again t l v))

-- ---- many lines

-- each line is answered 0
abbrev pub AllTaken : Tables → List (List ℕ) → Type 0
AllTaken t [] = Unit {0}
AllTaken t (l ∷ ls) = ((judged_line t l).answer ≡ 0) × AllTaken (judged_line t l).left ls

-- the lines before the first that is refused are taken, and what follows them changes nothing but the verdict
pub record StopsAfter (t : Tables) (ls : List (List ℕ)) : Type 0 where
  pub taken : List (List ℕ)
  pub rest : List (List ℕ)
  pub splits : ls ≡ taken ++ rest
  pub all_taken : AllTaken t taken
  pub spares : OnlyVerdict (judged_lines t taken) (judged_lines t ls)

pub lines_spare : (t : Tables) → length t.nums ≡ nums_size → verdict_number t.nums ≤ last_refusal → (ls : List (List ℕ)) → StopsAfter t ls
unfolding judged_lines
lines_spare t z m [] = record { taken = []; rest = []; splits = refl; all_taken = tt; spares = unchanged t }
lines_spare t z m (l ∷ ls) =
    let x = judged_numbered t z m l in
    by_answer (judged_line t l).answer refl x.kept (lines_spare (judged_line t l).left ((judged_line_alike t l).nums_kept ∙ z) (rw x.kept x.most) ls)
  where
    by_answer : (n : ℕ) → (judged_line t l).answer ≡ n → verdict_number (judged_line t l).left.nums ≡ (judged_line t l).answer →
        StopsAfter (judged_line t l).left ls → StopsAfter t (l ∷ ls)
    by_answer zero q k s = record {
      taken = l ∷ s.taken;
      rest = s.rest;
      splits = ap {B = List (List ℕ)} (λ r. l ∷ r) s.splits;
      all_taken = (q, s.all_taken);
      spares = s.spares;
    }
    by_answer (suc n) q k s = record {
      taken = [];
      rest = l ∷ ls;
      splits = refl;
      all_taken = tt;
      spares = rw (further (judged_line t l).left (λ e. omega (arith, k, q)) ls) (judged_spares t l (λ e. omega (arith, q)));
    }

-- ---- 4: 15 and 16 change nothing

module _ (t : Tables) (n : ℕ) (q : table_answer t.names t.nums t.ticks ≡ suc n) where
  pub line_untaken : (l : List ℕ) → fed_line t l ≡ record { answer = suc n; left = t }
  unfolding fed_line
  line_untaken l = rw q

  pub chunk_untaken : (c : List ℕ) → fed_chunk t c ≡ record { fed = record { answer = suc n; used = 0 }; left = t }
  unfolding fed_chunk
  chunk_untaken c = rw q

  pub outcome_untold : (out : List ℕ) → outcome_in t out ≡ asked (refused_by (suc n)) out
  unfolding outcome_in
  outcome_untold out = rw q

-- ---- 6: no second answer and no second table

pub feed_unique : (t : Tables) (l : List ℕ) (x y : After) → x ≡ fed_line t l → y ≡ fed_line t l → x ≡ y
feed_unique t = unique (fed_line t)

pub chunk_unique : (t : Tables) (c : List ℕ) (x y : AfterChunk) → x ≡ fed_chunk t c → y ≡ fed_chunk t c → x ≡ y
chunk_unique t = unique (fed_chunk t)
