-- However a trace is cut into reads, the tables at the end of input are those after all its lines, and what is printed is the text of these lines; where
-- reading stops before the end, so it is for every trace that begins with what was read.
use mathlib.Core.Path.{◌≡◌, refl, sym, ap, ◌∙◌}
use mathlib.Core.Bool.{Bool, true, false, cond, or-true}
use mathlib.Core.Logic.{⊎_elim}
use mathlib.Core.List.{List, [], ◌∷◌, ◌++◌, append-nil, append_assoc}
use Prim.Native.Nat.{ℕ, zero, suc, ◌+◌, ◌≤◌, ◌<◌}
use native.Mathlib.Omega.{arith}
use lib.Dec.{ltb}
use lib.ListN.{length, take, drop, length-append}
use lib.Seq.{length-take-le, take-length}
use borrow.Author.Tests.{ne_eqb, lt-ltb, ltb-true, ltb-false}
use Rattle.text.specs.Bytes.{to_byte}
use Rattle.text.specs.Pieces.{pieces, ended, unended}
use Rattle.text.proofs.Bools.{lt_or_ge}
use Rattle.text.proofs.Pieces.{clean_before}
use Rattle.walk.specs.Lines.{line_text, whole_lines, used_up, rest_of, last_line, lines_of}
use Rattle.walk.proofs.Cuts.{text_nearly, cut_whole, none_whole, none_rest}
use Rattle.walk.proofs.Chunks.{whole_halves, rest_halves, lines_halves, rest_clean}
use Rattle.line.specs.declared.reading.Reading.TheVariants.{Refused}
use Rattle.line.specs.Reading.{line_most, read_line}
use Rattle.line.specs.Condition.{refuses1}
use Rattle.rules.specs.Lists.{if_zero}
use Rattle.rules.specs.Trace.{too_much, place_tests, answer_in_place, answer_at, refusal_on}
use Rattle.rules.specs.Text.{trace_text}
use Rattle.tables.specs.Entry.{verdict_number}
use Rattle.judge.specs.Feed.{Tables, After, judged_in_place, judged_line, judged_lines, fed_line, fed_chunk, fresh_tables}
use Rattle.judge.proofs.Feeds.{judged_chunk}
use Rattle.judge.proofs.Traces.{judged_lines_append}
use Rattle.outcome.specs.Outcome.{rest_fed}
use Rattle.rules.specs.First.{first_refusal}
use Rattle.promises.specs.Fed.{joined}
use Rattle.promises.proofs.Traces.{further}
use Rattle.promises.proofs.Judged.{after_lines, shows_taken, never_16, fed_one, rest_fed_lem}
use Rattle.promises.proofs.Printed.{printed, after_text, written_text}
use Rattle.run.specs.Report.{text_printed, report_written}
use Rattle.run.specs.Chunk.{carried_most, Progress, going, stopped, last_taken, read_on, at_input_end}

-- ---- tables after lines from a fresh start, fed the last line and one chunk more

-- what is carried over is a line at the end of input, and nothing is none
last_rest : (t : Tables) (rest : List ℕ) → last_taken t rest (length rest) ≡ rest_fed t rest
unfolding last_taken
last_rest t [] = refl
last_rest t (x ∷ rest) = rw (ne_eqb (length (x ∷ rest)) 0 (λ e. omega arith), take-length (x ∷ rest))

last_fed : (ks : List (List ℕ)) (rest : List ℕ) → last_taken (after_lines ks) rest (length rest) ≡ after_lines (ks ++ last_line rest)
last_fed ks rest = last_rest (after_lines ks) rest ∙ rest_fed_lem ks rest

-- the tables after the whole lines of what was read
abbrev whole : List ℕ → Tables
whole s = after_lines (whole_lines s)

-- what was carried over from s stands before what is read next
chunk_fed : (s r : List ℕ) →
    record { fed = record { answer = verdict_number (whole (s ++ r)).nums; used = used_up (rest_of s ++ r) }; left = whole (s ++ r) }
    ≡ fed_chunk (whole s) (rest_of s ++ r)
chunk_fed s r =
    judged_chunk (whole s) (rest_of s ++ r) (sym (never_16 (whole_lines s))) refl refl
    (ap after_lines (whole_halves s r) ∙ judged_lines_append fresh_tables (whole_lines s) (whole_lines (rest_of s ++ r)))

-- ---- a line of more than 1,023 bytes

-- it is refusal 1 after any lines, the lowest
long_refused : (h : List (List ℕ)) (l : List ℕ) → line_most < length l → answer_at h l ≡ 1
unfolding answer_at answer_in_place place_tests too_much refuses1
long_refused h l z = rw (lt-ltb line_most (length l) z, or-true)

-- so among lines one is refused
long_among : (ks h : List (List ℕ)) (l : List ℕ) → line_most < length l → (refusal_on h (ks ++ l ∷ [])).0 ≡ 0 → ⊥
unfolding first_refusal
long_among [] h l z = rw (long_refused h l z) (λ e. omega arith)
long_among (k ∷ ks) h l z = by_answer (answer_at h k) (long_among ks (k ∷ h) l z)
  where
    by_answer : (n : ℕ) → ((refusal_on (k ∷ h) (ks ++ l ∷ [])).0 ≡ 0 → ⊥) → (if_zero n (refusal_on (k ∷ h) (ks ++ l ∷ [])) (n, length h + 1)).0 ≡ 0 → ⊥
    by_answer zero f = f
    by_answer (suc n) f = λ e. omega arith

-- the tables do not tell one from another
long_read : (l : List ℕ) → line_most < length l → read_line l ≡ Refused 1
unfolding read_line
long_read l z = rw (lt-ltb line_most (length l) z)

long_judged : (t : Tables) (l m : List ℕ) → line_most < length l → line_most < length m → judged_line t l ≡ judged_line t m
unfolding judged_line judged_in_place
long_judged t l m p q = rw (long_read l p, long_read m q)

-- and what follows it changes nothing
long_settles : (ks ls : List (List ℕ)) (l m : List ℕ) → line_most < length l → line_most < length m → after_lines (ks ++ m ∷ []) ≡ after_lines (ks ++ l ∷ ls)
unfolding judged_lines
long_settles ks ls l m p q =
    let u = after_lines (ks ++ m ∷ []) in
    let number : verdict_number u.nums ≡ (refusal_on [] (ks ++ m ∷ [])).0 = ap (λ (v : ℕ × ℕ). v.0) (shows_taken (ks ++ m ∷ [])).remembers in
    sym
    (judged_lines_append fresh_tables ks (l ∷ ls)
    ∙ ap (λ (x : After). judged_lines x.left ls) (long_judged (after_lines ks) l m p q)
    ∙ ap (λ (t : Tables). judged_lines t ls) (sym (judged_lines_append fresh_tables ks (m ∷ [])))
    ∙ further u (λ e. long_among ks [] m q (sym number ∙ e)) ls)

-- ---- a rest of more than 1,024 bytes

one_last : (x : List ℕ) → 0 < length x → last_line x ≡ x ∷ []
one_last [] h = absurd (omega (arith, h))
one_last (b ∷ x) h = refl

-- whatever follows it, the first line begins with it
record BeginsLong (ls : List (List ℕ)) : Type 0 where
  line : List ℕ
  later : List (List ℕ)
  splits : ls ≡ line ∷ later
  long : line_most < length line

begins_long : (s more : List ℕ) → carried_most < length (rest_of s) → BeginsLong (lines_of (rest_of s ++ more))
unfolding lines_of
begins_long s more z =
    let x = rest_of s ++ more in
    let k = clean_before 10 (rest_of s) more (rest_clean s) in
    ⊎_elim
    (λ h. record {
      line = line_text (take (to_byte 10 x) x);
      later = whole_lines (drop (suc (to_byte 10 x)) x) ++ last_line (rest_of x);
      splits = rw (cut_whole x h);
      long = omega (arith, text_nearly (take (to_byte 10 x) x), length-take-le (to_byte 10 x) x (omega arith));
    })
    (λ h. record {
      line = x;
      later = [];
      splits = rw (none_whole x h, none_rest x h) (one_last x (omega (arith, length-append (rest_of s) more)));
      long = omega (arith, length-append (rest_of s) more);
    })
    (lt_or_ge (to_byte 10 x) (length x))

-- ---- reading

-- it goes on: the whole lines so far are fed, and what stands after them is carried over, never more than 1,024 bytes
pub record Going (t : Tables) (rest s : List ℕ) : Type 0 where
  pub fed : t ≡ after_lines (whole_lines s)
  pub carried : rest ≡ rest_of s
  pub short : length rest ≤ carried_most

-- it has stopped: these are the tables after all lines, whatever more may follow
abbrev pub Stopped : Tables → List ℕ → Type 0
Stopped t s = (more : List ℕ) → t ≡ after_lines (lines_of (s ++ more))

-- what holds once the bytes s came
abbrev pub Right : Progress → List ℕ → Type 0
Right (going t rest) s = Going t rest s
Right (stopped t) s = Stopped t s

module _ (s : List ℕ) where
  -- a refusal is remembered, and further lines change nothing
  refused_stops : (verdict_number (whole s).nums ≡ 0 → ⊥) → Stopped (whole s) s
  refused_stops v more =
      let ls = lines_of (rest_of s ++ more) in
      sym (further (whole s) v ls) ∙ sym (judged_lines_append fresh_tables (whole_lines s) ls) ∙ ap after_lines (sym (lines_halves s more))

  -- the rest is too long, and so is the line that begins with it
  long_stops : carried_most < length (rest_of s) → Stopped (fed_line (whole s) (rest_of s)).left s
  long_stops z more =
      let b = begins_long s more z in
      rw (lines_halves s more, b.splits)
      (fed_one (whole_lines s) (rest_of s) ∙ long_settles (whole_lines s) b.later b.line (rest_of s) b.long (omega arith))

  -- what is not read any more is some of what may follow
  unread : {t : Tables} → Stopped t s → (x : List ℕ) → Stopped t (s ++ x)
  unread f x more = rw (append_assoc s x more) (f (x ++ more))

  -- what comes of a chunk: n is the answer to it, b says whether its rest is too long, and p is what comes of the reads after it, whose bytes are x
  abbrev outcome : ℕ → Bool → Progress → Progress
  outcome n b p = if_zero n (cond b (stopped (fed_line (whole s) (rest_of s)).left) p) (stopped (whole s))

  next : (x : List ℕ) (p : Progress) (n : ℕ) (b : Bool) → verdict_number (whole s).nums ≡ n → ltb carried_most (length (rest_of s)) ≡ b →
      (length (rest_of s) ≤ carried_most → Right p (s ++ x)) → Right (outcome n b p) (s ++ x)
  next x p zero true e d f = unread (long_stops (ltb-true carried_most (length (rest_of s)) d)) x
  next x p zero false e d f = f (ltb-false carried_most (length (rest_of s)) d)
  next x p (suc n) b e d f = unread (refused_stops (λ z. omega (arith, sym e ∙ z))) x

from_here : (rs : List (List ℕ)) (s : List ℕ) → length (rest_of s) ≤ carried_most → Right (read_on (whole s) (rest_of s) rs) (s ++ joined rs)
unfolding read_on
from_here [] s z = rw (append-nil s) (record { fed = refl; carried = refl; short = z })
from_here (r ∷ rs) s z =
    let u = s ++ r in
    rw (← (chunk_fed s r), ← (rest_halves s r), ← (append_assoc s r (joined rs)))
    (next u (joined rs) (read_on (whole u) (rest_of u) rs) _ _ refl refl (from_here rs u))

-- any reads, of any sizes
pub read_on_lem : (rs : List (List ℕ)) → Right (read_on fresh_tables [] rs) (joined rs)
unfolding whole_lines rest_of ended unended pieces judged_lines
read_on_lem rs = from_here rs [] (omega arith)

-- ---- the end of input

end_right : (p : Progress) (s : List ℕ) → Right p s → at_input_end p ≡ after_lines (lines_of s)
unfolding lines_of
end_right (going t rest) s g = rw (g.fed, g.carried) (last_fed (whole_lines s) (rest_of s))
end_right (stopped t) s f = rw (append-nil s) at (f [])

module _ (rs : List (List ℕ)) where
  abbrev pub progress : Progress
  progress = read_on fresh_tables [] rs

  -- the tables are those after all lines of the trace, in every case
  pub all_read : at_input_end progress ≡ after_lines (lines_of (joined rs))
  all_read = end_right progress (joined rs) (read_on_lem rs)

  pub printed_right : printed (at_input_end progress) ≡ trace_text (lines_of (joined rs))
  printed_right = ap printed all_read ∙ after_text (lines_of (joined rs))

  -- after a refusal reading stops: what is printed is the text of any trace that begins so
  pub stopped_right : (t : Tables) → progress ≡ stopped t → (more : List ℕ) → printed t ≡ trace_text (lines_of (joined rs ++ more))
  stopped_right t e more = ap printed ((rw e at (read_on_lem rs)) more) ∙ after_text (lines_of (joined rs ++ more))

  -- and so it is written, where it fits
  pub written_right : (out : List ℕ) →
      let t = at_input_end progress in report_written t.names t.nums t.ticks out ≡ text_printed (trace_text (lines_of (joined rs))) out
  written_right out = rw all_read (written_text (lines_of (joined rs)) out)

-- two ways of cutting the same bytes into reads print the same
pub cut_any_way : (rs qs : List (List ℕ)) → joined rs ≡ joined qs → printed (at_input_end (progress rs)) ≡ printed (at_input_end (progress qs))
cut_any_way rs qs e = ap printed (all_read rs ∙ ap (λ (s : List ℕ). after_lines (lines_of s)) e ∙ sym (all_read qs))
