-- A whole trace: its rest is one line where there is any, and what each of the calls leaves goes into the next.
use Rattle.std.proofs.Common.{◌≡◌, ℕ, ◌-◌, ◌<◌, ◌≤◌, List, [], ◌∷◌, length, take, drop, sym, refl, ap, ◌∙◌, arith, length-drop, drop_of_length-le, take_all}
use Rattle.tables.specs.Fresh.{Cleared, cleared, cleared_of}
use Rattle.judge.specs.declared.feed.Fed.{Fed}
use Rattle.judge.specs.Feed.{Tables, tables, After, fed_line, AfterChunk, chunked, fed_chunk}
use Rattle.outcome.specs.declared.now.Outcome.{Outcome}
use Rattle.outcome.specs.Outcome.{Asked, asked, outcome_in, rest_fed, trace_fed, AfterTrace, traced, lines_outcome, begun, trace_outcome}

-- ---- the rest

-- what is lent from an index on is all that there is from there on
pub part_all : (s : List ℕ) (n : ℕ) → n ≤ length s → take (length s - n) (drop n s) ≡ drop n s
part_all s n h = take_all (length s - n) (drop n s) (omega (arith, length-drop n s))

rest_line : (t : Tables) (r : List ℕ) → 0 < length r → rest_fed t r ≡ (fed_line t r).left
rest_line t [] h = absurd (omega (arith, h))
rest_line t (x ∷ r) h = refl

module _ (t : Tables) (s : List ℕ) (n : ℕ) where
  pub no_rest : length s ≤ n → t ≡ rest_fed t (drop n s)
  no_rest h = rw (drop_of_length-le s h)

  pub one_rest : {x : After} → n < length s → x ≡ fed_line t (take (length s - n) (drop n s)) → x.left ≡ rest_fed t (drop n s)
  one_rest h p =
      ap (λ (y : After). y.left) p ∙ ap (λ (r : List ℕ). (fed_line t r).left) (part_all s n (omega arith)) ∙ sym (rest_line t (drop n s) (omega (arith, length-drop n s)))

-- ---- every line, and the question

module _ {f : Fed} {a b d a' b' d' : List ℕ} (t : Tables) (s out : List ℕ) (lines : chunked f a b d ≡ fed_chunk t s)
    (rest : tables a' b' d' ≡ rest_fed (tables a b d) (drop f.used s)) where
  all_fed : tables a' b' d' ≡ trace_fed t s
  unfolding trace_fed
  all_fed = rest ∙ ap (λ (c : AfterChunk). rest_fed c.left (drop c.fed.used s)) lines

  pub lines_asked : {o : Outcome} {m : List ℕ} → asked o m ≡ outcome_in (tables a' b' d') out → traced o m a' b' d' ≡ lines_outcome t s out
  unfolding lines_outcome
  lines_asked p =
      ap {B = AfterTrace} (λ (x : Asked). record { told = x; left = tables a' b' d' }) p
      ∙ ap {B = AfterTrace} (λ (u : Tables). record { told = outcome_in u out; left = u }) all_fed

-- ---- from a fresh start

pub trace_asked : {r : ℕ} {a b d : List ℕ} {x : AfterTrace} (t : Tables) (s out : List ℕ)
    → cleared r a b d ≡ cleared_of t.names t.nums t.ticks → x ≡ lines_outcome (tables a b d) s out → x ≡ trace_outcome t s out
unfolding trace_outcome begun
trace_asked t s out start p = p ∙ ap (λ (c : Cleared). lines_outcome (tables c.names c.nums c.ticks) s out) start
