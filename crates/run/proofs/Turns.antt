-- Laws of a turn of reading: which bytes of the buffer are the chunk, that what its lines leave of it is its rest, and what each way out of the turn
-- leaves.
use Rattle.std.proofs.Common.{None, Some}
use mathlib.Core.Path.{◌≡◌, sym, ap, ◌∙◌}
use mathlib.Core.Logic.{⊎_elim}
use mathlib.Core.List.{List}
use Prim.Native.Nat.{ℕ, zero, suc, ◌+◌, ◌-◌, ◌≤◌, ◌<◌}
use native.Mathlib.Omega.{arith}
use lib.ListN.{length, take, drop, length-drop}
use lib.Seq.{take_all, take-length, take-add, length-take-le, drop_at}
use borrow.Author.Tests.{lt-ltb, le-ltb}
use Rattle.std.specs.Prelude.{min}
use Rattle.std.proofs.lemmas.Bool.{cases_lt}
use Rattle.text.specs.Put.{written}
use Rattle.walk.specs.Lines.{whole_lines, rest_of, used_up}
use Rattle.walk.proofs.Chunks.{size, rest_drop}
use Rattle.rules.specs.Lists.{if_zero}
use Rattle.rules.proofs.Tests.{if_some}
use Rattle.tables.specs.Entry.{verdict_number}
use Rattle.ranges.specs.Range.{table_answer}
use Rattle.judge.specs.declared.feed.Fed.{Fed}
use Rattle.judge.specs.Feed.{Tables, tables, After, fed_line, judged_lines, AfterChunk, chunked, fed_chunk}
use Rattle.run.specs.Chunk.{carried_most, Turned, turned, carried_over, chunk_taken}

-- ---- the first n bytes of the buffer, or all where it has no n

pub record Front (l : List ℕ) (n e : ℕ) : Type 0 where
  pub within : e ≤ length l
  pub front : take e l ≡ take n l

pub front_min : (l : List ℕ) (n e : ℕ) → e ≡ min n (length l) → Front l n e
front_min l n e q =
    ⊎_elim
    (λ h. let s : e ≡ length l = omega arith in record { within = omega arith; front = rw (s, take-length l, take_all n l (omega arith)) })
    (λ h. let s : e ≡ n = omega arith in record { within = omega arith; front = rw s })
    (cases_lt (length l) n)

-- ---- what is left of a chunk is carried over

module _ (t : Tables) (l : List ℕ) (u n : ℕ) (h : u + n ≤ length l) where
  left_length : length (take n (drop u l)) ≡ n
  left_length = length-take-le n (drop u l) (omega (arith, length-drop u l))

  abbrev stop : Tables → Turned
  stop v = record { turn = None; left = v; buffer = l }

  pub left_long : {y : After} → carried_most < n → y ≡ fed_line t (take ((u + n) - u) (drop u l)) →
      record { turn = None; left = y.left; buffer = l } ≡ carried_over t (take n (drop u l)) l
  unfolding carried_over
  left_long k q =
      let s : (u + n) - u ≡ n = omega arith in
      rw (lt-ltb carried_most (length (take n (drop u l))) (omega (arith, left_length))) (ap (λ (y : After). stop y.left) (rw s at q))

  pub left_more : {m : List ℕ}
      → n ≤ carried_most → m ≡ written l 0 (take n (drop u l)) → record { turn = Some n; left = t; buffer = m } ≡ carried_over t (take n (drop u l)) l
  unfolding carried_over
  left_more k q = rw (le-ltb carried_most (length (take n (drop u l))) (omega (arith, left_length)), q, left_length)

-- ---- what is left of a chunk

drop_take : (l : List ℕ) (u e : ℕ) → u ≤ e → e ≤ length l → drop u (take e l) ≡ take (e - u) (drop u l)
drop_take l u e h k =
    let s : e ≡ u + (e - u) = omega arith in
    ap (λ (j : ℕ). drop u (take j l)) s
    ∙ ap (λ (m : List ℕ). drop u m) (take-add u (e - u) l)
    ∙ drop_at (take u l) (take (e - u) (drop u l)) u (length-take-le u l (omega arith))

-- where the answer is 0 the whole lines were fed
used_up_lem : {x : Fed} {a b d : List ℕ} (t : Tables) (s : List ℕ) → chunked x a b d ≡ fed_chunk t s → x.answer ≡ 0 → x.used ≡ used_up s
unfolding fed_chunk
used_up_lem {x} {a} {b} {d} t s p z = by_answer (table_answer t.names t.nums t.ticks) p
  where
    by_answer : (k : ℕ) → chunked x a b d ≡ if_zero k (record {
      fed = record { answer = verdict_number (judged_lines t (whole_lines s)).nums; used = used_up s };
      left = judged_lines t (whole_lines s);
    }) (record { fed = record { answer = k; used = 0 }; left = t }) → x.used ≡ used_up s
    by_answer zero e = ap (λ (y : AfterChunk). y.fed.used) e
    by_answer (suc k) e = absurd (omega (arith, z, ap (λ (y : AfterChunk). y.fed.answer) e))

-- ---- the ways out of a turn

module _ (t : Tables) (l : List ℕ) (n : ℕ) {e : ℕ} {x : Fed} {a b d : List ℕ} (f : Front l n e) (p : chunked x a b d ≡ fed_chunk t (take e l)) where
  fed_as : fed_chunk t (take n l) ≡ chunked x a b d
  fed_as = rw (← f.front) (sym p)

  pub turn_refused : (x.answer ≡ 0 → ⊥) → turned None a b d l ≡ chunk_taken t l n
  unfolding chunk_taken
  turn_refused h = rw fed_as (sym (if_some x.answer (carried_over (tables a b d) (rest_of (take n l)) l) (turned None a b d l) h))

  module _ (z : x.answer ≡ 0) where
    pub used_rest : x.used + length (rest_of (take n l)) ≡ e
    used_rest =
        omega (
          arith,
          used_up_lem t (take e l) p z,
          size (take e l),
          length-take-le e l f.within,
          ap (λ (s : List ℕ). length (rest_of s)) f.front,
        )

    rest_as : take (e - x.used) (drop x.used l) ≡ rest_of (take n l)
    rest_as =
        sym (drop_take l x.used e (omega (arith, used_rest)) f.within)
        ∙ ap (λ (u : ℕ). drop u (take e l)) (used_up_lem t (take e l) p z)
        ∙ sym (rest_drop (take e l))
        ∙ ap rest_of f.front

    goes_on : carried_over (tables a b d) (rest_of (take n l)) l ≡ chunk_taken t l n
    unfolding chunk_taken
    goes_on = rw (fed_as, z)

    pub turn_on : {y : Turned} → y ≡ carried_over (tables a b d) (take (e - x.used) (drop x.used l)) l → y ≡ chunk_taken t l n
    turn_on q = rw (← goes_on, ← rest_as) q
