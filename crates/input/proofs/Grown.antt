-- A list of reads that grows at its end by one read a turn: where reading ends or fails, it is the list that the contract asks for.
use mathlib.Core.Path.{◌≡◌, refl, sym, ap, ◌∙◌}
use mathlib.Core.Bool.{Bool, true, false, cond}
use mathlib.Core.Logic.{inl, inr}
use mathlib.Core.List.{List, [], ◌∷◌, ◌++◌}
use Rattle.std.specs.Prelude.{Option, Some, None}
use Prim.Native.Nat.{ℕ, zero, suc, ◌+◌, ◌≤◌}
use native.Mathlib.Omega.{arith}
use lib.Dec.{ltb}
use lib.ListN.{length, take, length-append}
use Rattle.walk.specs.Lines.{rest_of}
use Rattle.rules.specs.Lists.{if_zero}
use Rattle.judge.specs.Feed.{Tables, fed_chunk}
use Rattle.run.specs.Chunk.{carried_most, Progress, going, stopped, read_on, at_input_end}
use Rattle.promises.specs.Fed.{joined}
use Rattle.input.specs.Reads.{ARead, OneMore, EndsWith, Turned, AllReads, ReadSoFar, Came}

-- ---- a list of reads that grows at its end

-- where reading goes on, later reads start from there
pub read_append : (rs qs : List (List ℕ)) (t : Tables) (rest : List ℕ) {u : Tables} {left : List ℕ} → read_on t rest rs ≡ going u left →
    read_on t rest (rs ++ qs) ≡ read_on u left qs
unfolding read_on
read_append [] qs t rest {u} {left} e =
    let p : t ≡ u = cc in
    let q : rest ≡ left = cc in
    rw (p, q)
read_append (r ∷ rs) qs t rest {u} {left} e =
    let fed = fed_chunk t (rest ++ r) in
    by_tests fed.fed.answer (ltb carried_most (length (rest_of (rest ++ r)))) _ _ _ _ (read_append rs qs fed.left (rest_of (rest ++ r))) e
  where
    by_tests : (a : ℕ) (b : Bool) (x y : Tables) (p q : Progress) → (p ≡ going u left → q ≡ read_on u left qs) →
        if_zero a (cond b (stopped x) p) (stopped y) ≡ going u left → if_zero a (cond b (stopped x) q) (stopped y) ≡ read_on u left qs
    by_tests zero true x y p q f w = absurd (let z : ◌≡◌ {A = ℕ} 0 1 = cc in omega arith)
    by_tests zero false x y p q f w = f w
    by_tests (suc a) b x y p q f w = absurd (let z : ◌≡◌ {A = ℕ} 0 1 = cc in omega arith)

joined_more : (rs : List (List ℕ)) (r : List ℕ) → length (joined (rs ++ r ∷ [])) ≡ length (joined rs) + length r
joined_more [] r = omega (arith, length-append r [])
joined_more (q ∷ rs) r = omega (arith, joined_more rs r, length-append q (joined (rs ++ r ∷ [])), length-append q (joined rs))

reads_more : {have : ℕ} (rs : List (List ℕ)) (r : List ℕ) → AllReads rs → ARead have r → AllReads (rs ++ r ∷ [])
reads_more [] r s a = let m = a.room in (record { some_bytes = a.some_bytes; room = omega arith; bytes = a.bytes }, tt)
reads_more (q ∷ rs) r s a = (s.0, reads_more rs r s.1 a)

-- ---- the reads so far, of n bytes, with the first `have` bytes of the buffer carried over

pub none_yet : (t : Tables) → ReadSoFar 0 t t []
unfolding read_on
none_yet t = record { reads = []; each = tt; counted = refl; goes_on = refl }

module _ {n : ℕ} {t u : Tables} (have : ℕ) (b : List ℕ) (s : ReadSoFar n t u (take have b)) (v : Tables) (c : List ℕ) where
  -- and one more, of k bytes
  module _ {k : ℕ} {p : Progress} (m : OneMore k have u b p) where
    abbrev more : List (List ℕ)
    more = s.reads ++ m.read ∷ []

    more_each : AllReads more
    more_each = reads_more s.reads m.read s.each m.each

    more_counted : length (joined more) ≡ n + k
    more_counted = omega (arith, joined_more s.reads m.read, m.counted, s.counted)

    more_come : read_on t [] more ≡ p
    more_come = read_append s.reads (m.read ∷ []) t [] s.goes_on ∙ m.comes_to

  ends : (k : ℕ) → EndsWith k have u b v → Came (n + k) t v
  ends k (inl m) = record { reads = more m; each = more_each m; counted = more_counted m; left = ap at_input_end (sym (more_come m)) }
  ends k (inr (none, e)) =
      record { reads = s.reads; each = s.each; counted = omega (arith, s.counted); left = e ∙ ap at_input_end (sym s.goes_on) }

  -- by how many are carried over after the turn
  module _ (r : Option ℕ) (k : ℕ) (w : Turned r k have u b v c) where
    pub came_more : {left : ℕ} → r ≡ Some left → (left ≤ carried_most) × ReadSoFar (n + k) t v (take left c)
    came_more {left} e =
        let m : (left ≤ carried_most) × OneMore k have u b (going v (take left c)) = rw e at w in
        (m.0, record { reads = more m.1; each = more_each m.1; counted = more_counted m.1; goes_on = more_come m.1 })

    pub came_enough : r ≡ None → Came (n + k) t v
    came_enough e = ends k (rw e at w)
