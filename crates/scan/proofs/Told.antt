-- The next line, where commas stand at its first marks and its end at the next.
use Rattle.std.proofs.Common.{◌≡◌, ℕ, zero, suc, ◌+◌, ◌-◌, ◌<◌, ◌≤◌, true, false, List, length, get_or, take, drop, refl, ap, ⊎_elim, arith, None, Option}
use Rattle.text.specs.Bytes.{find_from}
use Rattle.text.specs.Name.{all_plain}
use Rattle.text.proofs.Bools.{lt_or_ge}
use Rattle.text.proofs.Finds.{byte_end, find_to}
use Rattle.text.proofs.Plain.{Plain, plain_all}
use Rattle.fields.specs.declared.part.Commas.{Commas}
use Rattle.fields.specs.Part.{comma_at, commas_of}
use Rattle.fields.proofs.Parts.{part_front}
use Rattle.scan.specs.declared.ahead.Ahead.{Ahead}
use Rattle.scan.specs.Ahead.{line_from, ahead_of}
use Rattle.scan.specs.Quick.{end_length, line_to, ends_after, told}
use Rattle.scan.proofs.Stretch.{front_length, front_byte}
use Rattle.scan.proofs.Ends.{next_ends}
use Rattle.scan.proofs.Places.{start_of, Placed, rises}

-- where nothing is told there is nothing to show
pub untold : (r : Option Ahead) → told None ≡ true → None ≡ r
untold r t = let z : false ≡ true = t in cc

-- seven places one after another and an eighth
abbrev seven_and : (ℕ → ℕ) → ℕ → Commas
seven_and place x = record { c1 = place 0; c2 = place 1; c3 = place 2; c4 = place 3; c5 = place 4; c6 = place 5; c7 = place 6; c8 = x }

-- the first m marks are commas, and the line's end is looked for at the next
module _ (s : List ℕ) (at m : ℕ) (place : ℕ → ℕ) (p : Placed s at place) (h : place m < 128) (fits : at + 129 ≤ length s)
    (commas : (k : ℕ) → k < m → get_or s (at + place k) 0 ≡ 44) where
  within : (k : ℕ) → k ≤ m → place k + (m - k) ≤ place m
  within k le = let z : k + (m - k) ≡ m = omega arith in rw z at (rises p (m - k) k (rw z h))

  plain : (k : ℕ) → k ≤ m → (j : ℕ) → at ≤ j → j < at + place k → Plain (get_or s j 0)
  plain zero le j lo hi = (p.names 0 j lo hi).0
  plain (suc k) le j lo hi =
      let comma : Plain (get_or s (at + place k) 0) = rw (commas k le) (omega arith, omega arith) in
      ⊎_elim (λ lt. plain k (omega arith) j lo lt)
      (λ ge. ⊎_elim (λ gt. (p.names (suc k) j gt hi).0) (λ le'. let z : j ≡ at + place k = omega arith in rw z comma) (lt_or_ge (at + place k) j))
      (lt_or_ge j (at + place k))

  abbrev line : List ℕ
  line = take (place m) (drop at s)

  size : length line ≡ place m
  size = front_length s at (place m) (omega arith)

  byte : (i : ℕ) → i < length line → get_or line i 0 ≡ get_or s (at + i) 0
  byte i lt = front_byte s at (place m) (omega arith) i (omega (arith, size))

  plain_line : all_plain line ≡ true
  plain_line = plain_all line (λ i lt. rw (byte i lt) (plain m (omega arith) (at + i) (omega arith) (omega (arith, size))))

  -- a comma is found at each place, and after them the line's end
  found : (k a : ℕ) → k ≤ m → at + a ≡ start_of at place k → find_from 44 line a ≡ place k
  found k a le e =
      let l = size in
      let w = within k le in
      let st = p.after k (omega arith) in
      let less : place k < length line → k < m = λ lt. ⊎_elim (λ is. is) (λ ge. let z : k ≡ m = omega arith in absurd (omega (arith, ap place z))) (lt_or_ge k m) in
      find_to 44 line (place k) (omega arith) (λ lt. rw (byte (place k) lt) (commas k (less lt))) a (omega arith)
      (λ j lo hi. rw (byte j (omega arith)) (p.names k (at + j) (omega arith) (omega arith)).1)

  pub comma_at_lem : (k : ℕ) → k ≤ m → comma_at line k ≡ place k
  unfolding comma_at
  comma_at_lem zero le = found 0 0 le (omega arith)
  comma_at_lem (suc k) le = rw (comma_at_lem k (omega arith)) (found (suc k) (suc (place k)) le (omega arith))

  -- past the end nothing is found
  pub comma_past : comma_at line (suc m) ≡ place m + 1
  unfolding comma_at find_from
  comma_past = rw (comma_at_lem m (omega arith)) (omega (arith, byte_end 44 line (suc (place m)) (omega (arith, size))))

  -- so the first seven commas stand at the first seven places
  eight : 6 ≤ m → (x : ℕ) → comma_at line 7 ≡ x → commas_of line ≡ seven_and place x
  eight six x e = λ i. record {
    c1 = comma_at_lem 0 (omega arith) i;
    c2 = comma_at_lem 1 (omega arith) i;
    c3 = comma_at_lem 2 (omega arith) i;
    c4 = comma_at_lem 3 (omega arith) i;
    c5 = comma_at_lem 4 (omega arith) i;
    c6 = comma_at_lem 5 (omega arith) i;
    c7 = comma_at_lem 6 (omega arith) i;
    c8 = e i;
  }

  -- where the line's end stands at the next mark, it is told as it is
  by_length : (c : Commas) → commas_of line ≡ c → 1 ≤ m → (more : ℕ) → end_length s (at + place m) ≡ more → told (line_to (at + place m) more c) ≡ true
      → line_to (at + place m) more c ≡ ahead_of false s at
  unfolding ahead_of line_from
  by_length c e some zero q t = untold (ahead_of false s at) t
  by_length c e some (suc more) q t =
      rw (next_ends s at (place m) (omega (arith, within 0 (omega arith))) (omega arith) (plain m (omega arith)) more q, part_front s at (place m), plain_line, e)

  pub told_line : 6 ≤ m → (x : ℕ) → comma_at line 7 ≡ x → told (ends_after s at (place m) (seven_and place x)) ≡ true
      → ends_after s at (place m) (seven_and place x) ≡ ahead_of false s at
  unfolding ends_after
  told_line six x e t = by_length (seven_and place x) (eight six x e) (omega arith) (end_length s (at + place m)) refl t
