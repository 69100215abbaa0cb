-- The text of a bill made of its parts: a section, and the whole.
use mathlib.Core.Path.{◌≡◌, ap, ◌∙◌}
use mathlib.Core.List.{List, [], ◌∷◌, ◌++◌, append_assoc}
use Prim.Native.Nat.{ℕ, ◌+◌, ◌≤◌, ◌<◌}
use native.Mathlib.Omega.{arith}
use lib.ListN.{length, length-append}
use Rattle.text.specs.Number.{digits_of}
use Rattle.text.specs.Put.{written, Put, after, put}
use Rattle.text.proofs.Digits.{digits_short}
use Rattle.text.proofs.Writes.{put_then, put_fits, put_length}
use Rattle.bill.specs.declared.section.Section.{Section}
use Rattle.bill.specs.declared.section.Section.TheVariants.{Cores, Processes}
use Rattle.bill.specs.Text.{title}
use Rattle.bill.specs.Verdict.{accepted_text}
use Rattle.bill.proofs.Scales.{scale_short}
use Rattle.bill.proofs.VerdictLine.{length_accepted}
use Rattle.adding.specs.declared.whole.Made.{Made}
use Rattle.adding.specs.AddCode.{counted_text, counted_length, made_text}

pub title_short : (s : Section) → length (title s) ≤ 10
title_short Cores = omega arith
title_short Processes = omega arith

-- the pieces of a section put one after another
pub put_counted : {m1 m2 m3 m4 : List ℕ} {n1 n2 n3 n4 : ℕ} (l : List ℕ) (at : ℕ) (head : List ℕ) (n : ℕ) (rows : List ℕ)
    → after n1 m1 ≡ put l at head
    → after n2 m2 ≡ put m1 n1 (digits_of n)
    → after n3 m3 ≡ put m2 n2 (10 ∷ [])
    → after n4 m4 ≡ put m3 n3 rows
    → at + length (counted_text head n rows) ≤ length l
    → after n4 m4 ≡ put l at (counted_text head n rows)
unfolding counted_text
put_counted l at head n rows p q r s h =
    let d = digits_of n in
    let e = append_assoc (head ++ d) (10 ∷ []) rows in
    rw (← e) (put_then l at (head ++ d ++ 10 ∷ []) rows (put_then l at (head ++ d) (10 ∷ []) (put_then l at head d (λ i. p) q) r) s (rw (← e) at h))

-- ---- the whole

pub length_counted : (head : List ℕ) (n : ℕ) (rows : List ℕ) → length (counted_text head n rows) ≡ counted_length head n (length rows)
unfolding counted_text
length_counted head n rows = simp length-append (omega arith)

-- parts put one after another, and all of them written
put_all : {m1 m2 m3 : List ℕ} {n1 n2 n3 : ℕ} (l : List ℕ) (a b c : List ℕ)
    → after n1 m1 ≡ put l 0 a → after n2 m2 ≡ put m1 n1 b → after n3 m3 ≡ put m2 n2 c → 0 + length (a ++ (b ++ c)) ≤ length l → m3 ≡ written l 0 (a ++ (b ++ c))
put_all l a b c p q r h =
    let e = append_assoc a b c in
    rw (← e) (ap (λ (x : Put). x.output) (put_then l 0 (a ++ b) c (put_then l 0 a b (λ i. p) q) r (rw (← e) at h) ∙ put_fits l 0 (a ++ b ++ c) (rw (← e) at h)))

-- the room that is left for the second, and for the third
next_room : {m : List ℕ} {n : ℕ} (l : List ℕ) (at : ℕ) (a b : List ℕ) → after n m ≡ put l at a → at + length (a ++ b) ≤ length l → n + length b ≤ length m
next_room l at a b p h =
    let k = length-append a b in
    let f = p ∙ put_fits l at a (omega arith) in
    let e = ap (λ (x : Put). x.next) f in
    omega (arith, put_length l at a p)

module _ (d : Made) where
  pub length_made : length (made_text d) ≡ length (accepted_text d.scale d.span) + counted_length (title Cores) d.cores (length d.core_lines.now)
      + counted_length (title Processes) d.processes (length d.process_lines.now)
  unfolding made_text
  length_made = simp (length-append, length_counted) (omega arith)

  module _ (l : List ℕ) {m1 : List ℕ} {n1 : ℕ} (p : after n1 m1 ≡ put l 0 (accepted_text d.scale d.span)) (h : length (made_text d) ≤ length l) where
    abbrev cores_text : List ℕ
    cores_text = counted_text (title Cores) d.cores d.core_lines.now

    abbrev processes_text : List ℕ
    processes_text = counted_text (title Processes) d.processes d.process_lines.now

    fits : 0 + length (accepted_text d.scale d.span ++ (cores_text ++ processes_text)) ≤ length l
    unfolding made_text
    fits = omega (arith, h)

    both_room : n1 + length (cores_text ++ processes_text) ≤ length m1
    both_room = next_room l 0 (accepted_text d.scale d.span) (cores_text ++ processes_text) p fits

    pub first_room : n1 + length cores_text ≤ length m1
    first_room = omega (arith, both_room, length-append cores_text processes_text)

    module _ {m2 : List ℕ} {n2 : ℕ} (q : after n2 m2 ≡ put m1 n1 cores_text) where
      pub second_room : n2 + length processes_text ≤ length m2
      second_room = next_room m1 n1 cores_text processes_text q both_room

      pub put_made : {m3 : List ℕ} {n3 : ℕ} → after n3 m3 ≡ put m2 n2 processes_text → m3 ≡ written l 0 (made_text d)
      unfolding made_text
      put_made r = put_all l (accepted_text d.scale d.span) cores_text processes_text p q r fits

-- the verdict's line of a sum is short
pub head_short : (scale span : ℕ) → span < 18446744073709551616 → length (accepted_text scale span) ≤ 52
head_short scale span h = omega (arith, length_accepted scale span, scale_short scale, digits_short span h)
