-- The laws of a window: what its bytes add, and marks as sums of weights.
use Rattle.std.proofs.Common.{◌≡◌, ℕ, suc, ◌+◌, ◌*◌, ◌%◌, ◌<◌, ◌≤◌, Bool, true, false, cond, not, List, [], ◌∷◌, get_or, drop, sym, refl, ap, ◌∙◌, mod-eq_of_lt, arith, get_or-drop}
use Rattle.text.specs.Name.{is_name_byte}
use Rattle.marks.specs.Marks.{bit, marks_from}
use Rattle.scan.specs.Window.{is_mark, eight_from, joined_of}

-- ---- what the loop over the window leaves

-- the weights of eight places, and those of 64
abbrev octet : List ℕ → List ℕ
octet l = 1 ∷ 2 ∷ 4 ∷ 8 ∷ 16 ∷ 32 ∷ 64 ∷ 128 ∷ l

abbrev weights : List ℕ
weights = octet (octet (octet (octet (octet (octet (octet (octet [])))))))

-- what a byte adds: nothing where a name may have it
abbrev weight_at : List ℕ → ℕ → ℕ → ℕ
weight_at s at j = cond (is_name_byte (get_or s (at + j) 0)) 0 (get_or weights j 0)

-- the entries before k are what the bytes add
abbrev pub Weighed : List ℕ → ℕ → List ℕ → ℕ → Type 0
Weighed s at l k = (j : ℕ) → j < k → get_or l j 0 ≡ weight_at s at j

-- ---- marks as sums of weights

weigh : (t : Bool) (w : ℕ) → cond t 0 w ≡ w * bit (not t)
weigh true w = omega arith
weigh false w = omega arith

bit_le : (t : Bool) → bit t ≤ 1
bit_le true = omega arith
bit_le false = omega arith

-- eight entries that are weights of answers, added as one byte
octet_sum : (p : ℕ → Bool) (a b c d e f g h m x0 x1 x2 x3 x4 x5 x6 x7 : ℕ) → x0 ≡ 1 * bit (p a) → x1 ≡ 2 * bit (p b) → x2 ≡ 4 * bit (p c) → x3 ≡ 8 * bit (p d)
    → x4 ≡ 16 * bit (p e) → x5 ≡ 32 * bit (p f) → x6 ≡ 64 * bit (p g) → x7 ≡ 128 * bit (p h)
    → bit (p a) + 2 * (bit (p b) + 2 * (bit (p c) + 2 * (bit (p d) + 2 * (bit (p e) + 2 * (bit (p f) + 2 * (bit (p g) + 2 * (bit (p h) + 2 * m)))))))
    ≡ (x0 + x1 + x2 + x3 + x4 + x5 + x6 + x7) % 256 + 256 * m
octet_sum p a b c d e f g h m x0 x1 x2 x3 x4 x5 x6 x7 e0 e1 e2 e3 e4 e5 e6 e7 =
    let small : x0 + x1 + x2 + x3 + x4 + x5 + x6 + x7 < 256 =
    omega (arith, bit_le (p a), bit_le (p b), bit_le (p c), bit_le (p d), bit_le (p e), bit_le (p f), bit_le (p g), bit_le (p h)) in
    rw (mod-eq_of_lt small) (omega arith)

-- eight such bytes in two halves
joins : (e0 e1 e2 e3 e4 e5 e6 e7 m0 m1 m2 m3 m4 m5 m6 m7 : ℕ) → m0 ≡ e0 + 256 * m1 → m1 ≡ e1 + 256 * m2 → m2 ≡ e2 + 256 * m3 → m3 ≡ e3 + 256 * m4
    → m4 ≡ e4 + 256 * m5 → m5 ≡ e5 + 256 * m6 → m6 ≡ e6 + 256 * m7 → m7 ≡ e7 + 256 * 0
    → (e0 + e1 * 256 + e2 * 65536 + e3 * 16777216) + (e4 + e5 * 256 + e6 * 65536 + e7 * 16777216) * 4294967296 ≡ m0
joins e0 e1 e2 e3 e4 e5 e6 e7 m0 m1 m2 m3 m4 m5 m6 m7 q0 q1 q2 q3 q4 q5 q6 q7 = omega arith

module _ (s l : List ℕ) (at : ℕ) (known : Weighed s at l 64) where
  -- a group of eight entries, from i on
  module _ (i : ℕ) (rest : List ℕ) (room : i + 8 ≤ 64) (same : drop i weights ≡ octet rest) where
    entry : (r j a : ℕ) → j ≡ i + r → r < 8 → a ≡ at + j → get_or l j 0 ≡ get_or (octet rest) r 0 * bit (is_mark s a)
    unfolding is_mark
    entry r j a ej hr ea =
        let w : get_or weights j 0 ≡ get_or (octet rest) r 0 = ap (λ n. get_or weights n 0) ej ∙ sym (get_or-drop i weights r 0) ∙ ap (λ x. get_or x r 0) same in
        rw ea (known j (omega arith) ∙ weigh (is_name_byte (get_or s (at + j) 0)) (get_or weights j 0) ∙ ap (λ x. x * bit (is_mark s (at + j))) w)

    group : (n : ℕ) → marks_from (is_mark s) (at + i) (suc (suc (suc (suc (suc (suc (suc (suc n)))))))) ≡ eight_from l i % 256 + 256 * marks_from (is_mark s) (at + (i + 8)) n
    unfolding marks_from eight_from
    group n =
        let a = at + i in
        let b = suc a in
        let c = suc b in
        let d = suc c in
        let e = suc d in
        let f = suc e in
        let g = suc f in
        let h = suc g in
        let end : at + (i + 8) ≡ suc h = omega arith in
        rw end (octet_sum (is_mark s) a b c d e f g h _ _ _ _ _ _ _ _ _
        (entry 0 i a (omega arith) (omega arith) refl)
        (entry 1 (i + 1) b refl (omega arith) (omega arith))
        (entry 2 (i + 2) c refl (omega arith) (omega arith))
        (entry 3 (i + 3) d refl (omega arith) (omega arith))
        (entry 4 (i + 4) e refl (omega arith) (omega arith))
        (entry 5 (i + 5) f refl (omega arith) (omega arith))
        (entry 6 (i + 6) g refl (omega arith) (omega arith))
        (entry 7 (i + 7) h refl (omega arith) (omega arith)))

  pub marks_joined : joined_of l ≡ marks_from (is_mark s) at 64
  unfolding joined_of marks_from
  marks_joined =
      joins _ _ _ _ _ _ _ _ _ _ _ _ _ _ _ _ (ap (λ a. marks_from (is_mark s) a 64) (omega arith) ∙ group 0 _ (omega arith) refl 56) (group 8 _ (omega arith) refl 48)
      (group 16 _ (omega arith) refl 40) (group 24 _ (omega arith) refl 32) (group 32 _ (omega arith) refl 24) (group 40 _ (omega arith) refl 16)
      (group 48 _ (omega arith) refl 8) (group 56 [] (omega arith) refl 0)
