-- Laws of a line's end, where a byte 10 or a byte 13 and a byte 10 stand after bytes that are all plain.
use Rattle.std.proofs.Common.{◌≡◌, ℕ, zero, suc, ◌+◌, ◌-◌, ◌<◌, ◌≤◌, Bool, true, false, cond, ◌&&◌, eqb, ◌⊎◌, List, length, get_or, take, drop, sym, refl, ◌∙◌, inl, inr, ⊎_elim, arith, eqb-true, Some}
use Rattle.text.specs.Bytes.{find_from}
use Rattle.text.proofs.Bools.{and_l, and_r, lt_or_ge}
use Rattle.text.proofs.Finds.{find_to}
use Rattle.text.proofs.Plain.{Plain}
use Rattle.walk.specs.Lines.{line_text, next_from}
use Rattle.walk.proofs.Cuts.{text_cr, text_plain}
use Rattle.walk.proofs.Nexts.{found_some, between_some, between_next}
use Rattle.fields.specs.declared.part.Commas.{Commas}
use Rattle.scan.specs.Quick.{end_length, line_to}
use Rattle.scan.proofs.Stretch.{front_length, front_byte}

-- ---- how many bytes an end has

length_most : (a b : Bool) → cond a 1 (cond b 2 0) ≤ 2
length_most true b = omega arith
length_most false true = omega arith
length_most false false = omega arith

pub end_most : (s : List ℕ) (p : ℕ) → end_length s p ≤ 2
unfolding end_length
end_most s p = length_most (eqb (get_or s p 0) 10) (eqb (get_or s p 0) 13 && eqb (get_or s (p + 1) 0) 10)

pub line_ends : (end more : ℕ) (c : Commas) → (more ≡ 0 → ⊥) → Some (record { end = end; start = end + more; plain = true; commas = c }) ≡ line_to end more c
line_ends end zero c h = absurd (h refl)
line_ends end (suc more) c h = refl

-- what stands at an end of so many bytes
abbrev Ends : List ℕ → ℕ → ℕ → Type 0
Ends s p m = ((get_or s p 0 ≡ 10) × (m ≡ 0)) ⊎ ((get_or s p 0 ≡ 13) × (get_or s (p + 1) 0 ≡ 10) × (m ≡ 1))

end_kind : (s : List ℕ) (p m : ℕ) (a b : Bool) → eqb (get_or s p 0) 10 ≡ a → (eqb (get_or s p 0) 13 && eqb (get_or s (p + 1) 0) 10) ≡ b → cond a 1 (cond b 2 0) ≡ suc m → Ends s p m
end_kind s p m true b x y e = inl (eqb-true _ _ x, omega arith)
end_kind s p m false true x y e = inr (eqb-true _ _ (and_l _ _ y), eqb-true _ _ (and_r (eqb (get_or s p 0) 13) _ y), omega arith)
end_kind s p m false false x y e = let no_end : ⊥ = omega arith in absurd no_end

ends : (s : List ℕ) (p m : ℕ) → end_length s p ≡ suc m → Ends s p m
unfolding end_length
ends s p m e = end_kind s p m (eqb (get_or s p 0) 10) (eqb (get_or s p 0) 13 && eqb (get_or s (p + 1) 0) 10) refl refl e

-- ---- the line before it

-- the first byte 10 from an index on stands d bytes further, and n of these are the line's
next_at : (s : List ℕ) (at d n : ℕ) → at + d < length s → find_from 10 s at ≡ at + d → n ≡ length (line_text (take d (drop at s))) → next_from s at ≡ Some (at + n, at + d + 1)
next_at s at d n h f e =
    let z : at + d + 1 - 1 - at ≡ d = omega arith in
    let st = found_some s at (at + d) (sym f) h in
    sym (between_next s at) ∙ rw (← st) (sym (between_some s at (at + d + 1) n (omega arith) (omega arith) (rw z e)))

module _ (s : List ℕ) (at n : ℕ) (some : 1 ≤ n) (h : at + n + 1 < length s) (plain : (j : ℕ) → at ≤ j → j < at + n → Plain (get_or s j 0)) where
  by_ten : get_or s (at + n) 0 ≡ 10 → next_from s at ≡ Some (at + n, at + n + 1)
  by_ten e =
      let l = take n (drop at s) in
      let k : length l ≡ n = front_length s at n (omega arith) in
      let last : get_or l (length l - 1) 0 ≡ get_or s (at + (n - 1)) 0 = rw k (front_byte s at n (omega arith) (n - 1) (omega arith)) in
      let p = plain (at + (n - 1)) (omega arith) (omega arith) in
      let f = find_to 10 s (at + n) (omega arith) (λ _. e) at (omega arith) (λ j lo hi q. omega (arith, plain j lo hi)) in
      next_at s at n n (omega arith) f (sym k ∙ text_plain l (λ q. omega arith))

  by_two : get_or s (at + n) 0 ≡ 13 → get_or s (at + n + 1) 0 ≡ 10 → next_from s at ≡ Some (at + n, at + n + 2)
  by_two e e' =
      let l = take (n + 1) (drop at s) in
      let k : length l ≡ n + 1 = front_length s at (n + 1) (omega arith) in
      let z : n + 1 - 1 ≡ n = omega arith in
      let y : at + (n + 1) ≡ at + n + 1 = omega arith in
      let x : at + n + 1 + 1 ≡ at + n + 2 = omega arith in
      let last : get_or l (length l - 1) 0 ≡ 13 = rw (k, z) (front_byte s at (n + 1) (omega arith) n (omega arith) ∙ e) in
      let f : find_from 10 s at ≡ at + (n + 1) = rw y (find_to 10 s (at + n + 1) (omega arith) (λ _. e') at (omega arith) none) in
      rw (y, x) at (next_at s at (n + 1) n (omega arith) f (omega (arith, text_cr l last)))
    where
      none : (j : ℕ) → at ≤ j → j < at + n + 1 → get_or s j 0 ≡ 10 → ⊥
      none j lo hi q =
          ⊎_elim (λ lt. omega (arith, plain j lo lt)) (λ ge. let w : j ≡ at + n = omega arith in omega (arith, rw w at q)) (lt_or_ge j (at + n))

  pub next_ends : (m : ℕ) → end_length s (at + n) ≡ suc m → next_from s at ≡ Some (at + n, at + n + suc m)
  next_ends m e = ⊎_elim (λ x. rw x.1 (by_ten x.0)) (λ x. rw x.2 (by_two x.0 x.1)) (ends s (at + n) m e)
