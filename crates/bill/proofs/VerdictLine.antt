-- Laws of the line that tells a verdict: how long it is, which of its two forms it has, and its five pieces put one after another.
use mathlib.Core.Path.{◌≡◌}
use mathlib.Core.List.{List, ◌++◌}
use Prim.Native.Nat.{ℕ, ◌+◌, ◌≤◌}
use native.Mathlib.Omega.{arith}
use lib.ListN.{length, length-append}
use borrow.Author.Tests.{eq-eqb, ne_eqb}
use Rattle.text.specs.Number.{digits_of}
use Rattle.text.specs.Put.{after, put}
use Rattle.text.proofs.Writes.{put_then}
use Rattle.bill.specs.declared.verdict.Verdict.{Verdict}
use Rattle.bill.specs.Scale.{scale_text}
use Rattle.bill.specs.Verdict.{accepted_text, refused_text, verdict_text}

-- ---- the length of the line

pub length_accepted : (scale span : ℕ) → length (accepted_text scale span) ≡ length (scale_text scale) + length (digits_of span) + 30
unfolding accepted_text
length_accepted scale span = simp length-append (omega arith)

pub length_refused : (n l : ℕ) → length (refused_text n l) ≡ length (digits_of n) + length (digits_of l) + 15
unfolding refused_text
length_refused n l = simp length-append (omega arith)

-- ---- its two forms

pub verdict_accepted : (v : Verdict) → v.number ≡ 0 → verdict_text v ≡ accepted_text v.scale v.span
unfolding verdict_text
verdict_accepted v e = rw (eq-eqb v.number 0 e)

pub verdict_refused : (v : Verdict) → (v.number ≡ 0 → ⊥) → verdict_text v ≡ refused_text v.number v.line
unfolding verdict_text
verdict_refused v e = rw (ne_eqb v.number 0 e)

-- ---- its pieces

pub put_five : {m1 m2 m3 m4 m5 : List ℕ} {n1 n2 n3 n4 n5 : ℕ} (l : List ℕ) (at : ℕ) (a b c d e : List ℕ) →
    after n1 m1 ≡ put l at a → after n2 m2 ≡ put m1 n1 b → after n3 m3 ≡ put m2 n2 c → after n4 m4 ≡ put m3 n3 d → after n5 m5 ≡ put m4 n4 e →
    at + length (a ++ b ++ c ++ d ++ e) ≤ length l → after n5 m5 ≡ put l at (a ++ b ++ c ++ d ++ e)
put_five l at a b c d e p1 p2 p3 p4 p5 =
    put_then l at (a ++ b ++ c ++ d) e (put_then l at (a ++ b ++ c) d (put_then l at (a ++ b) c (put_then l at a b (λ h. p1) p2) p3) p4) p5
