-- What a caller goes by: the line that is told is the next one, and stands in the chunk.
use Rattle.std.proofs.Common.{◌≡◌, ℕ, ◌≤◌, Bool, true, false, cond, leb, List, length, refl, subst, arith, leb-true, None, Some, Option}
use Rattle.text.specs.Name.{all_plain}
use Rattle.walk.proofs.Nexts.{line_step}
use Rattle.text.proofs.Pairs.{same_parts}
use Rattle.fields.specs.Part.{part_from, commas_of}
use Rattle.scan.specs.declared.ahead.Ahead.{Ahead}
use Rattle.scan.specs.Ahead.{line_from, told_of, ahead_of}

pub record LineIs (whole : Bool) (s : List ℕ) (at : ℕ) (a : Ahead) : Type 0 where
  pub next : line_from whole s at ≡ Some (a.end, a.start)
  pub begins : at ≤ a.end
  pub ends : a.end ≤ length s
  pub plain_told : a.plain ≡ all_plain (part_from s at a.end)
  pub commas_told : a.commas ≡ commas_of (part_from s at a.end)

module _ (s : List ℕ) (at end start : ℕ) where
  left_inside : (b : Bool) → leb at (length s) ≡ b → cond {A = Option (ℕ × ℕ)} b (Some (length s, length s)) None ≡ Some (end, start) → (at ≤ end) × (end ≤ length s)
  left_inside true h q = let e : length s ≡ end = (same_parts q).0 in rw (← e) (leb-true at (length s) h, omega arith)
  left_inside false h q = let z : ◌≡◌ {A = ℕ} 0 1 = cc in let no_line : ⊥ = omega arith in absurd no_line

  pub line_inside : (whole : Bool) → line_from whole s at ≡ Some (end, start) → (at ≤ end) × (end ≤ length s)
  unfolding line_from
  line_inside true q = left_inside (leb at (length s)) refl q
  line_inside false q = let t = line_step s at end start q in (t.starts, omega arith)

module _ (whole : Bool) (s : List ℕ) (at : ℕ) (a : Ahead) where
  line_by : (x : Option (ℕ × ℕ)) → line_from whole s at ≡ x → told_of s at x ≡ Some a → LineIs whole s at a
  line_by (Some (e, n)) q h =
      let i = line_inside s at e n whole q in
      let w : ◌≡◌ {A = Ahead} (record { end = e; start = n; plain = all_plain (part_from s at e); commas = commas_of (part_from s at e) }) a = cc in
      subst (LineIs whole s at) w (record { next = q; begins = i.0; ends = i.1; plain_told = refl; commas_told = refl })
  line_by None q h = let z : ◌≡◌ {A = ℕ} 0 1 = cc in let no_line : ⊥ = omega arith in absurd no_line

  pub line_is : ahead_of whole s at ≡ Some a → LineIs whole s at a
  unfolding ahead_of
  line_is q = line_by (line_from whole s at) refl q

rest_by : (s : List ℕ) (at : ℕ) (x : Option (ℕ × ℕ)) → told_of s at x ≡ None → x ≡ None
rest_by s at (Some (e, n)) q = cc
rest_by s at None q = refl

pub rest_is : (whole : Bool) (s : List ℕ) (at : ℕ) → ahead_of whole s at ≡ None → line_from whole s at ≡ None
unfolding ahead_of
rest_is whole s at q = rest_by s at (line_from whole s at) q
