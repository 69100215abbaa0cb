-- A container told apart: what a header gives, what stands from an index on, and what a turn of the loop comes to.
use Rattle.std.proofs.Common.{None, Some, Option}
use mathlib.Core.Path.{◌≡◌, refl, sym, ◌∙◌, ap}
use mathlib.Core.Bool.{Bool, true, false, cond}
use mathlib.Core.List.{List}
use mathlib.Core.Logic.{⊎_elim}
use Rattle.std.specs.Prelude.{Option, Some, None, Ok, Err}
use Prim.Native.Nat.{ℕ, zero, suc, ◌+◌, ◌-◌, ◌≤◌, ◌<◌}
use native.Mathlib.Omega.{arith}
use lib.Dec.{eqb, ltb}
use lib.ListN.{length, take, drop, get_or, get_or-eq_default}
use lib.Seq.{get_or-drop}
use borrow.Author.Tests.{lt-ltb, le-ltb, eq-eqb, ne_eqb, eqb-true}
use Rattle.text.specs.Literal.{bytes}
use Rattle.text.specs.Bytes.{starts_with, find_from}
use Rattle.text.specs.Number.{number_of}
use Rattle.text.proofs.Bools.{lt_or_ge}
use Rattle.text.proofs.Finds.{find_ge}
use Rattle.outcome.proofs.Wholes.{part_all}
use Rattle.bundle.specs.declared.container.Entry.{Entry}
use Rattle.bundle.specs.Container.{length_in, header_entry, entry_from, end_from, container_end}

-- ---- what a header gives, by the tests of the code

module _ (header : List ℕ) where
  pub other_header : starts_with header (bytes "trace ") ≡ false → None ≡ length_in header
  unfolding length_in
  other_header e = rw e

  module _ (e : starts_with header (bytes "trace ") ≡ true) (blank : ℕ) (found : blank ≡ find_from 32 header 6) where
    pub no_blank : length header ≤ blank → None ≡ length_in header
    unfolding length_in
    no_blank h = rw (e, ← found, le-ltb blank (length header) h)

    pub number_there : blank < length header → number_of (take (length header - (blank + 1)) (drop (blank + 1) header)) 4294967295 ≡ length_in header
    unfolding length_in
    number_there h = rw (e, ← found, lt-ltb blank (length header) h, part_all header (blank + 1) (omega arith))

-- ---- what stands from an index on, by the tests of the code; e is where the header ends

module _ (s : List ℕ) (at e : ℕ) (found : e ≡ find_from 10 s at) where
  pub no_end : length s ≤ e → None ≡ entry_from s at
  unfolding entry_from
  no_end h = rw (← found, le-ltb e (length s) h)

  module _ (h : e < length s) {w : Option ℕ} (given : w ≡ length_in (take (e - at) (drop at s))) where
    abbrev rest : List ℕ
    rest = take (length s - (e + 1)) (drop (e + 1) s)

    rest_byte : (n : ℕ) → get_or rest n 0 ≡ get_or s (e + 1 + n) 0
    rest_byte n = rw (part_all s (e + 1) (omega arith)) (get_or-drop (e + 1) s n 0)

    by_length : entry_from s at ≡ header_entry s e w
    unfolding entry_from
    by_length = rw (← found, lt-ltb e (length s) h, ← given)

    pub no_length : w ≡ None → None ≡ entry_from s at
    no_length p = sym (by_length ∙ rw p)

    module _ {n : ℕ} (p : w ≡ Some n) where
      pub other_byte : (get_or rest n 0 ≡ 10 → ⊥) → None ≡ entry_from s at
      other_byte g = sym (by_length ∙ rw (p, ne_eqb (get_or s (e + 1 + n) 0) 10 (λ z. g (rest_byte n ∙ z))))

      pub too_short : length rest ≤ n → None ≡ entry_from s at
      too_short g = other_byte (λ z. omega (arith, z, get_or-eq_default rest 0 g))

      pub trace_there : get_or rest n 0 ≡ 10 → Some (record { end = e; size = n }) ≡ entry_from s at
      trace_there g = sym (by_length ∙ rw (p, eq-eqb (get_or s (e + 1 + n) 0) 10 (sym (rest_byte n) ∙ g)))

-- ---- a trace that is told lies inside

-- a byte 10 is no 0, so it does not stand past the end
byte_inside : (s : List ℕ) (i : ℕ) → get_or s i 0 ≡ 10 → i < length s
byte_inside s i e = ⊎_elim (λ h. h) (λ h. absurd (omega (arith, e, get_or-eq_default s 0 h))) (lt_or_ge i (length s))

-- a trace of the size that is told, from the index at on, with a header that ends at e
abbrev Inside : List ℕ → ℕ → ℕ → ℕ → Type 0
Inside s at e size = (at ≤ e) × (e + 1 + size < length s)

entry_inside : (s : List ℕ) (at e : ℕ) (w : Option ℕ) {end size : ℕ} → at ≤ e → header_entry s e w ≡ Some (record { end = end; size = size }) → Inside s at end size
entry_inside s at e (Some n) {end} {size} h p = by_byte (eqb (get_or s (e + 1 + n) 0) 10) refl p
  where
    by_byte : (b : Bool) → eqb (get_or s (e + 1 + n) 0) 10 ≡ b → cond {A = Option Entry} b (Some (record { end = e; size = n })) None ≡ Some (record { end = end; size = size }) → Inside s at end size
    by_byte true q z =
        let same : ◌≡◌ {A = Entry} (record { end = e; size = n }) (record { end = end; size = size }) = cc in
        let x : e ≡ end = ap (λ (v : Entry). v.end) same in
        let y : n ≡ size = ap (λ (v : Entry). v.size) same in
        let i = byte_inside s (e + 1 + n) (eqb-true _ _ q) in
        (omega arith, omega arith)
    by_byte false q z = absurd (let x : ◌≡◌ {A = ℕ} 0 1 = cc in omega arith)
entry_inside s at e None h p = absurd (let x : ◌≡◌ {A = ℕ} 0 1 = cc in omega arith)

pub trace_inside : (s : List ℕ) (at : ℕ) {w : Option Entry} {end size : ℕ} → w ≡ entry_from s at → w ≡ Some (record { end = end; size = size }) → Inside s at end size
unfolding entry_from
trace_inside s at {w} {end} {size} e p = by_end (ltb (find_from 10 s at) (length s)) (sym e ∙ p)
  where
    by_end : (b : Bool)
        → cond b (header_entry s (find_from 10 s at) (length_in (take (find_from 10 s at - at) (drop at s)))) None ≡ Some (record { end = end; size = size })
        → Inside s at end size
    by_end true z = entry_inside s at (find_from 10 s at) (length_in (take (find_from 10 s at - at) (drop at s))) (find_ge 10 s at) z
    by_end false z = absurd (let x : ◌≡◌ {A = ℕ} 0 1 = cc in omega arith)

-- ---- the loop: what remains after n traces, from an index on

pub record Remains (s : List ℕ) (at n : ℕ) : Type 0 where
  pub most : ℕ
  pub enough : length s ≤ at + most
  pub same : container_end s ≡ end_from most s at n

pub all_remain : (s : List ℕ) → Remains s 0 0
unfolding container_end
all_remain s = record { most = length s; enough = omega arith; same = refl }

module _ {s : List ℕ} {at n : ℕ} (r : Remains s at n) where
  pub one_less : {w : Option Entry} {end size : ℕ} → at < length s → w ≡ entry_from s at → w ≡ Some (record { end = end; size = size }) → Remains s (end + size + 2) (n + 1)
  unfolding end_from
  one_less {w} {end} {size} h e p = by_most r.most r.enough r.same
    where
      by_most : (k : ℕ) → length s ≤ at + k → container_end s ≡ end_from k s at n → Remains s (end + size + 2) (n + 1)
      by_most zero g q = absurd (omega arith)
      by_most (suc k) g q = record { most = k; enough = omega (arith, trace_inside s at e p); same = q ∙ rw (lt-ltb at (length s) h, ← e, p) }

  pub broken_here : {w : Option Entry} → at < length s → w ≡ entry_from s at → w ≡ None → Err (record { traces = n; at = at }) ≡ container_end s
  unfolding end_from
  broken_here {w} h e p = by_most r.most r.enough r.same
    where
      by_most : (k : ℕ) → length s ≤ at + k → container_end s ≡ end_from k s at n → Err (record { traces = n; at = at }) ≡ container_end s
      by_most zero g q = absurd (omega arith)
      by_most (suc k) g q = sym (q ∙ rw (lt-ltb at (length s) h, ← e, p))

  pub none_remain : length s ≤ at → Ok n ≡ container_end s
  unfolding end_from
  none_remain h = by_most r.most r.same
    where
      by_most : (k : ℕ) → container_end s ≡ end_from k s at n → Ok n ≡ container_end s
      by_most zero q = sym q
      by_most (suc k) q = sym (q ∙ rw (le-ltb at (length s) h))
