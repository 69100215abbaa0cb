-- The lines of a sheet that are no rows, by the tests of the code: the verdict's, and a title with its count.
use Rattle.std.proofs.Common.{None, Some, Option}
use mathlib.Core.Path.{◌≡◌, refl, sym, ap, ◌∙◌}
use mathlib.Core.Bool.{Bool, true, false, ◌&&◌}
use mathlib.Core.List.{List}
use Prim.Native.Nat.{ℕ, ◌+◌, ◌-◌, ◌≤◌}
use native.Mathlib.Omega.{arith}
use lib.Dec.{leb}
use lib.ListN.{length, take, drop, length-drop}
use lib.Seq.{take_all, drop-drop}
use borrow.Author.Tests.{le-leb}
use Rattle.text.specs.Literal.{bytes}
use Rattle.text.specs.Bytes.{starts_with, to_byte, find_from}
use Rattle.text.specs.Number.{is_number, value_from, number_if, number_of}
use Rattle.text.specs.Sizes.{max_time}
use Rattle.text.proofs.Words.{starts_long}
use Rattle.words.specs.declared.scale.Scale.{Scale}
use Rattle.words.specs.declared.scale.Scale.TheVariants.{Picoseconds, Nanoseconds, Microseconds, Milliseconds, Seconds}
use Rattle.words.specs.Scale.{scale_of}
use Rattle.bill.specs.Scale.{scale_number}
use Rattle.bill.specs.Reading.{scale_code, from_scale, from_span, scale_in, span_in, head_exact, count_in, count_exact}
use Rattle.paper.specs.Heads.{head_if, head_of, count_of}

-- what stands from an index on, as a part from there to the end is read
rest : (l : List ℕ) (n : ℕ) → take (length l - n) (drop n l) ≡ drop n l
rest l n = take_all (length l - n) (drop n l) (omega (arith, length-drop n l))

-- ---- a title with its count

module _ (head line : List ℕ) (max : ℕ) where
  pub no_title : starts_with line head ≡ false → None ≡ count_of head line max
  unfolding count_of count_exact
  no_title e = rw e

  pub title_there : starts_with line head ≡ true → number_of (take (length line - length head) (drop (length head) line)) max ≡ count_of head line max
  unfolding count_of count_exact count_in number_of
  title_there e = rw (rest line (length head), e)

-- ---- the verdict's line

-- 0 is no scale's number
from_one : (s : Scale) → 1 ≤ scale_number s
unfolding scale_number
from_one Picoseconds = omega arith
from_one Nanoseconds = omega arith
from_one Microseconds = omega arith
from_one Milliseconds = omega arith
from_one Seconds = omega arith

-- a number told, or not, is a head told, or not
head_bad : (t : Bool) (scale v : ℕ) → number_if t v ≡ None → None ≡ head_if t scale v
head_bad true scale v e = cc
head_bad false scale v e = refl

head_value : (t : Bool) (scale v n : ℕ) → number_if t v ≡ Some n → Some (scale, n) ≡ head_if t scale v
head_value true scale v n e = cc
head_value false scale v n e = cc

-- behind " span " there is room for the digits
pub span_room : (line : List ℕ) (blank : ℕ) → starts_with (take (length line - blank) (drop blank line)) (bytes " span ") ≡ true → blank + 6 ≤ length line
span_room line blank f = let h = starts_long _ (bytes " span ") (rw (rest line blank) at f) in omega (arith, length-drop blank line)

module _ (line : List ℕ) where
  pub other_verdict : starts_with line (bytes "verdict 0 line 0 scale ") ≡ false → None ≡ head_of line
  unfolding head_of head_exact
  other_verdict e = rw e

  module _ (e : starts_with line (bytes "verdict 0 line 0 scale ") ≡ true) (blank : ℕ) (found : blank ≡ find_from 32 line 23) (o : Option Scale) (told : o ≡ scale_of (take (blank - 23) (drop 23 line))) where
    blank_is : 23 + to_byte 32 (drop 23 line) ≡ blank
    unfolding find_from
    blank_is = sym found

    scale_is : scale_in line ≡ scale_code o
    unfolding scale_in
    scale_is = let z : to_byte 32 (drop 23 line) ≡ blank - 23 = omega (arith, blank_is) in rw z (ap scale_code (sym told))

    span_from : from_span (from_scale line) ≡ drop blank line
    span_from = rw (drop-drop, blank_is)

    pub no_scale : o ≡ None → None ≡ head_of line
    unfolding head_of head_exact
    no_scale z = rw (e, scale_is, z)

    module _ (s : Scale) (named : o ≡ Some s) where
      abbrev scale : ℕ
      scale = scale_number s

      low : leb 1 scale ≡ true
      low = le-leb 1 scale (from_one s)

      pub no_span : starts_with (take (length line - blank) (drop blank line)) (bytes " span ") ≡ false → None ≡ head_of line
      unfolding head_of head_exact
      no_span f = let g = rw (rest line blank) at f in rw (e, scale_is, named, low, span_from, g)

      module _ (f : starts_with (take (length line - blank) (drop blank line)) (bytes " span ") ≡ true) (r : Option ℕ)
          (given : r ≡ number_of (take (length line - (blank + 6)) (drop (blank + 6) line)) max_time) where
        abbrev digits : List ℕ
        digits = drop (blank + 6) line

        abbrev in_range : Bool
        in_range = is_number digits && leb (value_from 0 digits) max_time

        digits_are : drop 6 (from_span (from_scale line)) ≡ digits
        digits_are = rw (span_from, drop-drop)

        number_is : number_if in_range (value_from 0 digits) ≡ r
        unfolding number_of
        number_is = sym (rw (rest line (blank + 6)) at given)

        by_number : head_if in_range scale (value_from 0 digits) ≡ head_of line
        unfolding head_of head_exact span_in
        by_number = let g = rw (rest line blank) at f in rw (e, scale_is, named, low, digits_are, span_from, g)

        pub no_number : r ≡ None → None ≡ head_of line
        no_number p = head_bad in_range scale (value_from 0 digits) (number_is ∙ p) ∙ by_number

        pub head_there : (n : ℕ) → r ≡ Some n → Some (scale, n) ≡ head_of line
        head_there n p = head_value in_range scale (value_from 0 digits) n (number_is ∙ p) ∙ by_number
