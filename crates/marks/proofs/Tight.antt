-- How tight the contracts of the two functions are: no second answer, and wrong answers that they shut out.
use Rattle.std.proofs.Common.{◌≡◌, ℕ, eqb, refl}
use lib.Count.{count_trailing_zeros, count_leading_zeros}
use Rattle.text.proofs.Tight.{unique, ShutsOut, shut_out}
use Rattle.marks.specs.declared.two.Marks.{Marks}
use Rattle.marks.specs.Marks.{lowest_off, first_mark, rest_marks}

-- ---- `first`

pub first_unique : (m : Marks) (x y : ℕ) → x ≡ first_mark m → y ≡ first_mark m → x ≡ y
first_unique = unique first_mark

-- the first 64 answers alone
pub first_not_of_64 : ShutsOut first_mark (λ m. count_trailing_zeros 64 m.low)
unfolding first_mark count_trailing_zeros
first_not_of_64 = shut_out (eqb 65) (record { low = 0; high = 2 }) refl refl

-- the zeros at the other end of the number
pub first_not_from_the_top : ShutsOut first_mark (λ m. count_leading_zeros 64 m.low)
unfolding first_mark count_trailing_zeros count_leading_zeros
first_not_from_the_top = shut_out (eqb 1) (record { low = 2; high = 0 }) refl refl

-- ---- `rest`

pub rest_unique : (m x y : Marks) → x ≡ rest_marks m → y ≡ rest_marks m → x ≡ y
rest_unique = unique rest_marks

-- a yes of each half is taken away
pub rest_not_of_both : ShutsOut rest_marks (λ m. record { low = lowest_off m.low; high = lowest_off m.high })
unfolding rest_marks lowest_off
rest_not_of_both = shut_out (λ m. eqb m.high 1) (record { low = 1; high = 1 }) refl refl

-- a yes among the first 64 alone: one after them is kept
pub rest_not_of_64 : ShutsOut rest_marks (λ m. record { low = lowest_off m.low; high = m.high })
unfolding rest_marks lowest_off
rest_not_of_64 = shut_out (λ m. eqb m.high 0) (record { low = 0; high = 2 }) refl refl
