-- How tight the contract of a name's home is: no second answer, and wrong answers that it shuts out.
use Rattle.std.proofs.Common.{◌≡◌, ℕ, ◌/◌, ◌%◌, ◌^◌, eqb, List, reverse, length, refl}
use Rattle.text.specs.Literal.{bytes}
use Rattle.text.proofs.Tight.{unique, ShutsOut, shut_out}
use Rattle.tables.specs.Entry.{place_rows}
use Rattle.index.specs.Hash.{word, step, fours, folded, home_of}

pub home_unique : (name : List ℕ) (x y : ℕ) → x ≡ home_of name → y ≡ home_of name → x ≡ y
home_unique = unique home_of

-- one home for all names
pub home_not_shared : ShutsOut home_of (λ name. 0)
unfolding word step fours folded home_of
home_not_shared = shut_out (λ n. eqb n 25) (bytes "A") refl refl

-- the lower bits of the fold in place of the upper ones
pub home_not_lower : ShutsOut home_of (λ name. folded name % place_rows)
unfolding word step fours folded home_of
home_not_lower = shut_out (λ n. eqb n 25) (bytes "A") refl refl

-- the bytes from the back
pub home_not_turned : ShutsOut home_of (λ name. home_of (reverse name))
unfolding word step fours folded home_of
home_not_turned = shut_out (λ n. eqb n 25) (bytes "RE") refl refl

-- the fours from the front on alone, without what is left after them
pub home_not_cut : ShutsOut home_of (λ name. fours name (length name / 4) / 2 ^ 23)
unfolding word step fours folded home_of
home_not_cut = shut_out (λ n. eqb n 26) (bytes "ABCDE") refl refl
