-- How tight the contracts of the bill are: no second answer, and wrong answers that they shut out.
use mathlib.Core.Path.{◌≡◌, refl}
use mathlib.Core.Bool.{Bool}
use mathlib.Core.List.{List, [], ◌∷◌}
use Prim.Native.Nat.{ℕ, ◌-◌}
use lib.Dec.{eqb}
use lib.ListN.{length, get_or, replicate}
use Rattle.text.specs.Number.{digits_of}
use Rattle.text.specs.Put.{Put, after, written, put}
use Rattle.text.proofs.Tight.{unique, ShutsOut, shut_out}
use Rattle.words.specs.declared.scale.Scale.{Scale}
use Rattle.words.specs.declared.scale.Scale.TheVariants.{Nanoseconds}
use Rattle.words.specs.Scale.{scale_word}
use Rattle.bill.specs.declared.section.Section.{Section}
use Rattle.bill.specs.declared.section.Section.TheVariants.{Cores, Processes}
use Rattle.bill.specs.declared.verdict.Verdict.{Verdict}
use Rattle.bill.specs.Text.{figures_text, title}
use Rattle.bill.specs.Scale.{scale_number, scale_text}
use Rattle.bill.specs.Verdict.{accepted_text, refused_text, verdict_text}

-- ---- `scale_number`

pub scale_number_unique : (s : Scale) (x y : ℕ) → x ≡ scale_number s → y ≡ scale_number s → x ≡ y
scale_number_unique = unique scale_number

pub scale_number_not_from_zero : ShutsOut scale_number (λ s. scale_number s - 1)
unfolding scale_number
scale_number_not_from_zero = shut_out (eqb 2) Nanoseconds refl refl

-- the longest first
pub scale_number_not_turned : ShutsOut scale_number (λ s. 6 - scale_number s)
unfolding scale_number
scale_number_not_turned = shut_out (eqb 2) Nanoseconds refl refl

-- ---- what puts a text, for any text: `put_title`, `put_figure`, `put_verdict`

module _ {A : Type 0} (text : A → List ℕ) where
  pub text_unique : (out : List ℕ) (at : ℕ) (a : A) (x y : Put) → x ≡ put out at (text a) → y ≡ put out at (text a) → x ≡ y
  text_unique out at = unique (λ a. put out at (text a))

  pub text_length_unique : (a : A) (x y : ℕ) → x ≡ length (text a) → y ≡ length (text a) → x ≡ y
  text_length_unique = unique (λ a. length (text a))

-- a contract over an output, an index and what is put
abbrev puts : {A : Type 0} → (A → List ℕ) → (List ℕ × ℕ × A) → Put
puts text (out, at, a) = put out at (text a)

-- a byte of what is put
abbrev is : ℕ → ℕ → Put → Bool
is i b p = eqb (get_or p.output i 0) b

-- ---- `title_length`, `put_title`

-- without the blank behind it
pub title_not_bare : ShutsOut (λ s. length (title s)) (λ s. length (title s) - 1)
title_not_bare = shut_out (eqb 6) Cores refl refl

pub title_not_of_one_length : ShutsOut (λ s. length (title s)) (λ s. 6)
title_not_of_one_length = shut_out (eqb 10) Processes refl refl

pub title_not_the_other : ShutsOut (puts title) (puts (λ s. title Cores))
unfolding put written
title_not_the_other = shut_out (is 0 112) (replicate 10 0, 0, Processes) refl refl

-- begins one that does not fit
pub title_not_begun : ShutsOut {A = List ℕ × ℕ × Section} (puts title) (λ (out, at, s). after at (written out at (title s)))
unfolding put written
title_not_begun = shut_out (is 0 0) (replicate 5 0, 0, Cores) refl refl

-- ---- `put_figure`

abbrev figure : ℕ → List ℕ
figure n = figures_text (n ∷ [])

pub figure_not_joined : ShutsOut (puts figure) (puts digits_of)
unfolding put written figures_text digits_of
figure_not_joined = shut_out (is 0 32) (replicate 2 0, 0, 7) refl refl

-- begins one that does not fit
pub figure_not_begun : ShutsOut {A = List ℕ × ℕ × ℕ} (puts figure) (λ (out, at, n). after at (written out at (figure n)))
unfolding put written figures_text digits_of
figure_not_begun = shut_out (is 0 0) (replicate 1 0, 0, 7) refl refl

-- ---- `verdict_length`, `put_verdict`

abbrev refused : Verdict
refused = record { number = 13; line = 7; scale = 2; span = 0 }

pub verdict_length_not_of_0 : ShutsOut (λ v. length (verdict_text v)) (λ v. length (accepted_text v.scale v.span))
unfolding verdict_text accepted_text refused_text scale_text scale_word digits_of
verdict_length_not_of_0 = shut_out (eqb 18) refused refl refl

-- without its end
pub verdict_length_not_open : ShutsOut (λ v. length (verdict_text v)) (λ v. length (verdict_text v) - 1)
unfolding verdict_text refused_text digits_of
verdict_length_not_open = shut_out (eqb 18) refused refl refl

pub verdict_not_accepted : ShutsOut (puts verdict_text) (puts (λ v. accepted_text v.scale v.span))
unfolding put written verdict_text accepted_text refused_text scale_text scale_word digits_of
verdict_not_accepted = shut_out (is 8 49) (replicate 40 0, 0, refused) refl refl

-- begins one that does not fit
pub verdict_not_begun : ShutsOut {A = List ℕ × ℕ × Verdict} (puts verdict_text) (λ (out, at, v). after at (written out at (verdict_text v)))
unfolding put written verdict_text refused_text digits_of
verdict_not_begun = shut_out (is 0 0) (replicate 17 0, 0, refused) refl refl
