-- Bills added are the sum of all: where two bills are each the sum of some (`SumOf`), their sum is that of all of them (`both_sum`, `sum_is`).
use mathlib.Core.Path.{◌≡◌, refl, sym, ap, ap₂, fun_ext, ◌∙◌}
use mathlib.Core.List.{List, [], ◌∷◌, ◌++◌, append-nil, append_assoc}
use Prim.Native.Nat.{ℕ, ◌+◌}
use native.Mathlib.Omega.{arith}
use Rattle.text.proofs.Lists.{sum_append}
use Rattle.bill.specs.declared.section.Section.{Section}
use Rattle.bill.specs.declared.section.Section.TheVariants.{Cores, Processes}
use Rattle.bill.specs.Reading.{Bill, rows_in}
use Rattle.sorting.specs.Order.{Name}
use Rattle.sorting.specs.Sets.{sorted}
use Rattle.sorting.proofs.Sets.{sorted_both}
use Rattle.sorting.proofs.Rising.{rising_sorted, sorted_rising}
use Rattle.shifts.specs.Sound.{names}
use Rattle.shifts.specs.Sum.{plus, figures_of, rows_of, add_rows, missing, add_section, sum}
use Rattle.shifts.specs.Together.{names_in, figures_in, all_rows, span_of, first_scale, sum_of}
use Rattle.shifts.proofs.Rows.{names_add, figures_add}

-- b is the sum of bs as far as adding can tell: the same names in each section, and the same figures of each name
pub record SumOf (bs : List Bill) (b : Bill) : Type 0 where
  pub scale : b.scale ≡ first_scale bs
  pub span : b.sheet.span ≡ span_of bs
  pub listed : (s : Section) → sorted (names (rows_in s b)) ≡ sorted (names_in s bs)
  pub figures : (s : Section) (n : Name) → figures_of (missing s b) (rows_in s b) n ≡ figures_in s bs n

-- ---- figures

plus_none : (u : List ℕ) → plus u [] ≡ u
plus_none [] = refl
plus_none (x ∷ u) = refl

plus_assoc : (u v w : List ℕ) → plus (plus u v) w ≡ plus u (plus v w)
plus_assoc [] v w = refl
plus_assoc (x ∷ u) [] w = refl
plus_assoc (x ∷ u) (y ∷ v) [] = refl
plus_assoc (x ∷ u) (y ∷ v) (z ∷ w) = let e : (x + y) + z ≡ x + (y + z) = omega arith in rw (e, plus_assoc u v w)

-- ---- some bills, and others behind them

module _ (s : Section) where
  pub names_append : (xs ys : List Bill) → names_in s (xs ++ ys) ≡ names_in s xs ++ names_in s ys
  names_append [] ys = refl
  names_append (x ∷ xs) ys = rw (names_append xs ys) (sym (append_assoc (names (rows_in s x)) (names_in s xs) (names_in s ys)))

  figures_append : (xs ys : List Bill) (n : Name) → figures_in s (xs ++ ys) n ≡ plus (figures_in s xs n) (figures_in s ys n)
  figures_append [] ys n = refl
  figures_append (x ∷ xs) ys n =
      rw (figures_append xs ys n) (sym (plus_assoc (figures_of (missing s x) (rows_in s x) n) (figures_in s xs n) (figures_in s ys n)))

-- ---- a section of a sum

module _ (a b : Bill) where
  rows_sum : (s : Section) → rows_in s (sum a b) ≡ add_section s a b
  unfolding sum
  rows_sum Cores = refl
  rows_sum Processes = refl

  missing_sum : (s : Section) → missing s (sum a b) ≡ plus (missing s a) (missing s b)
  unfolding sum
  missing_sum Cores = refl
  missing_sum Processes = refl

  names_sum : (s : Section) → names (rows_in s (sum a b)) ≡ sorted (names (rows_in s a) ++ names (rows_in s b))
  names_sum s = ap names (rows_sum s) ∙ names_add (missing s a) (missing s b) (rows_in s a) (rows_in s b)

  figures_sum : (s : Section) (n : Name) →
      figures_of (missing s (sum a b)) (rows_in s (sum a b)) n ≡ plus (figures_of (missing s a) (rows_in s a) n) (figures_of (missing s b) (rows_in s b) n)
  figures_sum s n = rw (missing_sum s, rows_sum s) (figures_add (missing s a) (missing s b) (rows_in s a) (rows_in s b) n)

-- ---- one bill by itself

pub alone_sum : (b : Bill) → SumOf (b ∷ []) b
alone_sum b = record {
  scale = refl;
  span = omega arith;
  listed = λ s. ap sorted (sym (append-nil (names (rows_in s b))));
  figures = λ s n. sym (plus_none (figures_of (missing s b) (rows_in s b) n));
}

-- ---- the sum of two sums

module _ (x : Bill) (xs ys : List Bill) (a b : Bill) (f : SumOf (x ∷ xs) a) (g : SumOf ys b) where
  spans : a.sheet.span + b.sheet.span ≡ span_of (x ∷ xs ++ ys)
  spans = ap₂ ◌+◌ f.span g.span ∙ sym (sum_append (λ (b : Bill). b.sheet.span) (x ∷ xs) ys)

  all_names : (s : Section) → sorted (names (rows_in s a) ++ names (rows_in s b)) ≡ sorted (names_in s (x ∷ xs ++ ys))
  all_names s =
      sym (sorted_both (names (rows_in s a)) (names (rows_in s b))) ∙ ap₂ (λ (ns ms : List Name). sorted (ns ++ ms)) (f.listed s) (g.listed s)
      ∙ sorted_both (names_in s (x ∷ xs)) (names_in s ys) ∙ ap sorted (sym (names_append s (x ∷ xs) ys))

  all_figures : (s : Section) (n : Name) →
      plus (figures_of (missing s a) (rows_in s a) n) (figures_of (missing s b) (rows_in s b) n) ≡ figures_in s (x ∷ xs ++ ys) n
  all_figures s n = ap₂ plus (f.figures s n) (g.figures s n) ∙ sym (figures_append s (x ∷ xs) ys n)

  all_rows_lem : (s : Section) → add_section s a b ≡ all_rows s (x ∷ xs ++ ys)
  unfolding add_rows all_rows
  all_rows_lem s = ap₂ rows_of (fun_ext (all_figures s)) (all_names s)

  pub both_sum : SumOf (x ∷ xs ++ ys) (sum a b)
  both_sum = record {
    scale = unfold sum in f.scale;
    span = unfold sum in spans;
    listed = λ s. rw (names_sum a b s) (sorted_rising _ (rising_sorted (names (rows_in s a) ++ names (rows_in s b))) ∙ all_names s);
    figures = λ s n. figures_sum a b s n ∙ all_figures s n;
  }

  pub sum_is : sum a b ≡ sum_of (x ∷ xs ++ ys)
  unfolding sum sum_of
  sum_is i = record {
    scale = f.scale i;
    sheet = record { span = spans i; cores = all_rows_lem Cores i; processes = all_rows_lem Processes i };
  }

pub two_sum : (a b : Bill) → sum a b ≡ sum_of (a ∷ b ∷ [])
two_sum a b = sum_is a [] (b ∷ []) a b (alone_sum a) (alone_sum b)
