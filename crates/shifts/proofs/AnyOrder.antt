-- Sheets in any order come to the same together (`any_order`), and so do they added in any order and grouping (`any_way`). 02, No. 12: "order and grouping don't matter".
use Rattle.std.proofs.Common.{Option, None, Some}
use Rattle.std.proofs.Props.{props}
use mathlib.Core.Path.{◌≡◌, refl, sym, ap, ◌∙◌}
use mathlib.Core.Logic.{∥∥₁_elim}
use mathlib.Core.List
use mathlib.Core.List.Perm
use mathlib.Core.List.{List, [], ◌∷◌, ◌++◌, cons≢nil, Perm, Permᴰ}
use Prim.Native.Nat.{ℕ}
use native.Mathlib.Nat.{ℕ_set}
use Rattle.shifts.specs.Sum.{Total, Text, Refusal, add_texts, add_totals, add_all}
use Rattle.shifts.specs.Many.{alone, sum_from}
use Rattle.shifts.specs.Together.{together}
use Rattle.shifts.specs.Grouping.{Grouping, Sheet, Sum, sheets_of, comes_to, bytes_of, from_left}
use Rattle.shifts.proofs.Many.{all_added}
use Rattle.shifts.proofs.Turned.{texts_turned}
use Rattle.shifts.proofs.Groupings.{grouped, left_grouped, sheets_left, all_together}

-- ---- the bytes of sheets added from the left

abbrev left_bytes : List (List ℕ) → Option (List ℕ)
left_bytes [] = None
left_bytes (t ∷ ts) = bytes_of (sum_from t ts)

-- the bytes of a sum, from those of its parts
abbrev add_bytes : Option (List ℕ) → Option (List ℕ) → Option (List ℕ)
add_bytes None p = None
add_bytes (Some t) None = None
add_bytes (Some t) (Some u) = bytes_of (add_texts t u)

bytes_added : (x y : Total) → bytes_of (add_totals x y) ≡ add_bytes (bytes_of x) (bytes_of y)
bytes_added (Refusal n) y = refl
bytes_added (Text t) (Refusal n) = refl
bytes_added (Text t) (Text u) = refl

-- the first sheet added to the sum of all others
first_apart : (t u : List ℕ) (us : List (List ℕ)) → left_bytes (t ∷ u ∷ us) ≡ add_bytes (bytes_of (alone t)) (left_bytes (u ∷ us))
first_apart t u us =
    all_together t u us
    ∙ ap (λ (vs : List (List ℕ)). together (t ∷ vs)) (sym (sheets_left (Sheet u) us))
    ∙ sym (grouped (Sheet t) (from_left (Sheet u) us))
    ∙ bytes_added (alone t) (comes_to (from_left (Sheet u) us))
    ∙ rw (left_grouped u us)

-- ---- in another order

-- a function of sheets that gives these bytes of two or more: one sheet keeps its own, where `together` sorts it
abbrev IsLeft : (List (List ℕ) → Option (List ℕ)) → Type 0
IsLeft f = (t u : List ℕ) (us : List (List ℕ)) → f (t ∷ u ∷ us) ≡ left_bytes (t ∷ u ∷ us)

left_itself : IsLeft left_bytes
left_itself t u us = refl

module _ (f : List (List ℕ) → Option (List ℕ)) (k : IsLeft f) where
  one_more : (t : List ℕ) (ts us : List (List ℕ)) → Permᴰ ts us → left_bytes ts ≡ left_bytes us → f (t ∷ ts) ≡ f (t ∷ us)
  one_more t [] us d e = ap (λ (vs : List (List ℕ)). f (t ∷ vs)) (Perm.nil-eq ∣ d ∣₁)
  one_more t (u ∷ us) [] d e = absurd (cons≢nil (Perm.eq-nil ∣ d ∣₁))
  one_more t (u ∷ us) (v ∷ vs) d e =
      k t u us ∙ first_apart t u us ∙ ap (add_bytes (bytes_of (alone t))) e ∙ sym (first_apart t v vs) ∙ sym (k t v vs)

  two_turned : (t u : List ℕ) (us : List (List ℕ)) → f (t ∷ u ∷ us) ≡ f (u ∷ t ∷ us)
  two_turned t u us =
      k t u us ∙ ap bytes_of (all_added t u us ∙ ap (λ (x : Total). add_all x us) (texts_turned t u) ∙ sym (all_added u t us)) ∙ sym (k u t us)

reordered : (f : List (List ℕ) → Option (List ℕ)) → IsLeft f → {ts us : List (List ℕ)} → Permᴰ ts us → f ts ≡ f us
reordered f k Permᴰ.nil = refl
reordered f k (Permᴰ.cons {a = t} {l₁ = ts} {l₂ = us} e d) = rw (← e) (one_more f k t ts us d (reordered left_bytes left_itself d))
reordered f k (Permᴰ.swap {a = t} {b = u} {l = us} p q) = rw (← p, ← q) (two_turned f k t u us)
reordered f k (Permᴰ.trans d e) = reordered f k d ∙ reordered f k e

same_bytes : (f : List (List ℕ) → Option (List ℕ)) → IsLeft f → {ts us : List (List ℕ)} → Perm ts us → f ts ≡ f us
same_bytes f k {ts} {us} p = ∥∥₁_elim p (hlevel (props, List.is_set ℕ_set)) (reordered f k)

pub any_order : {ts us : List (List ℕ)} → Perm ts us → together ts ≡ together us
any_order = same_bytes together (λ t u us. sym (all_together t u us))

pub left_any_order : (t u : List ℕ) (ts us : List (List ℕ)) → Perm (t ∷ ts) (u ∷ us) → bytes_of (sum_from t ts) ≡ bytes_of (sum_from u us)
left_any_order t u ts us = same_bytes left_bytes left_itself

-- ---- in any order and any grouping

some_sheet : (g : Grouping) → (t : List ℕ) × (ts : List (List ℕ)) × (sheets_of g ≡ t ∷ ts)
some_sheet (Sheet t) = (t, [], refl)
some_sheet (Sum g h) = let w = some_sheet g in (w.0, w.1 ++ sheets_of h, ap (λ (ts : List (List ℕ)). ts ++ sheets_of h) w.2)

two_lists : (t : List ℕ) (ts : List (List ℕ)) (u : List ℕ) (us : List (List ℕ)) → together (t ∷ ts ++ u ∷ us) ≡ left_bytes (t ∷ ts ++ u ∷ us)
two_lists t [] u us = sym (all_together t u us)
two_lists t (v ∷ vs) u us = sym (all_together t v (vs ++ u ∷ us))

as_left : (g : Grouping) → bytes_of (comes_to g) ≡ left_bytes (sheets_of g)
as_left (Sheet t) = refl
as_left (Sum g h) =
    let v = some_sheet g in
    let w = some_sheet h in
    grouped g h ∙ rw (v.2, w.2) (two_lists v.0 v.1 w.0 w.1)

pub any_way : (g h : Grouping) → Perm (sheets_of g) (sheets_of h) → bytes_of (comes_to g) ≡ bytes_of (comes_to h)
any_way g h p = as_left g ∙ same_bytes left_bytes left_itself p ∙ sym (as_left h)
