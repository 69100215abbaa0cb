-- What reading a text told: that it may not be added, which is 21, or its sheet by the places of its rows.
use Rattle.std.proofs.Common.{None, Some, Option}
use mathlib.Core.Path.{◌≡◌, sym, subst, ap, ◌∙◌}
use mathlib.Core.List.{List}
use mathlib.Core.Logic.{◌⊎◌, inl, inr}
use Prim.Native.Nat.{ℕ}
use Rattle.shifts.specs.Sound.{sound_sheet}
use Rattle.shifts.proofs.Refusals.{unsound_exactly}
use Rattle.std.specs.Option.{ok_or}
use Rattle.std.specs.declared.result.Result.{Result}
use Rattle.std.specs.declared.result.Result.TheVariants.{Ok, Err}
use Rattle.adding.specs.declared.refusal.Refusal.{Refusal as Why}
use Rattle.adding.specs.declared.refusal.Refusal.TheVariants.{Malformed}
use Rattle.adding.specs.declared.sheet.Sheet.{Sheet}
use Rattle.adding.specs.Adding.{summed, into_output, add_into}
use Rattle.adding.specs.SheetCode.{WasRead, ReadAs}

-- a sheet read is told, and a text that is none is 21
module _ (text : List ℕ) (r : Option Sheet) (k : ReadAs text r) {q : Result Sheet Why} (e : q ≡ ok_or r Malformed) where
  pub not_read : (w : Why) → q ≡ Err w → (w ≡ Malformed) × (sound_sheet text ≡ None)
  not_read w d = by r k (sym e ∙ d)
    where
      by : (r : Option Sheet) → ReadAs text r → ok_or r Malformed ≡ Err w → (w ≡ Malformed) × (sound_sheet text ≡ None)
      by (Some x) k d = absurd (cc)
      by None k d = (cc, k)

  pub booked : (x : Sheet) → q ≡ Ok x → (x.text.now ≡ text) × WasRead x
  booked x d = by r k (sym e ∙ d)
    where
      by : (r : Option Sheet) → ReadAs text r → ok_or r Malformed ≡ Ok x → (x.text.now ≡ text) × WasRead x
      by (Some z) k d = let s : z ≡ x = cc in subst (λ x. (x.text.now ≡ text) × WasRead x) s k
      by None k d = absurd (cc)

-- ---- 21 of either

unsound_refused : (s t out : List ℕ) → (sound_sheet s ≡ None) ⊎ (sound_sheet t ≡ None) → summed (Err 21) out ≡ add_into s t out
unfolding add_into
unsound_refused s t out h = ap (λ r. into_output r out) (sym ((unsound_exactly s t).1 h))

pub first_unsound : (s t out : List ℕ) → sound_sheet s ≡ None → summed (Err 21) out ≡ add_into s t out
first_unsound s t out h = unsound_refused s t out (inl h)

pub second_unsound : (s t out : List ℕ) → sound_sheet t ≡ None → summed (Err 21) out ≡ add_into s t out
second_unsound s t out h = unsound_refused s t out (inr h)
