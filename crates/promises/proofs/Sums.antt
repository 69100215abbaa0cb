-- After an event line is taken, the ticks of each name are what the longer history says of it.
use mathlib.Core.Path.{◌≡◌}
use mathlib.Core.Bool.{true}
use mathlib.Core.List.{List, ◌∷◌}
use Prim.Native.Nat.{ℕ}
use Rattle.text.specs.Bytes.{same_bytes}
use Rattle.text.specs.Lists.{any}
use Rattle.rules.specs.Event.{Event}
use Rattle.rules.specs.History.{names}
use Rattle.rules.specs.Verdict.{Accepted}
use Rattle.rules.proofs.Answers.{Passed}
use Rattle.rules.proofs.Meets.{Met}
use Rattle.store.specs.Store.{taken_tables}
use Rattle.judge.specs.Feed.{Tables}
use Rattle.promises.specs.Places.{row_of}
use Rattle.promises.specs.Shown.{Shown, TicksShown}
use Rattle.promises.specs.Taken.{looked_up_in}
use Rattle.promises.proofs.CoreSums.{core_next}
use Rattle.promises.proofs.ChargeSums.{charge_next}

module _ (h : List Event) (a : Accepted h) (t : Tables) (s : Shown h t) (e : Event) (f : Passed h e) (m : Met e) (state : ℕ) where
  pub each_ticks_next : (n : List ℕ) → any (same_bytes n) (names (e ∷ h)) ≡ true →
      TicksShown (e ∷ h) (taken_tables t (looked_up_in h t e) state e).ticks (row_of (e ∷ h) n) n
  each_ticks_next n q = record { of_core = core_next h a t s e f m n q; of_other = charge_next h a t s e f n m q }
