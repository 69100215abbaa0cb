-- A row put among the first n, which are in order: where a search by halves finds its place, unless it finds its name.
use mathlib.Core.Path.{◌≡◌, sym, ◌∙◌}
use mathlib.Core.Bool.{true}
use mathlib.Core.List.{List, ◌∷◌, ◌++◌, map}
use Prim.Native.Nat.{ℕ, ◌+◌, ◌≤◌, ◌<◌}
use native.Mathlib.Omega.{arith}
use lib.ListN.{length, take, drop}
use lib.Seq.{length-take-le, take-take}
use Rattle.std.specs.declared.result.Result.TheVariants.{Ok, Err}
use Rattle.std.specs.List.Sorted.{IsBinarySearchResult}
use Rattle.sorting.specs.Sets.{has, rising}
use Rattle.sorting.proofs.Places.{against, rises, insert_at, fresh_at, taken_at}
use Rattle.paper.specs.Lines.{name_at}
use Rattle.adding.specs.SortCode.{Inserted}

module _ (text places : List ℕ) (n p : ℕ) (room : n < length places) (k : ℕ) where
  long : length (take n places) ≡ n
  long = length-take-le n places (omega arith)

  pub taken : k < length (take n places) → IsBinarySearchResult (against (name_at text) p) (take n places) (Ok k) → has (name_at text p) (map (name_at text) (take n places)) ≡ true
  taken = taken_at (name_at text) p (take n places) k

  module _ (within : k ≤ length (take n places)) where
    pub place_within : k ≤ n
    place_within = omega (arith, long)

    pub inserted : rising (map (name_at text) (take n places)) ≡ true → IsBinarySearchResult (against (name_at text) p) (take n places) (Err k) →
        (l : List ℕ) → take (n + 1) l ≡ take k places ++ p ∷ drop k (take n places) → Inserted text (take n places) p l true
    inserted r w l e =
        let s = insert_at (name_at text) p (take n places) k within (w (rises (name_at text) p (take n places) r)) in
        (fresh_at (name_at text) p (take n places) k r s, rw long (e ∙ sym (s ∙ rw (take-take k n places place_within))))
