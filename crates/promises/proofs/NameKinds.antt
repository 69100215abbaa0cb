-- The kind of a name in its row after a line that is taken: what the longer history says of it. So it is the event's kind in the row of its target, and a
-- core's in that of its source.
use Rattle.std.proofs.Common.{Some}
use mathlib.Core.Path.{◌≡◌, sym, ap, subst, ◌∙◌}
use mathlib.Core.Bool.{true}
use mathlib.Core.List.{List, ◌∷◌}
use Prim.Native.Nat.{ℕ}
use Rattle.text.specs.Bytes.{same_bytes}
use Rattle.text.specs.Lists.{any}
use Rattle.text.proofs.Words.{same_eq}
use Rattle.rules.specs.Words.{core}
use Rattle.rules.specs.Event.{Event}
use Rattle.rules.specs.Core.{on_core, on}
use Rattle.rules.specs.History.{is_tracked, names, kind_of}
use Rattle.rules.proofs.Tests.{both}
use Rattle.rules.proofs.Answers.{Passed}
use Rattle.rules.proofs.Tracked.{target_kind, two_names, source_kind, kind_stays}
use Rattle.tables.specs.Entry.{kind_at}
use Rattle.store.specs.Store.{taken_tables}
use Rattle.judge.specs.Feed.{Tables}
use Rattle.promises.specs.Places.{row_of}
use Rattle.promises.specs.Shown.{Shown}
use Rattle.promises.specs.Taken.{looked_up_in}
use Rattle.promises.proofs.Origins.{NameFrom, name_from}
use Rattle.promises.proofs.Origins.NameFrom.{before, as_source, as_target}
use Rattle.promises.proofs.Grown.{row_stays}
use Rattle.promises.proofs.Rows.{or_old, kind_at_lem}
use Rattle.promises.proofs.Ages.{old_same, new_source_lem, new_target_lem}

module _ (h : List Event) (t : Tables) (s : Shown h t) (e : Event) (f : Passed h e) (state : ℕ)
    (n : List ℕ) (q : any (same_bytes n) (names (e ∷ h)) ≡ true) where
  abbrev after : Tables
  after = taken_tables t (looked_up_in h t e) state e

  abbrev row : ℕ
  row = row_of (e ∷ h) n

  pub kind_next : kind_of n (e ∷ h) ≡ Some (kind_at after.nums row)
  kind_next = by_origin (name_from h e n q) ∙ ap Some (sym (kind_at_lem h t s e f state n q))
    where
      by_origin : NameFrom h e n → kind_of n (e ∷ h) ≡ Some (or_old h e n e.kind core (kind_at t.nums row))
      by_origin (before p) =
          kind_stays h e f.kinds n _ (s.each_name n p).kind
          ∙ ap Some (ap (kind_at t.nums) (sym (row_stays h e f.kinds n p)) ∙ sym (old_same h e n p e.kind core _))
      by_origin (as_source u p) =
          let c = (both (on_core e) _ u).0 in
          subst (λ (m : List ℕ). kind_of m (e ∷ h) ≡ Some core) (sym p) (source_kind h e f.kinds c) ∙ ap Some (sym (new_source_lem h e n (two_names h e f.kinds c) u p e.kind core _))
      by_origin (as_target u p) =
          subst (λ (m : List ℕ). kind_of m (e ∷ h) ≡ Some e.kind) (sym p) (target_kind h e (both (is_tracked e.kind) _ u).0) ∙ ap Some (sym (new_target_lem h e n u p e.kind core _))

  pub kind_old : any (same_bytes n) (names h) ≡ true → kind_at after.nums row ≡ kind_at t.nums (row_of h n)
  kind_old p = kind_at_lem h t s e f state n q ∙ old_same h e n p e.kind core _ ∙ ap (kind_at t.nums) (row_stays h e f.kinds n p)

  pub target_kinded : is_tracked e.kind ≡ true → same_bytes n e.target ≡ true → kind_at after.nums row ≡ e.kind
  target_kinded i x =
      let z : Some (kind_at after.nums row) ≡ Some e.kind = sym kind_next ∙ subst (λ (m : List ℕ). kind_of m (e ∷ h) ≡ Some e.kind) (sym (same_eq n e.target x)) (target_kind h e i) in
      cc

  pub source_kinded : on n e ≡ true → kind_at after.nums row ≡ core
  source_kinded x =
      let p = both (on_core e) (same_bytes n e.source) x in
      let z : Some (kind_at after.nums row) ≡ Some core = sym kind_next ∙ subst (λ (m : List ℕ). kind_of m (e ∷ h) ≡ Some core) (sym (same_eq n e.source p.1)) (source_kind h e f.kinds p.0) in
      cc
