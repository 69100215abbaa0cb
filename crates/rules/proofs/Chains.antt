-- A rule that asks each event of the latest one like it: it is never broken exactly if the events that are alike are a chain, whichever they are.
use Rattle.std.proofs.Common.{Option, None, Some}
use mathlib.Core.Path.{◌≡◌, refl, sym, subst}
use mathlib.Core.Logic.{◌↔◌}
use mathlib.Core.Bool.{Bool, true, false}
use mathlib.Core.List.{List, [], ◌∷◌}
use Prim.Native.Nat.{ℕ}
use Rattle.rules.specs.Lists.{only, keep, when, or_else, latest}
use Rattle.rules.specs.Event.{Event}
use Rattle.rules.specs.Refusals.{Known, look}
use Rattle.rules.specs.Verdict.{Never}
use Rattle.rules.specs.Lawful.{Chain}
use Rattle.rules.proofs.Tests.{clash}

-- `value` is what an event leaves for the next one like it, and `follows` what is asked of that one
module _ (value : Event → ℕ) (follows : ℕ → Event → Type 0) where
  abbrev pub After : Option ℕ → Event → Type 0
  After None e = Unit {0}
  After (Some c) e = follows c e

  abbrev pub Linked : List Event → Type 0
  Linked = Chain (λ d e. follows (value d) e)

  newest : List Event → Option ℕ
  newest [] = None
  newest (d ∷ ds) = Some (value d)

  linked_more : (e : Event) (ds : List Event) → Linked (e ∷ ds) ↔ (After (newest ds) e × Linked ds)
  unfolding newest
  linked_more e [] = (λ l. (tt, tt), λ p. tt)
  linked_more e (d ∷ ds) = (λ l. l, λ p. p)

  -- the latest of those that pass a test
  latest_newest : (f : Event → Bool) (h : List Event) → latest (λ d. when (f d) (value d)) h ≡ newest (only f h)
  unfolding newest
  latest_newest f [] = refl
  latest_newest f (d ∷ h) = by_test (f d) (latest_newest f h)
    where
      by_test : (b : Bool) → latest (λ c. when (f c) (value c)) h ≡ newest (only f h) →
          or_else (when b (value d)) (latest (λ c. when (f c) (value c)) h) ≡ newest (keep b d (only f h))
      by_test true q = refl
      by_test false q = q

  -- `like k` picks the events that are alike by k, and what is asked of an event is asked of the latest like it by its own k
  module _ {K : Type 0} (like : K → Event → Bool) (own : Event → K) where
    abbrev pub Asked : List Event → Event → Type 0
    Asked h e = like (own e) e ≡ true → After (latest (λ d. when (like (own e) d) (value d)) h) e

    module _ (own-only : (k : K) (e : Event) → like k e ≡ true → k ≡ own e) (broken : Known → Event → Bool)
        (asks : (h : List Event) (e : Event) → (broken (look h e) e ≡ false) ↔ Asked h e) where
      never_linked : (h : List Event) → Never broken h → (k : K) → Linked (only (like k) h)
      never_linked [] c k = tt
      never_linked (e ∷ h) c k = by_test (like k e) refl (never_linked h c.1 k)
        where
          by_test : (b : Bool) → like k e ≡ b → Linked (only (like k) h) → Linked (keep b e (only (like k) h))
          by_test false q l = l
          by_test true q l =
              let z = own-only k e q in
              let a = (asks h e).0 c.0 (subst (λ (j : K). like j e ≡ true) z q) in
              (linked_more e (only (like k) h)).1 (
                subst (λ (o : Option ℕ). After o e) (latest_newest (like k) h)
                    (subst (λ (j : K). After (latest (λ d. when (like j d) (value d)) h) e) (sym z) a),
                l,
              )

      linked_never : (h : List Event) → ((k : K) → Linked (only (like k) h)) → Never broken h
      linked_never [] f = tt
      linked_never (e ∷ h) f = ((asks h e).1 (λ q. now (like (own e) e) q (f (own e))), linked_never h (λ k. earlier (like k e) k (f k)))
        where
          now : (b : Bool) → b ≡ true → Linked (keep b e (only (like (own e)) h)) → After (latest (λ d. when (like (own e) d) (value d)) h) e
          now false q l = absurd (clash false q refl)
          now true q l = rw (latest_newest (like (own e)) h) ((linked_more e (only (like (own e)) h)).0 l).0

          earlier : (b : Bool) (k : K) → Linked (keep b e (only (like k) h)) → Linked (only (like k) h)
          earlier false k l = l
          earlier true k l = ((linked_more e (only (like k) h)).0 l).1

      pub linked_exactly : (h : List Event) → Never broken h ↔ ((k : K) → Linked (only (like k) h))
      linked_exactly h = (never_linked h, linked_never h)
