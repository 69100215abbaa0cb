-- What an event that is taken does to its core: it is the core's first event, or it takes the core from idle, or it gives it back or keeps it as the
-- instance that holds it.
use Rattle.std.proofs.Common.{Some}
use mathlib.Core.Path.{◌≡◌, refl, ap, ◌∙◌}
use mathlib.Core.Bool.{Bool, true, false}
use mathlib.Core.List.{List, ◌∷◌}
use Rattle.text.specs.Bytes.{same_bytes}
use Rattle.text.specs.Lists.{any}
use Rattle.rules.specs.Words.{core}
use Rattle.rules.specs.Charts.{is_process}
use Rattle.rules.specs.Event.{Event, instance_of}
use Rattle.rules.specs.Core.{Core, unknown, idle, held, takes, gives, keeps, becomes, on_core, core_class, core_at, Free}
use Rattle.rules.specs.Core.{free_unknown, free_idle, Own, own_held, own_first, takes_core, gives_core, keeps_core}
use Rattle.rules.specs.History.{names, kind_of}
use Rattle.rules.specs.Verdict.{Accepted}
use Rattle.rules.proofs.Answers.{Passed}
use Rattle.rules.proofs.Changes.{core_own}
use Rattle.rules.proofs.CoreWords.{on_process, Sort, taker, giver, keeper, sort}
use Rattle.rules.proofs.CoreRuns.{served_free, served_own}
use Rattle.rules.proofs.Tracked.{named_kind, source_is}
use Rattle.promises.proofs.Listed.{name_kind}
use Rattle.promises.proofs.CoreNames.{core_known, idle_core, held_core}

-- with whether the core's name is there, and what the core was and is
pub data Turn (h : List Event) (e : Event) : Type 0 where
  first : any (same_bytes e.source) (names h) ≡ false → core_at e.source h ≡ unknown → Turn h e
  took : any (same_bytes e.source) (names h) ≡ true → core_class e.kind e.word ≡ takes_core → core_at e.source h ≡ idle →
      core_at e.source (e ∷ h) ≡ held (instance_of e) → Turn h e
  gave : any (same_bytes e.source) (names h) ≡ true → core_class e.kind e.word ≡ gives_core → core_at e.source h ≡ held (instance_of e) →
      core_at e.source (e ∷ h) ≡ idle → Turn h e
  kept : any (same_bytes e.source) (names h) ≡ true → core_class e.kind e.word ≡ keeps_core → core_at e.source h ≡ held (instance_of e) →
      core_at e.source (e ∷ h) ≡ held (instance_of e) → Turn h e

module _ (h : List Event) (a : Accepted h) (e : Event) (f : Passed h e) (o : on_core e ≡ true) where
  -- a source that is unknown as a core is no name yet
  unnamed : core_at e.source h ≡ unknown → (b : Bool) → any (same_bytes e.source) (names h) ≡ b → b ≡ false
  unnamed q false t = refl
  unnamed q true t =
      let k = name_kind h e.source t in
      absurd (core_known e.source h (k.1 ∙ ap Some (source_is h e f.kinds o k.0 k.1)) q)

  named : kind_of e.source h ≡ Some core → any (same_bytes e.source) (names h) ≡ true
  named k = named_kind h e.source core k _ refl

  becoming : {b : Bool} → gives e.word ≡ b → core_at e.source (e ∷ h) ≡ becomes b (instance_of e)
  becoming g = core_own e h o ∙ ap (λ (b : Bool). becomes b (instance_of e)) g

  pub turn : Turn h e
  unfolding core_class
  turn = by_sort (sort e o)
    where
      process : is_process e.kind ≡ true
      process = on_process e o

      by_taking : takes e.word ≡ true → gives e.word ≡ false → {k : Core} → core_at e.source h ≡ k → Free k → Turn h e
      by_taking t g q free_unknown = first (unnamed q _ refl) q
      by_taking t g q free_idle = took (named (idle_core h a e.source q)) (rw (process, t)) q (becoming g)

      by_giving : takes e.word ≡ false → gives e.word ≡ true → {k : Core} → core_at e.source h ≡ k → Own h (instance_of e) k → Turn h e
      by_giving t g q own_held = gave (named (held_core h a e.source (instance_of e) q)) (rw (process, t, g)) q (becoming g)
      by_giving t g q (own_first n) = first (unnamed q _ refl) q

      by_keeping : takes e.word ≡ false → gives e.word ≡ false → keeps e.word ≡ true → {k : Core} → core_at e.source h ≡ k →
          Own h (instance_of e) k → Turn h e
      by_keeping t g k q own_held = kept (named (held_core h a e.source (instance_of e) q)) (rw (process, t, g, k)) q (becoming g)
      by_keeping t g k q (own_first n) = first (unnamed q _ refl) q

      by_sort : Sort e.word → Turn h e
      by_sort (taker t g) = by_taking t g refl (served_free h e f.core o t)
      by_sort (giver g t) = by_giving t g refl (served_own h e f.core o t)
      by_sort (keeper k t g) = by_keeping t g k refl (served_own h e f.core o t)
