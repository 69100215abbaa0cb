-- The figures of tables that show a history are the history's own: a core's ticks, and a process's charge. No sum reaches the width of an entry.
use Rattle.std.proofs.Common.{Some}
use mathlib.Core.Path.{◌≡◌, refl, sym, ap, ◌∙◌}
use mathlib.Core.Bool.{Bool, true, false, not, ◌&&◌, cond}
use mathlib.Core.List.{List, ◌∷◌}
use Prim.Native.Nat.{ℕ, suc, ◌+◌, ◌*◌, ◌%◌, ◌^◌, ◌≤◌}
use native.Mathlib.Nat.{mod-eq_of_lt}
use native.Mathlib.Omega.{arith}
use lib.Dec.{eqb, ltb}
use lib.ListN.{length}
use borrow.Author.Tests.{eqb-false, eq-eqb, ne_eqb, le-ltb}
use Rattle.text.specs.Bytes.{same_bytes}
use Rattle.text.specs.Sizes.{core_limit}
use Rattle.text.specs.Lists.{any, sum_over}
use Rattle.text.proofs.Words.{same_eq, same_refl}
use Rattle.rules.specs.Lists.{one_if}
use Rattle.rules.specs.Words.{core}
use Rattle.rules.specs.Charts.{is_process}
use Rattle.rules.specs.Event.{Event, Instance}
use Rattle.rules.specs.Core.{Core, unknown, idle, held, core_at}
use Rattle.rules.specs.History.{names, kind_of}
use Rattle.rules.specs.Verdict.{Accepted}
use Rattle.rules.specs.Sheet.{is_held, is_idle, is_held_by, held_ticks, idle_ticks, unknown_ticks, charge, span}
use Rattle.rules.proofs.Tests.{clash}
use Rattle.rules.proofs.Tracked.{named_kind}
use Rattle.rules.proofs.Totals.{core_total}
use Rattle.rules.proofs.Charges.{charge_at_most}
use Rattle.tables.specs.Entry.{idle_core, held_from, held_by, kind_at, standing_at, held_at, unknown_at}
use Rattle.judge.specs.Feed.{Tables}
use Rattle.sheet.specs.Figure.{open_at, held_in, idle_in, holds_core, charge_to, charge_in}
use Rattle.promises.specs.Places.{row_of}
use Rattle.promises.specs.Shown.{Shown, CoreTicks, core_standing, open_ticks, open_charge}
use Rattle.promises.proofs.Choices.{eqb_turned}
use Rattle.promises.proofs.Places.{one_row, by_rows}
use Rattle.promises.proofs.Listed.{AllMet, names_distinct}
use Rattle.promises.proofs.CoreNames.{core_unknown, holder_named}
use Rattle.promises.proofs.Holders.{standings_alike}
use Rattle.promises.proofs.Bounds.{span_most}

-- ---- what the state of a core says in the tables

idle_standing : (h : List Event) (c : Core) → one_if (eqb (core_standing h c) idle_core) ≡ is_idle c
idle_standing h unknown = refl
idle_standing h idle = refl
idle_standing h (held x) = rw (ne_eqb (held_by (row_of h x.name)) idle_core (λ q. omega arith))

held_standing : (h : List Event) (c : Core) → one_if (not (ltb (core_standing h c) held_from)) ≡ is_held c
held_standing h unknown = refl
held_standing h idle = refl
held_standing h (held x) = rw (le-ltb (held_by (row_of h x.name)) held_from (omega arith))

module _ (h : List Event) (a : Accepted h) (t : Tables) (s : Shown h t) (p : List ℕ) (listed : any (same_bytes p) (names h) ≡ true) where
  -- two states name one row exactly if it is of one name
  own_row : (n : List ℕ) → any (same_bytes n) (names h) ≡ true → eqb (held_by (row_of h n)) (held_by (row_of h p)) ≡ same_bytes p n
  own_row n q =
      standings_alike (row_of h n) (row_of h p) ∙ eqb_turned (row_of h n) (row_of h p) ∙ one_row same_bytes same_eq same_refl p n (names h) listed q

  -- the state of a core names the row of its holder's name
  holder_standing : (c : Core) → ((x : Instance) → c ≡ held x → any (same_bytes x.name) (names h) ≡ true) →
      one_if (eqb (core_standing h c) (held_by (row_of h p))) ≡ is_held_by p c
  holder_standing unknown l = rw (ne_eqb 0 (held_by (row_of h p)) (λ q. omega arith))
  holder_standing idle l = rw (ne_eqb idle_core (held_by (row_of h p)) (λ q. omega arith))
  holder_standing (held x) l = rw (own_row x.name (l x refl))

  holds_shown : (c : List ℕ) → any (same_bytes c) (names h) ≡ true → one_if (holds_core t.nums (row_of h p) (row_of h c)) ≡ is_held_by p (core_at c h)
  unfolding holds_core
  holds_shown c q = by_kind (eqb (kind_at t.nums (row_of h c)) core) refl
    where
      m : ℕ
      m = standing_at t.nums (row_of h c)

      by_kind : (b : Bool) → eqb (kind_at t.nums (row_of h c)) core ≡ b → one_if (b && eqb m (held_by (row_of h p))) ≡ is_held_by p (core_at c h)
      by_kind true k = rw ((s.each_name c q).standing.of_core k) (holder_standing (core_at c h) (holder_named h a c))
      by_kind false k =
          sym (ap (is_held_by p) (core_unknown c h a (λ z.
          eqb-false _ core k (let y : kind_at t.nums (row_of h c) ≡ core = cc (z, (s.each_name c q).kind) in y))))

-- ---- the figures

module _ (h : List Event) (a : Accepted h) (met : AllMet h) (t : Tables) (s : Shown h t) where
  -- what is stored, with the open ticks where the test says so: no such sum reaches the width of an entry
  sum_shown : (b : Bool) (i v w u : ℕ) → one_if b ≡ i → v + i * w ≡ u → u ≤ core_limit * span h → cond b ((v + w) % 2 ^ 64) v ≡ u
  sum_shown true i v w u p e l =
      let z = rw (← p) at e in
      let m = span_most h met in
      mod-eq_of_lt (omega arith) ∙ omega arith
  sum_shown false i v w u p e l = let z = rw (← p) at e in omega arith

  module _ (c : List ℕ) (k : kind_of c h ≡ Some core) where
    listed : any (same_bytes c) (names h) ≡ true
    listed = named_kind h c core k _ refl

    stored : CoreTicks h t.ticks (row_of h c) c
    stored = (s.each_ticks c listed).of_core k

    standing : standing_at t.nums (row_of h c) ≡ core_standing h (core_at c h)
    standing = let r = s.each_name c listed in r.standing.of_core (eq-eqb _ core (let z : kind_at t.nums (row_of h c) ≡ core = cc (k, r.kind) in z))

    pub held_shown : held_in t.nums t.ticks (row_of h c) ≡ held_ticks c h
    unfolding held_in open_at
    held_shown =
        rw standing
        (turned (ltb (core_standing h (core_at c h)) held_from) _ _
        ∙ sum_shown (not (ltb (core_standing h (core_at c h)) held_from)) _ _ _ _ (held_standing h (core_at c h)) stored.held_ticks_shown (omega (arith, core_total h a c)))
      where
        turned : (b : Bool) (x y : ℕ) → cond b x y ≡ cond (not b) y x
        turned true x y = refl
        turned false x y = refl

    pub idle_shown : idle_in t.nums t.ticks (row_of h c) ≡ idle_ticks c h
    unfolding idle_in open_at
    idle_shown =
        rw standing
        (sum_shown (eqb (core_standing h (core_at c h)) idle_core) _ _ _ _ (idle_standing h (core_at c h)) stored.idle_ticks_shown (omega (arith, core_total h a c)))

    pub unknown_shown : unknown_at t.ticks (row_of h c) ≡ unknown_ticks c h
    unknown_shown = stored.unknown_ticks_shown

  pub charge_shown : (p : List ℕ) (k : ℕ) → kind_of p h ≡ Some k → is_process k ≡ true → charge_in t.nums t.ticks (row_of h p) ≡ charge p h
  unfolding charge_in charge_to open_at is_process
  charge_shown p k q r =
      rw s.singles.names_counted
      (by_rows same_bytes same_eq same_refl (names h) (names_distinct h) P (λ l. omega arith) step (omega (arith, stored_charge, charge_at_most h a p))
      ∙ stored_charge)
    where
      listed_p : any (same_bytes p) (names h) ≡ true
      listed_p = named_kind h p k q _ refl

      stored_charge : held_at t.ticks (row_of h p) + open_charge h t.ticks p ≡ charge p h
      stored_charge = ((s.each_ticks p listed_p).of_other (λ z. let y : k ≡ core = cc in clash _ r (rw y))).charge_ticks

      F : List ℕ → ℕ
      F c = is_held_by p (core_at c h) * open_ticks h t.ticks c

      up_to : ℕ → ℕ
      up_to = charge_to t.nums t.ticks (row_of h p)

      -- the rows from j on, with the names cs, are still to be added; the bound on the whole sum is a bound on each before it
      P : ℕ → List (List ℕ) → Type 0
      P j cs = up_to j + sum_over F cs ≤ core_limit * span h → up_to (length (names h)) ≡ up_to j + sum_over F cs

      step : (c : List ℕ) → any (same_bytes c) (names h) ≡ true → (cs : List (List ℕ)) → P (suc (row_of h c)) cs → P (row_of h c) (c ∷ cs)
      step c l cs i b =
          let one : up_to (suc (row_of h c)) ≡ up_to (row_of h c) + F c =
          sum_shown (holds_core t.nums (row_of h p) (row_of h c)) _ _ _ _ (holds_shown h a t s p listed_p c l) refl (omega arith) in
          i (omega arith) ∙ omega arith
