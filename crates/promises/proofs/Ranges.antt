-- Tables that show a history of lines that were read are in range: where the line level's entries are, answer 16 does not come.
use Rattle.std.proofs.Common.{Some}
use mathlib.Core.Path.{◌≡◌, refl, ap, subst, ◌∙◌}
use mathlib.Core.Bool.{Bool, true, false, not, ◌||◌, cond}
use mathlib.Core.List.{List}
use Prim.Native.Nat.{ℕ, zero, suc, ◌-◌, ◌≤◌, ◌<◌}
use native.Mathlib.Omega.{arith}
use lib.Dec.{eqb}
use borrow.Author.Tests.{eqb-true, eqb-false, eq-eqb, ne_eqb, lt-ltb, le-ltb}
use Rattle.text.specs.Bytes.{same_bytes}
use Rattle.text.specs.Sizes.{max_time}
use Rattle.text.specs.Lists.{any}
use Rattle.text.proofs.Names.{name_length}
use Rattle.rules.specs.Words.{core, semaphore}
use Rattle.rules.specs.Limits.{verdict_line_limit, line_limit, last_refusal}
use Rattle.rules.specs.Chart.{is_state_of}
use Rattle.rules.specs.Charts.{chart_of}
use Rattle.rules.specs.Event.{Event, Instance, same_instance, words_of}
use Rattle.rules.specs.Core.{Core, unknown, idle, held, core_at}
use Rattle.rules.specs.History.{names, instances, kind_of}
use Rattle.rules.specs.Refusals.{unseen}
use Rattle.rules.specs.Verdict.{Accepted}
use Rattle.rules.specs.Sheet.{span}
use Rattle.rules.proofs.Room.{all_fit, entries_now}
use Rattle.rules.proofs.Entries.{entry_listed}
use Rattle.rules.proofs.Seen.{first_seen}
use Rattle.rules.proofs.Tracked.{named_kind}
use Rattle.rules.proofs.Totals.{core_total}
use Rattle.rules.proofs.Charges.{charge_at_most}
use Rattle.rules.proofs.Alone.{alone}
use Rattle.steps.specs.Rows.{opened}
use Rattle.tables.specs.Entry.{held_from, held_by, verdict_number, verdict_line, line_count, scale_entry, creator_entry, date_entry, name_count}
use Rattle.tables.specs.Entry.{kind_at, standing_at, owner_at, state_at, held_at, idle_at, unknown_at, since_at, last_time}
use Rattle.ranges.specs.Range.{holder_ok, core_ok, standing_ok, max_sum}
use Rattle.ranges.proofs.Valid.{NameRow, InstanceRow, Valid}
use Rattle.judge.specs.Feed.{Tables}
use Rattle.promises.specs.Places.{row_of}
use Rattle.promises.specs.Shown.{Shown, NameShown, InstanceShown, core_standing, the_semaphore}
use Rattle.promises.proofs.Places.{place_bound}
use Rattle.promises.proofs.Listed.{AllMet, name_kind, name_at_lem, instance_kind, named_well}
use Rattle.promises.proofs.CoreNames.{core_known, holder_kind}
use Rattle.promises.proofs.Told.{all_worded}
use Rattle.promises.proofs.Bounds.{stored_state, started_one, first_last, last_most, span_most}

-- ---- names

module _ (h : List Event) (a : Accepted h) (met : AllMet h) (t : Tables) (s : Shown h t) where
  -- the row of a name that has a kind is there and has that kind
  name_of : (n : List ℕ) (k : ℕ) → kind_of n h ≡ Some k → (row_of h n < name_count t.nums) × (kind_at t.nums (row_of h n) ≡ k)
  name_of n k q =
      let listed = named_kind h n k q _ refl in
      (omega (arith, s.singles.names_counted, place_bound (same_bytes n) (names h) listed), let r = (s.each_name n listed).kind in cc)

  core_ok_lem : (n : List ℕ) (c : Core) → core_at n h ≡ c → (c ≡ unknown → ⊥) → core_ok t.nums (core_standing h c) ≡ true
  unfolding core_ok holder_ok
  core_ok_lem n unknown p k = absurd (k refl)
  core_ok_lem n idle p k = refl
  core_ok_lem n (held x) p k =
      let o = name_of x.name x.kind (holder_kind h a n x p) in
      let row : held_by (row_of h x.name) - held_from ≡ row_of h x.name = omega arith in
      rw (le-ltb (held_by (row_of h x.name)) held_from (omega arith), row, lt-ltb _ _ o.0, o.1, ((alone h a).holder_occupies n x p).0)

  standing_ok_lem : (n : List ℕ) → any (same_bytes n) (names h) ≡ true →
      standing_ok t.nums (kind_at t.nums (row_of h n)) (standing_at t.nums (row_of h n)) ≡ true
  unfolding standing_ok
  standing_ok_lem n q = by_kind (eqb k core) refl (eqb k semaphore) refl
    where
      r : NameShown h t.names t.nums (row_of h n) n
      r = s.each_name n q

      k : ℕ
      k = kind_at t.nums (row_of h n)

      m : ℕ
      m = standing_at t.nums (row_of h n)

      by_kind : (b : Bool) → eqb k core ≡ b → (d : Bool) → eqb k semaphore ≡ d →
          cond b (core_ok t.nums m) (cond d (eqb m 0 || is_state_of (chart_of semaphore) m) (eqb m 0)) ≡ true
      by_kind true p d u = rw (r.standing.of_core p) (core_ok_lem n (core_at n h) refl (core_known n h (r.kind ∙ ap Some (eqb-true k core p))))
      by_kind false p true u = stored_state (chart_of semaphore) (words_of (the_semaphore n) h) m (r.standing.of_semaphore u)
      by_kind false p false u = eq-eqb m 0 (r.standing.of_other p u)

  -- ---- the ticks of a name

  record SumsMost (i : ℕ) : Type 0 where
    held_most : held_at t.ticks i ≤ max_sum
    idle_most : idle_at t.ticks i ≤ max_sum
    unknown_most : unknown_at t.ticks i ≤ max_sum
    since_most : since_at t.ticks i ≤ last_time t.ticks

  sums_most : (n : List ℕ) → any (same_bytes n) (names h) ≡ true → SumsMost (row_of h n)
  sums_most n q = by_kind (eqb (kind_at t.nums (row_of h n)) core) refl
    where
      kind : kind_of n h ≡ Some (kind_at t.nums (row_of h n))
      kind = (s.each_name n q).kind

      whole : span h ≤ max_time
      whole = span_most h met

      by_kind : (b : Bool) → eqb (kind_at t.nums (row_of h n)) core ≡ b → SumsMost (row_of h n)
      by_kind true p =
          let r = (s.each_ticks n q).of_core (kind ∙ ap Some (eqb-true _ core p)) in
          let sum = core_total h a n in
          let w = whole in
          record {
            held_most = omega (arith, r.held_ticks_shown);
            idle_most = omega (arith, r.idle_ticks_shown);
            unknown_most = omega (arith, r.unknown_ticks_shown);
            since_most = r.since;
          }
      by_kind false p =
          let r = (s.each_ticks n q).of_other (λ z. eqb-false _ core p (let y : kind_at t.nums (row_of h n) ≡ core = cc (kind, z) in y)) in
          record {
            held_most = omega (arith, r.charge_ticks, charge_at_most h a n, whole);
            idle_most = omega (arith, r.no_idle);
            unknown_most = omega (arith, r.no_unknown);
            since_most = omega (arith, r.no_since);
          }

  -- ---- the rows

  name_row : (n : List ℕ) → any (same_bytes n) (names h) ≡ true → NameRow t.names t.nums t.ticks (row_of h n)
  name_row n q =
      let r = s.each_name n q in
      let k = name_kind h n q in
      let z : k.0 ≡ kind_at t.nums (row_of h n) = cc (k.1, r.kind) in
      let l = name_length n (named_well h met n q) in
      let u = sums_most n q in
      record {
        kind_some = omega (arith, z, k.2);
        kind_known = omega (arith, z, k.3);
        numbered = r.numbered;
        standing = standing_ok_lem n q;
        length_some = omega (arith, r.size, l.0);
        length_most = omega (arith, r.size, l.1);
        named = rw r.name (named_well h met n q);
        held = u.held_most;
        idle = u.idle_most;
        unknown = u.unknown_most;
        since = u.since_most;
      }

  instance_row : (j : ℕ) (x : Instance) → any (same_instance x) (instances h) ≡ true → InstanceShown h t.nums j x → InstanceRow t.nums j
  instance_row j x q r =
      let k = instance_kind h a x q in
      let o = name_of x.name x.kind k.1 in
      let kind : kind_at t.nums (owner_at t.nums j) ≡ x.kind = rw r.owner o.1 in
      let state = state_at t.nums j in
      let seen = not_none state (ap unseen r.state ∙ first_seen h (all_worded h met) x k.0 ∙ ap not q) in
      record {
        owner = rw r.owner o.0;
        owner_kind = rw kind k.0;
        state = rw kind (rw seen at (stored_state (chart_of x.kind) (words_of x h) state r.state));
      }
    where
      not_none : (n : ℕ) → unseen (opened n) ≡ false → eqb n 0 ≡ false
      not_none zero p = p
      not_none (suc n) p = ne_eqb (suc n) 0 (λ q. omega arith)

  -- ---- the tables

  pub in_range : verdict_number t.nums ≤ last_refusal → verdict_line t.nums ≤ verdict_line_limit → line_count t.nums ≤ line_limit → scale_entry t.nums ≤ 5 →
      creator_entry t.nums ≤ 1 → date_entry t.nums ≤ 1 → Valid t.names t.nums t.ticks
  in_range v l c sc cr d =
      let fit = all_fit h a in
      let counts = s.singles in
      record {
        sizes = s.sized;
        verdict = v;
        verdict_line_lem = l;
        lines = c;
        scale = sc;
        creator = cr;
        date = d;
        started = omega (arith, counts.started, started_one h);
        name_count_lem = omega (arith, counts.names_counted, fit.names_fit);
        core_count_lem = omega (arith, counts.cores_counted, fit.cores_fit);
        instance_count_lem = omega (arith, counts.entries_counted, entries_now h fit);
        last_time_lem = omega (arith, counts.last, last_most h met);
        first_time_lem = omega (arith, counts.first, counts.last, first_last h a);
        name_row = λ i b.
            let n = name_at_lem h i (omega (arith, b, counts.names_counted)) in
            subst (NameRow t.names t.nums t.ticks) n.2 (name_row n.0 n.1);
        instance_row = λ j b. let r = s.instance_rows_shown.owned j b in instance_row j r.0 (entry_listed h r.0 r.1) r.2;
        indexed = s.indexed;
      }
