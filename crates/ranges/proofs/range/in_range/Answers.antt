-- `ranges::range::in_range` meets its contract: with wrong counts the definition's test fails, and with right ones its other tests are left, in another order.
use mathlib.Core.Path.{◌≡◌, sym, ap, ◌∙◌}
use mathlib.Core.Bool.{true, ◌&&◌, and-false}
use mathlib.Core.List.{List}
use Prim.Native.Nat.{ℕ}
use native.Mathlib.Omega.{arith}
use borrow.Author.Rules.{rules}
use Rattle.tables.specs.Entry.{instance_count, places}
use Rattle.index.proofs.Indexes.{last_places}
use Rattle.ranges.specs.Range.{Counted, counts_ok, line_level_ok, times_ok, instance_ok, up_to, in_range}
use Rattle.ranges.proofs.Valid.{counts_mean}
use Rattle.ranges.proofs.Tested.{index_tested}
use Rattle.ranges.proofs.range.in_range.Goals as goal

-- how many names and instances there are, once their counts are tested
few : (nums : List ℕ) → counts_ok nums ≡ true → Counted nums
few nums e = let h = (counts_mean nums).holds e in record { names = h.1.0; instances = h.1.1.1 }

pub returns-then-not-counts_ok : goal.returns-then-not-counts_ok
unfolding in_range
returns-then-not-counts_ok c = rw (← c.counts_ok.ensures, c.if-not-counts_ok.true, and-false)

pub overflow_cast-n : goal.overflow_cast-n
overflow_cast-n c =
    let h = few _ (sym c.counts_ok.ensures ∙ c.if-not-counts_ok.false) in search rules

pub overflow_cast-m : goal.overflow_cast-m
overflow_cast-m c =
    let h = few _ (sym c.counts_ok.ensures ∙ c.if-not-counts_ok.false) in search rules

pub names_ok-requires : goal.names_ok-requires
names_ok-requires c =
    let h = few _ (sym c.counts_ok.ensures ∙ c.if-not-counts_ok.false) in search rules

pub instances_ok-requires : goal.instances_ok-requires
instances_ok-requires c =
    let h = few _ (sym c.counts_ok.ensures ∙ c.if-not-counts_ok.false) in search rules

pub returns : goal.returns
unfolding in_range
returns c =
    let a = c.args in
    let counted = sym c.counts_ok.ensures ∙ c.if-not-counts_ok.false in
    let index : c.in-Some.index.now ≡ places a.nums.now = last_places a.nums.now c.in-Some.index.now (omega arith) (c.in-Some.ensures.cases).1.same in
    rw (
      c.line_level_ok.ensures,
      c.times_ok.ensures,
      c.names_ok.ensures,
      c.instances_ok.ensures,
      c.taken_places.ensures,
      index,
      counted,
    )
    (ap (λ b. line_level_ok a.nums.now && (times_ok a.ticks.now && b))
    (index_tested a.names.now a.nums.now a.ticks.now (omega arith) (few _ counted) (up_to (instance_ok a.nums.now) (instance_count a.nums.now))))
