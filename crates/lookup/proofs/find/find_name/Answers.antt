-- `lookup::find::find_name` meets its contract: in tables of another size nothing is found, in others the search from the name's home is the answer.
use mathlib.Core.Path.{◌≡◌, sym, ap, ◌∙◌}
use native.Mathlib.Omega.{arith}
use borrow.Author.Tests.{eq-eqb, ne_eqb}
use Rattle.tables.specs.Entry.{places}
use Rattle.index.specs.Index.{sought}
use Rattle.index.proofs.Folds.{home_lt}
use Rattle.index.proofs.Indexes.{last_places}
use Rattle.lookup.specs.Find.{ends_at, row_met, find_name}
use Rattle.lookup.proofs.Found.{name_found}
use Rattle.lookup.proofs.find.find_name.Goals as goal

pub returns-in_default : goal.returns-in_default
unfolding find_name
returns-in_default c = rw (ne_eqb _ _ c.in_default.ensures.cases)

pub returns-in_default-as_array : goal.returns-in_default-as_array
unfolding find_name
returns-in_default-as_array c = rw (eq-eqb _ _ c.in-Some.ensures.cases.long, ne_eqb _ _ c.in_default-as_array.ensures.cases)

pub seek-requires : goal.seek-requires
seek-requires c = omega (arith, c.home_of.ensures, home_lt c.args.name.now)

pub returns : goal.returns
returns c =
    let a = c.args in
    let names = c.in-Some.ensures.cases in
    let nums = c.in-Some-as_array.ensures.cases in
    let index : c.in-Some-last_chunk.index.now ≡ places c.in-Some-as_array.nums.now = last_places c.in-Some-as_array.nums.now c.in-Some-last_chunk.index.now (omega arith) (c.in-Some-last_chunk.ensures.cases).1.same in
    c.seek.ensures
    ∙ ap (λ h. row_met c.in-Some-last_chunk.index.now h (sought c.in-Some-last_chunk.index.now h (ends_at c.in-Some.names.now c.in-Some-as_array.nums.now a.name.now))) c.home_of.ensures
    ∙ rw (index, names.same, nums.same) (sym (name_found _ _ _ names.long nums.long))
