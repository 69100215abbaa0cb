-- `text::number::digits` meets its contract.
use Rattle.std.proofs.Common.{sym, ◌∙◌, arith, rules, tests}
use Rattle.std.proofs.lemmas.Iterator.{YieldsList-from_slice}
use Rattle.std.proofs.lemmas.Iterator.Search.{all_from_yields_List}
use Rattle.text.specs.Number.{is_digit}
use Rattle.text.proofs.Numbers.{none_digits, some_digits, each_digit}
use Rattle.text.proofs.number.digits.Goals as goal

pub returns-then-s-lt1 : goal.returns-then-s-lt1
returns-then-s-lt1 c = sym (none_digits _ (omega arith))

pub returns : goal.returns
returns c =
    let s = c.args.s.now in
    let all = all_from_yields_List is_digit _ _ c.all.result c.all.ensures.ran (YieldsList-from_slice s cc) (λ x b q k. search (rules, tests)) in
    all ∙ each_digit s ∙ sym (some_digits s (λ e. omega (arith, e)))
