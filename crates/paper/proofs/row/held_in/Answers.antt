-- `paper::row::held_in` meets its contract: each figure is told as one of at most what the span still leaves.
use mathlib.Core.Path.{sym, ◌∙◌}
use native.Mathlib.Omega.{arith}
use Rattle.paper.proofs.Numbers.{told}
use Rattle.paper.proofs.RowTests.{core_unnamed, core_first, core_second, core_third, core_short, core_whole}
use Rattle.paper.proofs.row.held_in.Goals as goal

-- ---- the exits
pub returns-then-not-named : goal.returns-then-not-named
returns-then-not-named c = core_unnamed _ _ (sym c.named.ensures ∙ c.if-not-named.true)

pub returns-in_err-held : goal.returns-in_err-held
returns-in_err-held c = c.from_residual.ensures ∙ core_first _ _ (sym c.figure.ensures ∙ c.in_err-held.was)

pub overflow_sub-span : goal.overflow_sub-span
overflow_sub-span c = omega (arith, (told _ _ _ (sym c.figure.ensures ∙ c.in_ok-held.was)).small)

pub returns-in_err-idle : goal.returns-in_err-idle
returns-in_err-idle c = c.from_residual-in_err-idle.ensures ∙ core_second _ _ _ (told _ _ _ (sym c.figure.ensures ∙ c.in_ok-held.was)) (sym c.figure-2.ensures ∙ c.in_err-idle.was)

pub overflow_sub-span-2 : goal.overflow_sub-span-2
overflow_sub-span-2 c = omega (arith, (told _ _ _ (sym c.figure.ensures ∙ c.in_ok-held.was)).small)

pub overflow_sub-span-3 : goal.overflow_sub-span-3
overflow_sub-span-3 c = omega (arith, (told _ _ _ (sym c.figure-2.ensures ∙ c.in_ok-idle.was)).small)

pub returns-in_err-unknown : goal.returns-in_err-unknown
returns-in_err-unknown c = c.from_residual-in_err-unknown.ensures ∙ core_third _ _ _ (told _ _ _ (sym c.figure.ensures ∙ c.in_ok-held.was)) _ (told _ _ _ (sym c.figure-2.ensures ∙ c.in_ok-idle.was)) (sym c.figure-3.ensures ∙ c.in_err-unknown.was)

pub overflow_sub-span-4 : goal.overflow_sub-span-4
overflow_sub-span-4 c = omega (arith, (told _ _ _ (sym c.figure.ensures ∙ c.in_ok-held.was)).small)

pub overflow_sub-span-5 : goal.overflow_sub-span-5
overflow_sub-span-5 c = omega (arith, (told _ _ _ (sym c.figure-2.ensures ∙ c.in_ok-idle.was)).small)

pub returns-then-unknown-span : goal.returns-then-unknown-span
returns-then-unknown-span c = core_short _ _ _ (told _ _ _ (sym c.figure.ensures ∙ c.in_ok-held.was)) _ (told _ _ _ (sym c.figure-2.ensures ∙ c.in_ok-idle.was)) _ (told _ _ _ (sym c.figure-3.ensures ∙ c.in_ok-unknown.was)) c.if-unknown-span.true

pub returns : goal.returns
returns c = core_whole _ _ _ (told _ _ _ (sym c.figure.ensures ∙ c.in_ok-held.was)) _ (told _ _ _ (sym c.figure-2.ensures ∙ c.in_ok-idle.was)) _ (told _ _ _ (sym c.figure-3.ensures ∙ c.in_ok-unknown.was)) (sym c.named.ensures ∙ c.if-not-named.false) c.if-unknown-span.false
