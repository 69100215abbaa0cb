-- `chart::chart_step` meets its contract: each type has its own chart, and any other none.
use borrow.Author.Tests.{eq-eqb, ne_eqb}
use Rattle.rules.specs.Charts.{is_process, chart_of}
use Rattle.steps.specs.Rows.{move_by}
use Rattle.steps.proofs.chart.chart_step.Goals as goal

pub returns-then-kind-eq-TASK : goal.returns-then-kind-eq-TASK
unfolding chart_of is_process
returns-then-kind-eq-TASK c = rw (eq-eqb _ _ c.if-kind-eq-TASK.true) c.process_step.ensures

pub returns-then-kind-eq-INTERRUPT : goal.returns-then-kind-eq-INTERRUPT
unfolding chart_of is_process
returns-then-kind-eq-INTERRUPT c = rw (ne_eqb _ _ c.if-kind-eq-TASK.false, eq-eqb _ _ c.if-kind-eq-INTERRUPT.true) c.process_step-then-kind-eq-INTERRUPT.ensures

pub returns-then-kind-eq-RUNNABLE : goal.returns-then-kind-eq-RUNNABLE
unfolding chart_of is_process
returns-then-kind-eq-RUNNABLE c = rw (ne_eqb _ _ c.if-kind-eq-TASK.false, ne_eqb _ _ c.if-kind-eq-INTERRUPT.false, eq-eqb _ _ c.if-kind-eq-RUNNABLE.true) c.runnable_step.ensures

pub returns-then-kind-eq-SEMAPHORE : goal.returns-then-kind-eq-SEMAPHORE
unfolding chart_of is_process
returns-then-kind-eq-SEMAPHORE c =
    rw (ne_eqb _ _ c.if-kind-eq-TASK.false, ne_eqb _ _ c.if-kind-eq-INTERRUPT.false, ne_eqb _ _ c.if-kind-eq-RUNNABLE.false, eq-eqb _ _ c.if-kind-eq-SEMAPHORE.true)
    c.semaphore_step.ensures

pub returns : goal.returns
unfolding chart_of is_process move_by
returns c = rw (ne_eqb _ _ c.if-kind-eq-TASK.false, ne_eqb _ _ c.if-kind-eq-INTERRUPT.false, ne_eqb _ _ c.if-kind-eq-RUNNABLE.false, ne_eqb _ _ c.if-kind-eq-SEMAPHORE.false)
