-- `words::reading::action_of` meets its contract: each type asks the chain of its own events.
use Rattle.std.proofs.Common.{Option}
use mathlib.Core.Path.{ap, ◌∙◌}
use Rattle.words.specs.Action.{action_of, actions_of, word_of, action_from, semaphore_states}
use Rattle.words.proofs.Chains.{step}
use Rattle.words.proofs.reading.action_of.Goals as goal
use Rattle.words.specs.declared.action.Action.{Action}

pub returns-in-Stimulus : goal.returns-in-Stimulus
unfolding action_of actions_of word_of
returns-in-Stimulus c = rw c.in-Stimulus.is c.action_named.ensures

pub returns-in-Task : goal.returns-in-Task
unfolding action_of actions_of word_of
returns-in-Task c = rw c.in-Task.is (step _ _ c.action_named-in-Task.ensures c.process_action-a.ensures)

pub returns-in-Interrupt : goal.returns-in-Interrupt
unfolding action_of actions_of word_of
returns-in-Interrupt c = rw c.in-Interrupt.is (step _ _ c.action_named-in-Interrupt.ensures c.process_action-a-in-Interrupt.ensures)

pub returns-in-Runnable : goal.returns-in-Runnable
unfolding action_of actions_of word_of
returns-in-Runnable c = rw c.in-Runnable.is c.runnable_action.ensures

pub returns-in-Scheduler : goal.returns-in-Scheduler
unfolding action_of actions_of word_of
returns-in-Scheduler c = rw c.in-Scheduler.is c.scheduler_action.ensures

pub returns-in-OsEvent : goal.returns-in-OsEvent
unfolding action_of actions_of word_of
returns-in-OsEvent c = rw c.in-OsEvent.is c.os_event_action.ensures

pub returns-in-Signal : goal.returns-in-Signal
unfolding action_of actions_of word_of
returns-in-Signal c = rw c.in-Signal.is c.signal_action.ensures

pub returns-in-Semaphore : goal.returns-in-Semaphore
unfolding action_of actions_of word_of
returns-in-Semaphore c =
    rw c.in-Semaphore.is
    (c.semaphore_state.ensures
    ∙ ap (λ (o : Option Action). action_from semaphore_states o c.args.s.now) c.semaphore_request-a.ensures)
