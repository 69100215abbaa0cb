-- `words::class::class_is_of` meets its contract: at each type the tests are the definition's.
use Rattle.words.specs.Class.{class_is_of}
use Rattle.words.proofs.class.class_is_of.Goals as goal

pub returns-in-Stimulus : goal.returns-in-Stimulus
unfolding class_is_of
returns-in-Stimulus c = rw c.in-Stimulus.is

pub returns-in-Task : goal.returns-in-Task
unfolding class_is_of
returns-in-Task c = rw c.in-Task.is

pub returns-in-Interrupt : goal.returns-in-Interrupt
unfolding class_is_of
returns-in-Interrupt c = rw c.in-Interrupt.is

pub returns-in-Runnable : goal.returns-in-Runnable
unfolding class_is_of
returns-in-Runnable c = rw c.in-Runnable.is

pub returns-in-Scheduler : goal.returns-in-Scheduler
unfolding class_is_of
returns-in-Scheduler c = rw c.in-Scheduler.is

pub returns-in-OsEvent : goal.returns-in-OsEvent
unfolding class_is_of
returns-in-OsEvent c = rw c.in-OsEvent.is

pub returns-in-Signal : goal.returns-in-Signal
unfolding class_is_of
returns-in-Signal c = rw c.in-Signal.is

pub returns-in-Semaphore : goal.returns-in-Semaphore
unfolding class_is_of
returns-in-Semaphore c = rw c.in-Semaphore.is
