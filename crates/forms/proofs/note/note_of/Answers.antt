-- `forms::note::note_of` meets its contract: an empty note is no note, and each arm says what the definition says at its types.
use Rattle.std.proofs.lemmas.Grind.{common_steps}
use native.Mathlib.Omega.{arith}
use Rattle.forms.proofs.Notes.{empty_note, some_note}
use Rattle.forms.proofs.note.note_of.Goals as goal

pub returns-then-is_empty : goal.returns-then-is_empty
returns-then-is_empty c = grind (arith, common_steps, empty_note)

pub returns-in-Signal : goal.returns-in-Signal
returns-in-Signal c = grind (arith, common_steps, some_note)

pub returns-in-Semaphore : goal.returns-in-Semaphore
returns-in-Semaphore c = grind (arith, common_steps, some_note)

pub returns-in_default : goal.returns-in_default
returns-in_default c = grind (arith, common_steps, some_note)
