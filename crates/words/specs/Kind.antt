-- The eight types of 000's sections 2.3.1 to 2.3.7, and the type that bytes name.
use Rattle.std.specs.Prelude.{ℕ, List, [], ◌∷◌, None, Some, Option}
use Rattle.text.specs.Literal.{bytes}
use Rattle.words.specs.Named.{first_named}
use Rattle.words.specs.declared.kind.Kind.{Kind}
use Rattle.words.specs.declared.kind.Kind.TheVariants.{Stimulus, Task, Interrupt, Runnable, Scheduler, OsEvent, Signal, Semaphore}

-- the word of each type
unfoldable pub kind_word : Kind → List ℕ
kind_word Stimulus = bytes "STI"
kind_word Task = bytes "T"
kind_word Interrupt = bytes "I"
kind_word Runnable = bytes "R"
kind_word Scheduler = bytes "SCHED"
kind_word OsEvent = bytes "EVENT"
kind_word Signal = bytes "SIG"
kind_word Semaphore = bytes "SEM"

abbrev pub kinds : List Kind
kinds = Stimulus ∷ Task ∷ Interrupt ∷ Runnable ∷ Scheduler ∷ OsEvent ∷ Signal ∷ Semaphore ∷ []

-- the type that bytes name
unfoldable pub kind_of : List ℕ → Option Kind
kind_of = first_named kind_word Some kinds None
