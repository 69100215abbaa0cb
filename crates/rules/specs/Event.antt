-- Event lines as they were read, and the instances of which they speak. A history is a list of events, THE NEWEST FIRST.
use Rattle.std.specs.Prelude.{Bool, ◌&&◌, cond, List, [], ◌∷◌, ℕ, eqb, Option, Some}
use Rattle.text.specs.Bytes.{same_bytes}
use Rattle.rules.specs.Lists.{keep, earliest}
use Rattle.rules.specs.Chart.{state_after}
use Rattle.rules.specs.Charts.{chart_of}
use Rattle.rules.specs.Words.{semaphore}

-- "time, source, source instance, type, target, target instance, event, note"; the note is a semaphore's count, and 0 elsewhere
pub record Event : Type 0 where
  pub time : ℕ
  pub source : List ℕ
  pub source_instance : ℕ
  pub kind : ℕ
  pub target : List ℕ
  pub target_instance : ℕ
  pub word : ℕ
  pub count : ℕ

-- an instance of a process or runnable; a semaphore is one instance, numbered 0 ("Target instance 0 for SEM")
pub record Instance : Type 0 where
  pub kind : ℕ
  pub name : List ℕ
  pub number : ℕ

abbrev pub same_instance : Instance → Instance → Bool
same_instance x y = eqb x.kind y.kind && (same_bytes x.name y.name && eqb x.number y.number)

abbrev pub instance_of : Event → Instance
instance_of e = record { kind = e.kind; name = e.target; number = cond (eqb e.kind semaphore) 0 e.target_instance }

-- the words of an instance's events, the newest first
abbrev pub words_of : Instance → List Event → List ℕ
words_of x [] = []
words_of x (e ∷ h) = keep (same_instance x (instance_of e)) e.word (words_of x h)

-- the word of its first event; none before that
abbrev pub first_word : Instance → List Event → Option ℕ
first_word x h = earliest Some (words_of x h)

-- the state of an instance or semaphore; none before its first chart event
abbrev pub state_of : Instance → List Event → Option ℕ
state_of x h = state_after (chart_of x.kind) (words_of x h)
