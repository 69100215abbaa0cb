-- A chart is any table of steps. What a run through a chart is, and the test that is made event by event.
use Rattle.std.specs.Prelude.{◌≡◌, Bool, true, ◌&&◌, ◌||◌, List, [], ◌∷◌, ℕ, eqb, Option, None, Some}
use Rattle.text.specs.Lists.{any}
use Rattle.rules.specs.Lists.{member, latest, when}

-- A step: the event word, the state that it leaves (or one of the others), and the state that it enters.
pub record Step : Type 0 where
  pub word : ℕ
  pub first : ℕ
  pub others : List ℕ
  pub enters : ℕ

abbrev pub leaves : Step → ℕ → Bool
leaves r s = member s (r.first ∷ r.others)

-- a state of the chart: some step leaves or enters it
unfoldable pub is_state_of : List Step → ℕ → Bool
is_state_of t s = any (λ r. leaves r s || eqb s r.enters) t

-- the step of a word, if the chart has the word
abbrev pub step_for : List Step → ℕ → Option Step
step_for t a = latest (λ r. when (eqb a r.word) r) t

-- `Run t s ws n`: the words `ws`, the newest first, run through the chart t from the state s to the state n.
-- Each word of the chart leaves the state that the run is in and enters its own; a word that the chart lacks changes no state.
pub data Run (t : List Step) (s : ℕ) : List ℕ → ℕ → Type 0 where
  begin : Run t s [] s
  other : {ws : List ℕ} {a m : ℕ} → step_for t a ≡ None → Run t s ws m → Run t s (a ∷ ws) m
  next : {ws : List ℕ} {a m : ℕ} {r : Step} → step_for t a ≡ Some r → leaves r m ≡ true → Run t s ws m → Run t s (a ∷ ws) r.enters

-- The state after some words, the newest first: the one that the latest step entered, none before the first.
abbrev pub entered : Option Step → Option ℕ
entered None = None
entered (Some r) = Some r.enters

abbrev pub state_after : List Step → List ℕ → Option ℕ
state_after t = latest (λ a. entered (step_for t a))

-- The test, event by event. "An entity starts in any state (000): its first chart event is taken from the state or states that event leaves."
abbrev pub allowed_by : Option Step → Option ℕ → Bool
allowed_by None o = true
allowed_by (Some r) None = true
allowed_by (Some r) (Some s) = leaves r s

abbrev pub allowed : List Step → ℕ → Option ℕ → Bool
allowed t a o = allowed_by (step_for t a) o

-- the test holds at every event
abbrev pub follows : List Step → List ℕ → Bool
follows t [] = true
follows t (a ∷ ws) = allowed t a (state_after t ws) && follows t ws
