-- How tight the contracts of the rules' code are: no second answer, and wrong answers that they shut out.
use Rattle.std.proofs.Common.{None, Some, Option}
use mathlib.Core.Path.{◌≡◌, refl}
use mathlib.Core.Bool.{Bool, true, false, not, cond}
use mathlib.Core.List.{List}
use Prim.Native.Nat.{ℕ}
use lib.Dec.{eqb}
use Rattle.text.proofs.Tight.{unique, ShutsOut, shut_out}
use Rattle.words.specs.declared.kind.Kind.{Kind}
use Rattle.words.specs.declared.kind.Kind.TheVariants.{Stimulus}
use Rattle.line.specs.declared.reading.Reading.{Reading}
use Rattle.line.specs.declared.reading.Reading.TheVariants.{Comment}
use Rattle.rules.specs.declared.place.Place.{Place}
use Rattle.rules.specs.Words.{task, interrupt, runnable, semaphore, activate, mtalimitexceeded, start, free, TERMINATED, RUNNING, FULL}
use Rattle.rules.specs.Chart.{Step}
use Rattle.rules.specs.Charts.{process_chart, runnable_chart, semaphore_chart, is_process, chart_of}
use Rattle.rules.specs.Core.{takes, no_core, core_class}
use Rattle.rules.specs.History.{has_instances, is_tracked, activates}
use Rattle.rules.specs.Lines.{kind_number}
use Rattle.steps.specs.Rows.{move_by}
use Rattle.steps.specs.PlaceCode.{answer_by_reading}

-- ---- `process_step`, `runnable_step`, `semaphore_step`, `chart_step`: for any chart

pub step_unique : (t : List Step) (a s : ℕ) (x y : Option ℕ) → x ≡ move_by t a s → y ≡ move_by t a s → x ≡ y
step_unique t a = unique (move_by t a)

abbrev is_off : Option ℕ → Bool
is_off (Some n) = false
is_off None = true

abbrev is_to : ℕ → Option ℕ → Bool
is_to n (Some m) = eqb m n
is_to n None = false

pub runnable_not_as_a_process : ShutsOut {A = ℕ × ℕ} (λ (a, s). move_by runnable_chart a s) (λ (a, s). move_by process_chart a s)
unfolding move_by runnable_chart process_chart
runnable_not_as_a_process = shut_out (is_to RUNNING) (start, TERMINATED) refl refl

-- from any state
pub semaphore_not_from_any : ShutsOut {A = ℕ × ℕ} (λ (a, s). move_by semaphore_chart a s) (λ (a, s). move_by semaphore_chart a 0)
unfolding move_by semaphore_chart
semaphore_not_from_any = shut_out is_off (free, FULL) refl refl

pub chart_not_of_processes : ShutsOut {A = ℕ × ℕ × ℕ} (λ (k, a, s). move_by (chart_of k) a s) (λ (k, a, s). move_by process_chart a s)
unfolding move_by chart_of is_process runnable_chart process_chart
chart_not_of_processes = shut_out (is_to RUNNING) (runnable, start, TERMINATED) refl refl

-- no event is off its chart, and none moves
pub chart_not_still : ShutsOut {A = ℕ × ℕ × ℕ} (λ (k, a, s). move_by (chart_of k) a s) (λ (k, a, s). Some s)
unfolding move_by chart_of is_process process_chart
chart_not_still = shut_out is_off (task, start, RUNNING) refl refl

-- ---- `is_process`, `with_instances`, `tracked`, `numbers_instance`, `core_class`

pub is_process_unique : (k : ℕ) (x y : Bool) → x ≡ is_process k → y ≡ is_process k → x ≡ y
is_process_unique = unique is_process

-- interrupt routines are processes too
pub is_process_not_tasks : ShutsOut is_process (eqb task)
unfolding is_process
is_process_not_tasks = shut_out (λ b. b) interrupt refl refl

pub with_instances_unique : (k : ℕ) (x y : Bool) → x ≡ has_instances k → y ≡ has_instances k → x ≡ y
with_instances_unique = unique has_instances

-- semaphores have none
pub with_instances_not_as_tracked : ShutsOut has_instances is_tracked
unfolding has_instances is_tracked is_process
with_instances_not_as_tracked = shut_out not semaphore refl refl

-- runnables have some
pub with_instances_not_processes : ShutsOut has_instances is_process
unfolding has_instances is_process
with_instances_not_processes = shut_out (λ b. b) runnable refl refl

pub tracked_unique : (k : ℕ) (x y : Bool) → x ≡ is_tracked k → y ≡ is_tracked k → x ≡ y
tracked_unique = unique is_tracked

-- semaphores are tracked
pub tracked_not_by_instances : ShutsOut is_tracked has_instances
unfolding is_tracked has_instances is_process
tracked_not_by_instances = shut_out (λ b. b) semaphore refl refl

-- types that are not judged are not
pub tracked_not_always : ShutsOut is_tracked (λ k. true)
unfolding is_tracked has_instances is_process
tracked_not_always = shut_out not 0 refl refl

pub numbers_unique : (k a : ℕ) (x y : Bool) → x ≡ activates k a → y ≡ activates k a → x ≡ y
numbers_unique k = unique (activates k)

abbrev numbers : ℕ × ℕ → Bool
numbers (k, a) = activates k a

-- mtalimitexceeded numbers a process's instance too
pub numbers_not_by_activate : ShutsOut numbers (λ (k, a). eqb a activate)
unfolding activates is_process
numbers_not_by_activate = shut_out (λ b. b) (task, mtalimitexceeded) refl refl

-- start numbers no process's instance
pub numbers_not_by_start : ShutsOut numbers (λ (k, a). eqb a start)
unfolding activates is_process
numbers_not_by_start = shut_out not (task, start) refl refl

pub core_class_unique : (k a x y : ℕ) → x ≡ core_class k a → y ≡ core_class k a → x ≡ y
core_class_unique k = unique (core_class k)

-- a runnable's start takes no core
pub core_class_not_by_word : ShutsOut {A = ℕ × ℕ} (λ (k, a). core_class k a) (λ (k, a). core_class task a)
unfolding core_class is_process takes
core_class_not_by_word = shut_out (eqb no_core) (runnable, start) refl refl

-- ---- `kind_number`, `scale_number`

pub kind_number_unique : (k : Kind) (x y : ℕ) → x ≡ kind_number k → y ≡ kind_number k → x ≡ y
kind_number_unique = unique kind_number

-- STI, SCHED, EVENT and SIG judged as T
pub kind_not_judged : ShutsOut kind_number (λ k. cond (eqb (kind_number k) 0) task (kind_number k))
unfolding kind_number
kind_not_judged = shut_out (eqb 0) Stimulus refl refl

-- ---- `answer_in_place`

pub place_unique : (p : Place) (r : Reading) (x y : ℕ) → x ≡ answer_by_reading p r → y ≡ answer_by_reading p r → x ≡ y
place_unique p = unique (answer_by_reading p)

abbrev nothing_before : Place
nothing_before = record { lines = 0; scale = 0; creator = false; date = false; started = false }

pub place_not_any_first : ShutsOut {A = Place × Reading} (λ (p, r). answer_by_reading p r) (λ (p, r). cond (eqb p.lines 0) 0 (answer_by_reading p r))
unfolding answer_by_reading
place_not_any_first = shut_out (eqb 2) (nothing_before, Comment) refl refl
