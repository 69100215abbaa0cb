-- The judge before room was given back (02, No. 7): that of No. 5, which counts every instance that it has seen. It stands here for one statement alone: "Whenever the old
-- judge didn't answer 10, the new one gives the same verdict, and the same sheet."
use Rattle.std.specs.Prelude.{Bool, ◌||◌, List, [], ◌∷◌, ℕ, ltb, length}
use Rattle.text.specs.Sizes.{name_limit, core_limit}
use Rattle.line.specs.Answer.{lowest}
use Rattle.rules.specs.Limits.{instance_limit}
use Rattle.rules.specs.First.{taken_of}
use Rattle.rules.specs.Event.{Event}
use Rattle.rules.specs.History.{names, cores, instances}
use Rattle.rules.specs.Refusals.{look, tests_with}
use Rattle.rules.specs.Trace.{answer_by, verdict_by}
use Rattle.rules.specs.Text.{text_by}

-- "the names or instances that the line adds don't fit": "process and runnable instances | 1,024"
unfoldable pub old_no_room : List Event → Event → Bool
old_no_room h e =
    ltb name_limit (length (names (e ∷ h))) || (ltb core_limit (length (cores (e ∷ h))) || ltb instance_limit (length (instances (e ∷ h))))

-- every other rule is the new judge's
unfoldable pub old_answer : List Event → Event → ℕ
old_answer h e = lowest (tests_with (old_no_room h e) (look h e) e)

-- over lists of lines
abbrev pub old_taken : List (List ℕ) → List (List ℕ) → List (List ℕ)
old_taken = taken_of (answer_by old_answer)

abbrev pub old_verdict : List (List ℕ) → List (List ℕ) → ℕ × ℕ
old_verdict = verdict_by (answer_by old_answer)

-- and what is printed of a trace
abbrev pub old_text : List (List ℕ) → List ℕ
old_text ls = text_by (old_taken [] ls) (old_verdict [] ls)
