-- What a verdict says: 0 exactly if all events are accepted, and otherwise the first event that breaks a rule, with the lowest number; and what a refused
-- event leaves: the history before it, and the same verdict whatever follows.
use mathlib.Core.Path.{◌≡◌, ap}
use mathlib.Core.Logic.{◌↔◌}
use mathlib.Core.List.{List, [], ◌++◌, reverse}
use Prim.Native.Nat.{ℕ, ◌≤◌}
use Rattle.line.specs.Answer.{IsLowest}
use Rattle.rules.specs.First.{FirstRefused}
use Rattle.rules.specs.Event.{Event}
use Rattle.rules.specs.Refusals.{look, event_tests}
use Rattle.rules.specs.Verdict.{answer, Accepted, taken, verdict}
use Rattle.rules.proofs.First.{taken_keeps, zero_takes_all, kept_none, first_refused, stays}
use Rattle.rules.proofs.Answers.{answer_lowest}

-- what is taken is accepted
pub taken_accepted : (es h : List Event) → Accepted h → Accepted (taken h es)
taken_accepted = taken_keeps answer Accepted (λ h e a q. (q, a))

-- A list of events, the oldest first, is accepted exactly if its verdict is 0.
pub verdict_zero : (es : List Event) → ((verdict [] es).0 ≡ 0) ↔ Accepted (reverse es)
verdict_zero es = (
  λ q. rw (zero_takes_all answer es [] q) at (taken_accepted es [] tt),
  λ a. ap (λ (v : ℕ × ℕ). v.0) (kept_none answer Accepted (λ h e k. k) es [] a),
)

-- Any other names the first event that is refused: what is taken before it is accepted, and it breaks a rule after that, of which the verdict has the
-- lowest number.
pub record FirstEventBroken (es : List Event) : Type 0 where
  pub refused : FirstRefused answer [] es (verdict [] es) (taken [] es)
  pub accepted : Accepted (taken [] es)
  pub lowest : IsLowest (event_tests (look (taken [] es) refused.first) refused.first) (verdict [] es).0

pub verdict_first : (es : List Event) → 1 ≤ (verdict [] es).0 → FirstEventBroken es
verdict_first es q =
    let r = first_refused answer es [] q in
    record { refused = r; accepted = taken_accepted es [] tt; lowest = (answer_lowest (look (taken [] es) r.first) r.first (verdict [] es).0 q).0 r.answered }

-- After a refusal nothing changes, whatever follows: the same verdict, and the same events taken.
pub refused_stays : (es more : List Event) → 1 ≤ (verdict [] es).0 → (verdict [] (es ++ more) ≡ verdict [] es) × (taken [] (es ++ more) ≡ taken [] es)
refused_stays es more q = stays answer es more [] q
