-- `words::reading::os_event_action` meets its contract: each word's answer is put into the one before it.
use mathlib.Core.Path.{refl}
use Rattle.words.specs.Action.{word_of}
use Rattle.words.proofs.Chains.{step}
use Rattle.words.proofs.reading.os_event_action.Goals as goal

pub returns : goal.returns
unfolding word_of
returns c =
    step _ _ c.action_named.ensures (
    step _ _ c.action_named-a-2.ensures (
    step _ _ c.action_named-a.ensures (
    refl)))
