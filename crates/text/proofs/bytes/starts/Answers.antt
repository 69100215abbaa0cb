-- `text::bytes::starts` meets its contract.
use Rattle.std.proofs.Common.{◌∙◌}
use Rattle.text.proofs.Words.{front_same}
use Rattle.text.proofs.bytes.starts.Goals as goal

pub returns : goal.returns
returns c = c.starts_with.ensures.value ∙ front_same _ _
