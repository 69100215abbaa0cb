-- Its tests are the definition's.
use Rattle.std.proofs.Common.{sym, ◌∙◌}
use Rattle.bundle.proofs.Apart.{other_header, no_blank, number_there}
use Rattle.bundle.proofs.container.length_in.Goals as goal

pub returns-then-not-starts : goal.returns-then-not-starts
returns-then-not-starts c = other_header _ (sym c.starts.ensures ∙ c.if-not-starts.true)

pub returns-then-header-blank : goal.returns-then-header-blank
returns-then-header-blank c = no_blank _ (sym c.starts.ensures ∙ c.if-not-starts.false) _ c.find-blank.ensures c.if-header-blank.true

pub returns : goal.returns
returns c =
    c.read_number.ensures ∙ number_there _ (sym c.starts.ensures ∙ c.if-not-starts.false) _ c.find-blank.ensures c.if-header-blank.false
