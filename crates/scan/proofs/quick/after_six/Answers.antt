-- `scan::quick::after_six` meets its contract: the line ends at the seventh place, may go on past what is looked at, or ends at the eighth.
use Rattle.std.proofs.Common.{sym, ◌∙◌, le-ltb, lt-ltb}
use Rattle.scan.specs.Quick.{after_six}
use Rattle.scan.proofs.quick.after_six.Goals as goal

pub returns-then-not-comma : goal.returns-then-not-comma
unfolding after_six
returns-then-not-comma c = rw (sym c.comma.ensures ∙ c.if-not-comma.true) c.ends_after.ensures

pub returns-then-c-gt127 : goal.returns-then-c-gt127
unfolding after_six
returns-then-c-gt127 c = rw (sym c.comma.ensures ∙ c.if-not-comma.false, lt-ltb 127 _ c.if-c-gt127.true)

pub returns : goal.returns
unfolding after_six
returns c = rw (sym c.comma.ensures ∙ c.if-not-comma.false, le-ltb 127 _ c.if-c-gt127.false) c.ends_after-2.ensures
