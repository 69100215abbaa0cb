-- `line::reading::read_at` meets its contract: the length, then a break inside, then an event line or one that starts with `#`.
use borrow.Author.Tests.{lt-ltb, le-ltb}
use Rattle.line.specs.Reading.{line_most, read_line}
use Rattle.line.proofs.reading.read_at.Goals as goal

pub returns-then-line-gt-LINE_MOST : goal.returns-then-line-gt-LINE_MOST
unfolding read_line
returns-then-line-gt-LINE_MOST c = rw (lt-ltb line_most _ c.if-line-gt-LINE_MOST.true)

pub returns-then-broken : goal.returns-then-broken
unfolding read_line
returns-then-broken c = rw (le-ltb line_most _ c.if-line-gt-LINE_MOST.false, ← c.broken.ensures, c.if-broken.true)

pub returns-then-event_line : goal.returns-then-event_line
unfolding read_line
returns-then-event_line c = rw (le-ltb line_most _ c.if-line-gt-LINE_MOST.false, ← c.broken.ensures, c.if-broken.false, ← c.event_line.ensures, c.if-event_line.true) c.read_event.ensures

pub returns : goal.returns
unfolding read_line
returns c = rw (le-ltb line_most _ c.if-line-gt-LINE_MOST.false, ← c.broken.ensures, c.if-broken.false, ← c.event_line.ensures, c.if-event_line.false) c.read_parameter.ensures
