-- `line::parameter::time_scale` meets its contract: what stands behind either spelling is the same part of the line.
use lib.ListN.{take}
use Rattle.text.specs.Literal.{bytes}
use Rattle.text.specs.Bytes.{starts_with}
use Rattle.text.proofs.Words.{pointwise_same}
use Rattle.line.specs.Parameter.{time_scale}
use Rattle.line.proofs.parameter.time_scale.Goals as goal

pub returns-in-Some : goal.returns-in-Some
unfolding time_scale starts_with
returns-in-Some c =
    let s = take 11 c.args.line.now in
    let e = c.in-Some.ensures in
    rw (c.scale_of.ensures, e.cases.1, ← pointwise_same s (bytes "#timeScale "), e.cases.0)

pub returns-in_err-strip_prefix : goal.returns-in_err-strip_prefix
unfolding time_scale starts_with
returns-in_err-strip_prefix c =
    let s = take 11 c.args.line.now in
    let d = c.in_default.ensures in
    let e = c.in_err-strip_prefix.ensures in
    rw (c.from_residual.ensures, ← pointwise_same s (bytes "#timeScale "), d.cases, ← pointwise_same s (bytes "#timescale "), e.cases)

pub returns : goal.returns
unfolding time_scale starts_with
returns c =
    let s = take 11 c.args.line.now in
    let d = c.in_default.ensures in
    let e = c.in_ok-strip_prefix.ensures in
    rw (
      c.scale_of-2.ensures,
      e.cases.1,
      ← pointwise_same s (bytes "#timeScale "),
      d.cases,
      ← pointwise_same s (bytes "#timescale "),
      e.cases.0,
    )
