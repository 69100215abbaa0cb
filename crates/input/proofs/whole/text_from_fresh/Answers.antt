-- The tables start fresh, so nothing is refused; where all reads went well, the text fits.
use Rattle.std.proofs.Common.{refl, ap}
use Rattle.text.specs.Refusal.{numbered}
use Rattle.input.specs.Whole.{lent}
use Rattle.input.proofs.Sizes.{sizes_right, handed_on}
use Rattle.input.proofs.Texts.{fresh_start, all_came, not_read, told, always_fits, answered_text}
use Rattle.input.proofs.whole.text_from_fresh.Goals as goal

-- a read failed
pub returns-in_err-bytes : goal.returns-in_err-bytes
returns-in_err-bytes g c =
    let a = c.args in
    let sizes = sizes_right (lent a.names.now a.nums.now a.ticks.now a.buf.now a.out.now) c.requires in
    rw (handed_on _ c.from_residual.ensures.1)
    (not_read _ _ _ (fresh_start sizes.0 c.fresh.ensures) c.read_all.ensures sizes.1.0 c.requires refl refl c.in_err-bytes.was)

-- the report did not fit: never
pub returns-in_default : goal.returns-in_default
returns-in_default g c =
    let a = c.args in
    let sizes = sizes_right (lent a.names.now a.nums.now a.ticks.now a.buf.now a.out.now) c.requires in
    let came = all_came _ _ _ (fresh_start sizes.0 c.fresh.ensures) c.read_all.ensures c.in_ok-bytes.was in
    absurd (always_fits came _ sizes.1.1 c.report.ensures (ap numbered c.in_default.is))

pub returns : goal.returns
returns g c =
    let a = c.args in
    let sizes = sizes_right (lent a.names.now a.nums.now a.ticks.now a.buf.now a.out.now) c.requires in
    let came = all_came _ _ _ (fresh_start sizes.0 c.fresh.ensures) c.read_all.ensures c.in_ok-bytes.was in
    answered_text c.requires (told came _ sizes.1.1 c.report.ensures refl (ap numbered c.in-Ok.is))
