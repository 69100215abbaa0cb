-- `adding::sound::sound` meets its contract: it answers what the reading says.
use mathlib.Core.Path.{◌∙◌}
use Rattle.adding.proofs.Sounds.{sound_told}
use Rattle.adding.proofs.sound.sound.Goals as goal

pub returns : goal.returns
returns c = c.is_some.ensures ∙ sound_told _ _ c.read_sheet.ensures
