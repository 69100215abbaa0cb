-- A charge sheet as values: a row for each core and each process, "in order of first mention".
use Rattle.std.specs.Prelude.{Bool, List, ℕ}
use Rattle.text.specs.Name.{is_name}
use Rattle.text.specs.Lists.{all}

-- a name and its figures: of a core held, idle and unknown, of a process its charge
pub record Row : Type 0 where
  pub name : List ℕ
  pub figures : List ℕ

pub record Sheet : Type 0 where
  pub span : ℕ
  pub cores : List Row
  pub processes : List Row

-- each row's name is one, by 01's rule for names
abbrev pub all_named : List Row → Bool
all_named = all (λ r. is_name r.name)
