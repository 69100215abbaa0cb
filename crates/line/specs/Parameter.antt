-- Lines that start with `#`: the version, comments and parameters.
use Rattle.std.specs.Prelude.{ℕ, Bool, ◌&&◌, ◌||◌, cond, List, ltb, length, drop, None, Some, Option}
use Rattle.text.specs.Literal.{bytes}
use Rattle.text.specs.Bytes.{same_bytes, starts_with}
use Rattle.words.specs.declared.scale.Scale.{Scale}
use Rattle.words.specs.Scale.{scale_of}
use Rattle.forms.specs.Date.{is_moment}
use Rattle.line.specs.declared.reading.Reading.{Reading}
use Rattle.line.specs.declared.reading.Reading.TheVariants.{Version, Comment, TimeScale, Creator, CreationDate, Refused}

-- "First line: exactly `#version 2.2.0`"
unfoldable pub is_version : List ℕ → Bool
is_version l = same_bytes l (bytes "#version 2.2.0")

-- "`#version` or begins with it and a blank"
unfoldable pub is_version_line : List ℕ → Bool
is_version_line l = same_bytes l (bytes "#version") || starts_with l (bytes "#version ")

-- "Comment: `# ` and anything."
unfoldable pub is_comment : List ℕ → Bool
is_comment l = starts_with l (bytes "# ")

-- "`#timeScale X` or `#timescale X` (000 spells both), X one of ps, ns, us, ms, s."
unfoldable pub time_scale : List ℕ → Option Scale
time_scale l = cond (starts_with l (bytes "#timeScale ") || starts_with l (bytes "#timescale ")) (scale_of (drop 11 l)) None

-- "`#creator X`, X not empty"
unfoldable pub is_creator : List ℕ → Bool
is_creator l = starts_with l (bytes "#creator ") && ltb 9 (length l)

-- "`#creationDate YYYY-MM-DDTHH:MM:SSZ`"
unfoldable pub is_creation_date : List ℕ → Bool
is_creation_date l = starts_with l (bytes "#creationDate ") && is_moment (drop 14 l)

-- ---- what such a line is

abbrev pub scale_or : Option Scale → Reading → Reading
scale_or (Some s) r = TimeScale s
scale_or None r = r

-- "Any other line starting with `#` is refusal 3."
unfoldable pub other_reading : List ℕ → Reading
other_reading l = scale_or (time_scale l) (cond (is_creator l) Creator (cond (is_creation_date l) CreationDate (Refused 3)))

-- "The reader answers .. 2 for a `#version` line of other text"
unfoldable pub parameter_reading : List ℕ → Reading
parameter_reading l = cond (is_version l) Version (cond (is_version_line l) (Refused 2) (cond (is_comment l) Comment (other_reading l)))
