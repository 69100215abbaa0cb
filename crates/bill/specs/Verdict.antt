-- The line that tells a verdict, and all that is printed: verdict and sheet, or the one line of a refused trace.
use Rattle.std.specs.Prelude.{cond, List, [], ◌∷◌, ◌++◌, ℕ, eqb}
use Rattle.text.specs.Literal.{bytes}
use Rattle.text.specs.Number.{digits_of}
use Rattle.bill.specs.declared.verdict.Verdict.{Verdict}
use Rattle.bill.specs.Scale.{scale_text}

-- "verdict 0 line 0 scale ns span 960175", "verdict 13 line 7"; "every line ends with byte 10"
unfoldable pub accepted_text : ℕ → ℕ → List ℕ
accepted_text scale span = bytes "verdict 0 line 0 scale " ++ scale_text scale ++ bytes " span " ++ digits_of span ++ 10 ∷ []

unfoldable pub refused_text : ℕ → ℕ → List ℕ
refused_text n l = bytes "verdict " ++ digits_of n ++ bytes " line " ++ digits_of l ++ 10 ∷ []

unfoldable pub verdict_text : Verdict → List ℕ
verdict_text v = cond (eqb v.number 0) (accepted_text v.scale v.span) (refused_text v.number v.line)

-- what is printed of a verdict and the text of a sheet: "A refused trace prints one line"
unfoldable pub report_text : Verdict → List ℕ → List ℕ
report_text v sheet = verdict_text v ++ cond (eqb v.number 0) sheet []
