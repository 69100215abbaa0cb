-- The sheet with nothing on it: it may be added, and added to itself it is itself.
use mathlib.Core.Path.{◌≡◌, refl}
use mathlib.Core.Bool.{true}
use mathlib.Core.List.{List, [], ◌∷◌, ◌++◌}
use Prim.Native.Nat.{ℕ}
use Rattle.text.specs.Literal.{bytes}
use Rattle.text.specs.Bytes.{same_bytes, starts_with, to_byte}
use Rattle.text.specs.Number.{digits_of}
use Rattle.text.specs.Pieces.{pieces}
use Rattle.words.specs.Named.{pick}
use Rattle.words.specs.Scale.{scale_of, scale_word}
use Rattle.bill.specs.Scale.{scale_number, scale_text}
use Rattle.bill.specs.Text.{rows_text, section_text, sheet_text}
use Rattle.bill.specs.Verdict.{accepted_text}
use Rattle.bill.specs.Reading.{bill_text, scale_in, span_in, head_exact, count_in, count_exact, bill_from, form_tests, read_sheet}
use Rattle.sorting.specs.Sets.{gather_by}
use Rattle.shifts.specs.Sound.{names, too_many, shape_tests, sum_tests, malformed, unsound, sound_sheet}
use Rattle.shifts.specs.Sum.{rows_of, add_rows, sum, clash, refusal, Text, add_texts}
use Rattle.shifts.specs.Many.{is_sound}

abbrev pub nothing : List ℕ
nothing = bytes "verdict 0 line 0 scale ns span 0" ++ 10 ∷ bytes "cores 0" ++ 10 ∷ bytes "processes 0" ++ 10 ∷ []

pub nothing_sound : is_sound nothing ≡ true
unfolding is_sound sound_sheet read_sheet form_tests bill_from head_exact scale_in span_in count_in count_exact starts_with same_bytes to_byte scale_of pick scale_word scale_number pieces unsound malformed shape_tests sum_tests too_many names rows_of
nothing_sound = refl

pub nothing_added : add_texts nothing nothing ≡ Text nothing
unfolding add_texts sound_sheet read_sheet form_tests bill_from head_exact scale_in span_in count_in count_exact starts_with same_bytes to_byte scale_of pick scale_word scale_number pieces unsound malformed shape_tests sum_tests too_many refusal clash sum add_rows gather_by bill_text accepted_text scale_text digits_of sheet_text section_text rows_text names rows_of
nothing_added = refl
