-- Laws of the text that a record is: its parts joined by commas, each of them a name's bytes. So its parts are those again, it is short,
-- no line break stands in it, and it starts with a digit.
use mathlib.Core.Path.{◌≡◌, refl, ap, ◌∙◌}
use mathlib.Core.Bool.{Bool, true, false, ◌&&◌, ◌||◌}
use mathlib.Core.List.{List, [], ◌∷◌, ◌++◌, append-nil, append_assoc}
use Prim.Native.Nat.{ℕ, ◌*◌, ◌≤◌, ◌<◌, ◌^◌}
use native.Mathlib.Omega.{arith}
use lib.ListN.{length, length-append}
use borrow.Author.Tests.{ne_eqb, le-leb}
use Rattle.text.specs.Name.{name_most, is_name_byte, all_name_bytes, is_name}
use Rattle.text.specs.Number.{is_digit, all_digits, digits_of}
use Rattle.text.specs.Lists.{is_empty}
use Rattle.text.proofs.Bools.{and_l, and_r}
use Rattle.text.proofs.Pieces.{joined_by}
use Rattle.text.proofs.Digits.{digits_all, digits_at_most, length_pos, digit_low}
use Rattle.text.proofs.Names.{name_byte, name_length, name_bytes, digits_names}
use Rattle.words.specs.Kind.{kind_word}
use Rattle.words.specs.Action.{word_of}
use Rattle.words.proofs.Found.{kind_name, word_name}
use Rattle.fields.specs.Part.{parts_of}
use Rattle.fields.proofs.Parts.{parts_join, parts_last, joined, name_clean}
use Rattle.line.specs.declared.event.Event.{Event}
use Rattle.line.specs.Reading.{line_most, has_break, is_event_line}
use Rattle.line.specs.Writing.{name_field, number_field, note_text, text_of}
use Rattle.line.proofs.Said.{Allowed}

-- ---- the parts of a record

-- a note that is there is one part more
abbrev pub note_parts : List ℕ → List (List ℕ)
note_parts [] = []
note_parts (x ∷ s) = (x ∷ s) ∷ []

unfoldable pub record_parts : Event → List ℕ → List ℕ → List ℕ → List (List ℕ)
record_parts e source target note =
    digits_of e.time ∷ source ∷ digits_of e.source_instance ∷ kind_word e.kind ∷ target ∷ digits_of e.target_instance ∷ word_of e.action ∷ note_parts note

pub text_joined : (e : Event) (source target note : List ℕ) → text_of e source target note ≡ joined (record_parts e source target note)
unfolding text_of name_field number_field note_text record_parts joined joined_by
text_joined e source target [] = simp (append_assoc, append-nil)
text_joined e source target (x ∷ s) = simp append_assoc

-- ---- names joined by commas

abbrev all_names : List (List ℕ) → Bool
all_names [] = true
all_names (p ∷ ps) = is_name p && all_names ps

-- what holds of a name that ends the line, and of a name, a comma and a line for which it holds
joined_ind : (P : List (List ℕ) → Type 0) → ((p : List ℕ) → is_name p ≡ true → P (p ∷ [])) → ((p q : List ℕ) (ps : List (List ℕ)) → is_name p ≡ true → P (q ∷ ps) → P (p ∷ q ∷ ps))
    → (p : List ℕ) (ps : List (List ℕ)) → all_names (p ∷ ps) ≡ true → P (p ∷ ps)
joined_ind P last more p [] e = last p (and_l (is_name p) true e)
joined_ind P last more p (q ∷ ps) e = more p q ps (and_l (is_name p) _ e) (joined_ind P last more q ps (and_r (is_name p) _ e))

joined_parts : (p : List ℕ) (ps : List (List ℕ)) → all_names (p ∷ ps) ≡ true → parts_of (joined (p ∷ ps)) ≡ p ∷ ps
unfolding joined joined_by
joined_parts =
    joined_ind (λ ps. parts_of (joined ps) ≡ ps)
    (λ p e. parts_last p (name_clean p e))
    (λ p q ps e ih. parts_join p (joined (q ∷ ps)) (name_clean p e) ∙ ap (λ (t : List (List ℕ)). p ∷ t) ih)

joined_length : (p : List ℕ) (ps : List (List ℕ)) → all_names (p ∷ ps) ≡ true → length (joined (p ∷ ps)) ≤ 65 * length (p ∷ ps)
unfolding joined joined_by
joined_length =
    joined_ind (λ ps. length (joined ps) ≤ 65 * length ps)
    (λ p e. omega (arith, name_length p e))
    (λ p q ps e ih. rw length-append (omega (arith, name_length p e)))

break_append : (s t : List ℕ) → all_name_bytes s ≡ true → has_break t ≡ false → has_break (s ++ t) ≡ false
unfolding all_name_bytes has_break
break_append [] t e h = h
break_append (x ∷ s) t e h =
    let b = name_byte x (and_l (is_name_byte x) (all_name_bytes s) e) in
    rw (ne_eqb x 10 (λ q. omega (arith, q)), ne_eqb x 13 (λ q. omega (arith, q))) (break_append s t (and_r (is_name_byte x) (all_name_bytes s) e) h)

joined_break : (p : List ℕ) (ps : List (List ℕ)) → all_names (p ∷ ps) ≡ true → has_break (joined (p ∷ ps)) ≡ false
unfolding joined joined_by has_break
joined_break =
    joined_ind (λ ps. has_break (joined ps) ≡ false)
    (λ p e. rw append-nil at (break_append p [] (name_bytes p e) refl))
    (λ p q ps e ih. break_append p (44 ∷ joined (q ∷ ps)) (name_bytes p e) ih)

-- a line that starts with digits and a comma is an event line
digits_event : (s t : List ℕ) → all_digits s ≡ true → is_event_line (s ++ 44 ∷ t) ≡ true
unfolding is_event_line
digits_event [] t e = refl
digits_event (x ∷ s) t e = rw (ne_eqb x 35 (λ q. omega (arith, q, digit_low x (and_l (is_digit x) (all_digits s) e))))

-- ---- the parts of a record are names

digits_name : (x : ℕ) → x < 10 ^ 17 → is_name (digits_of x) ≡ true
unfolding is_name
digits_name x h =
    rw (le-leb 1 (length (digits_of x)) (length_pos x), le-leb (length (digits_of x)) name_most (omega (arith, digits_at_most 16 x h)), digits_names (digits_of x) (digits_all x))

note_names : (s : List ℕ) → (is_empty s || is_name s) ≡ true → all_names (note_parts s) ≡ true
note_names [] e = refl
note_names (x ∷ s) e = rw e

note_count : (s : List ℕ) → length (note_parts s) ≤ 1
note_count [] = omega arith
note_count (x ∷ s) = omega arith

module _ (e : Event) (source target note : List ℕ) (count : ℕ) (a : Allowed e source target note count) where
  record_names : all_names (record_parts e source target note) ≡ true
  unfolding record_parts
  record_names =
      rw (
        digits_name e.time (omega arith),
        a.source_name,
        digits_name e.source_instance (omega arith),
        kind_name e.kind,
        a.target_name,
        digits_name e.target_instance (omega arith),
        word_name e.action,
      ) (note_names note a.note_name)

  pub text_parts : parts_of (text_of e source target note) ≡ record_parts e source target note
  unfolding record_parts
  text_parts = rw text_joined (joined_parts _ _ record_names)

  pub text_length : length (text_of e source target note) ≤ line_most
  unfolding record_parts
  text_length =
      let ps = record_parts e source target note in
      let h : length (joined ps) ≤ 65 * length ps = joined_length _ _ record_names in
      rw text_joined (omega (arith, note_count note))

  pub text_break : has_break (text_of e source target note) ≡ false
  unfolding record_parts
  text_break = rw text_joined (joined_break _ _ record_names)

  pub text_event : is_event_line (text_of e source target note) ≡ true
  unfolding record_parts joined joined_by
  text_event = rw text_joined (digits_event (digits_of e.time) _ (digits_all e.time))
