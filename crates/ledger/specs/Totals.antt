-- What the sheets that were read come to. Which bytes they have is the world's: here they are some bytes.
use Rattle.std.specs.Prelude.{◌≡◌, Bool, false, List, [], ◌∷◌, ◌++◌, ℕ, ◌+◌, ◌-◌, ◌≤◌, ◌<◌, eqb, ltb, length, take, get_or, Option, None, Some, Result, Ok, Err}
use Rattle.text.specs.Put.{written}
use Rattle.shifts.specs.Sum.{Total, Text, Refusal, add_all}
use Rattle.shifts.specs.Sizes.{sheet_most}
use Rattle.shifts.specs.Many.{sum_from, HasText}
use Rattle.adding.specs.Adding.{number_of}
use Rattle.ledger.specs.declared.total.SheetError.{SheetError}
use Rattle.ledger.specs.declared.total.SheetError.TheVariants.{Refused, Unread}
use Rattle.ledger.specs.declared.total.SumError.{SumError}
use Rattle.ledger.specs.declared.total.SumError.TheVariants.{Sheet, TooFew, WrongSize}

-- one byte more than any sheet that may be added has is read, by which a longer one shows
abbrev pub read_most : ℕ
read_most = 24009

-- ---- the sheets as they were read, THE FIRST FIRST

-- of a longer one its first 24,009 bytes
pub record ASheet (t : List ℕ) : Type 0 where
  pub size : length t ≤ read_most
  pub bytes : (i : ℕ) → i < length t → get_or t i 0 < 256

abbrev pub AllSheets : List (List ℕ) → Type 0
AllSheets [] = Unit {0}
AllSheets (t ∷ ts) = ASheet t × AllSheets ts

-- k sheets come to the total x
pub record Came (k : ℕ) (x : Total) : Type 0 where
  pub first : List ℕ
  pub others : List (List ℕ)
  pub each : AllSheets (first ∷ others)
  pub counted : 1 + length others ≡ k
  pub total : sum_from first others ≡ x

abbrev pub sheets_in : {k : ℕ} {x : Total} → Came k x → List (List ℕ)
sheets_in c = c.first ∷ c.others

-- and that is a sum
pub record HaveSum (k : ℕ) : Type 0 where
  pub text : List ℕ
  pub came : Came k (Text text)

-- sheet k is refused, by n: all fewer of them, from the first on, have a sum
pub record RefusedAt (n k : ℕ) : Type 0 where
  pub came : Came k (Refusal n)
  pub before : (j : ℕ) → j < length came.others → HasText (sum_from came.first (take j came.others))

-- sheet k could not be read; those before it, where there are any, have a sum
pub record UnreadAt (k : ℕ) : Type 0 where
  pub from : 0 < k
  pub before : 1 < k → HaveSum (k - 1)

-- ---- the answer: of so many arguments, the program's own name among them, into an output l that m is then

-- The number of each answer, of 02's list, or of 01's table for an output too short. 01 and 02 have none for a sheet that can't be read or is missing.
abbrev pub answer_number : Result ℕ SumError → Option ℕ
answer_number (Ok n) = Some 0
answer_number (Err (Sheet k (Refused r))) = Some (number_of r)
answer_number (Err (Sheet k Unread)) = None
answer_number (Err TooFew) = None
answer_number (Err WrongSize) = Some 15

-- it is 15 exactly if the output is too short
abbrev pub Numbered : Option ℕ → Bool → Type 0
Numbered (Some n) short = eqb n 15 ≡ short
Numbered None short = false ≡ short

-- two sheets, or the answer is that there are too few
abbrev pub Enough : Result ℕ SumError → ℕ → Type 0
Enough (Ok n) count = 3 ≤ count
Enough (Err (Sheet k e)) count = 3 ≤ count
Enough (Err TooFew) count = count < 3
Enough (Err WrongSize) count = Unit {0}

-- the sum of all, of n bytes, is at the front of the output, the rest unchanged
pub record Summed (n count : ℕ) (l m : List ℕ) : Type 0 where
  pub sum : HaveSum (count - 1)
  pub size : n ≡ length sum.text
  pub output : m ≡ written l 0 sum.text

-- "A refused sum writes nothing"
abbrev pub Leaves : Result ℕ SumError → ℕ → List ℕ → List ℕ → Type 0
Leaves (Ok n) count l m = Summed n count l m
Leaves (Err (Sheet k (Refused r))) count l m = (k < count) × (RefusedAt (number_of r) k × (m ≡ l))
Leaves (Err (Sheet k Unread)) count l m = (k < count) × (UnreadAt k × (m ≡ l))
Leaves (Err TooFew) count l m = m ≡ l
Leaves (Err WrongSize) count l m = m ≡ l

pub record Answered (r : Result ℕ SumError) (count : ℕ) (l m : List ℕ) : Type 0 where
  pub number : Numbered (answer_number r) (ltb (length l) sheet_most)
  pub enough : Enough r count
  pub leaves : Leaves r count l m

-- ---- what may be written

-- the first n bytes are the sum of two sheets or more
pub record IsSum (n : ℕ) (s : List ℕ) : Type 0 where
  pub first : List ℕ
  pub others : List (List ℕ)
  pub each : AllSheets (first ∷ others)
  pub some : 0 < length others
  pub sum : add_all (Text first) others ≡ Text (take n s)
  pub fits : n ≤ length s

-- n refuses some sheets, and whatever others follow
pub record IsRefusal (n : ℕ) : Type 0 where
  pub first : List ℕ
  pub others : List (List ℕ)
  pub each : AllSheets (first ∷ others)
  pub refused : (more : List (List ℕ)) → 0 < length (others ++ more) → add_all (Text first) (others ++ more) ≡ Refusal n

-- ---- FOR THE CODE ALONE: one sheet after the other, the total so far at the front of what is held, c

-- some sheet, of which f is x
pub record Comes (f : List ℕ → Total) (x : Total) : Type 0 where
  pub sheet : List ℕ
  pub each : ASheet sheet
  pub comes_to : f sheet ≡ x

abbrev pub Stepped : Result ℕ SheetError → (List ℕ → Total) → List ℕ → Type 0
Stepped (Ok k) f c = (k ≤ length c) × Comes f (Text (take k c))
Stepped (Err (Refused r)) f c = Comes f (Refusal (number_of r))
Stepped (Err Unread) f c = Unit {0}

-- the total of the sheets before sheet i
pub record Holding (i n : ℕ) (c : List ℕ) : Type 0 where
  pub fits : n ≤ length c
  pub came : Came (i - 1) (Text (take n c))

-- one of the answers for which sheets are read
abbrev pub Tried : Result ℕ SumError → Type 0
Tried (Ok n) = Unit {0}
Tried (Err (Sheet k e)) = Unit {0}
Tried (Err TooFew) = ⊥
Tried (Err WrongSize) = ⊥

abbrev pub Ended : Result ℕ SumError → ℕ → List ℕ → List ℕ → Type 0
Ended r count l m = Tried r × Leaves r count l m
