-- The fold of a name's bytes: none past their end, a step whose sum wraps, the turns of the loop, and that a home is one of the places.
use Rattle.std.proofs.Common.{◌≡◌, ℕ, zero, suc, ◌+◌, ◌-◌, ◌*◌, ◌/◌, ◌%◌, ◌^◌, ◌<◌, ◌≤◌, List, [], length, get_or, take, drop, refl, sym, ap, ◌∙◌, mod-lt, mul_comm, mul-add, mul_left_comm, get_or-take, get_or-drop, length-take, add-zero, arith}
use native.Mathlib.Nat.{add-mul-mod_self_left, div-add-mod, not-suc-le-zero}
use lib.ListN.{get_or-eq_default}
use lib.Seq.{drop-drop}
use Rattle.std.specs.Int.{w32, from_le_bytes}
use Rattle.std.specs.Simd.{first_chunks}
use Rattle.tables.specs.Entry.{place_rows, name_at}
use Rattle.index.specs.Hash.{word, factor, step, fours, folded, home_of}
use Rattle.index.specs.Index.{home_at}

-- ---- one number

-- a name of n bytes has none after them
pub past : (s : List ℕ) (n k : ℕ) → length s ≤ n → get_or s (n + k) 0 ≡ 0
past s n k l = get_or-eq_default s 0 {n = n + k} (omega arith)

-- so many times a sum that wrapped is what so many times the sum itself is
times_wrapped : (k x m : ℕ) → k * (x % m) % m ≡ k * x % m
times_wrapped k x m = sym (add-mul-mod_self_left (k * (x % m)) m (k * (x / m))) ∙ ap (λ n. n % m) all
  where
    all : k * (x % m) + m * (k * (x / m)) ≡ k * x
    all =
        let parts : k * (m * (x / m)) + k * (x % m) ≡ k * x = sym (mul-add k (m * (x / m)) (x % m)) ∙ ap (λ n. k * n) (div-add-mod x m) in
        omega (arith, parts, mul_left_comm m k (x / m))

pub step_wraps : (h w s : ℕ) → s ≡ (h + w) % 2 ^ 32 → s * factor % 2 ^ 32 ≡ step h w
unfolding step
step_wraps h w s e = rw e (ap (λ n. n % 2 ^ 32) (mul_comm ((h + w) % 2 ^ 32) factor) ∙ times_wrapped factor (h + w) (2 ^ 32))

-- ---- the whole name

pub fold_short : (s : List ℕ) → length s < 4 → step 0 (word s 0) ≡ folded s
unfolding folded fours
fold_short s l =
    let none : (length s - 1) / 4 ≡ 0 = omega arith in
    let front : length s - 4 ≡ 0 = omega arith in
    rw (none, front)

-- the four bytes from an index on as one number, as the library has it
pub lent_word : (s : List ℕ) (at : ℕ) → from_le_bytes w32 (drop at s) ≡ word s at
unfolding word
lent_word s at = omega (arith, ap (λ k. get_or s k 0) (add-zero at), get_or-drop at s 0 0, get_or-drop at s 1 0, get_or-drop at s 2 0, get_or-drop at s 3 0)

four_word : (b : List ℕ) → from_le_bytes w32 (take 4 b) ≡ from_le_bytes w32 b
four_word b = rw (get_or-take 4 b 0 0 (omega arith), get_or-take 4 b 1 0 (omega arith), get_or-take 4 b 2 0 (omega arith), get_or-take 4 b 3 0 (omega arith))

-- one of the fours of a list
four_at : (n i : ℕ) (s : List ℕ) → i < n → get_or (first_chunks 4 n s) i [] ≡ take 4 (drop (4 * i) s)
four_at zero i s h = absurd (not-suc-le-zero h)
four_at (suc n) zero s h = refl
four_at (suc n) (suc i) s h =
    let next : 4 + 4 * i ≡ 4 * suc i = omega arith in
    four_at n i (drop 4 s) (omega arith) ∙ ap (take 4) (drop-drop (4 * i) 4 s ∙ ap (λ k. drop k s) next)

-- what comes before the last byte has its fours
front_word : (s : List ℕ) (m at : ℕ) → at + 4 ≤ m → word (take m s) at ≡ word s at
unfolding word
front_word s m at h = rw (get_or-take m s at 0 (omega arith), get_or-take m s (at + 1) 0 (omega arith), get_or-take m s (at + 2) 0 (omega arith), get_or-take m s (at + 3) 0 (omega arith))

pub fold_turn : (s : List ℕ) (h i : ℕ) → i % 4 ≡ 0 → h ≡ fours s (i / 4) → step h (word s i) ≡ fours s ((i + 4) / 4)
unfolding fours
fold_turn s h i whole e =
    let next : (i + 4) / 4 ≡ suc (i / 4) = omega arith in
    let here : 4 * (i / 4) ≡ i = omega arith in
    rw (next, here, e)

-- and so of the fours before the last byte, as the library has them
pub chunk_turn : (s : List ℕ) (fs : List (List ℕ)) (h i : ℕ) → fs ≡ first_chunks 4 (length (take (length s - 1) s) / 4) (take (length s - 1) s) → length fs ≡ length (take (length s - 1) s) / 4 → i < length fs
    → h ≡ fours s i → step h (from_le_bytes w32 (get_or fs i [])) ≡ fours s (i + 1)
chunk_turn s fs h i f n l e =
    let m = length s - 1 in
    let z : length (take m s) ≤ m = omega (arith, length-take m s) in
    let w : from_le_bytes w32 (get_or fs i []) ≡ word s (4 * i) =
    rw (f, four_at (length (take m s) / 4) i (take m s) (omega arith)) (four_word (drop (4 * i) (take m s)) ∙ lent_word (take m s) (4 * i) ∙ front_word s m (4 * i) (omega arith)) in
    let here : 4 * i / 4 ≡ i = omega arith in
    let next : (4 * i + 4) / 4 ≡ i + 1 = omega arith in
    rw w (fold_turn s h (4 * i) (omega arith) (e ∙ ap (fours s) (sym here)) ∙ ap (fours s) next)

pub fold_end : (s : List ℕ) (h n : ℕ) → n ≡ (length s - 1) / 4 → h ≡ fours s n → step h (word s (length s - 4)) ≡ folded s
unfolding folded
fold_end s h n last e = rw (e, last)

-- ---- a home is one of the places

folded_lt : (name : List ℕ) → folded name < 2 ^ 32
unfolding folded step
folded_lt name = mod-lt _ (omega arith)

pub home_lt : (name : List ℕ) → home_of name < place_rows
unfolding home_of
home_lt name = omega (arith, folded_lt name)

pub home_at_lt : (names nums : List ℕ) (i : ℕ) → home_at names nums i < place_rows
unfolding home_at
home_at_lt names nums i = home_lt (name_at names nums i)
