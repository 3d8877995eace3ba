-- Marks stored four to a byte (document 02, K7): one more byte, how many bytes there are, and that unpacking what was packed gives the marks back.
-- Assumes nothing.
use Rattle.std.specs.Prelude.{◌<◌, ◌≤◌, ◌+◌, ◌^◌, ◌*◌, ◌%◌, ◌/◌, ◌≡◌, ◌∷◌, ◌++◌}
use Rattle.laws.specs.Prelude.{ℕ, suc, zero, ◌∙◌, sym, ap, refl, ap₂, List, [], pow-suc, zero-div}
use Rattle.laws.specs.Prelude.{div-one, arith, length, get_or, take, drop, set, get_or-append, length-take-le, drop-cons, append_snoc, set_at}
use Rattle.rules.specs.Calls.Answers.{written}
use Rattle.rules.specs.Groups.Marks.{mark_in, marks_length, stored_marks, mark_stored, unpacked}

-- the byte of the four marks from `at` on
abbrev pub four_at : List ℕ → ℕ → ℕ
four_at marks at = get_or marks at 0 + 4 * get_or marks (at + 1) 0 + 16 * get_or marks (at + 2) 0 + 64 * get_or marks (at + 3) 0

-- each of the first `count` marks fits into two bits
abbrev pub InTwoBits : ℕ → List ℕ → Type 0
InTwoBits count marks = (g : ℕ) → g < count → get_or marks g 0 < 4

-- ---- the bytes

pub stored_length : (marks : List ℕ) → length (stored_marks marks) ≡ length marks / 4
unfolding stored_marks
stored_length [] = refl
stored_length (a ∷ []) = refl
stored_length (a ∷ b ∷ []) = refl
stored_length (a ∷ b ∷ c ∷ []) = refl
stored_length (a ∷ b ∷ c ∷ d ∷ marks) = omega (arith, stored_length marks)

-- four marks past the first four
four_past : (a b c d : ℕ) (marks : List ℕ) (k : ℕ) → four_at (a ∷ b ∷ c ∷ d ∷ marks) (4 * suc k) ≡ four_at marks (4 * k)
four_past a b c d marks k =
    let at0 : 4 * suc k ≡ suc (suc (suc (suc (4 * k)))) = omega arith in
    let at1 : 4 * suc k + 1 ≡ suc (suc (suc (suc (4 * k + 1)))) = omega arith in
    let at2 : 4 * suc k + 2 ≡ suc (suc (suc (suc (4 * k + 2)))) = omega arith in
    let at3 : 4 * suc k + 3 ≡ suc (suc (suc (suc (4 * k + 3)))) = omega arith in
    rw (at1, at2, at3, at0) refl

-- one more byte
pub stored_next : (marks : List ℕ) (k : ℕ) → 4 * k + 3 < length marks
    → stored_marks (take (4 * (k + 1)) marks) ≡ stored_marks (take (4 * k) marks) ++ (four_at marks (4 * k) ∷ [])
unfolding stored_marks
stored_next [] k h = absurd (omega arith)
stored_next (a ∷ []) k h = absurd (omega arith)
stored_next (a ∷ b ∷ []) k h = absurd (omega arith)
stored_next (a ∷ b ∷ c ∷ []) k h = absurd (omega arith)
stored_next (a ∷ b ∷ c ∷ d ∷ marks) zero h = refl
stored_next (a ∷ b ∷ c ∷ d ∷ marks) (suc k) h =
    let more : 4 * (suc k + 1) ≡ suc (suc (suc (suc (4 * (k + 1))))) = omega arith in
    let same : 4 * suc k ≡ suc (suc (suc (suc (4 * k)))) = omega arith in
    ap (λ (i : ℕ). stored_marks (take i (a ∷ b ∷ c ∷ d ∷ marks))) more
    ∙ ap (λ (l : List ℕ). (a + 4 * b + 16 * c + 64 * d) ∷ l) (stored_next marks k (omega arith))
    ∙ ap₂ (λ (i v : ℕ). stored_marks (take i (a ∷ b ∷ c ∷ d ∷ marks)) ++ (v ∷ [])) (sym same) (sym (four_past a b c d marks k))

-- the byte written after those before it
pub stored_set : (before marks : List ℕ) (k : ℕ) → 4 * k + 3 < length marks → k < length before
    → set (written before (stored_marks (take (4 * k) marks))) k (four_at marks (4 * k)) ≡ written before (stored_marks (take (4 * (k + 1)) marks))
unfolding written
stored_set before marks k h room =
    let next = stored_next marks k h in
    let count : length (stored_marks (take (4 * k) marks)) ≡ k = omega (arith, stored_length (take (4 * k) marks), length-take-le (4 * k) marks (omega arith)) in
    let count' : length (stored_marks (take (4 * (k + 1)) marks)) ≡ suc k =
    omega (arith, stored_length (take (4 * (k + 1)) marks), length-take-le (4 * (k + 1)) marks (omega arith)) in
    ap (λ (i : ℕ). set (stored_marks (take (4 * k) marks) ++ drop i before) k (four_at marks (4 * k))) count
    ∙ ap (λ (l : List ℕ). set (stored_marks (take (4 * k) marks) ++ l) k (four_at marks (4 * k))) (drop-cons before k 0 room)
    ∙ set_at (stored_marks (take (4 * k) marks)) (get_or before k 0) (drop (suc k) before) (four_at marks (4 * k)) k count
    ∙ sym (append_snoc (stored_marks (take (4 * k) marks)) (four_at marks (4 * k)) (drop (suc k) before))
    ∙ ap₂ (λ (l : List ℕ) (i : ℕ). l ++ drop i before) (sym next) (sym count')

-- for two or more inputs the number of groups is a multiple of four
pub four_groups : (n : ℕ) → 2 ≤ n → 4 * marks_length n ≡ 2 ^ n
unfolding marks_length
four_groups zero h = absurd (omega arith)
four_groups (suc zero) h = absurd (omega arith)
four_groups (suc (suc n)) h = let twice : 2 ^ suc (suc n) ≡ 2 * (2 * 2 ^ n) = rw (pow-suc, pow-suc) (omega arith) in omega (arith, twice)

-- ---- unpacked again

module _ (a b c d : ℕ) (a< : a < 4) (b< : b < 4) (c< : c < 4) (d< : d < 4) where
  abbrev byte : ℕ
  byte = a + 4 * b + 16 * c + 64 * d

  unpacked_four : (byte % 4 ≡ a) × (byte / 4 % 4 ≡ b) × (byte / 16 % 4 ≡ c) × (byte / 64 % 4 ≡ d)
  unpacked_four = (omega arith, omega arith, omega arith, omega arith)

-- "unpacking what was packed gives the marks back": marks of two bits each, a multiple of four of them
pub unpacked_stored : (marks : List ℕ) (k : ℕ) → length marks ≡ 4 * k → InTwoBits (length marks) marks → unpacked (stored_marks marks) ≡ marks
unfolding stored_marks unpacked
unpacked_stored [] k e small = refl
unpacked_stored (a ∷ []) k e small = absurd (omega arith)
unpacked_stored (a ∷ b ∷ []) k e small = absurd (omega arith)
unpacked_stored (a ∷ b ∷ c ∷ []) k e small = absurd (omega arith)
unpacked_stored (a ∷ b ∷ c ∷ d ∷ marks) zero e small = absurd (omega arith)
unpacked_stored (a ∷ b ∷ c ∷ d ∷ marks) (suc k) e small =
    let four = unpacked_four a b c d (small 0 (omega arith)) (small 1 (omega arith)) (small 2 (omega arith)) (small 3 (omega arith)) in
    let rest = unpacked_stored marks k (omega arith) (λ g h. small (suc (suc (suc (suc g)))) (omega arith)) in
    λ i. four.0 i ∷ four.1 i ∷ four.2 i ∷ four.3 i ∷ rest i

-- one group's mark read from the bytes equals its mark in all of them unpacked
pub mark_unpacked : (bytes : List ℕ) (g : ℕ) → mark_stored bytes g ≡ mark_in (unpacked bytes) g
unfolding mark_stored unpacked
mark_unpacked [] g = ap (λ (v : ℕ). v % 4) (zero-div (4 ^ (g % 4)))
mark_unpacked (byte ∷ bytes) zero = ap (λ (v : ℕ). v % 4) (div-one byte)
mark_unpacked (byte ∷ bytes) (suc zero) = refl
mark_unpacked (byte ∷ bytes) (suc (suc zero)) = refl
mark_unpacked (byte ∷ bytes) (suc (suc (suc zero))) = refl
mark_unpacked (byte ∷ bytes) (suc (suc (suc (suc g)))) =
    let of : suc (suc (suc (suc g))) / 4 ≡ suc (g / 4) = omega arith in
    let bits : suc (suc (suc (suc g))) % 4 ≡ g % 4 = omega arith in
    ap₂ (λ (i j : ℕ). get_or (byte ∷ bytes) i 0 / 4 ^ j % 4) of bits ∙ mark_unpacked bytes g

-- the mark of a group in a buffer that the marks were written to
pub mark_written : (before marks : List ℕ) (k : ℕ) → length marks ≡ 4 * k → InTwoBits (length marks) marks → (g : ℕ) → g < length marks
    → mark_stored (written before (stored_marks marks)) g ≡ mark_in marks g
unfolding written mark_stored
mark_written before marks k e small g h =
    ap (λ (v : ℕ). v / 4 ^ (g % 4) % 4)
    (get_or-append (stored_marks marks) (drop (length (stored_marks marks)) before) 0 (g / 4) (omega (arith, stored_length marks)))
    ∙ mark_unpacked (stored_marks marks) g
    ∙ ap (λ (l : List ℕ). mark_in l g) (unpacked_stored marks k e small)
