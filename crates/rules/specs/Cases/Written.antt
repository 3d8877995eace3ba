-- How a case is written down: sheets with `/` for the line feed, as in document 01; tables by their rule; buffers before a call. Every file of
-- cases uses these.
-- Assumes nothing.
use Rattle.std.specs.Prelude.{ℕ, ◌-◌, ◌^◌, Bool, true, false, cond, List, [], ◌∷◌, map, get_or, replicate, eqb}
use Prim.Native.String.{String}
use Rattle.rules.specs.Lists.{range}
use Rattle.rules.specs.Text.{newline, text, is_digit}
use Rattle.rules.specs.Sheets.Sheets.{Table, levels_at}

-- Every case of a list holds. `Holds` is what a case says.
abbrev pub AllHold : {C : Type 0} → (C → Type 0) → List C → Type 0
AllHold Holds [] = Unit {0}
AllHold Holds (c ∷ cases) = Holds c × AllHold Holds cases

unfoldable pub line_ends : List ℕ → List ℕ
line_ends [] = []
line_ends (b ∷ s) = cond (eqb b 47) newline b ∷ line_ends s

-- a sheet as in the document, with `/` for the line feed
unfoldable pub paper : String → List ℕ
paper s = line_ends (text s)

-- the digits in a text, skipping spaces
unfoldable pub digits : List ℕ → List ℕ
digits [] = []
digits (b ∷ s) = elim (is_digit 10 b) [ true ↦ (b - 48) ∷ digits s | false ↦ digits s ]

-- one-letter names
unfoldable pub letter_names : String → List (List ℕ)
letter_names names = map (λ b. b ∷ []) (text names)

-- a table by its rule: the ink from the inputs' levels
unfoldable pub by_rule : ℕ → ℕ → List (List ℕ) → (List ℕ → ℕ) → Table
by_rule m n names rule =
    record { header = record { levels = m; inputs = n; names = names }; inks = map (λ p. rule (levels_at m n p)) (range 0 (m ^ n)) }

-- .. of three inputs a, b, c
unfoldable pub abc : ℕ → (ℕ → ℕ → ℕ → ℕ) → Table
abc m rule = by_rule m 3 (letter_names "abc") (λ ls. rule (get_or ls 0 0) (get_or ls 1 0) (get_or ls 2 0))

-- .. of four, a to d
unfoldable pub abcd : ℕ → (ℕ → ℕ → ℕ → ℕ → ℕ) → Table
abcd m rule = by_rule m 4 (letter_names "abcd") (λ ls. rule (get_or ls 0 0) (get_or ls 1 0) (get_or ls 2 0) (get_or ls 3 0))

-- 1 if it holds, 0 if not
unfoldable pub one_if : Bool → ℕ
one_if b = cond b 1 0

-- a buffer before a call: the given number of nines, a byte that none of the calls in the cases writes
unfoldable pub nines : ℕ → List ℕ
nines k = replicate k 9

-- all of this file computes
unfoldable pub writing : Unit {0}
unfolding line_ends paper digits letter_names by_rule abc abcd one_if nines
writing = tt
