-- When each reference of a gate list settles, one number for each: an input when it arrives, a gate one delay after the later of the two it joins.
-- Assumes nothing.
use Rattle.std.specs.Prelude.{◌≤◌, ◌+◌, ◌*◌, ◌∷◌, ◌++◌}
use Rattle.laws.specs.Prelude.{ℕ, suc, zero, max, List, [], mul-suc, arith, length, get_or}
use Rattle.rules.specs.Lists.{with_each}
use Rattle.rules.specs.Sheets.Sheets.{Gate}

-- a gate's time, from the times of every reference so far
unfoldable pub gate_time : ℕ → List ℕ → Gate → ℕ
gate_time delay times g = max (get_or times g.left 0) (get_or times g.right 0) + delay

-- the times of all references: the given ones, then the gates', in order
abbrev pub with_times : ℕ → List ℕ → List Gate → List ℕ
with_times delay times gates = with_each (gate_time delay) times gates

-- ---- no time is later than the latest arrival and one delay for each gate

most_snoc : (b : ℕ) (xs : List ℕ) (x : ℕ) → ((i : ℕ) → get_or xs i 0 ≤ b) → x ≤ b → (i : ℕ) → get_or (xs ++ (x ∷ [])) i 0 ≤ b
most_snoc b [] x each last zero = last
most_snoc b [] x each last (suc i) = omega arith
most_snoc b (y ∷ xs) x each last zero = each 0
most_snoc b (y ∷ xs) x each last (suc i) = most_snoc b xs x (λ j. each (suc j)) last i

pub times_most : (delay b : ℕ) (times : List ℕ) (gates : List Gate) → ((i : ℕ) → get_or times i 0 ≤ b)
    → (i : ℕ) → get_or (with_times delay times gates) i 0 ≤ b + delay * length gates
unfolding with_each gate_time
times_most delay b times [] each i = omega (arith, each i)
times_most delay b times (g ∷ gates) each i =
    let more = times_most delay (b + delay) (times ++ (gate_time delay times g ∷ [])) gates
    (most_snoc (b + delay) times (gate_time delay times g) (λ j. omega (arith, each j)) (omega (arith, each g.left, each g.right))) i in
    omega (arith, more, mul-suc delay (length gates))
