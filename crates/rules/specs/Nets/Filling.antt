-- Document 01, section 'The settled net': the rule for the gates' digits, over any wiring, in any line order and with any sides.
-- Assumes nothing.
use Rattle.std.specs.Prelude.{ℕ, ◌+◌, ◌^◌, Bool, true, false, ◌&&◌, List, [], ◌∷◌, ◌++◌, map, length, get_or, eqb}
use Rattle.std.proofs.Math.Option.{none, some}
use Rattle.rules.specs.Lists.{range, concat_map, find, first_place}
use Rattle.rules.specs.Sheets.Sheets.{Gate, level}
use Rattle.rules.specs.Groups.Groups.{size, others, points, part, alike_over, classes}
use Rattle.rules.specs.Nets.Wirings.{Link, first_input}

-- ---- what a wire carries

-- The number of the class of p's part in group g: "classes, numbered from 0 in the order in which they first appear as the
-- group's assignments are counted".
unfoldable pub class_number : ℕ → ℕ → (ℕ → ℕ) → ℕ → ℕ → ℕ
class_number m n f g =
    let firsts = classes m n f g in
    let ys = points m n (others n g) in
    λ p. first_place (alike_over f ys (part m n g p)) firsts

-- What the wire of group g carries at index p. "A single input is wired by name", so it carries its level. "A gate below the
-- last gives its group's classes".
unfoldable pub carried : ℕ → ℕ → (ℕ → ℕ) → ℕ → ℕ → ℕ
carried m n f g = elim (eqb (size n g) 1) [ true ↦ let i = first_input n g in λ p. level m n p i | false ↦ class_number m n f g ]

-- What the gate of group g gives at index p. "A gate below the last gives its group's classes". "The last gate gives the ink." Inputs outside g do
-- not matter there (document 02, K12: they are not leaves), so the ink is read with level 0 at them.
unfoldable pub given : ℕ → ℕ → (ℕ → ℕ) → Bool → ℕ → ℕ → ℕ
given m n f true g = λ p. f (part m n g p)
given m n f false g = class_number m n f g

-- ---- a gate's digits

-- what the left and the right wire carry, and what the gate gives
pub record FillingReached : Type 0 where
  pub left : ℕ
  pub right : ℕ
  pub gives : ℕ

-- "A digit that no assignment reaches is 0."
unfoldable pub digit_at_of : List FillingReached → ℕ → ℕ → ℕ
digit_at_of reached u v = elim (find (λ r. eqb r.left u && eqb r.right v) reached) [ none ↦ 0 | some r ↦ r.gives ]

-- the table of the gate that joins groups a and b, "left's level slowest"
unfoldable pub gate_digits : ℕ → ℕ → (ℕ → ℕ) → Bool → ℕ → ℕ → List ℕ
gate_digits m n f last a b =
    let left = carried m n f a in
    let right = carried m n f b in
    let own = given m n f last (a + b) in
    let reached = map {B = FillingReached} (λ p. record { left = left p; right = right p; gives = own p }) (points m n (a + b)) in
    concat_map (λ u. map (digit_at_of reached u) (range 0 m)) (range 0 m)

-- ---- all gates

-- the inputs' groups, in their order
unfoldable pub input_groups : ℕ → List ℕ
input_groups n = map (λ i. 2 ^ i) (range 0 n)

-- The gates of some lines. `groups` holds the group of every reference so far; a gate's group is the union of its references' groups.
unfoldable pub filled_from : ℕ → ℕ → (ℕ → ℕ) → List ℕ → List Link → List Gate
filled_from m n f groups [] = []
filled_from m n f groups (l ∷ links) =
    let a = get_or groups l.left 0 in
    let b = get_or groups l.right 0 in
    record { left = l.left; right = l.right; digits = gate_digits m n f (eqb (length links) 0) a b }
    ∷ filled_from m n f (groups ++ ((a + b) ∷ [])) links

-- the gates of a wiring
unfoldable pub filled : ℕ → ℕ → (ℕ → ℕ) → List Link → List Gate
filled m n f links = filled_from m n f (input_groups n) links

-- all of this file computes
unfoldable pub computing : Unit {0}
unfolding class_number carried given digit_at_of gate_digits input_groups filled_from filled
computing = tt
