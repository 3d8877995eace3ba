-- A net with one more gate.
-- Assumes nothing.
use Rattle.std.specs.Prelude.{◌<◌, ◌≤◌, ◌+◌, ◌*◌, ◌≡◌, ◌∷◌, ◌++◌}
use Rattle.laws.specs.Prelude.{ℕ, ◌∙◌, sym, ap, refl, Bool, List, [], arith, length, get_or, take, drop}
use Rattle.laws.specs.Prelude.{length-take-le, get_or-take, ext_get_or, paste}
use Rattle.rules.specs.Nets.Filling.{gate_digits}
use Rattle.nets.specs.declared.forms.Net.{Net}
use Rattle.nets.specs.Forms.{gates_of}
use Rattle.nets.specs.Growing.{grown, gates_grown}
use Rattle.trees.specs.Filling.Digits.{digits_count}

-- the gate that joins groups a and b is added
pub record Joined (m n : ℕ) (f : ℕ → ℕ) (last : Bool) (a b left right : ℕ) (before after : Net) : Type 0 where
  pub levels : after.levels ≡ before.levels
  pub inputs : after.inputs ≡ before.inputs
  pub count : after.gates ≡ before.gates + 1
  pub gates : gates_of after ≡ gates_of before ++ (record { left = left; right = right; digits = gate_digits m n f last a b } ∷ [])

-- its references set, and its digits written from a table: each gate whose digits are at the table's front is added
abbrev pub JoinedBy : ℕ → ℕ → ℕ → List ℕ → Net → Net → Type 0
JoinedBy m left right table net after =
    (n : ℕ) (f : ℕ → ℕ) (last : Bool) (a b : ℕ) → net.levels ≡ m → ((k : ℕ) → k < m * m → get_or table k 0 ≡ get_or (gate_digits m n f last a b) k 0)
    → Joined m n f last a b left right net after

pub joined_table : (m left right : ℕ) (table : List ℕ) (net : Net) (digits : List ℕ) → net.gates < length net.left → net.gates < length net.right
    → (net.gates + 1) * (m * m) ≤ length net.digits → m * m ≤ length table → digits ≡ paste net.digits (net.gates * (m * m)) table (m * m)
    → JoinedBy m left right table net (grown net left right digits)
joined_table m left right table net digits lefts rights room long is n f last a b levels same =
    record {
      levels = refl;
      inputs = refl;
      count = refl;
      gates = gates_grown net left right own digits lefts rights (rw levels room) (rw levels (digits_count m n f last a b)) (rw levels
          (is ∙ ap (λ (front : List ℕ). take (net.gates * (m * m)) net.digits ++ front ++ drop (net.gates * (m * m) + m * m) net.digits) fronts));
    }
  where
    own : List ℕ
    own = gate_digits m n f last a b

    fronts : take (m * m) table ≡ take (m * m) own
    fronts =
        let count : length (take (m * m) table) ≡ m * m = length-take-le (m * m) table long in
        ext_get_or 0 (take (m * m) table) (take (m * m) own) (count ∙ sym (length-take-le (m * m) own (omega (arith, digits_count m n f last a b))))
        (λ k h. get_or-take (m * m) table k 0 (omega arith) ∙ same k (omega arith) ∙ sym (get_or-take (m * m) own k 0 (omega arith)))
