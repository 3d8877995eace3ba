-- A net with one more gate, by value: its references are set and its digits are written after the others.
-- Assumes nothing.
use Rattle.std.specs.Prelude.{◌<◌, ◌≤◌, ◌+◌, ◌*◌, ◌≡◌, ◌∷◌, ◌++◌}
use Rattle.laws.specs.Prelude.{ℕ, ◌∙◌, ap, ap₂, List, [], map, mul-le-mul_right, add-one, arith, length, take, drop}
use Rattle.laws.specs.Prelude.{set, get_or-set_same, get_or-set_other, paste}
use Rattle.rules.specs.Lists.{range}
use Rattle.rules.specs.Sheets.Sheets.{Gate}
use Rattle.laws.specs.Lists.Pastes.{part_before, part_pasted}
use Rattle.laws.specs.Lists.Ranges.{map_range_suc, map_range_same}
use Rattle.nets.specs.Forms.{gate_of, gates_of}
use Rattle.nets.specs.declared.forms.Net.{Net}

abbrev pub grown : Net → ℕ → ℕ → List ℕ → Net
grown net left right digits =
    record {
      levels = net.levels;
      inputs = net.inputs;
      gates = net.gates + 1;
      left = set net.left net.gates left;
      right = set net.right net.gates right;
      digits = digits;
    }

module _ (net : Net) (left right : ℕ) (v digits : List ℕ) (lefts : net.gates < length net.left) (rights : net.gates < length net.right)
    (room : (net.gates + 1) * (net.levels * net.levels) ≤ length net.digits) (long : length v ≡ net.levels * net.levels)
    (pasted : digits ≡ paste net.digits (net.gates * (net.levels * net.levels)) v (net.levels * net.levels)) where
  abbrev size : ℕ
  size = net.levels * net.levels

  fits : net.gates * size + size ≤ length net.digits
  fits = omega arith

  earlier : (k : ℕ) → k < net.gates → gate_of (grown net left right digits) k ≡ gate_of net k
  unfolding gate_of
  earlier k h = λ i. record {
    left = get_or-set_other net.left net.gates k left 0 (λ e. omega arith) i;
    right = get_or-set_other net.right net.gates k right 0 (λ e. omega arith) i;
    digits = (ap (λ l. take size (drop (k * size) l)) pasted
        ∙ part_before net.digits (net.gates * size) v size fits long (k * size) size (omega (arith, mul-le-mul_right size h))) i;
  }

  last : gate_of (grown net left right digits) net.gates ≡ record { left = left; right = right; digits = v }
  unfolding gate_of
  last = λ i. record {
    left = get_or-set_same net.left net.gates left 0 lefts i;
    right = get_or-set_same net.right net.gates right 0 rights i;
    digits = (ap (λ l. take size (drop (net.gates * size) l)) pasted ∙ part_pasted net.digits (net.gates * size) v size fits long) i;
  }

  pub gates_grown : gates_of (grown net left right digits) ≡ gates_of net ++ (record { left = left; right = right; digits = v } ∷ [])
  unfolding gates_of
  gates_grown =
      let more = gate_of (grown net left right digits) in
      ap (λ (k : ℕ). map more (range 0 k)) (add-one net.gates)
      ∙ map_range_suc more net.gates
      ∙ ap₂ (λ (xs : List Gate) (g : Gate). xs ++ (g ∷ []))
      (map_range_same more (gate_of net) 0 net.gates (λ k _ h. earlier k (omega arith)))
      last
