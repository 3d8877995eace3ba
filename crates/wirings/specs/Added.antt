-- A group's links added to a wiring, for any choice of parts: those of its parts, then its own.
-- Assumes nothing.
use Rattle.std.specs.Prelude.{◌<◌, ◌≤◌, ◌+◌, ◌-◌, ◌^◌, ◌≡◌, ◌≢◌}
use Rattle.laws.specs.Prelude.{ℕ, suc, zero, refl, subst⁻¹, true, arith, eq-eqb, ne_eqb}
use Rattle.rules.specs.Groups.Groups.{size}
use Rattle.rules.specs.Groups.Marks.{inside}
use Rattle.rules.specs.Nets.Wirings.{input, gate, first_input, wiring_by}
use Rattle.trees.specs.Trees.MarkTwo.{Splits, parted_sizes}
use Rattle.wirings.specs.declared.forms.Wiring.{Wiring}
use Rattle.wirings.specs.Links.{Linked}
use Rattle.wirings.specs.AddedWiring.{AddedWiring, wiring_input, wiring_gate}

-- the links of group g are added, and `reference` refers to the last of them, or to g's only input
pub record Added (n : ℕ) (split : ℕ → ℕ) (g : ℕ) (before after : Wiring) (reference : ℕ) : Type 0 where
  pub count : after.gates + 1 ≡ before.gates + size n g
  pub small : reference < n + after.gates
  -- for any fuel that is enough
  pub wires : (fuel : ℕ) → size n g ≤ fuel → AddedWiring n (wiring_by n split fuel g) before after reference

-- the wiring of a single input, and of several
wiring_single : (n : ℕ) (split : ℕ → ℕ) (fuel g : ℕ) → size n g ≡ 1 → wiring_by n split fuel g ≡ input (first_input n g)
unfolding wiring_by
wiring_single n split zero g one = refl
wiring_single n split (suc fuel) g one = rw (wiring_by, eq-eqb (size n g) 1 one)

wiring_several : (n : ℕ) (split : ℕ → ℕ) (fuel g : ℕ) → size n g ≢ 1
    → wiring_by n split (suc fuel) g ≡ gate (wiring_by n split fuel (split g)) (wiring_by n split fuel (g - split g))
unfolding wiring_by
wiring_several n split fuel g several = rw (wiring_by, ne_eqb (size n g) 1 several)

-- ---- a single input: no link

pub added_single : (n : ℕ) (split : ℕ → ℕ) (g : ℕ) (w : Wiring) → first_input n g < n → size n g ≡ 1 → Added n split g w w (first_input n g)
added_single n split g w first one =
    record {
      count = omega arith;
      small = omega arith;
      wires = λ fuel enough.
          subst⁻¹ (λ v. AddedWiring n v w w (first_input n g)) (wiring_single n split fuel g one) (wiring_input n (first_input n g) w);
    }

-- several inputs: the links of A, those of B, and the group's own

module _ (n : ℕ) (mark : ℕ → ℕ) (leaves : ℕ) (split : ℕ → ℕ) (splits : Splits n mark leaves split)
    (g : ℕ) (g< : g < 2 ^ n) (g_in : inside n g leaves ≡ true) (two : mark g ≡ 2) (several : size n g ≢ 1) where
  abbrev a : ℕ
  a = split g

  abbrev b : ℕ
  b = g - split g

  sizes : (size n g ≡ size n a + size n b) × (0 < size n a) × (0 < size n b)
  sizes = parted_sizes n mark leaves split splits g g< g_in two several

  module _ (before mid later after : Wiring) (l r : ℕ) (left : Added n split a before mid l) (right : Added n split b mid later r)
      (own : Linked l r later after) where
    gate_added : (fuel : ℕ) → size n g ≤ suc fuel → AddedWiring n (wiring_by n split (suc fuel) g) before after (n + later.gates)
    gate_added fuel enough =
        subst⁻¹ (λ v. AddedWiring n v before after (n + later.gates)) (wiring_several n split fuel g several)
        (wiring_gate n _ _ before mid later after l r (left.wires fuel (omega (arith, sizes))) (right.wires fuel (omega (arith, sizes))) own)

    pub added_several : Added n split g before after (n + later.gates)
    added_several =
        record {
          count = omega (arith, own.count, right.count, left.count, sizes);
          small = omega (arith, own.count);
          wires = elim [ zero ↦ λ none. absurd (omega (arith, sizes)) | suc fuel ↦ λ enough. gate_added fuel enough ];
        }
