-- One turn of `layers`: the layers of the first k gates are known. Assumes nothing.
use Rattle.std.specs.Prelude.{◌<◌, ◌≤◌, ◌+◌, ◌-◌, ◌≡◌, ◌∷◌, ◌++◌}
use Rattle.laws.specs.Prelude.{ℕ, suc, zero, max, ◌∙◌, sym, ap, refl, ap₂, List, [], map, add-zero, add-one, arith}
use Rattle.laws.specs.Prelude.{length, get_or, take, set, length-set, replicate, length-replicate, replicate-append-replicate, get_or-take, take_at, take-suc-set}
use Rattle.rules.specs.Lists.{range, with_each}
use Rattle.rules.specs.Nets.Layers.{layers}
use Rattle.laws.specs.Nets.Layers.{layers_depth}
use Rattle.laws.specs.Nets.Times.{gate_time, with_times, times_most}
use Rattle.laws.specs.Lists.WithEach.{with_each_snoc}
use Rattle.laws.specs.Lists.Ranges.{map_range_length, map_range_suc}
use Rattle.nets.specs.declared.forms.Net.{Net}
use Rattle.nets.specs.Forms.{gate_of, gates_of}
use Rattle.nets.specs.Room.{most_wires}
use Rattle.nets.specs.Sound.{Sound, gates_length, gates_count, gates_pos, wires_room}
use Rattle.nets.specs.References.{gate_step}

-- the layers of the inputs and the first k gates: when they settle if each gate takes 1
abbrev layers_to : Net → ℕ → List ℕ
layers_to net k = with_times 1 (replicate net.inputs 0) (map (gate_of net) (range 0 k))

pub record Depths (net : Net) (k : ℕ) (depths : List ℕ) : Type 0 where
  pub long : length depths ≡ most_wires
  pub front : take (net.inputs + k) depths ≡ layers_to net k

-- only zeros
zero_at : (k i : ℕ) → ◌≡◌ {A = ℕ} (get_or (replicate k 0) i 0) 0
zero_at zero i = refl
zero_at (suc k) zero = refl
zero_at (suc k) (suc i) = zero_at k i

zeros_front : (k all : ℕ) → k ≤ all → take {A = ℕ} k (replicate all 0) ≡ replicate k 0
zeros_front k all h =
    let parts : k + (all - k) ≡ all = omega arith in
    ap (λ (j : ℕ). take k (replicate j 0)) (sym parts)
    ∙ ap (take k) (sym (replicate-append-replicate k (all - k) 0))
    ∙ take_at (replicate k 0) (replicate (all - k) 0) k (length-replicate k 0)

module _ (net : Net) (sound : Sound net) where
  pub depths_none : (depths : List ℕ) → depths ≡ replicate most_wires 0 → Depths net 0 depths
  unfolding range with_each
  depths_none depths e =
      record {
        long = ap length e;
        front = rw (e, add-zero) (zeros_front net.inputs most_wires (omega (arith, wires_room net sound)));
      }

  module _ (k : ℕ) (depths : List ℕ) (so_far : Depths net k depths) where
    -- what the code reads at a reference, at most k
    at : (i : ℕ) → i < net.inputs + k → get_or depths i 0 ≡ get_or (layers_to net k) i 0
    at i h = sym (get_or-take (net.inputs + k) depths i 0 h) ∙ ap (λ (l : List ℕ). get_or l i 0) so_far.front

    pub depth_small : (i : ℕ) → i < net.inputs + k → get_or depths i 0 ≤ k
    depth_small i h =
        omega (
          arith,
          at i h,
          map_range_length (gate_of net) 0 k,
          times_most 1 0 (replicate net.inputs 0) (map (gate_of net) (range 0 k)) (λ j. omega (arith, zero_at net.inputs j)) i,
        )

    module _ (turn : k < net.gates) (d : ℕ) (e : d ≡ max (get_or depths (get_or net.left k 0) 0) (get_or depths (get_or net.right k 0) 0)) where
      one_more : 1 + d ≡ gate_time 1 (layers_to net k) (gate_of net k)
      unfolding gate_time gate_of
      one_more =
          let step = gate_step net sound k turn in
          omega (arith, e, ap₂ max (at (get_or net.left k 0) step.0) (at (get_or net.right k 0) step.1))

      pub depths_more : Depths net (k + 1) (set depths (net.inputs + k) (1 + d))
      depths_more =
          let room : net.inputs + k < length depths = omega (arith, so_far.long, wires_room net sound) in
          let next : net.inputs + (k + 1) ≡ suc (net.inputs + k) = omega arith in
          record {
            long = length-set depths (net.inputs + k) (1 + d) ∙ so_far.long;
            front = rw (next, take-suc-set depths (net.inputs + k) (1 + d) room, add-one, map_range_suc, with_each_snoc, so_far.front)
                (ap (λ (x : ℕ). layers_to net k ++ (x ∷ [])) one_more);
          }

  pub depths_all : (k : ℕ) (depths : List ℕ) → Depths net k depths → k ≡ net.gates
      → get_or depths (net.inputs + net.gates - 1) 0 ≡ layers net.inputs (gates_of net)
  unfolding gates_of
  depths_all k depths so_far all =
      let some : 0 < length (gates_of net) = omega (arith, gates_length net, gates_pos net sound) in
      let last : net.inputs + net.gates - 1 < net.inputs + k = omega (arith, gates_count net sound) in
      sym (get_or-take (net.inputs + k) depths (net.inputs + net.gates - 1) 0 last)
      ∙ ap (λ (l : List ℕ). get_or l (net.inputs + net.gates - 1) 0) so_far.front
      ∙ ap₂ (λ (j i : ℕ). get_or (layers_to net j) (net.inputs + i - 1) 0) all (sym (gates_length net))
      ∙ sym (layers_depth net.inputs (gates_of net) some sound.gates.rules.back)
