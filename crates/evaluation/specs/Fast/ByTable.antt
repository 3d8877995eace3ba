-- A net at many assignments, by its table: the index of each assignment, input by input, and the cell there.
-- Assumes nothing.
use Rattle.std.specs.Prelude.{◌<◌, ◌≤◌, ◌+◌, ◌^◌, ◌*◌, ◌≡◌, ◌∷◌, ◌++◌}
use Rattle.laws.specs.Prelude.{ℕ, ◌∙◌, sym, ap, refl, ap₂, List, [], zero-add, mul-le-mul_right, one-mul}
use Rattle.laws.specs.Prelude.{pow-le-pow_right, add-one, arith, length, get_or, get_or-take}
use Rattle.rules.specs.Limits.{most_cells}
use Rattle.laws.specs.Lists.Ranges.{map_range_at, map_range_length, map_range_suc}
use Rattle.laws.specs.Nets.Pictures.{value_index}
use Rattle.laws.specs.Numbers.Assignments.{Assignment, index_from, index_of, index_of_below}
use Rattle.nets.specs.declared.forms.Net.{Net}
use Rattle.nets.specs.Forms.{gates_of}
use Rattle.nets.specs.Sound.{sound_size, net_levels_pos, gates_pos}
use Rattle.nets.specs.Evaluating.{Tabled}
use Rattle.evaluation.specs.Values.{ValuesReady, ValuesDone, levels_in}
use Rattle.evaluation.specs.Lists.Runs.{Run}

-- the most assignments
abbrev pub most_indices : ℕ
most_indices = 4352

-- an index with one more input
abbrev pub index_step : ℕ → ℕ → List ℕ → List ℕ → ℕ → ℕ
index_step m start wires indices p = get_or indices p 0 * m + get_or wires (start + p) 0

pub record StepReady (m start count : ℕ) (wires indices : List ℕ) : Type 0 where
  pub there : start + count ≤ length wires
  pub room : count ≤ length indices
  pub fits : (p : ℕ) → p < count → index_step m start wires indices p < 65536

-- the cell at an index
abbrev pub index_cell : List ℕ → List ℕ → ℕ → ℕ
index_cell cells indices p = get_or cells (get_or indices p 0) 0

pub record LookReady (cells indices : List ℕ) (to count : ℕ) (wires : List ℕ) : Type 0 where
  pub room : to + count ≤ length wires
  pub there : count ≤ length indices
  pub within : (p : ℕ) → p < count → get_or indices p 0 < length cells

-- one more level is one more digit
index_snoc : (m p : ℕ) (ls : List ℕ) (l : ℕ) → index_from m p (ls ++ (l ∷ [])) ≡ index_from m p ls * m + l
unfolding index_from
index_snoc m p [] l = refl
index_snoc m p (x ∷ ls) l = index_snoc m (p * m + x) ls l

-- the first i inputs are in the indices
abbrev pub Indexed : ℕ → List ℕ → List ℕ → ℕ → ℕ → List ℕ → Type 0
Indexed m starts wires count i indices = (p : ℕ) → p < count → get_or indices p 0 ≡ index_of m (levels_in wires starts i p)

module _ (net : Net) (starts : List ℕ) (base count : ℕ) (wires : List ℕ) (ready : ValuesReady net starts base count wires) (i : ℕ) (indices : List ℕ)
    (done : Indexed net.levels starts wires count i indices) where
  abbrev m : ℕ
  m = net.levels

  abbrev n : ℕ
  n = net.inputs

  -- there is room for all values
  values_fit : base + count ≤ length wires
  values_fit = omega (arith, rw one-mul at (mul-le-mul_right count (gates_pos net ready.sound)), ready.room)

  -- the levels of the first j inputs are an assignment
  levels_in_lem : (j p : ℕ) → j ≤ n → p < count → Assignment m j (levels_in wires starts j p)
  levels_in_lem j p low h =
      record {
        count = map_range_length _ 0 j;
        below = λ k l. rw (map_range_at (λ k. get_or wires (get_or starts k 0 + p) 0) 0 j k 0 l, zero-add k) (ready.levels k p (omega arith) h);
      }

  index_step_lem : (p : ℕ) → p < count → index_step m (get_or starts i 0) wires indices p ≡ index_of m (levels_in wires starts (i + 1) p)
  unfolding index_of
  index_step_lem p h = rw (add-one, map_range_suc, index_snoc) (ap (λ (x : ℕ). x * m + get_or wires (get_or starts i 0 + p) 0) (done p h))

  pub step_ready : i < n → count ≤ length indices → StepReady m (get_or starts i 0) count wires indices
  step_ready turn long =
      record {
        there = omega (arith, ready.inputs_there i turn, values_fit);
        room = long;
        fits = λ p h.
            let next : i + 1 ≤ n = omega arith in
            let few : m ^ (i + 1) ≤ m ^ n = pow-le-pow_right (net_levels_pos net ready.sound) next in
            rw (index_step_lem p h) (omega (arith, index_of_below m (i + 1) _ (levels_in_lem (i + 1) p next h), (sound_size net ready.sound).cells_most));
      }

  pub indexed_more : (after : List ℕ) → Run 0 count (index_step m (get_or starts i 0) wires indices) indices after → Indexed m starts wires count (i + 1) after
  indexed_more after run p h = ap (λ (q : ℕ). get_or after q 0) (sym (zero-add p)) ∙ run.there p h ∙ index_step_lem p h

  module _ (blank cells : List ℕ) (k : ℕ) (tabled : Tabled net blank cells k) (all : i ≡ n) where
    index_is : (p : ℕ) → p < count → get_or indices p 0 ≡ index_of m (levels_in wires starts n p)
    index_is p h = done p h ∙ ap (λ (j : ℕ). index_of m (levels_in wires starts j p)) all

    index_within : (p : ℕ) → p < count → get_or indices p 0 < k
    index_within p h = rw (index_is p h, tabled.result) (index_of_below m n _ (levels_in_lem n p (omega arith) h))

    pub look_ready : count ≤ length indices → most_cells ≤ length cells → LookReady cells indices base count wires
    look_ready long there =
        let small : k ≤ most_cells = rw tabled.result (sound_size net ready.sound).cells_most in
        record { room = values_fit; there = long; within = λ p h. omega (arith, index_within p h) }

    pub table_values_done : (after : List ℕ) → Run base count (index_cell cells indices) wires after → ValuesDone net starts base count wires after base
    table_values_done after run =
        record {
          same = run.same;
          kept = run.front;
          there = omega (arith, run.same, values_fit);
          values = λ p h.
              run.there p h ∙ sym (get_or-take k cells (get_or indices p 0) 0 (index_within p h))
              ∙ ap₂ (λ (t : List ℕ) (q : ℕ). get_or t q 0) tabled.front (index_is p h)
              ∙ sym (value_index m n (gates_of net) _ (levels_in_lem n p (omega arith) h));
        }
