-- One row for each wire in one array: the wire's group, the number of its samples, and these.
-- Assumes nothing.
use Rattle.std.specs.Prelude.{◌<◌, ◌≤◌, ◌+◌, ◌-◌, ◌^◌, ◌*◌, ◌≡◌}
use Rattle.laws.specs.Prelude.{ℕ, ◌∙◌, sym, ap, refl, subst⁻¹, List, zero-add, ℕ_discrete, arith, length, get_or, take, drop}
use Rattle.laws.specs.Prelude.{set, length-set, length-drop, length-take, get_or-set_same, get_or-set_other, get_or-take, ext_get_or, get_or-drop, eq-eqb}
use Rattle.rules.specs.Limits.{most_levels}
use Rattle.rules.specs.Nets.Wirings.{Link}
use Rattle.rules.specs.Nets.Filling.{input_groups}
use Rattle.laws.specs.Lists.Ranges.{map_range_at}
use Rattle.laws.specs.Lists.WithEach.{with_each_earlier}
use Rattle.radix.specs.Fronts.{Front}
use Rattle.trees.specs.Groups.Members.{single_below, size_single}
use Rattle.trees.specs.Groups.Classes.{Few}
use Rattle.trees.specs.Filling.Carried.{single_few, first_single}
use Rattle.trees.specs.Filling.Fillings.{link_group, with_groups, inputs_grouped}
use Rattle.trees.specs.Leaves.Neighbours.{level_points}
use Rattle.gate_tables.specs.Samples.{samples, samples_few, samples_single, level_points_length}

-- count values are written from `at` on, and what was before them stays
pub record PutAt (value : ℕ → ℕ) (at count : ℕ) (before after : List ℕ) : Type 0 where
  pub long : length after ≡ length before
  pub here : (i : ℕ) → i < count → get_or after (at + i) 0 ≡ value i
  pub earlier : (j : ℕ) → j < at → get_or after j 0 ≡ get_or before j 0

pub put_none : (value : ℕ → ℕ) (at : ℕ) (before : List ℕ) → PutAt value at 0 before before
put_none value at before = record { long = refl; here = λ i h. absurd (omega arith); earlier = λ j h. refl }

pub put_next : (value : ℕ → ℕ) (at count : ℕ) (before after : List ℕ) → PutAt value at count before after → (p : ℕ) → p ≡ at + count → p < length after
    → (x : ℕ) → x ≡ value count → PutAt value at (count + 1) before (set after p x)
put_next value at count before after put p is_p room x is =
    record {
      long = length-set after p x ∙ put.long;
      here = λ i h. go i h (ℕ_discrete i count);
      earlier = λ j h. get_or-set_other after p j x 0 (λ e. omega arith) ∙ put.earlier j h;
    }
  where
    go : (i : ℕ) → i < count + 1 → Dec (i ≡ count) → get_or (set after p x) (at + i) 0 ≡ value i
    go i h (yes e) = rw (e, ← is_p) (get_or-set_same after p x 0 room ∙ is)
    go i h (no ne) = get_or-set_other after p (at + i) x 0 (λ e. ne (omega arith)) ∙ put.here i (omega arith)

-- the samples of a wire of group g: c of them, the values; the group has few classes
pub record Wire (m n : ℕ) (f : ℕ → ℕ) (g c : ℕ) (value : ℕ → ℕ) : Type 0 where
  pub few : Few m n f g
  pub below : g < 2 ^ n
  pub count : c ≡ length (samples m n f g)
  pub each : (u : ℕ) → u < c → value u ≡ get_or (samples m n f g) u 0

-- the parts of row r
abbrev pub group_at_of : List ℕ → ℕ → ℕ
group_at_of wires r = get_or wires (r * 11) 0

abbrev pub size_at : List ℕ → ℕ → ℕ
size_at wires r = get_or wires (r * 11 + 1) 0

abbrev pub samples_at : List ℕ → ℕ → List ℕ
samples_at wires r = take (r * 11 + 2 + size_at wires r - (r * 11 + 2)) (drop (r * 11 + 2) wires)

-- row r is written, and what was before it stays
pub record RowPut (r g c : ℕ) (value : ℕ → ℕ) (before after : List ℕ) : Type 0 where
  pub long : length after ≡ length before
  pub group : group_at_of after r ≡ g
  pub size : size_at after r ≡ c
  pub each : (u : ℕ) → u < c → get_or after (r * 11 + 2 + u) 0 ≡ value u
  pub earlier : (j : ℕ) → j < r * 11 → get_or after j 0 ≡ get_or before j 0

-- its first two places, then the samples
pub row_put : (r g c : ℕ) (value : ℕ → ℕ) (before after : List ℕ) → r * 11 + 1 < length before → (i : ℕ) → i ≡ c
    → PutAt value (r * 11 + 2) i (set (set before (r * 11) g) (r * 11 + 1) c) after → RowPut r g c value before after
row_put r g c value before after room i end put =
    let at = r * 11 in
    let one : length (set before at g) ≡ length before = length-set before at g in
    record {
      long = put.long ∙ length-set (set before at g) (at + 1) c ∙ one;
      group = put.earlier at (omega arith) ∙ get_or-set_other (set before at g) (at + 1) at c 0 (λ e. omega arith)
          ∙ get_or-set_same before at g 0 (omega arith);
      size = put.earlier (at + 1) (omega arith) ∙ get_or-set_same (set before at g) (at + 1) c 0 (omega arith);
      each = λ u u<. put.here u (omega arith);
      earlier = λ j h. put.earlier j (omega arith) ∙ get_or-set_other (set before at g) (at + 1) j c 0 (λ e. omega arith)
          ∙ get_or-set_other before at j g 0 (λ e. omega arith);
    }

-- the rows of the first k wires, of these groups
abbrev pub WireRows : ℕ → ℕ → (ℕ → ℕ) → List ℕ → ℕ → List ℕ → Type 0
WireRows m n f groups k wires =
    (r : ℕ) → r < k → (group_at_of wires r ≡ get_or groups r 0) × Wire m n f (get_or groups r 0) (size_at wires r) (λ u. get_or wires (r * 11 + 2 + u) 0)

-- the inputs' rows are the first of a wiring's
pub rows_start : (m n : ℕ) (f : ℕ → ℕ) (links : List Link) (wires : List ℕ) → WireRows m n f (input_groups n) n wires
    → WireRows m n f (with_groups (input_groups n) links) (n + 0) wires
rows_start m n f links wires all r h =
    rw (with_each_earlier link_group 0 (input_groups n) links r (omega (arith, (inputs_grouped n).0))) (all r (omega arith))

module _ (m n : ℕ) (pos : 0 < m) (f : ℕ → ℕ) where
  pub input_wire : (i g w : ℕ) → i < n → g ≡ 2 ^ i → w ≡ m ^ (n - 1 - i) → (before points : List ℕ) → PutAt (λ l. l * w) 0 m before points
      → Wire m n f g m (λ l. get_or points l 0)
  input_wire i g w h is_g weight before points put = rw is_g
      (record {
        few = single_few m n pos f i h;
        below = single_below i n h;
        count = sym (ap length is ∙ level_points_length m w);
        each = λ u u<. ap (λ (l : ℕ). get_or points l 0) (sym (zero-add u)) ∙ put.here u u< ∙ ap (λ (l : ℕ). l * w) (sym (zero-add u))
            ∙ sym (ap (λ (xs : List ℕ). get_or xs u 0) is ∙ map_range_at (λ l. l * w) 0 m u 0 u<);
      })
    where
      is : samples m n f (2 ^ i) ≡ level_points m w
      is =
          samples_single m n f (2 ^ i) (single_below i n h) (eq-eqb _ 1 (size_single i n h))
          ∙ ap (λ (j : ℕ). level_points m (m ^ (n - 1 - j))) (first_single n i h) ∙ ap (level_points m) (sym weight)

  pub gate_wire : (g c : ℕ) (firsts : List ℕ) → Few m n f g → g < 2 ^ n → Front (samples m n f g) c firsts → Wire m n f g c (λ i. get_or firsts i 0)
  gate_wire g c firsts few g< front =
      record {
        few = few;
        below = g<;
        count = front.count;
        each = λ u u<. sym (get_or-take c firsts u 0 u<) ∙ ap (λ (xs : List ℕ). get_or xs u 0) front.is;
      }

  module _ (groups : List ℕ) (k : ℕ) (wires : List ℕ) (all : WireRows m n f groups k wires) where
    -- a wire has at most m samples
    pub size_few : (r : ℕ) → r < k → size_at wires r ≤ m
    size_few r h = let wire = (all r h).1 in subst⁻¹ (λ (c : ℕ). c ≤ m) wire.count (samples_few m n f (get_or groups r 0) wire.below wire.few)

    -- they are its part of the array
    pub row_samples : (r : ℕ) → r < k → r * 11 + 2 + size_at wires r ≤ length wires → samples_at wires r ≡ samples m n f (get_or groups r 0)
    row_samples r h room =
        let wire = (all r h).1 in
        let rest = drop (r * 11 + 2) wires in
        let long : length (samples_at wires r) ≡ size_at wires r = omega
        (arith, length-take (r * 11 + 2 + size_at wires r - (r * 11 + 2)) rest, length-drop (r * 11 + 2) wires) in
        ext_get_or 0 (samples_at wires r) (samples m n f (get_or groups r 0)) (long ∙ wire.count)
        (λ u u<. get_or-take (r * 11 + 2 + size_at wires r - (r * 11 + 2)) rest u 0 (omega arith) ∙ get_or-drop (r * 11 + 2) wires u 0 ∙ wire.each u (omega arith))

    -- one wire more
    pub rows_next : (g c : ℕ) (value : ℕ → ℕ) (after : List ℕ) → m ≤ most_levels → g ≡ get_or groups k 0
        → Wire m n f (get_or groups k 0) c value → RowPut k g c value wires after → (more : ℕ) → more ≡ k + 1 → WireRows m n f groups more after
    rows_next g c value after low is_g new put more is_more r h = go (ℕ_discrete r k)
      where
        go : Dec (r ≡ k) → (group_at_of after r ≡ get_or groups r 0) × Wire m n f (get_or groups r 0) (size_at after r) (λ u. get_or after (r * 11 + 2 + u) 0)
        go (yes e) =
            rw (e, put.size)
            (put.group ∙ is_g, record { few = new.few; below = new.below; count = new.count; each = λ u u<. put.each u u< ∙ new.each u u< })
        go (no ne) =
            let old = all r (omega arith) in
            rw (put.earlier (r * 11 + 1) (omega arith)) (
              put.earlier (r * 11) (omega arith) ∙ old.0,
              record {
                few = old.1.few;
                below = old.1.below;
                count = old.1.count;
                each = λ u u<. put.earlier (r * 11 + 2 + u) (omega (arith, size_few r (omega arith))) ∙ old.1.each u u<;
              },
            )
