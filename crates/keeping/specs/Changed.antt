-- The set of the gates that changed, gate by gate.
-- Assumes nothing.
use Rattle.std.specs.Prelude.{◌<◌, ◌+◌, ◌-◌, ◌^◌, ◌*◌, ◌≡◌, ◌∷◌, ◌++◌}
use Rattle.laws.specs.Prelude.{ℕ, suc, ◌∙◌, sym, ap, refl, ap₂, true, false, Bool, not, cond, List, [], map}
use Rattle.laws.specs.Prelude.{map-map, zero-add, add-zero, add-one, arith, get_or, take, drop}
use Rattle.rules.specs.Lists.{range, those, same, total}
use Rattle.rules.specs.Sheets.Sheets.{Gate}
use Rattle.rules.specs.Calls.Keeping.{link_of, gate_links, table_at, table_differs, changed_gates}
use Rattle.laws.specs.Lists.Places.{map_at}
use Rattle.laws.specs.Lists.Ranges.{range_suc, range_shift, map_range_at}
use Rattle.laws.specs.Lists.Totals.{total_parts, those_append}
use Rattle.trees.specs.Groups.GroupSum.{powers, powers_shift}
use Rattle.trees.specs.Keeping.ChangedGates.{powers_below}
use Rattle.nets.specs.declared.forms.Net.{Net}
use Rattle.nets.specs.Forms.{gate_of, gates_of}
use Rattle.nets.specs.Sound.{gates_length}
use Rattle.wirings.specs.Links.{link_at, links_in}

-- the table of gate k + 1 is that of the gate with k gates before it
table_of : (net : Net) (k : ℕ) → k < net.gates → table_at (gates_of net) (suc k) ≡ (gate_of net k).digits
unfolding gates_of
table_of net k h =
    let at : suc k - 1 ≡ k = omega arith in
    ap (λ (i : ℕ). get_or (map (λ g. g.digits) (gates_of net)) i []) at
    ∙ map_at (λ g. g.digits) (gates_of net) k (gate_of net 0) [] (omega (arith, gates_length net))
    ∙ ap (λ (g : Gate). g.digits) (map_range_at (gate_of net) 0 net.gates k (gate_of net 0) h ∙ ap (gate_of net) (zero-add k))

-- the slice of the digits that the code takes
pub part : (m : ℕ) (net : Net) → net.levels ≡ m → (k : ℕ)
    → take (k * (m * m) + m * m - k * (m * m)) (drop (k * (m * m)) net.digits) ≡ (gate_of net k).digits
unfolding gate_of
part m net e k =
    let size : k * (m * m) + m * m - k * (m * m) ≡ m * m = omega arith in
    ap (λ (n : ℕ). take n (drop (k * (m * m)) net.digits)) size
    ∙ ap (λ (l : ℕ). take (l * l) (drop (k * (l * l)) net.digits)) (sym e)

module _ (old new : Net) where
  -- what the first k gates add to the set
  abbrev pub set_to : ℕ → ℕ
  set_to k = powers (table_differs (gates_of old) (gates_of new)) (range 1 k)

  pub set_none : 0 ≡ set_to 0
  unfolding range those total
  set_none = refl

  -- the set has few bits
  pub set_small : (k : ℕ) → set_to k < 2 ^ (k + 1)
  set_small k =
      let twice : set_to k ≡ 2 * powers (λ i. table_differs (gates_of old) (gates_of new) (suc i)) (range 0 k) =
      ap (powers (table_differs (gates_of old) (gates_of new))) (range_shift 0 k) ∙ powers_shift (table_differs (gates_of old) (gates_of new)) (range 0 k) in
      let next : 2 ^ (k + 1) ≡ 2 * 2 ^ k = ap (λ (i : ℕ). 2 ^ i) (add-one k) ∙ (let z : 2 ^ suc k ≡ 2 * 2 ^ k = omega arith in z) in
      omega (arith, powers_below k (λ i. table_differs (gates_of old) (gates_of new) (suc i)))

  pub set_all : (k : ℕ) → k ≡ old.gates → set_to k ≡ changed_gates (gates_of old) (gates_of new)
  unfolding changed_gates
  set_all k e = ap set_to (e ∙ sym (gates_length old))

  one_more : (k : ℕ) → set_to (k + 1) ≡ set_to k + cond (table_differs (gates_of old) (gates_of new) (suc k)) (2 ^ suc k) 0
  unfolding those total
  one_more k =
      let differs = table_differs (gates_of old) (gates_of new) in
      let own : range 1 (k + 1) ≡ range 1 k ++ (suc k ∷ []) =
      ap (range 1) (add-one k) ∙ range_suc 1 k ∙ ap (λ (i : ℕ). range 1 k ++ (i ∷ [])) (let z : 1 + k ≡ suc k = omega arith in z) in
      ap (powers differs) own
      ∙ ap (λ (xs : List ℕ). total (map (λ i. 2 ^ i) xs)) (those_append differs (range 1 k) (suc k ∷ []))
      ∙ total_parts (λ i. 2 ^ i) (those differs (range 1 k)) (those differs (suc k ∷ []))
      ∙ ap (λ (x : ℕ). set_to k + x) (last (differs (suc k)) ∙ add-zero _)
    where
      last : (t : Bool) → total (map (λ i. 2 ^ i) (elim t [ true ↦ suc k ∷ [] | false ↦ [] ])) ≡ cond t (2 ^ suc k) 0 + 0
      last true = refl
      last false = refl

  module _ (k : ℕ) (h : k < old.gates) (h' : k < new.gates) where
    told : table_differs (gates_of old) (gates_of new) (suc k) ≡ not (same (gate_of old k).digits (gate_of new k).digits)
    unfolding table_differs
    told = ap₂ (λ (xs ys : List ℕ). not (same xs ys)) (table_of old k h) (table_of new k h')

    pub set_same : same (gate_of old k).digits (gate_of new k).digits ≡ true → set_to (k + 1) ≡ set_to k
    set_same e = one_more k ∙ ap (λ (t : Bool). set_to k + cond t (2 ^ suc k) 0) (told ∙ ap not e) ∙ add-zero (set_to k)

    pub set_more : same (gate_of old k).digits (gate_of new k).digits ≡ false → (p : ℕ) → p ≡ 2 ^ (k + 1) → set_to (k + 1) ≡ set_to k + p
    set_more e p is =
        one_more k ∙ ap (λ (t : Bool). set_to k + cond t (2 ^ suc k) 0) (told ∙ ap not e)
        ∙ ap (λ (q : ℕ). set_to k + q) (sym (is ∙ ap (λ (i : ℕ). 2 ^ i) (add-one k)))

-- a net's links, from its arrays
pub links_of_lem : (net : Net) → links_in (record { gates = net.gates; left = net.left; right = net.right }) ≡ gate_links (gates_of net)
unfolding links_in link_at gates_of gate_of
links_of_lem net = sym (map-map link_of (gate_of net) (range 0 net.gates))
