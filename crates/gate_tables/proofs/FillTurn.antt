-- One turn of the loop of `fill_gates`, which fills link k, over plain values: what the pass needs, and what holds after it.
-- Assumes nothing.
use Rattle.std.specs.Prelude.{◌<◌, ◌≤◌, ◌+◌, ◌^◌, ◌*◌, ◌≡◌}
use Rattle.laws.specs.Prelude.{ℕ, suc, zero, ◌∙◌, sym, ap₂, refl, subst, subst⁻¹, List, mul-le-mul_right, arith, eqb, length, get_or, replicate, pow_mono}
use Rattle.rules.specs.Groups.Groups.{multiplicity}
use Rattle.rules.specs.Nets.Wirings.{Link}
use Rattle.rules.specs.Nets.Filling.{input_groups}
use Rattle.rules.specs.Calls.Answers.{ink_in}
use Rattle.radix.specs.Fronts.{Front, fits_in}
use Rattle.trees.specs.Groups.Classes.{Few}
use Rattle.trees.specs.Filling.DigitRule.{Parts, join_small, join_several}
use Rattle.trees.specs.Filling.Fillings.{Fillable, with_groups}
use Rattle.nets.specs.declared.forms.Net.{Net}
use Rattle.nets.specs.Room.{most_gates, most_wires}
use Rattle.wirings.specs.declared.forms.Wiring.{Wiring}
use Rattle.wirings.specs.Links.{link_at, links_in, links_count, link_in}
use Rattle.gate_tables.specs.Sized.{Sized}
use Rattle.gate_tables.specs.Growth.{Joined, JoinedBy}
use Rattle.gate_tables.specs.GatePass.{SampleSides, PassReady, PassRoom, Passed, sides_parts, ready_by, passed_by}
use Rattle.gate_tables.specs.Samples.{samples, samples_several}
use Rattle.gate_tables.specs.Store.{Wire, WireRows, RowPut, group_at_of, size_at, samples_at, gate_wire, size_few, row_samples, rows_next}
use Rattle.gate_tables.specs.Filled.{Going, FilledTo, earlier, joins, own_group, going_next, filled_stop}

-- the groups of all wires
abbrev pub groups_of : ℕ → List Link → List ℕ
groups_of n links = with_groups (input_groups n) links

-- the work arrays have room
pub pass_room : (m n : ℕ) (ys : List ℕ) → m ≤ 9 → m ^ n ≤ length ys → PassRoom m n ys (replicate 10 0) (replicate 81 0)
pass_room m n ys levels room =
    record { for_ys = room; for_firsts = omega arith; for_table = omega (arith, mul-le-mul_right m levels, levels); zeros = zeros 81 }
  where
    zeros : (n k : ℕ) → get_or {A = ℕ} (replicate n 0) k 0 ≡ 0
    zeros zero k = refl
    zeros (suc n) zero = refl
    zeros (suc n) (suc k) = zeros n k

module _ (m n : ℕ) (cells : List ℕ) (sized : Sized m n cells) (wiring : Wiring) (gates : wiring.gates < n)
    (may : Fillable m n (λ _. 0) (input_groups n) (links_in wiring)) (k : ℕ) (k< : k < wiring.gates) (wires : List ℕ)
    (long : length wires ≡ most_wires * 11) (rows : WireRows m n (ink_in cells) (groups_of n (links_in wiring)) (n + k) wires) where
  abbrev f : ℕ → ℕ
  f = ink_in cells

  abbrev links : List Link
  links = links_in wiring

  abbrev groups : List ℕ
  groups = groups_of n links

  -- the link's references and their groups
  abbrev left : ℕ
  left = get_or wiring.left k 0

  abbrev right : ℕ
  right = get_or wiring.right k 0

  abbrev a : ℕ
  a = get_or groups left 0

  abbrev b : ℕ
  b = get_or groups right 0

  abbrev next : Link
  next = record { left = left; right = right }

  is_next : get_or links k next ≡ next
  unfolding link_at
  is_next = link_in wiring k next k<

  among : k < length links
  among = rw links_count k<

  refers : (left < n + k) × (right < n + k)
  refers = earlier m n (λ _. 0) f links may k among next is_next

  pub few : (n + k < most_wires) × (k < most_gates)
  few = (omega (arith, sized.inputs), omega (arith, sized.inputs))

  room : (r : ℕ) → r < n + k → r * 11 + 2 + size_at wires r ≤ length wires
  room r h = omega (arith, size_few m n sized.some f groups (n + k) wires rows r h, sized.levels, few.0, long)

  -- the rows of the two sides are there, ..
  pub room_left : left * 11 + 2 + size_at wires left ≤ length wires
  room_left = room left refers.0

  pub room_right : right * 11 + 2 + size_at wires right ≤ length wires
  room_right = room right refers.1

  pair : Parts m n (λ _. 0) a b
  pair = joins m n (λ _. 0) f links may k among next is_next

  sides : SampleSides m n f a b
  sides = record { pair = pair; few_a = (rows left refers.0).1.few; few_b = (rows right refers.1).1.few }

  -- .. so the pass may begin
  pub ready : PassReady m n cells (group_at_of wires left) (group_at_of wires right) (samples_at wires left) (samples_at wires right)
  ready =
      let part = row_samples m n sized.some f groups (n + k) wires rows in
      ready_by (rows left refers.0).0 (rows right refers.1).0 refl refl
      (record { sized = sized; sides = sides; lefts = part left refers.0 room_left; rights = part right refers.1 room_right })

  below : a + b < 2 ^ n
  below = join_small m n sized.some (λ _. 0) a b pair

  own : get_or groups (n + k) 0 ≡ a + b
  own = own_group m n (λ _. 0) f links may k among next is_next

  sum_is : group_at_of wires left + group_at_of wires right ≡ a + b
  sum_is = ap₂ (λ (x y : ℕ). x + y) (rows left refers.0).0 (rows right refers.1).0

  -- and their groups are small
  pub groups_small : (group_at_of wires left < 32768) × (group_at_of wires right < 32768)
  groups_small =
      let most : 2 ^ n ≤ 2 ^ 15 = pow_mono {i = n} {j = 15} (omega (arith, sized.inputs)) in
      let l = rows left refers.0 in
      let r = rows right refers.1 in
      (omega (arith, l.0, l.1.below), omega (arith, r.0, r.1.below))

  -- after the pass
  module _ (r : ℕ) (firsts table : List ℕ)
      (done : Passed m n f (eqb (k + 1) wiring.gates) (group_at_of wires left) (group_at_of wires right) r firsts table) (net : Net)
      (going : Going m n f links k net) where
    passed : Passed m n f (eqb (k + 1) wiring.gates) a b r firsts table
    passed = passed_by (rows left refers.0).0 (rows right refers.1).0 done

    -- too many classes
    pub stopped : m < r → FilledTo m n f wiring net
    stopped more = filled_stop m n f wiring k net going k< (subst⁻¹ (λ (g : ℕ). m < multiplicity m n f g) own (passed.many more))

    -- few, so the gate is added
    module _ (low : r ≤ m) where
      few_joint : Few m n f (a + b)
      unfolding multiplicity
      few_joint = omega (arith, (passed.listed low).count)

      front : Front (samples m n f (a + b)) r firsts
      front =
          subst⁻¹ (λ (xs : List ℕ). Front xs r firsts)
          (samples_several m n f (a + b) below (join_several m n sized.some f a b (sides_parts sides few_joint))) (passed.listed low)

      pub firsts_fit : r ≤ length firsts
      firsts_fit = fits_in front

      pub going_on : (after : Net) → JoinedBy m left right table net after → Going m n f links (k + 1) after
      unfolding link_at
      going_on after joined =
          going_next m n f links may k net going among next is_next few_joint after
          (subst (λ (j : ℕ). Joined m n f (eqb (k + 1) j) a b left right net after) (sym (links_count wiring))
          (joined n f (eqb (k + 1) wiring.gates) a b going.levels (passed.digits low)))

      pub rows_on : (g : ℕ) → g ≡ group_at_of wires left + group_at_of wires right → (after : List ℕ)
          → RowPut (n + k) g r (λ i. get_or firsts i 0) wires after → WireRows m n f groups (n + (k + 1)) after
      rows_on g is after put =
          rows_next m n sized.some f groups (n + k) wires rows g r _ after sized.levels (is ∙ sum_is ∙ sym own)
          (subst⁻¹ (λ (g : ℕ). Wire m n f g r (λ i. get_or firsts i 0)) own
          (gate_wire m n sized.some f (a + b) r firsts few_joint below front)) put _ (omega arith)
