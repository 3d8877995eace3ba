-- `wirings::choose::wire_group` meets its contract. Assumes nothing.
use Rattle.std.specs.Prelude.{◌<◌, ◌≤◌, ◌+◌, ◌-◌, ◌^◌, ◌≡◌, ◌≢◌}
use Rattle.laws.specs.Prelude.{ℕ, ◌∙◌, sym, subst, List, lt_of_lt_of_le, arith, eqb-true, eqb-false, pow_mono}
use Rattle.rules.specs.Groups.Groups.{size}
use Rattle.rules.specs.Nets.Wirings.{first_input}
use Rattle.trees.specs.Groups.Members.{size_one}
use Rattle.wirings.specs.Choice.{split_by, room_below}
use Rattle.wirings.specs.Added.{Added, added_single}
use Rattle.wirings.specs.Chosen.{Choosable, ready_some, part_less, part_sizes, left_choosable, right_choosable, parts_added}
use Rattle.wirings.proofs.choose.+wire_group.Goals as goal

pub single-requires : goal.single-requires
single-requires t c =
    let a = c.args in
    ready_some a.n a.marks.now (split_by a.choice a.n a.marks.now a.fewest.now) a.g c.requires.0

-- ---- a single input

-- a group of one input: its size, and its only input
alone : (n g : ℕ) → g < 2 ^ n → size n g ≡ 1 → first_input n g < n
alone n g below one = (size_one n g below one).0

pub overflow_cast-result : goal.overflow_cast-result
overflow_cast-result t c =
    let a = c.args in
    let ready = c.requires.0 in
    let one : size a.n a.g ≡ 1 = eqb-true (size a.n a.g) 1 (sym (c.single.ensures a.n ready.below) ∙ c.if-single.true) in
    omega (arith, c.first_input.ensures, alone a.n a.g ready.below one, ready.inputs)

pub returns-then-single : goal.returns-then-single
returns-then-single t c =
    let a = c.args in
    let by : ℕ → ℕ = split_by a.choice a.n a.marks.now a.fewest.now in
    let ready = c.requires.0 in
    let one : size a.n a.g ≡ 1 = eqb-true (size a.n a.g) 1 (sym (c.single.ensures a.n ready.below) ∙ c.if-single.true) in
    subst (Added a.n by a.g a.wiring a.wiring) (sym c.first_input.ensures) (added_single a.n by a.g a.wiring (alone a.n a.g ready.below one) one)

-- ---- several

pub part_of-a-requires : goal.part_of-a-requires
part_of-a-requires t c =
    let a = c.args in
    let ready = c.requires.0 in (
      ready_some a.n a.marks.now (split_by a.choice a.n a.marks.now a.fewest.now) a.g ready,
      lt_of_lt_of_le ready.below (pow_mono {i = a.n} {j = 16} (omega (arith, ready.inputs))),
      omega (arith, ready.below, ready.room),
      c.requires.1,
    )

-- A's number, and what is left
module _ (n : ℕ) (marks : List ℕ) (by : ℕ → ℕ) (g : ℕ) (ready : Choosable n marks by g) (several : size n g ≢ 1) (part : ℕ) (is : part ≡ by g) where
  less : (0 < part) × (part < g)
  less = part_less n marks by g ready several part is

  sizes : (size n g ≡ size n part + size n (g - part)) × (0 < size n part) × (0 < size n (g - part))
  sizes = part_sizes n marks by g ready several part is

pub wire_group-left-requires : goal.wire_group-left-requires
wire_group-left-requires t c =
    let a = c.args in
    let by : ℕ → ℕ = split_by a.choice a.n a.marks.now a.fewest.now in
    let ready = c.requires.0 in
    let part = c.part_of-a.result in
    let is : part ≡ by a.g = c.part_of-a.ensures a.n ready.below in
    let several : size a.n a.g ≢ 1 = eqb-false (size a.n a.g) 1 (sym (c.single.ensures a.n ready.below) ∙ c.if-single.false) in
    let smaller : (0 < part) × (part < a.g) = less a.n a.marks.now by a.g ready several part is in
    let falls : part < t = omega (arith, smaller, c.decreases) in
    let fits : a.wiring.gates + size a.n part ≤ a.n = omega (arith, sizes a.n a.marks.now by a.g ready several part is, c.requires.2) in (
      falls,
      (
        left_choosable a.n a.marks.now by a.g ready several part is,
        room_below a.choice a.g a.fewest.now c.requires.1 part (omega (arith, smaller)),
        fits,
      ),
    )

pub overflow_sub-g : goal.overflow_sub-g
overflow_sub-g t c =
    let a = c.args in
    let by : ℕ → ℕ = split_by a.choice a.n a.marks.now a.fewest.now in
    let ready = c.requires.0 in
    let several : size a.n a.g ≢ 1 = eqb-false (size a.n a.g) 1 (sym (c.single.ensures a.n ready.below) ∙ c.if-single.false) in
    omega (arith, less a.n a.marks.now by a.g ready several c.part_of-a.result (c.part_of-a.ensures a.n ready.below))

pub wire_group-right-requires : goal.wire_group-right-requires
wire_group-right-requires t c =
    let a = c.args in
    let by : ℕ → ℕ = split_by a.choice a.n a.marks.now a.fewest.now in
    let ready = c.requires.0 in
    let part = c.part_of-a.result in
    let is : part ≡ by a.g = c.part_of-a.ensures a.n ready.below in
    let several : size a.n a.g ≢ 1 = eqb-false (size a.n a.g) 1 (sym (c.single.ensures a.n ready.below) ∙ c.if-single.false) in
    let smaller : (0 < part) × (part < a.g) = less a.n a.marks.now by a.g ready several part is in
    let falls : a.g - part < t = omega (arith, smaller, c.decreases) in
    let fits : c.wire_group-left.result.wiring.gates + size a.n (a.g - part) ≤ a.n =
    omega (arith, c.wire_group-left.ensures.count, sizes a.n a.marks.now by a.g ready several part is, c.requires.2) in (
      falls,
      (
        right_choosable a.n a.marks.now by a.g ready several part is,
        room_below a.choice a.g a.fewest.now c.requires.1 (a.g - part) (omega arith),
        fits,
      ),
    )

pub overflow_add-reference : goal.overflow_add-reference
overflow_add-reference t c =
    let a = c.args in
    let by : ℕ → ℕ = split_by a.choice a.n a.marks.now a.fewest.now in
    let ready = c.requires.0 in
    let several : size a.n a.g ≢ 1 = eqb-false (size a.n a.g) 1 (sym (c.single.ensures a.n ready.below) ∙ c.if-single.false) in
    let both = sizes a.n a.marks.now by a.g ready several c.part_of-a.result (c.part_of-a.ensures a.n ready.below) in
    omega (arith, c.wire_group-left.ensures.count, c.wire_group-right.ensures.count, both, c.requires.2, ready.inputs)

pub overflow_cast-reference : goal.overflow_cast-reference
overflow_cast-reference t c =
    let a = c.args in
    let by : ℕ → ℕ = split_by a.choice a.n a.marks.now a.fewest.now in
    let ready = c.requires.0 in
    let several : size a.n a.g ≢ 1 = eqb-false (size a.n a.g) 1 (sym (c.single.ensures a.n ready.below) ∙ c.if-single.false) in
    let both = sizes a.n a.marks.now by a.g ready several c.part_of-a.result (c.part_of-a.ensures a.n ready.below) in
    omega (arith, c.wire_group-left.ensures.count, c.wire_group-right.ensures.count, both, c.requires.2, ready.inputs)

pub link-all-requires : goal.link-all-requires
link-all-requires t c =
    let a = c.args in
    let by : ℕ → ℕ = split_by a.choice a.n a.marks.now a.fewest.now in
    let ready = c.requires.0 in
    let several : size a.n a.g ≢ 1 = eqb-false (size a.n a.g) 1 (sym (c.single.ensures a.n ready.below) ∙ c.if-single.false) in
    let both = sizes a.n a.marks.now by a.g ready several c.part_of-a.result (c.part_of-a.ensures a.n ready.below) in
    omega (arith, c.wire_group-left.ensures.count, c.wire_group-right.ensures.count, both, c.requires.2, ready.inputs)

pub returns : goal.returns
returns t c =
    let a = c.args in
    let by : ℕ → ℕ = split_by a.choice a.n a.marks.now a.fewest.now in
    let ready = c.requires.0 in
    let part = c.part_of-a.result in
    let is : part ≡ by a.g = c.part_of-a.ensures a.n ready.below in
    let several : size a.n a.g ≢ 1 = eqb-false (size a.n a.g) 1 (sym (c.single.ensures a.n ready.below) ∙ c.if-single.false) in
    let left = c.wire_group-left in
    let right = c.wire_group-right in
    parts_added a.n a.marks.now by a.g ready several part is a.wiring left.result.wiring
    right.result.wiring c.link-all.result left.result.reference right.result.reference
    left.ensures right.ensures c.link-all.ensures
