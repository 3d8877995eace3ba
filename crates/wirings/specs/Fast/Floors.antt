-- A lower bound on a group's layers, from its number of members: r layers have room for 2 ^ r inputs, because if two parts have room for their
-- members, one more layer has room for all of them. With marks that no table has, a group may lack room; then the search uses only the floor of any
-- split.
-- Assumes nothing.
use Rattle.std.specs.Prelude.{◌<◌, ◌≤◌, ◌+◌, ◌-◌, ◌^◌, ◌*◌, ◌≡◌, ◌⊎◌}
use Rattle.laws.specs.Prelude.{ℕ, suc, zero, max, ◌∙◌, sym, ap, subst, ⊎_elim, inl, inr, true, false, Bool}
use Rattle.laws.specs.Prelude.{true≢false, List, le_trans, dec_lt, ℕ_discrete, arith, length, get_or, set, get_or-set_same, get_or-set_other, pow_mono}
use Rattle.std.specs.Int.Count.{count_leading_zeros}
use Rattle.std.proofs.lemmas.Nat.{leading_length}
use Rattle.rules.specs.Groups.Groups.{size}
use Rattle.rules.specs.Groups.Marks.{mark_in, parts_at}
use Rattle.rules.specs.Nets.Shallow.{split_layers}
use Rattle.trees.specs.Groups.Members.{size_join, size_pos}
use Rattle.trees.specs.Groups.MarkRule.{parts_of}
use Rattle.radix.specs.Parts.{PartOf}
use Rattle.wirings.specs.FewestLayers.{PartAfter, passed_part, parts_inside}

-- ---- a number of members

-- r layers have room for this many members, and fewer layers do not
pub record Floor (members r : ℕ) : Type 0 where
  pub room : members ≤ 2 ^ r
  pub least : (d : ℕ) → members ≤ 2 ^ d → r ≤ d

-- more than one member needs a layer
some_layer : (r : ℕ) → 1 < 2 ^ r → 0 < r
some_layer zero more = absurd (omega arith)
some_layer (suc r) more = omega arith

-- one more layer has room for twice as many
twice : (r : ℕ) → 2 ^ (1 + r) ≡ 2 ^ r + 2 ^ r
twice r = let next : 1 + r ≡ suc r = omega arith in ap (λ (k : ℕ). 2 ^ k) next ∙ double
  where
    double : 2 ^ suc r ≡ 2 ^ r + 2 ^ r
    double = omega arith

-- the floor is the length of members - 1 in bits, ..
floor_length : (members r : ℕ) → 0 < members → members - 1 < 2 ^ r → 2 ^ r ≤ 2 * (members - 1) + 1 → Floor members r
floor_length members r some room tight = record { room = omega arith; least = λ d enough. go d enough (dec_lt d r) }
  where
    go : (d : ℕ) → members ≤ 2 ^ d → Dec (d < r) → r ≤ d
    go d enough (yes less) = absurd (omega (arith, pow_mono {i = suc d} {j = r} less))
    go d enough (no more) = omega arith

-- .. which is 64 less the zeros above its highest bit
pub floor_zeros : (members : ℕ) → 0 < members → members < 2 ^ 64 → Floor members (64 - count_leading_zeros 64 (members - 1))
floor_zeros members some fits =
    let bits = leading_length 64 (members - 1) (omega arith) in
    let is : bits.0 ≡ 64 - count_leading_zeros 64 (members - 1) = omega (arith, bits.1) in
    subst (λ (r : ℕ). Floor members r) is (floor_length members bits.0 some bits.2 bits.3)

-- ---- the groups below g that are inside the leaves

-- the layers recorded for those of mark 2 have room for their members
abbrev pub RoomInLayers : List ℕ → ℕ → List ℕ → ℕ → Type 0
RoomInLayers marks leaves layers g = (n h : ℕ) → h < 2 ^ n → h < g → PartOf h leaves → mark_in marks h ≡ 2 → size n h ≤ 2 ^ get_or layers h 0

-- no split of g has fewer layers than `floor`, which is not 0 if g has a split
abbrev pub Under : List ℕ → List ℕ → ℕ → ℕ → Type 0
Under marks layers g floor = (n a : ℕ) → g < 2 ^ n → 0 < a → a < g → parts_at n marks g a ≡ true → (0 < floor) × (floor ≤ split_layers layers g a)

-- the floor of a group of mark 2 by its members, or the floor of any split if nothing is known about the groups below it
abbrev pub FloorAt : List ℕ → ℕ → Bool → ℕ → Type 0
FloorAt marks g sized r = mark_in marks g ≡ 2 → ((sized ≡ false) × (r ≡ 1)) ⊎ ((sized ≡ true) × ((n : ℕ) → g < 2 ^ n → Floor (size n g) r))

module _ (marks : List ℕ) (leaves : ℕ) (layers : List ℕ) (g : ℕ) (g_part : PartOf g leaves) where
  -- the layers of the gate that joins two parts have room for their members
  split_room : RoomInLayers marks leaves layers g → (n a : ℕ) → g < 2 ^ n → 0 < a → a < g → parts_at n marks g a ≡ true
      → (1 < size n g) × (size n g ≤ 2 ^ split_layers layers g a)
  unfolding parts_of split_layers
  split_room sized n a g< some less h =
      let two = parts_of n marks g a g< some less h in
      let parts = parts_inside n marks g a leaves g< less g_part h in
      let deeper : ℕ = max (get_or layers a 0) (get_or layers (g - a) 0) in
      let of_a = le_trans (sized n a (omega arith) less parts.0 two.two_a) (pow_mono {j = deeper} (omega arith)) in
      let of_b_lem = le_trans (sized n (g - a) (omega arith) (omega arith) parts.1 two.two_b) (pow_mono {j = deeper} (omega arith)) in
      let sizes : size n g ≡ size n a + size n (g - a) =
      ap (size n) (sym two.joined) ∙ size_join n a (g - a) (omega arith) (omega arith) two.apart in
      let some_a = size_pos n a (omega arith) some in
      let some_b = size_pos n (g - a) (omega arith) (omega arith) in
      (omega arith, omega (arith, twice deeper))

  -- so the search of g may use its floor
  pub floor_under : (sized : Bool) → (sized ≡ true → RoomInLayers marks leaves layers g) → (r : ℕ) → FloorAt marks g sized r → mark_in marks g ≡ 2
      → Under marks layers g r
  unfolding split_layers
  floor_under sized is r floor two n a g< some less h =
      ⊎_elim (λ any. (omega (arith, any.1), omega (arith, any.1)))
      (λ by.
      let room = split_room (is by.0) n a g< some less h in
      let f = by.1 n g< in
      (some_layer r (le_trans room.0 f.room), f.least (split_layers layers g a) room.1))
      (floor two)

  -- g has room too, once at least its floor is written at its number
  pub sized_next : (sized : Bool) → (sized ≡ true → RoomInLayers marks leaves layers g) → (floor : ℕ) → FloorAt marks g sized floor → g < length layers
      → (r : ℕ) → floor ≤ r → sized ≡ true → (next : ℕ) → PartAfter leaves g next → RoomInLayers marks leaves (set layers g r) next
  sized_next sized is floor at room r enough yes_sized next after n h h< h<next part two = go (ℕ_discrete h g)
    where
      go : Dec (h ≡ g) → size n h ≤ 2 ^ get_or (set layers g r) h 0
      go (yes e) =
          let is_g : get_or (set layers g r) h 0 ≡ r = ap (λ (k : ℕ). get_or (set layers g r) k 0) e ∙ get_or-set_same layers g r 0 room in
          rw is_g (le_trans (in_floor (at (ap (mark_in marks) (sym e) ∙ two))) (pow_mono {i = floor} {j = r} enough))
        where
          in_floor : ((sized ≡ false) × (floor ≡ 1)) ⊎ ((sized ≡ true) × ((n : ℕ) → g < 2 ^ n → Floor (size n g) floor)) → size n h ≤ 2 ^ floor
          in_floor (inl unknown) = absurd (true≢false (sym yes_sized ∙ unknown.0))
          in_floor (inr by) = rw e (by.1 n (omega arith)).room
      go (no other) = rw (get_or-set_other layers g h r 0 other) (is yes_sized n h h< (passed_part other after h<next part) part two)
