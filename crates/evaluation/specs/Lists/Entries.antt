-- A wire's list: its entry for every assignment. An entry is 16 times the assignment's part in the wire's group, plus the wire's value there.
-- Assumes nothing.
use Rattle.std.specs.Prelude.{◌<◌, ◌≤◌, ◌+◌, ◌-◌, ◌^◌, ◌*◌, ◌%◌, ◌/◌, ◌≡◌, ◌⊎◌}
use Rattle.laws.specs.Prelude.{ℕ, ◌∙◌, sym, ap, ap₂, true, false, List, mod-lt, div-lt_iff_lt-mul, mul-one}
use Rattle.laws.specs.Prelude.{inl, inr, add_comm, mul_comm, one-le-pow, mul_assoc, mod-eq_of_lt, mul-add, mul-div_cancel, arith, length, get_or, digits_lt}
use Rattle.laws.specs.Prelude.{digits_mod, digits_div, div-add-mod'}
use Rattle.rules.specs.Limits.{most_levels}
use Rattle.rules.specs.Sheets.Sheets.{level}
use Rattle.rules.specs.Groups.Groups.{member, part, others}
use Rattle.rules.specs.Nets.Trees.{Apart}
use Rattle.trees.specs.Trees.Trees.{mix}
use Rattle.trees.specs.Groups.Levels.{part_below, part_ext, part_part, part_mix, level_mix_out, mix_zero, mix_join}
use Rattle.trees.specs.Groups.Joins.{Over, apart_sym}
use Rattle.trees.specs.Groups.Covers.{sum_mix, part_single}
use Rattle.evaluation.specs.declared.lists.order.Span.{Span}
use Rattle.evaluation.specs.declared.lists.order.Order.{Order}
use Rattle.evaluation.specs.Lists.Pairs.{JoinReady, PairsJoined, pair_of}

-- the entry for assignment x of a wire of group g and value v
abbrev pub entry_of : ℕ → ℕ → ℕ → (ℕ → ℕ) → ℕ → ℕ
entry_of m n g v x = part m n g x * 16 + v x

-- the `count` entries are those of all assignments, and no others
pub record WireList (m n g : ℕ) (v : ℕ → ℕ) (count : ℕ) (e : ℕ → ℕ) : Type 0 where
  pub each : (p : ℕ) → p < count → (x : ℕ) × (e p ≡ entry_of m n g v x)
  pub every : (x : ℕ) → (p : ℕ) × (p < count) × (e p ≡ entry_of m n g v x)

-- the same entries elsewhere
pub list_same : (m n g : ℕ) (v : ℕ → ℕ) (count : ℕ) (e h : ℕ → ℕ) → ((p : ℕ) → p < count → h p ≡ e p) → WireList m n g v count e → WireList m n g v count h
list_same m n g v count e h same list =
    record {
      each = λ p l. let (x, is) = list.each p l in (x, same p l ∙ is);
      every = λ x. let (p, l, is) = list.every x in (p, l, same p l ∙ is);
    }

-- the span of a gate with these sides
abbrev pub joined_span : Span → Span → ℕ → Span
joined_span left right to = record { start = to; count = left.count * right.count; group = left.group + right.group }

-- the left's list outside, for m levels
abbrev pub left_outside : ℕ → Span → Span → Order
left_outside m left right = record { wide = m; step = 1; outer = left; inner = right }

abbrev pub exchanged : Order → Order
exchanged o = record { wide = o.step; step = o.wide; outer = o.inner; inner = o.outer }

-- the left's list or the right's is outside
abbrev pub Ordered : ℕ → Span → Span → Order → Type 0
Ordered m left right o = (o ≡ left_outside m left right) ⊎ (o ≡ exchanged (left_outside m left right))

-- a wire of value v, and its list, before `end`
pub record Side (m n : ℕ) (v : ℕ → ℕ) (lists : List ℕ) (end : ℕ) (s : Span) : Type 0 where
  pub below : s.group < 2 ^ n
  pub over : Over m n s.group v
  pub low : (z : ℕ) → v z < 16
  pub there : s.start + s.count ≤ end
  pub list : WireList m n s.group v s.count (λ p. get_or lists (s.start + p) 0)

-- two wires of groups that share no input, and a wire of both whose value is the digit for theirs
pub record Sides (m n g : ℕ) (w : ℕ → ℕ) (digits : List ℕ) (from : ℕ) (lists : List ℕ) (end entries : ℕ) (o : Order) : Type 0 where
  pub u : ℕ → ℕ
  pub v : ℕ → ℕ
  pub outer : Side m n u lists end o.outer
  pub inner : Side m n v lists end o.inner
  pub group : o.outer.group + o.inner.group ≡ g
  pub apart : Apart n o.outer.group o.inner.group
  pub w_low : (z : ℕ) → w z < 16
  pub few : o.wide ≤ most_levels
  pub near : o.step ≤ most_levels
  pub there : (z : ℕ) → from + u z * o.wide + v z * o.step < length digits
  pub is_w : (z : ℕ) → get_or digits (from + u z * o.wide + v z * o.step) 0 ≡ w z
  pub product : o.outer.count * o.inner.count ≡ entries

-- .. in either order
module _ {m n g : ℕ} {w : ℕ → ℕ} {digits : List ℕ} {from : ℕ} {lists : List ℕ} {end entries : ℕ} {o : Order}
    (s : Sides m n g w digits from lists end entries o) where
  sides_exchanged : Sides m n g w digits from lists end entries (exchanged o)
  sides_exchanged =
      record {
        u = s.v;
        v = s.u;
        outer = s.inner;
        inner = s.outer;
        group = add_comm o.inner.group o.outer.group ∙ s.group;
        apart = apart_sym n o.outer.group o.inner.group s.apart;
        w_low = s.w_low;
        few = s.near;
        near = s.few;
        there = λ z. omega (arith, s.there z);
        is_w = λ z. ap (λ (k : ℕ). get_or digits k 0) (omega arith) ∙ s.is_w z;
        product = mul_comm o.inner.count o.outer.count ∙ s.product;
      }

  pub sides_ordered : (q : Order) → (q ≡ o) ⊎ (q ≡ exchanged o) → Sides m n g w digits from lists end entries q
  sides_ordered q (inl e) = rw e s
  sides_ordered q (inr e) = rw e sides_exchanged

module _ (m n : ℕ) (pos : 0 < m) where
  -- an input's list has its m levels
  pub input_listed : (i : ℕ) → i < n → WireList m n (2 ^ i) (λ x. level m n x i) m (λ l. l * (m ^ (n - 1 - i) * 16 + 1))
  unfolding level
  input_listed i h =
      record {
        each = λ l low. (l * w, ap (λ (k : ℕ). k * (w * 16 + 1)) (sym (own l low)) ∙ entry (l * w));
        every = λ x. (level m n x i, mod-lt _ pos, entry x);
      }
    where
      w : ℕ
      w = m ^ (n - 1 - i)

      own : (l : ℕ) → l < m → level m n (l * w) i ≡ l
      own l low = ap (λ (k : ℕ). k % m) (mul-div_cancel l (one-le-pow (n - 1 - i) m pos)) ∙ mod-eq_of_lt low

      entry : (x : ℕ) → level m n x i * (w * 16 + 1) ≡ entry_of m n (2 ^ i) (λ y. level m n y i) x
      entry x = rw (part_single m n i x h, mul-add, mul-one, ← (mul_assoc (level m n x i) w 16))

  -- a group's part is the sum of those of two groups that share no input
  part_sum : (a b : ℕ) → a < 2 ^ n → b < 2 ^ n → Apart n a b → (z : ℕ) → part m n (a + b) z ≡ part m n a z + part m n b z
  unfolding mix
  part_sum a b a< b< apart z =
      sym (mix_zero m n pos (a + b) z) ∙ mix_join m n pos a b a< b< apart z 0 ∙ ap (mix m n a z) (mix_zero m n pos b z)
      ∙ ap (λ (k : ℕ). k + part m n (others n a) (part m n b z)) (sym (part_part m n pos a z))
      ∙ sum_mix m n pos a b a< b< apart (part m n a z) (part m n b z) (part_part m n pos a z) (part_part m n pos b z)

  -- the lists of both sides
  module _ {g : ℕ} {w : ℕ → ℕ} {digits : List ℕ} {from : ℕ} {lists : List ℕ} {end entries : ℕ} {o : Order}
      (sides : Sides m n g w digits from lists end entries o) where
    abbrev a : ℕ
    a = o.outer.group

    abbrev b : ℕ
    b = o.inner.group

    -- the entries for one assignment
    module _ (e h z : ℕ) (is_a_lem : e ≡ entry_of m n a sides.u z) (is_b : h ≡ entry_of m n b sides.v z) where
      level_a : e % 16 ≡ sides.u z
      level_a = rw is_a_lem (digits_mod _ (sides.outer.low z))

      level_b : h % 16 ≡ sides.v z
      level_b = rw is_b (digits_mod _ (sides.inner.low z))

      entry_place : e / 16 + h / 16 ≡ part m n g z
      entry_place =
          ap₂ (λ (k l : ℕ). k + l) place_a place_b ∙ sym (part_sum a b sides.outer.below sides.inner.below sides.apart z)
          ∙ ap (λ (k : ℕ). part m n k z) sides.group
        where
          place_a : e / 16 ≡ part m n a z
          place_a = rw is_a_lem (digits_div _ (sides.outer.low z))

          place_b : h / 16 ≡ part m n b z
          place_b = rw is_b (digits_div _ (sides.inner.low z))

      entry_digit : get_or digits (from + e % 16 * o.wide + h % 16 * o.step) 0 ≡ w z
      entry_digit = rw (level_a, level_b) (sides.is_w z)

      entry_there : from + e % 16 * o.wide + h % 16 * o.step < length digits
      entry_there = rw (level_a, level_b) (sides.there z)

      entry_is : pair_of o digits from e h ≡ entry_of m n g w z
      entry_is = ap₂ (λ (k l : ℕ). k * 16 + l) entry_place entry_digit

    -- a pair is one of some assignment: with the outer's levels at its group, and the inner's elsewhere
    pair_known : (i j : ℕ) → i < o.outer.count → j < o.inner.count
        → (z : ℕ) × (get_or lists (o.outer.start + i) 0 ≡ entry_of m n a sides.u z) × (get_or lists (o.inner.start + j) 0 ≡ entry_of m n b sides.v z)
    pair_known i j i< j< =
        let (x, is_x) = sides.outer.list.each i i< in
        let (y, is_y) = sides.inner.list.each j j< in
        let z = mix m n a x y in
        let left : part m n a x ≡ part m n a z = sym (part_mix m n pos a x y sides.outer.below) in
        let right : part m n b y ≡ part m n b z = sym (part_ext m n pos b z y (λ k h e. level_mix_out m n pos a x y k sides.outer.below h (out k h e))) in (
          z,
          is_x ∙ ap₂ (λ (p q : ℕ). p * 16 + q) left (sides.outer.over x z left),
          is_y ∙ ap₂ (λ (p q : ℕ). p * 16 + q) right (sides.inner.over y z right),
        )
      where
        out : (k : ℕ) → k < n → member k b ≡ true → member k a ≡ false
        out k h e = rw e at (apart_sym n a b sides.apart k h)

    -- the assignment, the digit and the place of a pair
    pub pair_at_lem : (i j : ℕ) → i < o.outer.count → j < o.inner.count
        → (z : ℕ) × (get_or lists (o.outer.start + i) 0 / 16 + get_or lists (o.inner.start + j) 0 / 16 ≡ part m n g z)
        × (from + get_or lists (o.outer.start + i) 0 % 16 * o.wide + get_or lists (o.inner.start + j) 0 % 16 * o.step < length digits)
        × (get_or digits (from + get_or lists (o.outer.start + i) 0 % 16 * o.wide + get_or lists (o.inner.start + j) 0 % 16 * o.step) 0 ≡ w z)
    pair_at_lem i j i< j< =
        let (z, is_a_lem, is_b) = pair_known i j i< j< in
        (z, entry_place _ _ z is_a_lem is_b, entry_there _ _ z is_a_lem is_b, entry_digit _ _ z is_a_lem is_b)

    -- .. and an assignment's pair
    pub pair_of_lem : (z : ℕ) → (i j : ℕ) × (i < o.outer.count) × (j < o.inner.count)
        × (get_or lists (o.outer.start + i) 0 / 16 + get_or lists (o.inner.start + j) 0 / 16 ≡ part m n g z)
    pair_of_lem z =
        let (i, i<, is_a_lem) = sides.outer.list.every z in
        let (j, j<, is_b) = sides.inner.list.every z in
        (i, j, i<, j<, entry_place _ _ z is_a_lem is_b)

    pub pairs_join : m ^ n ≤ 4096 → end + entries ≤ length lists → JoinReady o digits from end lists
    pairs_join small room =
        record {
          outer_there = sides.outer.there;
          inner_there = sides.inner.there;
          room = omega (arith, sides.product);
          few = sides.few;
          near = sides.near;
          from_there = omega (arith, sides.there 0);
          digit_there = λ i j i< j<. let (z, is_a_lem, is_b) = pair_known i j i< j< in entry_there _ _ z is_a_lem is_b;
          fits = λ i j i< j<.
              let (z, is_a_lem, is_b) = pair_known i j i< j< in
              rw (entry_is _ _ z is_a_lem is_b) (omega (arith, part_below m n pos g z, sides.w_low z));
        }

    pub pairs_listed : (after : List ℕ) → PairsJoined o digits from end lists o.outer.count after → WireList m n g w entries (λ p. get_or after (end + p) 0)
    pairs_listed after joined =
        rw (sym sides.product)
        (record {
          each = λ p h.
              let (_, some, _) = sides.inner.list.every 0 in
              let full : 0 < o.inner.count = omega arith in
              let i< : p / o.inner.count < o.outer.count = (div-lt_iff_lt-mul full).1 h in
              let j< : p % o.inner.count < o.inner.count = mod-lt p full in
              let (z, is_a_lem, is_b) = pair_known _ _ i< j< in
              (z, ap (λ (q : ℕ). get_or after (end + q) 0) (sym (div-add-mod' p o.inner.count)) ∙ joined.there _ _ i< j< ∙ entry_is _ _ z is_a_lem is_b);
          every = λ z.
              let (i, i<, is_a_lem) = sides.outer.list.every z in
              let (j, j<, is_b) = sides.inner.list.every z in
              (i * o.inner.count + j, digits_lt i< j<, joined.there i j i< j< ∙ entry_is _ _ z is_a_lem is_b);
        })
