-- The loop of `spread` over plain lists: the assignments so far cover the group without the remaining members.
-- Assumes nothing.
use Rattle.std.specs.Prelude.{◌<◌, ◌≤◌, ◌+◌, ◌-◌, ◌^◌, ◌*◌, ◌%◌, ◌/◌, ◌≡◌, ◌&&◌}
use Rattle.laws.specs.Prelude.{ℕ, ◌∙◌, sym, ap, refl, subst, subst⁻¹, subst₂, true, false, not}
use Rattle.laws.specs.Prelude.{and-false, List, pow-suc, pow-zero, mod-lt, mul_comm, mul-one, one-le-pow, mul_assoc, le-mul_of_pos_right, one-le-mul}
use Rattle.laws.specs.Prelude.{arith, length, get_or, take, length-take-le, get_or-take}
use Rattle.rules.specs.Groups.Groups.{member, size}
use Rattle.rules.specs.Groups.Marks.{inside}
use Rattle.rules.specs.Nets.Wirings.{first_input}
use Rattle.trees.specs.Groups.Members.{member_rest, first_member, size_zero}
use Rattle.trees.specs.Trees.MarkTwo.{inside_trans, rest_inside}
use Rattle.trees.specs.Groups.TakenOff.{alone_le, off_inside, off_size}
use Rattle.trees.specs.Groups.Levels.{part_below}
use Rattle.trees.specs.Groups.Covers.{Covers, covers_same, covers_input}
use Rattle.radix.specs.Offsets.{widened, widened_at}
use Rattle.radix.specs.Weights.{weight_fits}
use Rattle.radix.specs.Widths.{offsets_end}
use Rattle.representatives.specs.Spreads.{Spreading, Spread}

module _ (m n : ℕ) (weights : List ℕ) (from to : ℕ) (before : List ℕ) (len : ℕ) where
  -- the members `rest` remain to be added
  pub record Spreads (out : List ℕ) (rest count : ℕ) : Type 0 where
    pub same : length out ≡ length before
    pub left : inside n rest to ≡ true
    pub low : rest ≤ to
    pub some : 0 < count
    pub times : count * m ^ size n rest ≡ len * m ^ size n (to - from)
    pub cover : (f : ℕ → ℕ) → Covers m n f from len (λ k. get_or before k 0) → Covers m n f (to - rest) count (λ k. get_or out k 0)

module _ {m n : ℕ} {weights : List ℕ} {from to : ℕ} {before : List ℕ} {len : ℕ} (asked : Spreading m n weights from to before len) where
  from_le : from ≤ to
  from_le = asked.part_le

  pub spreads_none : Spreads m n weights from to before len before (to - from) len
  spreads_none =
      record {
        same = refl;
        left = rest_inside n from to (omega (arith, asked.group, from_le)) asked.group asked.part_of;
        low = omega arith;
        some = asked.some;
        times = refl;
        cover = λ f c. subst (λ (g : ℕ). Covers m n f g len (λ k. get_or before k 0)) back c;
      }
    where
      back : from ≡ to - (to - from)
      back = omega (arith, from_le)

  -- with a table that has one ink, any assignment of the group covers it
  plain : Covers m n (λ _. 0) from len (λ k. get_or before k 0)
  plain = record { own = asked.own; every = λ p. (0, asked.some, λ y. refl) }

  module _ {out : List ℕ} {rest count : ℕ} (so_far : Spreads m n weights from to before len out rest count) where
    pub spreads_group : rest < 2 ^ n
    spreads_group = omega (arith, asked.group, so_far.low)

    -- none remain
    pub spreads_all : rest ≤ 0 → Spread m n from to before len out count
    spreads_all none =
        record {
          times = sym (mul-one count) ∙ ap (λ (k : ℕ). count * k) (sym alone) ∙ so_far.times;
          cover = λ f c. subst (λ (g : ℕ). Covers m n f g count (λ k. get_or out k 0)) all (so_far.cover f c);
        }
      where
        zero_left : rest ≡ 0
        zero_left = omega arith

        all : to - rest ≡ to
        all = omega arith

        alone : m ^ size n rest ≡ 1
        alone = ap (λ (k : ℕ). m ^ size n k) zero_left ∙ ap (λ (k : ℕ). m ^ k) (size_zero n) ∙ pow-zero m

    -- each is an index
    pub spreads_below : (k : ℕ) → k < count → get_or out k 0 < m ^ n
    spreads_below k h = subst (λ (x : ℕ). x < m ^ n) ((so_far.cover (λ _. 0) plain).own k h) (part_below m n asked.levels (to - rest) (get_or out k 0))

    module _ (more : 0 < rest) {i : ℕ} (first : i ≡ first_input n rest) where
      i< : i < n
      i< = subst⁻¹ (λ (j : ℕ). j < n) first (first_member n rest spreads_group more).0

      is : member i rest ≡ true
      is = ap (λ (j : ℕ). member j rest) first ∙ (first_member n rest spreads_group more).1

      pub spreads_input : i < length weights
      spreads_input = omega (arith, i<, asked.all_weighed)

      -- one member fewer remains, and there are m times as many assignments
      next_times : count * m * m ^ size n (rest - 2 ^ i) ≡ len * m ^ size n (to - from)
      next_times =
          mul_assoc count m (m ^ size n (rest - 2 ^ i))
          ∙ ap (λ (k : ℕ). count * k) (mul_comm m (m ^ size n (rest - 2 ^ i)) ∙ sym (pow-suc m (size n (rest - 2 ^ i)))
          ∙ ap (λ (k : ℕ). m ^ k) (sym (off_size n rest i spreads_group i< is)))
          ∙ so_far.times

      -- there is room for the next
      pub spreads_room : count * m ≤ length out
      spreads_room =
          omega (arith, le-mul_of_pos_right (count * m) (one-le-pow (size n (rest - 2 ^ i)) m asked.levels), next_times, so_far.same, asked.room)

      pub spreads_small : (k : ℕ) → k < count → get_or out k 0 + get_or weights i 0 * m < offsets_end
      spreads_small k h =
          omega (arith, spreads_below k h, asked.small, subst⁻¹ (λ (w : ℕ). w * m ≤ m ^ n) (asked.weighed i i<) (weight_fits m n i asked.levels i<))

      pub spreads_next : {after : List ℕ} {new left : ℕ} → new ≡ count * m → take (count * m) after ≡ widened m (get_or weights i 0) (take count out)
          → length after ≡ length out → left ≡ rest - 2 ^ first_input n rest → Spreads m n weights from to before len after left new
      spreads_next {after} {new} {left} New-is wide long left_is =
          record {
            same = long ∙ so_far.same;
            left = subst⁻¹ (λ (k : ℕ). inside n k to ≡ true) off
                (inside_trans n (rest - 2 ^ i) rest to (off_inside n rest i spreads_group i< is) so_far.left);
            low = omega (arith, off, so_far.low);
            some = subst⁻¹ (λ (k : ℕ). 0 < k) New-is (one-le-mul so_far.some asked.levels);
            times = ap (λ (k : ℕ). k * m ^ size n left) New-is ∙ ap (λ (k : ℕ). count * m * m ^ size n k) off ∙ next_times;
            cover = λ f c.
                subst₂ (λ (g d : ℕ). Covers m n f g d (λ k. get_or after k 0)) group (sym New-is)
                (covers_same m n asked.levels f (to - rest + 2 ^ i) (count * m) _ _ entry
                (covers_input m n asked.levels f (to - rest) i count (λ k. get_or out k 0) (omega (arith, asked.group)) i< not_yet (so_far.cover f c)));
          }
        where
          off : left ≡ rest - 2 ^ i
          off = left_is ∙ ap (λ (j : ℕ). rest - 2 ^ j) (sym first)

          group : to - rest + 2 ^ i ≡ to - left
          group = omega (arith, off, alone_le n rest i spreads_group i< is, so_far.low)

          not_yet : member i (to - rest) ≡ false
          not_yet = member_rest i n rest to spreads_group asked.group so_far.left i< ∙ ap (λ t. member i to && not t) is ∙ and-false (member i to)

          front : length (take count out) ≡ count
          front = length-take-le count out (omega (arith, spreads_room, le-mul_of_pos_right count asked.levels))

          entry : (k : ℕ) → k < count * m → get_or out (k % count) 0 + k / count * m ^ (n - 1 - i) ≡ get_or after k 0
          entry k k< =
              sym
              (sym (get_or-take (count * m) after k 0 k<)
              ∙ ap (λ (l : List ℕ). get_or l k 0) wide
              ∙ widened_at m (get_or weights i 0) (take count out) k (subst⁻¹ (λ (j : ℕ). k < j * m) front k<)
              ∙ ap (λ (j : ℕ). get_or (take count out) (k % j) 0 + k / j * get_or weights i 0) front
              ∙ ap (λ (x : ℕ). x + k / count * get_or weights i 0) (get_or-take count out (k % count) 0 (mod-lt k so_far.some))
              ∙ ap (λ (w : ℕ). get_or out (k % count) 0 + k / count * w) (asked.weighed i i<))
