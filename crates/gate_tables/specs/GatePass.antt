-- One pass over the sums of left's and right's samples, in rising order: it finds the classes of the joint group in their order, and each sum's class.
-- Assumes nothing.
use Rattle.std.specs.Prelude.{◌<◌, ◌≤◌, ◌+◌, ◌-◌, ◌^◌, ◌*◌, ◌%◌, ◌/◌, ◌≡◌}
use Rattle.laws.specs.Prelude.{ℕ, ◌∙◌, sym, ap, subst, ap₂, subst⁻¹, subst₂, true, false, Bool, cond, List}
use Rattle.laws.specs.Prelude.{mul-le-mul_right, lt_of_lt_of_le, dec_lt, ℕ_discrete, arith, length, get_or, take, set, length-set, get_or-set_same}
use Rattle.laws.specs.Prelude.{get_or-set_other, length-take-le, get_or-take, ext_get_or, digits_lt, digits_mod, digits_div}
use Rattle.rules.specs.Lists.{first_place}
use Rattle.rules.specs.Limits.{most_cells, most_levels}
use Rattle.rules.specs.Groups.Groups.{part, points, others, alike_over, classes, multiplicity}
use Rattle.rules.specs.Nets.Filling.{class_number, given, gate_digits}
use Rattle.rules.specs.Calls.Answers.{ink_in}
use Rattle.laws.specs.Lists.FirstPlaces.{before_first, at_first}
use Rattle.classes.specs.Firsts.{search_is}
use Rattle.classes.specs.Within.{Within, part_within}
use Rattle.radix.specs.Fronts.{Front, part_is}
use Rattle.trees.specs.Groups.Levels.{part_below}
use Rattle.trees.specs.Groups.Points.{points_are_parts}
use Rattle.trees.specs.Groups.Alike.{alike_sym}
use Rattle.trees.specs.Groups.Classes.{Few, classes_are_points, class_below, class_listed, listed_once}
use Rattle.trees.specs.Filling.DigitRule.{Parts, join_small}
use Rattle.gate_tables.specs.ClassOrder.{Rises, classes_rising, class_not_above}
use Rattle.gate_tables.specs.GateDigits.{pass_digits}
use Rattle.gate_tables.specs.GateRows.{sum_of, RowsDone, LeastRow}
use Rattle.gate_tables.specs.JoinSums.{sample_sum_own, class_sum}
use Rattle.gate_tables.specs.Samples.{samples, samples_rise, samples_few}
use Rattle.gate_tables.specs.Sized.{Sized}

-- Two groups that share no input, each of at most m classes. Nothing is said about the classes of their union: in a table whose inks are all 0,
-- every group has one class.
pub record SampleSides (m n : ℕ) (f : ℕ → ℕ) (a b : ℕ) : Type 0 where
  pub pair : Parts m n (λ _. 0) a b
  pub few_a : Few m n f a
  pub few_b : Few m n f b

-- if their union has few classes too, a gate may join them
pub sides_parts : {m n : ℕ} {f : ℕ → ℕ} {a b : ℕ} → SampleSides m n f a b → Few m n f (a + b) → Parts m n f a b
sides_parts sides few =
    let pair = sides.pair in
    record {
      some_a = pair.some_a;
      some_b = pair.some_b;
      a_below = pair.a_below;
      b_below = pair.b_below;
      apart = pair.apart;
      few_a = sides.few_a;
      few_b = sides.few_b;
      few = few;
    }

pub record PassReady (m n : ℕ) (cells : List ℕ) (a b : ℕ) (left right : List ℕ) : Type 0 where
  pub sized : Sized m n cells
  pub sides : SampleSides m n (ink_in cells) a b
  pub lefts : left ≡ samples m n (ink_in cells) a
  pub rights : right ≡ samples m n (ink_in cells) b

-- room for the other inputs' assignments, for one class more than m, and for the gate's table, which starts as zeros
pub record PassRoom (m n : ℕ) (ys firsts table : List ℕ) : Type 0 where
  pub for_ys : m ^ n ≤ length ys
  pub for_firsts : m + 1 ≤ length firsts
  pub for_table : m * m ≤ length table
  pub zeros : (k : ℕ) → get_or table k 0 ≡ 0

-- what the pass finds: the joint group's classes and the gate's digits, or that there are too many classes
pub record Passed (m n : ℕ) (f : ℕ → ℕ) (last : Bool) (a b r : ℕ) (firsts table : List ℕ) : Type 0 where
  pub listed : r ≤ m → Front (classes m n f (a + b)) r firsts
  pub digits : r ≤ m → (k : ℕ) → k < m * m → get_or table k 0 ≡ get_or (gate_digits m n f last a b) k 0
  pub many : m < r → m < multiplicity m n f (a + b)

-- the same pass where its groups and samples are found by other means
pub ready_by : {m n : ℕ} {cells : List ℕ} {a b x y : ℕ} {left right ls rs : List ℕ} → x ≡ a → y ≡ b → ls ≡ left → rs ≡ right
    → PassReady m n cells a b left right → PassReady m n cells x y ls rs
ready_by of_a of_b_lem of_left of_right ready = rw (of_a, of_b_lem, of_left, of_right) ready

pub passed_by : {m n : ℕ} {f : ℕ → ℕ} {last : Bool} {a b x y r : ℕ} {firsts table : List ℕ} → x ≡ a → y ≡ b → Passed m n f last x y r firsts table
    → Passed m n f last a b r firsts table
passed_by of_a of_b_lem passed = rw (← of_a, ← of_b_lem) passed

-- Before a turn of the pass: the classes of the sums done are known, and what the gate gives there.
pub record AtSum (m n : ℕ) (cells : List ℕ) (a b : ℕ) (last : Bool) (left right ys : List ℕ) (other : ℕ) (firsts table next : List ℕ) (count : ℕ) : Type 0
  where
    pub columns : Front (points m n (others n (a + b))) other ys
    pub for_firsts : m + 1 ≤ length firsts
    pub for_table : m * m ≤ length table
    pub for_next : length next ≡ most_levels
    pub few : count ≤ m
    pub known : count ≤ length (classes m n (ink_in cells) (a + b))
    pub kept : (j : ℕ) → j < count → get_or firsts j 0 ≡ get_or (classes m n (ink_in cells) (a + b)) j 0
    pub done : (w v : ℕ) → w < length left → v < length right → v < get_or next w 0
        → (class_number m n (ink_in cells) (a + b) (sum_of left right w v) < count)
        × (get_or table (w * m + v) 0 ≡ given m n (ink_in cells) last (a + b) (sum_of left right w v))
    pub free : (w v : ℕ) → v < m → (w < length left → v < length right → v < get_or next w 0 → ⊥) → get_or table (w * m + v) 0 ≡ 0

-- the numbers of a turn are small
pub record SumFacts (m : ℕ) (cells left right firsts table next : List ℕ) (count u : ℕ) : Type 0 where
  pub more : get_or next u 0 < length right
  pub short : u < most_levels
  pub column : get_or next u 0 < most_levels
  pub known : count ≤ most_levels
  pub room : count < length firsts
  pub small : sum_of left right u (get_or next u 0) < most_cells
  pub inside : sum_of left right u (get_or next u 0) < length cells
  pub place : u * m + get_or next u 0 < length table
  pub flat : u * m + get_or next u 0 < 81

module _ (m n : ℕ) (cells : List ℕ) (a b : ℕ) (left right : List ℕ) (ready : PassReady m n cells a b left right) where
  abbrev f : ℕ → ℕ
  f = ink_in cells

  abbrev pos : 0 < m
  pos = ready.sized.some

  abbrev pair : Parts m n (λ _. 0) a b
  pair = ready.sides.pair

  abbrev joint : List ℕ
  joint = classes m n f (a + b)

  abbrev class : ℕ → ℕ
  class p = class_number m n f (a + b) p

  abbrev sum : ℕ → ℕ → ℕ
  sum u v = sum_of left right u v

  pub joint_below : a + b < 2 ^ n
  joint_below = join_small m n pos (λ _. 0) a b pair

  -- each side has at most m samples
  pub sides_few : (length left ≤ m) × (length right ≤ m)
  sides_few = (
    subst⁻¹ (λ (xs : List ℕ). length xs ≤ m) ready.lefts (samples_few m n f a pair.a_below ready.sides.few_a),
    subst⁻¹ (λ (xs : List ℕ). length xs ≤ m) ready.rights (samples_few m n f b pair.b_below ready.sides.few_b),
  )

  sum_own : (u v : ℕ) → u < length left → v < length right → part m n (a + b) (sum u v) ≡ sum u v
  sum_own =
      subst₂ (λ (ls rs : List ℕ). (u v : ℕ) → u < length ls → v < length rs → part m n (a + b) (sum_of ls rs u v) ≡ sum_of ls rs u v)
      (sym ready.lefts) (sym ready.rights) (sample_sum_own m n pos f a b pair.a_below pair.b_below pair.apart)

  class_at : (c : ℕ) → c < length joint → (u : ℕ) × (v : ℕ) × (u < length left) × (v < length right) × (get_or joint c 0 ≡ sum u v)
  class_at =
      subst₂ (λ (ls rs : List ℕ). (c : ℕ) → c < length joint → (u : ℕ) × (v : ℕ) × (u < length ls) × (v < length rs) × (get_or joint c 0 ≡ sum_of ls rs u v))
      (sym ready.lefts) (sym ready.rights) (class_sum m n pos f a b pair.a_below pair.b_below pair.apart)

  right_rises : Rises right
  right_rises = subst (λ (rs : List ℕ). Rises rs) (sym ready.rights) (samples_rise m n f b pair.b_below pos)

  in_joint : (p : ℕ) → class p < length joint
  unfolding multiplicity
  in_joint p = class_below m n pos f (a + b) joint_below p

  -- the listed assignment of class c has class c, and is an assignment of the joint group
  class_own : (c : ℕ) → c < length joint → (class (get_or joint c 0) ≡ c) × (part m n (a + b) (get_or joint c 0) ≡ get_or joint c 0)
  unfolding multiplicity
  class_own c c< = (
    listed_once m n pos f (a + b) joint_below _ c (in_joint _)
        c< (alike_sym m n pos f (a + b) _ _ (class_listed m n pos f (a + b) joint_below (get_or joint c 0))),
    (points_are_parts m n pos (a + b) _ (classes_are_points m n pos f (a + b) joint_below c c<)).0,
  )

  -- no sum is done yet
  pub at_start : (last : Bool) (ys : List ℕ) (other : ℕ) (firsts table next : List ℕ) → Front (points m n (others n (a + b))) other ys
      → (before : List ℕ) → PassRoom m n before firsts table → length next ≡ most_levels → ((w : ℕ) → w < length left → get_or next w 0 ≡ 0)
      → AtSum m n cells a b last left right ys other firsts table next 0
  at_start last ys other firsts table next columns before room long none =
      record {
        columns = columns;
        for_firsts = room.for_firsts;
        for_table = room.for_table;
        for_next = long;
        few = omega arith;
        known = omega arith;
        kept = λ j h. absurd (omega arith);
        done = λ w v w< v< h. absurd (omega (arith, none w w<));
        free = λ w v v< _. room.zeros (w * m + v);
      }

  module _ (last : Bool) (ys : List ℕ) (other : ℕ) (firsts table next : List ℕ) (count : ℕ)
      (at : AtSum m n cells a b last left right ys other firsts table next count) where
    abbrev columns_of : List ℕ
    columns_of = take (other - 0) ys

    inside_columns : (q : ℕ) → part m n (a + b) q ≡ q → Within (length cells) columns_of q
    inside_columns q own =
        subst⁻¹ (λ (us : List ℕ). Within (length cells) us q) (part_is at.columns)
        (part_within m n pos (a + b) joint_below (length cells) ready.sized.count q own)

    -- each class found is inside the cells, with each assignment of the other inputs
    pub kept_inside : (q j : ℕ) → j < count → Within (length cells) columns_of (get_or (set firsts count q) j 0)
    kept_inside q j h =
        subst⁻¹ (Within (length cells) columns_of) (get_or-set_other firsts count j q 0 (λ e. omega arith) ∙ at.kept j h)
        (inside_columns _ (class_own j (omega (arith, at.known))).1)

    -- all sums are done
    pub at_end : RowsDone right next (length left) → Passed m n f last a b count firsts table
    unfolding multiplicity
    at_end end =
        record {
          listed = λ _. front;
          digits = λ _. pass_digits m n pos f last a b (sides_parts ready.sides (omega (arith, front.count, at.few))) left right table
              ready.lefts ready.rights
              ((λ u v u< v<. (at.done u v u< v< (omega (arith, end u u<))).1), (λ u v v< out. at.free u v v< (λ h k _. out h k)));
          many = λ h. absurd (omega (arith, at.few));
        }
      where
        all_known : count ≡ length joint
        all_known = go (dec_lt count (length joint))
          where
            go : Dec (count < length joint) → count ≡ length joint
            go (no h) = omega (arith, at.known)
            go (yes h) =
                let (u, v, u<, v<, is) = class_at count h in
                absurd (omega (
                  arith,
                  (class_own count h).0,
                  ap class is,
                  (at.done u v
                      u< v< (omega (arith, end u u<))).0,
                ))

        front : Front joint count firsts
        front =
            let long = length-take-le count firsts (omega (arith, at.few, at.for_firsts)) in
            record {
              count = all_known;
              is = ext_get_or 0 (take count firsts) joint (long ∙ all_known) (λ i h. get_or-take count firsts i 0 (omega arith) ∙ at.kept i (omega arith));
            }

    -- a turn
    module _ (r p : ℕ) (row : LeastRow left right next (length left) r p) where
      r< : r < length left
      r< = row.below

      abbrev v : ℕ
      v = get_or next r 0

      abbrev s : ℕ
      s = sum_of left right r v

      v< : v < length right
      v< = row.some

      s_own : part m n (a + b) s ≡ s
      s_own = sum_own r v r< v<

      pub sum_facts : SumFacts m cells left right firsts table next count r
      sum_facts =
          let few = sides_few in
          let below : s < m ^ n = subst (λ (q : ℕ). q < m ^ n) s_own (part_below m n pos (a + b) s) in
          let sized = ready.sized in
          let here : r * m + v < m * m = digits_lt (lt_of_lt_of_le r< few.0) (lt_of_lt_of_le v< few.1) in
          record {
            more = v<;
            short = omega (arith, few.0, sized.levels);
            column = omega (arith, few.1, v<, sized.levels);
            known = omega (arith, at.few, sized.levels);
            room = omega (arith, at.few, at.for_firsts);
            small = omega (arith, sized.small);
            inside = omega (arith, sized.count);
            place = omega (arith, here, at.for_table);
            flat = omega (arith, here, mul-le-mul_right m sized.levels, sized.levels);
          }

      -- p is the sum of the turn
      is_sum : p ≡ s
      is_sum = row.is

      p_own : part m n (a + b) p ≡ p
      p_own = rw is_sum s_own

      pub sum_within : Within (length cells) columns_of p
      sum_within = inside_columns p p_own

      -- it begins a new class: the next in the list
      module _ (late : count ≤ class p) where
        here : count < length joint
        here = omega (arith, in_joint p)

        next_listed : get_or joint count 0 ≡ p
        next_listed =
            let (u, w, u<, w<, is) = class_at count here in
            by u w u< w< is (rising (ℕ_discrete count (class p))) (dec_lt w (get_or next u 0))
          where
            rising : Dec (count ≡ class p) → get_or joint count 0 ≤ p
            rising (yes e) = rw e (class_not_above m n pos f (a + b) joint_below p p_own)
            rising (no ne) =
                omega (
                  arith,
                  classes_rising m n pos f (a + b) joint_below count (class p) (omega arith) (in_joint p),
                  class_not_above m n pos f
                      (a + b) joint_below p p_own,
                )

            row_rises : (u w : ℕ) → w < length right → get_or next u 0 ≤ w → get_or right (get_or next u 0) 0 ≤ get_or right w 0
            row_rises u w w< after = by (ℕ_discrete (get_or next u 0) w)
              where
                by : Dec (get_or next u 0 ≡ w) → get_or right (get_or next u 0) 0 ≤ get_or right w 0
                by (yes e) = rw e (omega arith)
                by (no ne) = omega (arith, right_rises (get_or next u 0) w (omega arith) w<)

            by : (u w : ℕ) → u < length left → w < length right → get_or joint count 0 ≡ sum_of left right u w → get_or joint count 0 ≤ p → Dec (w < get_or next u 0)
                → get_or joint count 0 ≡ p
            by u w u< w< is up (yes earlier) = absurd
                (omega (arith, (class_own count here).0, ap class is, (at.done u w u< w< earlier).0))
            by u w u< w< is up (no later) =
                omega (arith, row.least u u< (omega arith), row_rises u w w< (omega arith))

        next_class : class p ≡ count
        next_class = ap class (sym next_listed) ∙ (class_own count here).0

      -- the class found among those kept
      module _ (c : ℕ) (found : c ≡ first_place (alike_over f columns_of p) (take count (set firsts count p))) where
        abbrev kept : List ℕ
        kept = set firsts count p

        same : (j : ℕ) → j < count → get_or kept j 0 ≡ get_or firsts j 0
        same j h = get_or-set_other firsts count j p 0 (λ e. omega arith)

        test : ℕ → Bool
        test = alike_over f (points m n (others n (a + b))) p

        test_listed : c ≡ first_place test (take count joint)
        unfolding test
        test_listed =
            let long = length-take-le count kept (omega (arith, length-set firsts count p, sum_facts.room)) in
            found
            ∙ ap₂ (λ (us xs : List ℕ). first_place (alike_over f us p) xs) (part_is at.columns)
            (ext_get_or 0 (take count kept) (take count joint) (long ∙ sym (length-take-le count joint at.known))
            (λ j h. get_or-take count kept j 0 (omega arith) ∙ same j (omega arith) ∙ at.kept j (omega arith) ∙ sym (get_or-take count joint j 0 (omega arith))))

        kind_is : class p ≡ first_place test joint
        unfolding class_number test
        kind_is = ap (λ (q : ℕ). first_place (alike_over f (points m n (others n (a + b))) q) joint) p_own

        -- it is the sum's own, whether old or new
        found_class : c ≡ class p
        found_class = go (dec_lt (class p) count)
          where
            go : Dec (class p < count) → c ≡ class p
            go (yes old) =
                test_listed ∙ sym (search_is test joint count (class p) at.known (omega arith) (λ j h. before_first test 0 joint j (omega
                (arith, kind_is)))
                (λ h. subst (λ (k : ℕ). test (get_or joint k 0) ≡ true) (sym kind_is) (at_first test 0 joint (omega (arith, kind_is, in_joint p)))))
            go (no new) =
                test_listed
                ∙ sym (search_is test joint count count at.known (omega arith) (λ j h. before_first test 0 joint j (omega (arith, kind_is)))
                (λ h. absurd (omega arith)))
                ∙ sym (next_class (omega arith))

        -- a class too many turned up
        pub at_many : m ≤ c → Passed m n f last a b (m + 1) kept table
        unfolding multiplicity
        at_many over =
            record { listed = λ h. absurd (omega arith); digits = λ h. absurd (omega arith); many = λ _. omega (arith, found_class, in_joint p) }

        -- the class is one of m, and what the gate gives is noted
        pub at_next : c < m → (after : ℕ) → (c < count → after ≡ count) × (count ≤ c → after ≡ c + 1) → (x : ℕ) → x ≡ cond last (f p) c
            → (next₁ table₁ : List ℕ) → (next₁ ≡ set next r (v + 1)) × (table₁ ≡ set table (r * m + v) x)
            → AtSum m n cells a b last left right ys other kept table₁ next₁ after
        unfolding given
        at_next c< after counted x is_x next₁ table₁ put = rw (put.0, put.1) (go (dec_lt c count))
          where
            r_room : r < length next
            r_room = omega (arith, sum_facts.short, at.for_next)

            given_next : x ≡ given m n f last (a + b) s
            given_next = is_x ∙ by last ∙ ap (given m n f last (a + b)) is_sum
              where
                by : (t : Bool) → cond t (f p) c ≡ given m n f t (a + b) p
                by true = ap f (sym p_own)
                by false = found_class

            -- another sum has another place
            elsewhere : (u w : ℕ) → w < m → ((u ≡ r) → (w ≡ v) → ⊥) → (u * m + w ≡ r * m + v → ⊥)
            elsewhere u w w< differ e =
                let v< : v < m = lt_of_lt_of_le v< sides_few.1 in
                let row_same : u ≡ r = sym (digits_div u w<) ∙ ap (λ (k : ℕ). k / m) e ∙ digits_div r v< in
                differ row_same (sym (digits_mod u w<) ∙ ap (λ (k : ℕ). k % m) e ∙ digits_mod r v<)

            done_now : count ≤ after → c < after → (u w : ℕ) → u < length left → w < length right → w < get_or (set next r (v + 1)) u 0
                → (class (sum_of left right u w) < after) × (get_or (set table (r * m + v) x) (u * m + w) 0 ≡ given m n f last (a + b) (sum_of left right u w))
            done_now more new u w u< w< h = by (ℕ_discrete u r) (ℕ_discrete w v)
              where
                Now : Type 0
                Now = (class (sum_of left right u w) < after) × (get_or (set table (r * m + v) x) (u * m + w) 0 ≡ given m n f last (a + b)
                    (sum_of left right u w))

                earlier : ((u ≡ r) → (w ≡ v) → ⊥) → w < get_or next u 0 → Now
                earlier differ l =
                    let before = at.done u w u< w< l in (
                      omega (arith, before.0),
                      get_or-set_other table (r * m + v) (u * m + w) x 0
                          (elsewhere u w (lt_of_lt_of_le w< sides_few.1) differ) ∙ before.1,
                    )

                by : Dec (u ≡ r) → Dec (w ≡ v) → Now
                by (yes e) (yes d) =
                    let is : class (sum_of left right u w) ≡ c = ap₂ (λ (i k : ℕ). class (sum_of left right i k)) e d ∙ ap class
                    (sym is_sum) ∙ sym found_class in
                    (omega arith, rw (e, d) (get_or-set_same table (r * m + v) x 0 sum_facts.place ∙ given_next))
                by (yes e) (no ne) = earlier (λ _ d. ne d) (subst (λ (i : ℕ). w < get_or next i 0) (sym e)
                    (omega (arith, subst (λ (i : ℕ). w < get_or (set next r (v + 1)) i 0) e h, get_or-set_same next r (v + 1) 0 r_room)))
                by (no ne) _ = earlier (λ e _. ne e) (omega (arith, get_or-set_other next r u (v + 1) 0 ne))

            free_now : (u w : ℕ) → w < m → (u < length left → w < length right → w < get_or (set next r (v + 1)) u 0 → ⊥)
                → get_or (set table (r * m + v) x) (u * m + w) 0 ≡ 0
            free_now u w w< out =
                get_or-set_other table (r * m + v) (u * m + w) x 0
                (elsewhere u w w< (λ e d. out (rw e r<) (rw d v<) (rw (e, d) (omega (arith, get_or-set_same next r (v + 1) 0 r_room)))))
                ∙ at.free u w w< (λ u< w< l. by u< w< l (ℕ_discrete u r))
              where
                by : u < length left → w < length right → w < get_or next u 0 → Dec (u ≡ r) → ⊥
                by u< w< l (yes e) =
                    out u< w< (rw e (omega (arith, subst (λ (i : ℕ). w < get_or next i 0) e l, get_or-set_same next r (v + 1) 0 r_room)))
                by u< w< l (no ne) = out u< w< (omega (arith, get_or-set_other next r u (v + 1) 0 ne))

            kept_now : (j : ℕ) → j < count + 1 → count ≤ class p → Dec (j ≡ count) → get_or kept j 0 ≡ get_or joint j 0
            kept_now j h late (yes e) = rw e (get_or-set_same firsts count p 0 sum_facts.room ∙ sym (next_listed late))
            kept_now j h late (no ne) = same j (omega arith) ∙ at.kept j (omega arith)

            step : after ≤ m → after ≤ length joint → ((j : ℕ) → j < after → get_or kept j 0 ≡ get_or joint j 0) → count ≤ after → c < after
                → AtSum m n cells a b last left right ys other kept (set table (r * m + v) x) (set next r (v + 1)) after
            step few known kept more new =
                record {
                  columns = at.columns;
                  for_firsts = omega (arith, length-set firsts count p, at.for_firsts);
                  for_table = omega (arith, length-set table (r * m + v) x, at.for_table);
                  for_next = length-set next r (v + 1) ∙ at.for_next;
                  few = few;
                  known = known;
                  kept = kept;
                  done = done_now more new;
                  free = free_now;
                }

            go : Dec (c < count) → AtSum m n cells a b last left right ys other kept (set table (r * m + v) x) (set next r (v + 1)) after
            go (yes h) =
                let is = counted.0 h in
                step (omega (arith, at.few)) (omega (arith, at.known)) (λ j l. same j (omega arith) ∙ at.kept j (omega arith)) (omega arith) (omega arith)
            go (no h) =
                let is = counted.1 (omega arith) in
                let late : count ≤ class p = omega (arith, found_class) in
                let place : c ≡ count = found_class ∙ next_class late in
                step (omega arith) (omega (arith, found_class, in_joint p)) (λ j l. kept_now j (omega arith) late (ℕ_discrete j count)) (omega arith)
                (omega arith)
