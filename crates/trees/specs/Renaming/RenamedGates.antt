-- "When made, their gate lines agree in left and right throughout and in every table but the last. The last tables differ by that renaming at each
-- digit that some assignment reaches." (document 02, K14): for any wiring that can be filled.
-- Assumes nothing.
use Rattle.std.specs.Prelude.{◌<◌, ◌+◌, ◌^◌, ◌*◌, ◌%◌, ◌/◌, ◌≡◌, ◌≢◌, ◌∷◌, ◌++◌}
use Rattle.laws.specs.Prelude.{ℕ, ◌∙◌, sym, ap, refl, subst, ap₂, fun_ext, true, false, List, [], mod-lt}
use Rattle.laws.specs.Prelude.{div-lt_iff_lt-mul, div-add-mod', arith, eqb, length, get_or}
use Rattle.rules.specs.Groups.Groups.{part, points, others, size, classes, alike_over}
use Rattle.rules.specs.Lists.{first_place, with_each}
use Rattle.rules.specs.Nets.Filling.{class_number, carried, given, gate_digits, input_groups, filled_from, filled}
use Rattle.rules.specs.Nets.Value.{gate_value, with_gates}
use Rattle.rules.specs.Nets.Wirings.{Link, first_input}
use Rattle.rules.specs.Sheets.Sheets.{Gate, level, levels_at}
use Rattle.trees.specs.Groups.SameTests.{place_same}
use Rattle.trees.specs.Renaming.Renaming.{Renamed, SameInks, renamed_same, classes_of_points, alike_renamed, classes_renamed, multiplicity_renamed}
use Rattle.trees.specs.Groups.Levels.{part_below}
use Rattle.trees.specs.Groups.Points.{part_in_points}
use Rattle.trees.specs.Groups.Classes.{Few}
use Rattle.trees.specs.Filling.Digits.{digits_count}
use Rattle.trees.specs.Filling.DigitRule.{Parts, DigitRule, digit_rule}
use Rattle.trees.specs.Filling.Fillings.{link_group, Fillable}
use Rattle.trees.specs.Renaming.ButLast.{with_table, ButLast}
use Rattle.trees.specs.Filling.CarriedValues.{line_gate, more_left, Carries, inputs_carry, line_carries}

-- ---- what a wire carries

module _ (m n : ℕ) (pos : 0 < m) (f h : ℕ → ℕ) (same : SameInks m n f h) where
  -- an assignment has the same class number in both, ..
  pub class_renamed : (g p : ℕ) → class_number m n f g p ≡ class_number m n h g p
  unfolding class_number
  class_renamed g p =
      place_same _ _ (classes m n f g)
      (λ q is. alike_renamed m n pos f h same g (part m n g p) q (part_in_points m n pos g p) (classes_of_points m n pos f g q is))
      ∙ ap (first_place (alike_over h (points m n (others n g)) (part m n g p))) (classes_renamed m n pos f h same g)

  -- .. so each wire carries the same, ..
  wire_renamed : (g : ℕ) → carried m n f g ≡ carried m n h g
  unfolding carried
  wire_renamed g =
      ap (λ (several : ℕ → ℕ). elim (eqb (size n g) 1) as (λ _. ℕ → ℕ) [ true ↦ λ p. level m n p (first_input n g) | false ↦ several ])
      (fun_ext (class_renamed g))

  pub carried_renamed : (g p : ℕ) → carried m n f g p ≡ carried m n h g p
  carried_renamed g p = ap (λ (wire : ℕ → ℕ). wire p) (wire_renamed g)

  -- .. and each gate below the last has the same digits
  pub digits_renamed : (a b : ℕ) → gate_digits m n f false a b ≡ gate_digits m n h false a b
  unfolding gate_digits given
  digits_renamed a b = rw (wire_renamed a, wire_renamed b, fun_ext (class_renamed (a + b)))

-- ---- the last gate

module _ (m n : ℕ) (pos : 0 < m) (r f h : ℕ → ℕ) (below : (p : ℕ) → p < m ^ n → f p < m) (renamed : Renamed m n r f h) where
  abbrev same : SameInks m n f h
  same = renamed_same m n r f h below renamed

  -- two groups that a gate may join for one table, it may join for the other
  parts_renamed : (a b : ℕ) → Parts m n f a b → Parts m n h a b
  parts_renamed a b parts =
      let few : (g : ℕ) → Few m n f g → Few m n h g = λ g is. rw (multiplicity_renamed m n pos f h same g) at is in
      record {
        some_a = parts.some_a;
        some_b = parts.some_b;
        a_below = parts.a_below;
        b_below = parts.b_below;
        apart = parts.apart;
        few_a = few a parts.few_a;
        few_b = few b parts.few_b;
        few = few (a + b) parts.few;
      }

  module _ (a b : ℕ) (parts : Parts m n f a b) where
    -- the two tables of the gate that joins a and b, if it is the last
    abbrev ours : List ℕ
    ours = gate_digits m n f true a b

    abbrev theirs : List ℕ
    theirs = gate_digits m n h true a b

    rule : DigitRule m n f true a b ours
    rule = digit_rule m n pos f a b parts true

    rule_renamed : DigitRule m n h true a b theirs
    rule_renamed = digit_rule m n pos h a b (parts_renamed a b parts) true

    -- a digit that some assignment reaches is renamed, ..
    pub last_reached : (u v p : ℕ) → carried m n f a p ≡ u → carried m n f b p ≡ v → get_or theirs (u * m + v) 0 ≡ r (get_or ours (u * m + v) 0)
    unfolding given
    last_reached u v p left right =
        rule_renamed.reached u v p (sym (carried_renamed m n pos f h same a p) ∙ left) (sym (carried_renamed m n pos f h same b p) ∙ right)
        ∙ renamed.inks _ (part_below m n pos (a + b) p)
        ∙ ap r (sym (rule.reached u v p left right))

    -- .. and one that none reaches is 0 in both
    pub last_free : (u v : ℕ) → u < m → v < m → ((p : ℕ) → p < m ^ n → carried m n f a p ≡ u → carried m n f b p ≡ v → ⊥)
        → (get_or ours (u * m + v) 0 ≡ 0) × (get_or theirs (u * m + v) 0 ≡ 0)
    last_free u v u< v< none = (
      rule.free u v u< v< none,
      rule_renamed.free u v u< v<
          (λ p p< left right. none p p< (carried_renamed m n pos f h same a p ∙ left) (carried_renamed m n pos f h same b p ∙ right)),
    )

-- ---- all gates

-- The place in a gate's table of the digit reached if the references have these values: "left's value · m + right's value"
abbrev pub reached_place : ℕ → List ℕ → Gate → ℕ
reached_place m values g = get_or values g.left 0 * m + get_or values g.right 0

-- Two gate lists that agree in all but the last table. The last tables "differ by that renaming at each digit that some assignment reaches" and are 0
-- elsewhere. `values` holds the values of the references before the first gate, at each assignment.
pub record RenamedFrom (m n : ℕ) (r : ℕ → ℕ) (values : ℕ → List ℕ) (gates others : List Gate) : Type 0 where
  pub lines : ButLast gates others
  pub count : length lines.last.digits ≡ m * m
  pub count_renamed : length lines.digits ≡ m * m
  pub reached : (p : ℕ) → p < m ^ n
      → let k = reached_place m (with_gates m (values p) lines.before) lines.last in get_or lines.digits k 0 ≡ r (get_or lines.last.digits k 0)
  pub free : (k : ℕ) → k < m * m → ((p : ℕ) → p < m ^ n → reached_place m (with_gates m (values p) lines.before) lines.last ≢ k)
      → (get_or lines.last.digits k 0 ≡ 0) × (get_or lines.digits k 0 ≡ 0)

-- for nets: before the first gate these are the inputs' levels
abbrev pub RenamedGates : ℕ → ℕ → (ℕ → ℕ) → List Gate → List Gate → Type 0
RenamedGates m n r gates others = RenamedFrom m n r (levels_at m n) gates others

module _ (m n : ℕ) (pos : 0 < m) (r f h : ℕ → ℕ) (below : (p : ℕ) → p < m ^ n → f p < m) (renamed : Renamed m n r f h) where
  -- only the last gate
  last_renamed : (groups : List ℕ) (values : ℕ → List ℕ) (l : Link) → ((p : ℕ) → Carries m n pos f p groups (values p)) → Fillable m n f groups (l ∷ [])
      → RenamedFrom m n r values (filled_from m n f groups (l ∷ [])) (filled_from m n h groups (l ∷ []))
  unfolding filled_from with_each
  last_renamed groups values l carries may =
      let own = line_gate m n f true groups l in
      record {
        lines = record { before = []; last = own; digits = gate_digits m n h true a b; ours = refl; theirs = refl };
        count = digits_count m n f true a b;
        count_renamed = digits_count m n h true a b;
        reached = λ p p<. last_reached m n pos r f h below renamed a b may.2 _ _ p (sym (left p)) (sym (right p));
        free = λ k k< none.
            subst (λ (i : ℕ). (get_or own.digits i 0 ≡ 0) × (get_or (gate_digits m n h true a b) i 0 ≡ 0)) (div-add-mod' k m)
            (last_free m n pos r f h below renamed a b may.2 (k / m) (k % m) ((div-lt_iff_lt-mul pos).1 k<) (mod-lt k pos)
            (λ p p< u v. none p p< (ap₂ (λ (x y : ℕ). x * m + y) (left p ∙ u) (right p ∙ v) ∙ div-add-mod' k m)));
      }
    where
      a : ℕ
      a = get_or groups l.left 0

      b : ℕ
      b = get_or groups l.right 0

      left : (p : ℕ) → get_or (values p) l.left 0 ≡ carried m n f a p
      left p = (carries p).each l.left may.0

      right : (p : ℕ) → get_or (values p) l.right 0 ≡ carried m n f b p
      right p = (carries p).each l.right may.1

  from_renamed : (groups : List ℕ) (values : ℕ → List ℕ) (l : Link) (links : List Link) → ((p : ℕ) → Carries m n pos f p groups (values p))
      → Fillable m n f groups (l ∷ links) → RenamedFrom m n r values (filled_from m n f groups (l ∷ links)) (filled_from m n h groups (l ∷ links))
  unfolding with_each
  from_renamed groups values l [] carries may = last_renamed groups values l carries may
  from_renamed groups values l (k ∷ links) carries may =
      let line : Gate = line_gate m n f false groups l in
      let rest = from_renamed (groups ++ (link_group groups l ∷ [])) (λ p. values p ++ (gate_value m (values p) line ∷ [])) k links
      (λ p. line_carries m n pos f p groups (values p) l (carries p) may.0 may.1 may.2) may.3 in
      record {
        lines = record {
          before = line ∷ rest.lines.before;
          last = rest.lines.last;
          digits = rest.lines.digits;
          ours = more_left m n f groups l k links ∙ ap (λ (gates : List Gate). line ∷ gates) rest.lines.ours;
          theirs =
              more_left m n h groups l k links
              ∙ ap₂ (λ (digits : List ℕ) (gates : List Gate). with_table line digits ∷ gates)
              (sym (digits_renamed m n pos f h (renamed_same m n r f h below renamed) (get_or groups l.left 0) (get_or groups l.right 0)))
              rest.lines.theirs;
        };
        count = rest.count;
        count_renamed = rest.count_renamed;
        reached = rest.reached;
        free = rest.free;
      }

  -- any wiring that can be filled
  pub filled_renamed : (links : List Link) → 0 < length links → Fillable m n f (input_groups n) links
      → RenamedGates m n r (filled m n f links) (filled m n h links)
  unfolding filled
  filled_renamed [] some may = absurd (omega arith)
  filled_renamed (l ∷ links) some may = from_renamed (input_groups n) (levels_at m n) l links (inputs_carry m n pos f) may
