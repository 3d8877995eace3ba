-- All marks: what marking returns, its own marks and the buffer afterwards, and the step from the marks below a group to the group's mark.
-- Assumes nothing.
use Rattle.std.specs.Prelude.{◌<◌, ◌≤◌, ◌+◌, ◌-◌, ◌^◌, ◌≡◌, ◌∷◌, ◌++◌}
use Rattle.laws.specs.Prelude.{ℕ, suc, zero, ◌∙◌, sym, ap, refl, subst, ap₂, subst⁻¹, not, List, [], add-one, arith}
use Rattle.laws.specs.Prelude.{length, get_or, take, set, length-set, get_or-set_same, length-take-le, get_or-take, ext_get_or, take-suc-set, set-get_or, pow_pos}
use Rattle.rules.specs.Groups.Groups.{member, whole_group}
use Rattle.rules.specs.Groups.Marks.{mark_in, mark_of, marks_below, marks_of, stored_marks}
use Rattle.rules.specs.Nets.Leaves.{matters}
use Rattle.rules.specs.Calls.Answers.{written}
use Rattle.trees.specs.Groups.MarkRule.{marked, marks_length_lem, mark_rule, mark_agree, mark_small}
use Rattle.laws.specs.Nets.StoredMarks.{InTwoBits}

-- every group of a table f is marked, by number
pub record Marking (m n : ℕ) (f : ℕ → ℕ) (mark : ℕ) (marks : List ℕ) : Type 0 where
  pub answer : mark ≡ mark_in (marks_of m n f) (whole_group n)
  pub front : take (2 ^ n) marks ≡ marks_of m n f

-- the group of exactly the inputs that do not matter
pub record IdleGroup (m n : ℕ) (f : ℕ → ℕ) (idle : ℕ) : Type 0 where
  pub below : idle < 2 ^ n
  pub is : (i : ℕ) → i < n → member i idle ≡ not (matters m n f i)

-- and the marks are stored in a buffer
pub record MarkedInto (m n : ℕ) (f : ℕ → ℕ) (before : List ℕ) (mark : ℕ) (marks after : List ℕ) : Type 0 where
  pub own : Marking m n f mark marks
  pub buffer : after ≡ written before (stored_marks (marks_of m n f))

-- the part of this that a caller sees
pub record Stored (m n : ℕ) (f : ℕ → ℕ) (before : List ℕ) (mark : ℕ) (after : List ℕ) : Type 0 where
  pub answer : mark ≡ mark_in (marks_of m n f) (whole_group n)
  pub buffer : after ≡ written before (stored_marks (marks_of m n f))

-- what storing them requires and gives
module _ {m n : ℕ} {f : ℕ → ℕ} {mark : ℕ} {marks : List ℕ} (did : Marking m n f mark marks) where
  pub marked_small : 0 < m → InTwoBits (2 ^ n) marks
  marked_small pos g g< =
      subst (λ (v : ℕ). v < 4) (sym (ap (λ (l : List ℕ). get_or l g 0) did.front) ∙ get_or-take (2 ^ n) marks g 0 g<) (mark_small m n pos f g g<)

one_more : (m n : ℕ) (f : ℕ → ℕ) (g : ℕ) → marks_below m n f g ++ (mark_of m n f (marks_below m n f g) g ∷ []) ≡ marks_below m n f (suc g)
unfolding marks_below
one_more m n f g = refl

module _ (m n : ℕ) (f : ℕ → ℕ) (before : List ℕ) where
  -- the groups below g are marked
  pub record Below (g : ℕ) (marks : List ℕ) : Type 0 where
    pub low : g ≤ 2 ^ n
    pub same : length marks ≡ length before
    pub front : take g marks ≡ marks_below m n f g

  pub below_none : Below 0 before
  unfolding marks_below
  below_none = record { low = omega arith; same = refl; front = refl }

  module _ (room : 2 ^ n ≤ length before) (g : ℕ) (marks : List ℕ) (b : Below g marks) where
    pub has_room : 2 ^ n ≤ length marks
    has_room = omega (arith, b.same)

    -- one more group
    pub below_next : g < 2 ^ n → (mark : ℕ) → mark ≡ mark_of m n f marks g → Below (g + 1) (set marks g mark)
    below_next g< mark e =
        record {
          low = omega arith;
          same = length-set marks g mark ∙ b.same;
          front = ap (λ (k : ℕ). take k (set marks g mark)) (add-one g)
              ∙ take-suc-set marks g mark (omega (arith, has_room))
              ∙ ap₂ (λ (l : List ℕ) (v : ℕ). l ++ (v ∷ [])) b.front (e ∙ mark_agree m n f marks (marks_below m n f g) g agree)
              ∙ one_more m n f g
              ∙ ap (marks_below m n f) (sym (add-one g));
        }
      where
        agree : (a : ℕ) → a < g → mark_in marks a ≡ mark_in (marks_below m n f g) a
        agree a h = sym (get_or-take g marks a 0 h) ∙ ap (λ (l : List ℕ). get_or l a 0) b.front

    -- all groups
    pub below_all : g ≡ 2 ^ n → (mark : ℕ) → mark ≡ mark_in marks (g - 1) → Marking m n f mark marks
    unfolding marks_of whole_group
    below_all all mark e =
        let front : take (2 ^ n) marks ≡ marks_of m n f = subst (λ (k : ℕ). take k marks ≡ marks_below m n f k) all b.front in
        record {
          answer = e
              ∙ ap (λ (k : ℕ). mark_in marks (k - 1)) all
              ∙ sym (get_or-take (2 ^ n) marks (2 ^ n - 1) 0 (omega (arith, pow_pos n)))
              ∙ ap (λ (l : List ℕ). get_or l (2 ^ n - 1) 0) front;
          front = front;
        }

  -- all groups except the whole one, and then that one
  pub below_whole : 2 ^ n ≤ length before → (marks : List ℕ) → Below (2 ^ n - 1) marks → (g : ℕ) → g ≡ 2 ^ n - 1 → (mark : ℕ) → mark ≡ mark_of m n f marks g
      → (after : List ℕ) → after ≡ set marks g mark → Marking m n f mark after
  below_whole room marks b g is_whole mark is after written =
      let done : Below (g + 1) after =
      subst⁻¹ (Below (g + 1)) written
      (below_next room g marks (subst⁻¹ (λ (k : ℕ). Below k marks) is_whole b) (omega (arith, pow_pos n)) mark is) in
      below_all room (g + 1) after done (omega (arith, pow_pos n)) mark
      (sym (get_or-set_same marks g mark 0 (omega (arith, has_room room (2 ^ n - 1) marks b, pow_pos n)))
      ∙ ap (λ (l : List ℕ). mark_in l g) (sym written)
      ∙ ap (mark_in after) (omega arith))

-- all marks have the marks of the groups below g at the front
all_below : (m n : ℕ) (pos : 0 < m) (f : ℕ → ℕ) (g : ℕ) → g ≤ 2 ^ n → Below m n f (marks_of m n f) g (marks_of m n f)
all_below m n pos f zero low = below_none m n f (marks_of m n f)
all_below m n pos f (suc g) low =
    let all = marks_of m n f in
    subst (λ (k : ℕ). Below m n f all k all) (add-one g)
    (subst (Below m n f all (g + 1)) (set-get_or all g 0)
    (below_next m n f all (omega (arith, marks_length_lem m n pos f)) g all (all_below m n pos f g (omega arith)) low (marked m n pos f g)
    (mark_rule m n pos f g low)))

-- so a mark that is written is the group's mark
pub below_marked : (m n : ℕ) (pos : 0 < m) (f : ℕ → ℕ) (before : List ℕ) (g : ℕ) (marks : List ℕ) → Below m n f before g marks → (a : ℕ) → a < g
    → mark_in marks a ≡ marked m n pos f a
below_marked m n pos f before g marks b a a< =
    sym (get_or-take g marks a 0 a<)
    ∙ ap (λ (l : List ℕ). get_or l a 0) (b.front ∙ sym (all_below m n pos f g b.low).front)
    ∙ get_or-take g (marks_of m n f) a 0 a<

-- and conversely
pub marked_below : (m n : ℕ) (pos : 0 < m) (f : ℕ → ℕ) (before : List ℕ) (g : ℕ) (marks : List ℕ) → g ≤ 2 ^ n → 2 ^ n ≤ length before
    → length marks ≡ length before
    → ((a : ℕ) → a < g → mark_in marks a ≡ marked m n pos f a) → Below m n f before g marks
marked_below m n pos f before g marks low room same is =
    record {
      low = low;
      same = same;
      front = ext_get_or 0 (take g marks) (take g all) (long ∙ sym (length-take-le g all (omega (arith, marks_length_lem m n pos f))))
          (λ a a<. let a<g : a < g = omega (arith, long) in get_or-take g marks a 0 a<g ∙ is a a<g ∙ sym (get_or-take g all a 0 a<g))
          ∙ (all_below m n pos f g low).front;
    }
  where
    all : List ℕ
    all = marks_of m n f

    long : length (take g marks) ≡ g
    long = length-take-le g marks (omega arith)
