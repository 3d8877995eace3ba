-- Document 02, K12: which inputs matter and which are leaves, stated without the tests that find them. "An input matters when some two assignments
-- differing only there differ in ink." The leaves are "just the inputs that matter .. if fewer than two do, the first-listed others make up two":
-- each input that matters, at least two and otherwise no more, and another input only if no earlier one is left out.
-- Assumes nothing.
use Rattle.std.specs.Prelude.{◌<◌, ◌-◌, ◌≡◌, ◌↔◌, ◌≢◌, ◌∷◌}
use Rattle.laws.specs.Prelude.{ℕ, suc, zero, max, ◌∙◌, sym, ap, refl, ⊎_elim, true, false, Bool, not, true≢false, cond, List}
use Rattle.laws.specs.Prelude.{Memᴰ, mem_head, mem_not_nil, mem_tail, mem_append_cases, mem_cases_cons, mem_append_right}
use Rattle.laws.specs.Prelude.{zero-add, arith, eqb, length, get_or, take, eq-eqb, test_cases}
use Rattle.rules.specs.Groups.Groups.{member, size}
use Rattle.rules.specs.Lists.{range, those}
use Rattle.rules.specs.Nets.Leaves.{matters, mattering, leaf_inputs}
use Rattle.rules.specs.Sheets.SheetRules.{TableRules}
use Rattle.rules.specs.Sheets.Sheets.{Table, level, levels_at}
use Rattle.laws.specs.Numbers.Assignments.{index_of, index_levels, index_of_below, levels_index, levels_given}
use Rattle.laws.specs.Lists.Tests.{mem_any}
use Rattle.laws.specs.Lists.Ranges.{mem_range, range_mem, map_range_at}
use Rattle.laws.specs.Lists.Finds.{those_mem}
use Rattle.laws.specs.Lists.Listed.{mem_those, those_pass}
use Rattle.laws.specs.Lists.Totals.{those_cons, any_mem}
use Rattle.trees.specs.Leaves.Mattering.{Differing, matters_exactly}
use Rattle.trees.specs.Leaves.LeafGroup.{leaf_is, leaves_hold, leaves_size}
use Rattle.trees.specs.Trees.NetTables.{levels_pos, inputs_several}
use Rattle.demands.specs.Settling.Makes.{table_letters, leaves_of_table}
use Rattle.demands.specs.Settling.Assignments.{LevelsGiven, ink_at}

-- ---- which inputs matter

-- "some two assignments differing only there differ in ink"
pub record TwoDiffer (t : Table) (i : ℕ) : Type 0 where
  pub one : List ℕ
  pub other : List ℕ
  pub one_given : LevelsGiven t.header one
  pub other_given : LevelsGiven t.header other
  pub elsewhere : (j : ℕ) → j < t.header.inputs → j ≢ i → get_or one j 0 ≡ get_or other j 0
  pub inks : ink_at t one ≢ ink_at t other

-- a level of an index
level_at_lem : (m n p j : ℕ) → j < n → get_or (levels_at m n p) j 0 ≡ level m n p j
unfolding levels_at
level_at_lem m n p j h = map_range_at (level m n p) 0 n j 0 h ∙ ap (level m n p) (zero-add j)

-- the first elements of a rising list that pass a test are the lowest that do
first_those : (test : ℕ → Bool) (from count k i j : ℕ) → i < j → Memᴰ i (those test (range from count))
    → Memᴰ j (take k (those test (range from count)))
    → Memᴰ i (take k (those test (range from count)))
unfolding range those
first_those test from count zero i j less = λ is late. absurd (mem_not_nil late)
first_those test from zero (suc k) i j less = λ is late. absurd (mem_not_nil is)
first_those test from (suc count) (suc k) i j less =
    rw (those_cons test from (range (suc from) count))
    (go (test from) (first_those test (suc from) count k i j less) (first_those test (suc from) count (suc k) i j less))
  where
    rest : List ℕ
    rest = those test (range (suc from) count)

    go : (t : Bool) → (Memᴰ i rest → Memᴰ j (take k rest) → Memᴰ i (take k rest))
        → (Memᴰ i rest → Memᴰ j (take (suc k) rest) → Memᴰ i (take (suc k) rest))
        → Memᴰ i (cond t (from ∷ rest) rest) → Memᴰ j (take (suc k) (cond t (from ∷ rest) rest))
        → Memᴰ i (take (suc k) (cond t (from ∷ rest) rest))
    go true behind _ is late =
        ⊎_elim mem_head
        (λ later.
        let after = (range_mem (suc from) count i (those_mem test (range (suc from) count) i later)).0 in
        mem_tail (behind later (⊎_elim (λ e. absurd (omega arith)) (λ r. r) (mem_cases_cons late))))
        (mem_cases_cons is)
    go false _ skipped is late = skipped is late

module _ (t : Table) (kept : TableRules t) where
  open table_letters t use {m, n, f}

  pos : 0 < m
  pos = levels_pos m kept.header.levels

  -- "An input matters when some two assignments differing only there differ in ink."
  pub matters_at : (i : ℕ) → i < n → (matters m n f i ≡ true) ↔ TwoDiffer t i
  unfolding ink_at
  matters_at i i< = (
    λ is.
        let two : Differing m n pos f i = (matters_exactly m n pos f i i<).0 is in
        record {
          one = levels_at m n two.one;
          other = levels_at m n two.other;
          one_given = levels_given m n two.one pos;
          other_given = levels_given m n two.other pos;
          elsewhere = λ j j< apart. level_at_lem m n two.one j j< ∙ two.elsewhere j j< apart ∙ sym (level_at_lem m n two.other j j<);
          inks = λ e. two.inks
              (ap f (sym (index_levels m n two.one pos two.one_below)) ∙ e ∙ ap f (index_levels m n two.other pos two.other_below));
        },
    λ two.
        let own : (ls : List ℕ) → LevelsGiven t.header ls → (j : ℕ) → j < n → level m n (index_of m ls) j ≡ get_or ls j 0 =
        λ ls given j j<. sym (level_at_lem m n (index_of m ls) j j<) ∙ ap (λ (l : List ℕ). get_or l j 0) (levels_index m n ls given) in
        (matters_exactly m n pos f i i<).1
        record {
          one = index_of m two.one;
          other = index_of m two.other;
          one_below = index_of_below m n two.one two.one_given;
          other_below = index_of_below m n two.other two.other_given;
          elsewhere = λ j j< apart. own two.one two.one_given j j< ∙ two.elsewhere j j< apart ∙ sym (own two.other two.other_given j j<);
          inks = two.inks;
        },
  )

  -- ---- which are leaves

  -- "just the inputs that matter", ..
  pub leaf_mattering : (i : ℕ) → i < n → matters m n f i ≡ true → member i (leaves_of_table t) ≡ true
  leaf_mattering = leaves_hold m n pos f

  -- .. "if fewer than two do, .. others make up two", ..
  pub leaf_count : size n (leaves_of_table t) ≡ max 2 (length (mattering m n f))
  leaf_count = leaves_size m n pos f (inputs_several n kept.header.inputs)

  -- .. "the first-listed": every input before a leaf that does not matter is a leaf
  pub leaf_first : (i j : ℕ) → i < j → j < n → matters m n f j ≡ false → member j (leaves_of_table t) ≡ true → member i (leaves_of_table t) ≡ true
  unfolding leaf_inputs mattering
  leaf_first i j less j< idle is =
      let i< : i < n = omega arith in
      test_cases (matters m n f i)
      (λ own. leaf_mattering i i< own)
      (λ own. leaf_is m n pos f i i<
      ∙ mem_any (eqb i)
      (mem_append_right (mattering m n f)
      (first_those idle_test 0 n spare i j less (mem_those idle_test i (range 0 n) (mem_range 0 n i (omega arith) (omega arith)) (ap not own))
      among)) (eq-eqb i i refl))
    where
      idle_test : ℕ → Bool
      idle_test k = not (matters m n f k)

      spare : ℕ
      spare = 2 - length (mattering m n f)

      -- the others that are leaves
      others : List ℕ
      others = take spare (those idle_test (range 0 n))

      among : Memᴰ j others
      among =
          ⊎_elim (λ first. absurd (true≢false (sym (those_pass (matters m n f) j (range 0 n) first) ∙ idle))) (λ later. later)
          (mem_append_cases (mattering m n f) (any_mem j (leaf_inputs m n f) (sym (leaf_is m n pos f j j<) ∙ is)))
