-- What a choice of parts requires of the marks, and what it gives.
-- Assumes nothing.
use Rattle.std.specs.Prelude.{◌<◌, ◌≤◌, ◌+◌, ◌-◌, ◌^◌, ◌≡◌, ◌≢◌, ◌++◌}
use Rattle.laws.specs.Prelude.{ℕ, ◌∙◌, ap, subst, ap₂, subst⁻¹, true, List, zero-add, length}
use Rattle.rules.specs.Limits.{most_inputs}
use Rattle.rules.specs.Groups.Groups.{size}
use Rattle.rules.specs.Groups.Marks.{inside, mark_in}
use Rattle.rules.specs.Nets.Wirings.{Link, links_of, wiring_by}
use Rattle.trees.specs.Groups.Members.{member_inside, size_le}
use Rattle.trees.specs.Trees.MarkTwo.{Splits, inside_trans, two_some, parted, parted_sizes, a_below, b_below, a_inside, b_inside}
use Rattle.wirings.specs.declared.forms.Wiring.{Wiring}
use Rattle.wirings.specs.Links.{links_in, none_in, Linked}
use Rattle.wirings.specs.Added.{Added, added_several}

-- Group g has mark 2, and `split` splits every group of mark 2 with several members inside it into two groups of mark 2.
pub record Choosable (n : ℕ) (marks : List ℕ) (split : ℕ → ℕ) (g : ℕ) : Type 0 where
  pub inputs : n ≤ most_inputs
  pub room : 2 ^ n ≤ length marks
  pub below : g < 2 ^ n
  pub two : mark_in marks g ≡ 2
  pub splits : Splits n (mark_in marks) g split

-- the links of the group `leaves`, wired by the choice
pub record Chosen (n : ℕ) (split : ℕ → ℕ) (leaves : ℕ) (w : Wiring) : Type 0 where
  pub count : w.gates + 1 ≡ size n leaves
  pub links : links_in w ≡ links_of n 0 (wiring_by n split n leaves)

-- it is not empty
pub ready_some : (n : ℕ) (marks : List ℕ) (split : ℕ → ℕ) (g : ℕ) → Choosable n marks split g → 0 < g
ready_some n marks split g ready =
    two_some n (mark_in marks) g split ready.splits g ready.below (member_inside n g g (λ i i< is. is)) ready.two

-- a group inside it has the same choice
splits_in : (n : ℕ) (marks : List ℕ) (split : ℕ → ℕ) (g : ℕ) → Choosable n marks split g → (h : ℕ) → inside n h g ≡ true → Splits n (mark_in marks) h split
splits_in n marks split g ready h h_in k k< k_in two several = ready.splits k k< (inside_trans n k h g k_in h_in) two several

-- a group of several members, and the part that the code finds
module _ (n : ℕ) (marks : List ℕ) (split : ℕ → ℕ) (g : ℕ) (ready : Choosable n marks split g) (several : size n g ≢ 1) (a : ℕ) (is : a ≡ split g) where
  abbrev mark : ℕ → ℕ
  mark = mark_in marks

  g_in : inside n g g ≡ true
  g_in = member_inside n g g (λ i i< is. is)

  pub part_less : (0 < a) × (a < g)
  part_less = let half = parted n mark g split ready.splits g ready.below g_in ready.two several in rw is (half.some, half.less)

  pub part_sizes : (size n g ≡ size n a + size n (g - a)) × (0 < size n a) × (0 < size n (g - a))
  part_sizes = rw is (parted_sizes n mark g split ready.splits g ready.below g_in ready.two several)

  -- both parts are such groups too
  pub left_choosable : Choosable n marks split a
  left_choosable =
      subst⁻¹ (Choosable n marks split) is
      (record {
        inputs = ready.inputs;
        room = ready.room;
        below = a_below n mark g split ready.splits g ready.below g_in ready.two several;
        two = (parted n mark g split ready.splits g ready.below g_in ready.two several).two_a;
        splits = splits_in n marks split g ready (split g) (a_inside n mark g split ready.splits g ready.below g_in ready.two several);
      })

  pub right_choosable : Choosable n marks split (g - a)
  right_choosable =
      subst⁻¹ (λ (x : ℕ). Choosable n marks split (g - x)) is
      (record {
        inputs = ready.inputs;
        room = ready.room;
        below = b_below n mark g split ready.splits g ready.below g_in ready.two several;
        two = (parted n mark g split ready.splits g ready.below g_in ready.two several).two_b;
        splits = splits_in n marks split g ready (g - split g) (b_inside n mark g split ready.splits g ready.below g_in ready.two several);
      })

  -- A's links, B's, and the group's own
  pub parts_added : (before mid later after : Wiring) (l r : ℕ) → Added n split a before mid l → Added n split (g - a) mid later r
      → Linked l r later after → Added n split g before after (n + later.gates)
  parts_added before mid later after l r left right own =
      added_several n mark g split ready.splits g ready.below g_in ready.two several before mid later after l r
      (subst (λ (x : ℕ). Added n split x before mid l) is left)
      (subst (λ (x : ℕ). Added n split (g - x) mid later r) is right)
      own

-- all links, added to a wiring that has none
pub chosen : (n : ℕ) (split : ℕ → ℕ) (leaves : ℕ) (none w : Wiring) (reference : ℕ) → none.gates ≡ 0
    → Added n split leaves none w reference → Chosen n split leaves w
chosen n split leaves none w reference empty added =
    record {
      count = added.count ∙ ap (λ (k : ℕ). k + size n leaves) empty ∙ zero-add (size n leaves);
      links = (added.wires n (size_le n leaves)).links
          ∙ ap₂ (λ (ls : List Link) (k : ℕ). ls ++ links_of n k (wiring_by n split n leaves)) (none_in none empty) empty;
    }
