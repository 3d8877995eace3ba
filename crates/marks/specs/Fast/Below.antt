-- The mark of a group from what is recorded for it, and what is known afterwards.
-- Assumes nothing.
use Rattle.std.specs.Prelude.{◌<◌, ◌≤◌, ◌+◌, ◌-◌, ◌^◌, ◌*◌, ◌≡◌}
use Rattle.laws.specs.Prelude.{ℕ, ◌∙◌, sym, ap, subst, subst⁻¹, true, cond, List, mul-le-mul, dec_lt, arith, eqb, get_or}
use Rattle.laws.specs.Prelude.{pow_mono, pow_pos}
use Rattle.std.specs.Int.Bits.{bit_and}
use Rattle.std.proofs.lemmas.Nat.{and_le_l}
use Rattle.rules.specs.Limits.{most_levels, most_inputs, most_cells}
use Rattle.rules.specs.Groups.Groups.{member, whole_group, multiplicity}
use Rattle.rules.specs.Groups.Marks.{mark_in, mark_of, marks_of}
use Rattle.rules.specs.Nets.Trees.{Apart}
use Rattle.rules.specs.Nets.Wirings.{first_input}
use Rattle.laws.specs.Numbers.Sizes.{Size}
use Rattle.trees.specs.Groups.Covers.{whole_few}
use Rattle.trees.specs.Groups.Members.{member_ext, member_zero}
use Rattle.trees.specs.Groups.MarkRule.{marked, mark_rule, mark_agree}
use Rattle.trees.specs.Leaves.CutWirings.{Idle}
use Rattle.trees.proofs.Leaves.IdleMarks.{mattering_mark}
use Rattle.radix.specs.Parts.{member_and, without_apart}
use Rattle.representatives.specs.Copies.{Copied}
use Rattle.representatives.specs.Known.{Known, Found, found_few, found_many}
use Rattle.representatives.specs.Steps.{places_fit, AllIdle, Near, NextStep}
use Rattle.representatives.specs.Working.{without_idle}
use Rattle.marks.specs.GroupRule.{few_mark, mark_empty, many_mark, few_mark_lem}
use Rattle.marks.specs.Marking.{IdleGroup, Below, below_marked}

-- the mark of a group with `count` recorded assignments
pub record MarkBy (marks : List ℕ) (g count mark : ℕ) : Type 0 where
  pub empty : g ≡ 0 → mark ≡ 0
  pub many : count ≡ 0 → mark ≡ 0
  pub few : 0 < g → 0 < count → (n : ℕ) → g < 2 ^ n → mark ≡ few_mark n marks g

-- g is the next group, those below it are marked, and those of them with no member in `idle` are known
pub record NextMark (m n : ℕ) (f : ℕ → ℕ) (counts kept marks : List ℕ) (idle g past : ℕ) : Type 0 where
  pub all_idle : AllIdle m n f idle
  pub group : g < 2 ^ n
  pub known : (h : ℕ) → h < g → Apart n h idle → Known m n f counts kept h
  pub near : (Near n g past) × (g < past)
  pub written : Below m n f marks g marks

-- the mark of group g; the groups up to g are known
pub record GroupMarked (m n : ℕ) (f : ℕ → ℕ) (marks : List ℕ) (idle g mark : ℕ) (counts kept : List ℕ) : Type 0 where
  pub is : mark ≡ mark_of m n f marks g
  pub known : (h : ℕ) → h < g + 1 → Apart n h idle → Known m n f counts kept h

-- the known idle inputs: the same as before, or with the members of a group that has one class and no member among them
pub data MoreIdle (counts : List ℕ) (g idle more : ℕ) : Type 0 where
  as_before : (get_or counts g 0 ≡ 1 → bit_and g idle ≡ 0 → ⊥) → more ≡ idle → MoreIdle counts g idle more
  with_group : get_or counts g 0 ≡ 1 → bit_and g idle ≡ 0 → more ≡ idle + g → MoreIdle counts g idle more

-- the mark of a group that has few classes: that of the rest if it has idle members, else by its splits
pub data FewWithout (marks : List ℕ) (g idle mark : ℕ) : Type 0 where
  by_rest : (rest : ℕ) → rest ≡ g - bit_and g idle → rest < g → mark ≡ cond (eqb rest 0) 2 (mark_in marks rest) → FewWithout marks g idle mark
  by_split : ((n : ℕ) → g < 2 ^ n → mark ≡ few_mark n marks g) → FewWithout marks g idle mark

-- the group after g is next; or g's first-listed input is idle, and the marks of groups after g are copied up to the next one
pub data CopiesPassed (idle g end : ℕ) (before : List ℕ) (next : ℕ) (after : List ℕ) : Type 0 where
  none_copied : next ≡ g + 1 → after ≡ before → CopiesPassed idle g end before next after
  some_copied : (first rest : ℕ) → 0 < g → ((n : ℕ) → g < 2 ^ n → (first ≡ first_input n g) × (rest ≡ g - 2 ^ first_input n g)) → member first idle ≡ true
      → g < next → next ≤ g + (g - rest) → next ≤ end → Copied before (rest + 1) before (g + 1) (next - g - 1) after → CopiesPassed idle g end before next after

-- all groups except the whole one are marked, and `idle` has the inputs that do not matter
pub record BelowWhole (m n : ℕ) (f : ℕ → ℕ) (before : List ℕ) (idle : ℕ) (marks : List ℕ) : Type 0 where
  pub marked : Below m n f before (2 ^ n - 1) marks
  pub all_idle : AllIdle m n f idle
  pub exact : 1 < n → IdleGroup m n f idle

-- groups that share no input have no bit in common
pub apart_none : (n g idle : ℕ) → g < 2 ^ n → Apart n g idle → bit_and g idle ≡ 0
apart_none n g idle g< apart =
    member_ext n (bit_and g idle) 0 (omega (arith, and_le_l g idle)) (pow_pos n) (λ i i<. member_and i g idle ∙ apart i i< ∙ sym (member_zero i))

-- a group with idle members has the mark of the rest, ..
pub skipped_mark : {m n : ℕ} {f : ℕ → ℕ} {before marks : List ℕ} {g rest : ℕ} → 0 < m → g < 2 ^ n → (idle : ℕ) → AllIdle m n f idle → Below m n f before g marks
    → rest ≡ g - bit_and g idle → rest < g → cond (eqb rest 0) 2 (mark_in marks rest) ≡ mark_of m n f marks g
skipped_mark {m} {n} {f} {before} {marks} {g} {rest} pos g< idle all_idle written is_rest less =
    ap (cond (eqb rest 0) 2) (stored rest less)
    ∙ sym (mattering_mark m n pos f rest g (omega arith) (omega arith) g<
    (subst⁻¹ (λ (k : ℕ). Idle m n pos f k g) is_rest (without_idle m n pos f g idle g< all_idle)))
    ∙ mark_rule m n pos f g g<
    ∙ mark_agree m n f (marks_of m n f) marks g (λ a a<. sym (stored a a<))
  where
    stored : (a : ℕ) → a < g → mark_in marks a ≡ marked m n pos f a
    stored = below_marked m n pos f before g marks written

module _ {m n : ℕ} {f : ℕ → ℕ} {counts kept marks : List ℕ} {idle g past rest : ℕ} (next : NextMark m n f counts kept marks idle g past)
    (is_rest : rest ≡ g - bit_and g idle) where
  -- .. and nothing needs to be recorded for it
  pub skipped_known : rest < g → (h : ℕ) → h < g + 1 → Apart n h idle → Known m n f counts kept h
  skipped_known less h h< free = go (dec_lt h g)
    where
      go : Dec (h < g) → Known m n f counts kept h
      go (yes lower) = next.known h lower free
      go (no last) =
          let same : h ≡ g = omega arith in
          absurd (omega (arith, apart_none n g idle next.group (subst (λ (k : ℕ). Apart n k idle) same free), is_rest))

  -- any other is the next whose classes are counted
  pub next_counted : g ≤ rest → NextStep m n f counts kept idle g past
  next_counted all =
      record {
        all_idle = next.all_idle;
        group = next.group;
        apart = subst (λ (k : ℕ). Apart n k idle) (omega (arith, is_rest)) (without_apart n g idle next.group);
        known = next.known;
        near = next.near.0;
        above = next.near.1;
      }

-- what is found about a group gives its mark
pub found_mark : {m n : ℕ} {f : ℕ → ℕ} {counts kept marks : List ℕ} {g count mark : ℕ} → 0 < m → g < 2 ^ n → Found m n f counts kept g count
    → MarkBy marks g count mark
    → mark ≡ mark_of m n f marks g
found_mark {m} {n} {f} {marks} {g} {count} {mark} pos g< found by = go (dec_lt 0 g) (dec_lt 0 count)
  where
    go : Dec (0 < g) → Dec (0 < count) → mark ≡ mark_of m n f marks g
    go (no none) _ = by.empty (omega arith) ∙ mark_empty m n f marks g (omega arith)
    go (yes some) (no none) = by.many (omega arith) ∙ many_mark m n f marks g (found_many found pos g< (omega arith))
    go (yes some) (yes h) = by.few some h n g< ∙ few_mark_lem m n f marks g (λ e. omega arith) (found_few found pos g< h)

-- the most inputs and cells of a table for which small work arrays are enough
abbrev pub few_inputs : ℕ
few_inputs = 6

abbrev pub few_cells : ℕ
few_cells = 1024

-- work arrays that are long enough
pub record Lent (m n counts kept xs ys : ℕ) : Type 0 where
  pub for_counts : 2 ^ n ≤ counts
  pub for_kept : 2 ^ n * m ≤ kept
  pub for_xs : m ^ n ≤ xs
  pub for_ys : m ^ n ≤ ys

module _ {m n : ℕ} (fit : Size m n) where
  pub lent_small : n ≤ few_inputs → m ^ n ≤ few_cells → Lent m n (2 ^ few_inputs) (2 ^ few_inputs * most_levels) few_cells few_cells
  lent_small low few = record { for_counts = pow_mono low; for_kept = mul-le-mul (pow_mono low) fit.levels_most; for_xs = few; for_ys = few }

  pub lent_large : Lent m n (2 ^ most_inputs) (2 * most_cells) most_cells most_cells
  lent_large =
      record {
        for_counts = pow_mono fit.inputs_most;
        for_kept = omega (arith, places_fit m n (omega (arith, fit.levels_least)) (omega (arith, fit.inputs_least)), fit.cells_most);
        for_xs = fit.cells_most;
        for_ys = fit.cells_most;
      }

-- ---- the whole group

-- its number is one less than the number of groups
pub whole_number : (n past : ℕ) → 0 < n → past ≡ 2 ^ n → (past - 1 ≡ whole_group n) × (0 < past - 1) × (past - 1 < 2 ^ n)
unfolding whole_group
whole_number n past some e = (ap (λ (k : ℕ). k - 1) e, omega (arith, pow_mono some), omega (arith, pow_pos n))

-- if every ink is below m, it has few classes
pub stored_whole_mark : (m n : ℕ) (f : ℕ → ℕ) (marks : List ℕ) (g : ℕ) → 0 < m → 0 < g → g ≡ whole_group n → ((p : ℕ) → p < m ^ n → f p < m)
    → few_mark n marks g ≡ mark_of m n f marks g
stored_whole_mark m n f marks g pos some e small =
    few_mark_lem m n f marks g (λ none. omega arith) (subst⁻¹ (λ (k : ℕ). multiplicity m n f k ≤ m) e (whole_few m n pos f m small))

pub whole_mark : {m n : ℕ} {f : ℕ → ℕ} {before marks : List ℕ} {g idle mark : ℕ} → 0 < m → 0 < g → g ≡ whole_group n → g ≡ 2 ^ n - 1
    → ((p : ℕ) → p < m ^ n → f p < m)
    → BelowWhole m n f before idle marks → FewWithout marks g idle mark → mark ≡ mark_of m n f marks g
whole_mark {m} {n} {f} {before} {marks} {g} {idle} pos some e d small below (by_rest rest is_rest less is) =
    is ∙ skipped_mark pos (omega (arith, pow_pos n)) idle below.all_idle (subst⁻¹ (λ (k : ℕ). Below m n f before k marks) d below.marked) is_rest less
whole_mark {m} {n} {f} {marks} {g} pos some e d small below (by_split is) =
    is n (omega (arith, pow_pos n)) ∙ stored_whole_mark m n f marks g pos some e small
