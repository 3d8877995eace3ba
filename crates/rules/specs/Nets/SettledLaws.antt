-- Laws of the settled net's choices, from the definitions alone: A is "of lowest number", and a group's classes are "numbered from
-- 0 in the order in which they first appear". They are proved next to the definitions, so a definition that chooses otherwise is refused.
-- (Those on the classes are in proofs/, under the same file name.)
-- Assumes nothing.
use Rattle.std.specs.Prelude.{ℕ, zero, suc, ◌+◌, ◌-◌, ◌≤◌, ◌<◌, ◌≡◌, ◌⊎◌, Bool, ◌&&◌, length, get_or}
use Rattle.std.proofs.Math.Path.{refl}
use Rattle.std.proofs.Common.{sym, ap, ◌∙◌, inl, inr, add-zero, zero-add, add-suc, suc-add, eq-or-lt_of_le, arith}
use Rattle.std.proofs.Math.Bool.{true, false, and-eq-true_iff}
use Rattle.std.proofs.lemmas.Bool.{false≢true}
use mathlib.Core.List.{List}
use Rattle.std.proofs.Math.Dec.{eqb}
use borrow.Author.Tests.{eqb-true}
use Rattle.rules.specs.Lists.{range, any, first_place}
use Rattle.rules.specs.Groups.Groups.{member}
use Rattle.rules.specs.Groups.Marks.{inside, mark_in, parts_at}
use Rattle.rules.specs.Nets.Wirings.{first_input}
use Rattle.rules.specs.Nets.Settled.{split_of}

-- ---- "A of lowest number"

-- If some number of a range passes, the first place that passes is the least such number.
pub found_in_range : (test : ℕ → Bool) (from count a : ℕ) → from ≤ a → a < from + count → test a ≡ true
    → (test (from + first_place test (range from count)) ≡ true) × (from + first_place test (range from count) ≤ a)
unfolding first_place range
found_in_range test from zero a l h e = absurd (omega arith)
found_in_range test from (suc count) a l h e = go (test from) refl (λ l'. found_in_range test (suc from) count a l' (omega arith) e)
  where
    rest : ℕ
    rest = first_place test (range (suc from) count)

    go : (t : Bool) → test from ≡ t → (from < a → (test (suc from + rest) ≡ true) × (suc from + rest ≤ a))
        → let at : ℕ = elim t [ true ↦ zero | false ↦ suc rest ] in (test (from + at) ≡ true) × (from + at ≤ a)
    go true d later = (rw add-zero d, omega arith)
    go false d later = past (eq-or-lt_of_le l)
      where
        past : (from ≡ a) ⊎ (from < a) → (test (from + suc rest) ≡ true) × (from + suc rest ≤ a)
        past (inl same) = absurd (false≢true (sym d ∙ ap test same ∙ e))
        past (inr l') = rw (suc-add, ← add-suc from rest) at (later l')

-- A group's "first-listed input" is a member of it, and no member comes before it.
pub first_input_lem : (n g i : ℕ) → i < n → member i g ≡ true → (member (first_input n g) g ≡ true) × (first_input n g ≤ i)
unfolding first_input
first_input_lem n g i h is = rw zero-add at (found_in_range (λ i. member i g) 0 n i (omega arith) (omega arith) is)

-- A part of g that may be A: "(A, B), both of mark 2, A holding its first-listed input", where B is the rest of g
pub record MayBeA (n : ℕ) (marks : List ℕ) (g a : ℕ) : Type 0 where
  pub some : 0 < a
  pub less : a < g
  pub part : inside n a g ≡ true
  pub two : mark_in marks a ≡ 2
  pub rest_two : mark_in marks (g - a) ≡ 2
  pub holds_first : member (first_input n g) a ≡ true

module _ (n : ℕ) (marks : List ℕ) (g : ℕ) where
  -- what `split_of` tests
  abbrev pub may_be_a : ℕ → Bool
  may_be_a a = parts_at n marks g a && member (first_input n g) a

  pub may_be_a_lem : (a : ℕ) → MayBeA n marks g a → may_be_a a ≡ true
  unfolding parts_at
  may_be_a_lem a is = rw (is.part, is.two, is.rest_two, is.holds_first)

  pub may_be : (a : ℕ) → 0 < a → a < g → may_be_a a ≡ true → MayBeA n marks g a
  unfolding parts_at
  may_be a some less e =
      let (parts, first) = (and-eq-true_iff (parts_at n marks g a) (member (first_input n g) a)).0 e in
      let (front, rest) = (and-eq-true_iff (inside n a g && eqb (mark_in marks a) 2) (eqb (mark_in marks (g - a)) 2)).0 parts in
      let (part, two) = (and-eq-true_iff (inside n a g) (eqb (mark_in marks a) 2)).0 front in
      record { some = some; less = less; part = part; two = eqb-true _ _ two; rest_two = eqb-true _ _ rest; holds_first = first }

  -- If there is such a part, `split_of` is one, and the one of lowest number.
  pub split_lowest : (a : ℕ) → MayBeA n marks g a → MayBeA n marks g (split_of n marks g) × (split_of n marks g ≤ a)
  unfolding split_of
  split_lowest a is =
      let (passes, least) : (may_be_a (split_of n marks g) ≡ true) × (split_of n marks g ≤ a) =
      found_in_range _ 1 _ a is.some (omega (arith, is.less)) (may_be_a_lem a is) in
      (may_be (split_of n marks g) (omega arith) (omega (arith, is.less)) passes, least)

-- ---- "in the order in which they first appear"

-- l has one element of each class of ps under the test `same`, numbered "in the order in which they first appear": the class of an
-- element appears first at the first place that is alike to it.
pub record ByAppearance (same : ℕ → ℕ → Bool) (ps l : List ℕ) : Type 0 where
  -- every class is listed, ..
  pub all_listed : (p : ℕ) → any (same p) ps ≡ true → any (same p) l ≡ true
  -- .. by the element with which it appears first, ..
  pub appears : (i : ℕ) → i < length l → first_place (same (get_or l i 0)) ps < length ps
  pub first : (i : ℕ) → i < length l → get_or ps (first_place (same (get_or l i 0)) ps) 0 ≡ get_or l i 0
  -- .. and a class of lower number appears earlier
  pub order : (i j : ℕ) → i < j → j < length l → first_place (same (get_or l i 0)) ps < first_place (same (get_or l j 0)) ps
