-- The search for document 01's A among the parts of a group that hold its first-listed input.
-- Assumes nothing.
use Rattle.std.specs.Prelude.{◌<◌, ◌≤◌, ◌+◌, ◌-◌, ◌^◌, ◌≡◌, ◌&&◌, ◌||◌}
use Rattle.laws.specs.Prelude.{ℕ, suc, ◌∙◌, sym, ap, refl, ap₂, true, false, Bool, not, and-eq-true_iff}
use Rattle.laws.specs.Prelude.{false≢true, List, arith, eqb, ltb, leb-suc-suc, eq-eqb, eqb-true}
use Rattle.std.specs.Int.Bits.{and_le_r}
use Rattle.rules.specs.Lists.{range, any, first_place}
use Rattle.rules.specs.Groups.Groups.{member}
use Rattle.rules.specs.Groups.Marks.{inside, mark_in, parts_at}
use Rattle.rules.specs.Nets.Wirings.{first_input}
use Rattle.rules.specs.Nets.Settled.{split_of}
use Rattle.rules.specs.Nets.Trees.{Apart}
use Rattle.trees.specs.Groups.Members.{member_single, single_below, member_join, inside_member, member_inside, inside_le, member_rest, first_member}
use Rattle.laws.specs.Lists.FirstPlaces.{first_passes, any_place, place_agree, skip}
use Rattle.laws.specs.Lists.Ranges.{mem_range, range_length}
use Rattle.laws.specs.Lists.Tests.{two_ways, mem_any}
use Rattle.trees.specs.Groups.MarkRule.{search_parts}
use Rattle.trees.specs.Trees.MarkTwo.{is_a, some-A}
use Rattle.radix.specs.Parts.{PartOf, inside_part, part_inside}

-- ---- parts that hold the first-listed input

module _ (n g : ℕ) (some : 0 < g) (g< : g < 2 ^ n) where
  first : ℕ
  first = first_input n g

  -- the first-listed input by itself
  abbrev pub alone : ℕ
  alone = 2 ^ first_input n g

  is_input : first < n
  unfolding first
  is_input = (first_member n g g< some).0

  alone_below : alone < 2 ^ n
  unfolding first
  alone_below = single_below first n is_input

  -- the first-listed input alone is a part of every group that holds it
  alone_inside : (u : ℕ) → member first u ≡ true → inside n alone u ≡ true
  unfolding first
  alone_inside u e = member_inside n alone u λ i i< is. rw (eqb-true i first (sym (member_single i first) ∙ is)) e

  alone_part : inside n alone g ≡ true
  unfolding first
  alone_part = alone_inside g (first_member n g g< some).1

  -- the rest of a group that holds it
  rest_member : (i u : ℕ) → i < n → u < 2 ^ n → member first u ≡ true → member i (u - alone) ≡ (member i u && not (eqb i first))
  unfolding first
  rest_member i u i< u< e =
      member_rest i n alone u alone_below u< (alone_inside u e) i< ∙ ap (λ t. member i u && not t) (member_single i first)

  pub holds_part : (u : ℕ) → u < 2 ^ n → inside n u g ≡ true → member (first_input n g) u ≡ true
      → (alone ≤ u) × PartOf (u - alone) (g - alone)
  unfolding first
  holds_part u u< h e =
      (inside_le n alone u alone_below u< (alone_inside u e), inside_part n (u - alone) (g - alone) (omega arith) (member_inside n (u - alone) (g - alone) go))
    where
      go : (i : ℕ) → i < n → member i (u - alone) ≡ true → member i (g - alone) ≡ true
      go i i< is =
          let both = (and-eq-true_iff _ _).0 (sym (rest_member i u i< u< e) ∙ is) in
          rest_member i g i< g< (first_member n g g< some).1 ∙ rw (inside_member i n u g h i< both.0, both.1)

  pub part_holds : (s : ℕ) → PartOf s (g - alone) → (inside n (alone + s) g ≡ true) × (member (first_input n g) (alone + s) ≡ true)
  unfolding first
  part_holds s p = (
    member_inside n (alone + s) g (λ i i< is. go i i< (member i alone) refl (sym (joined i i<) ∙ is)),
    joined first is_input ∙ ap (λ t. t || member first s) (member_single first first ∙ eq-eqb first first refl),
  )
    where
      s< : s < 2 ^ n
      s< = omega (arith, and_le_r s (g - alone), p, g<)

      -- a member of s is a member of g, but not the first-listed one
      rest_of : (i : ℕ) → i < n → member i s ≡ true → (member i g ≡ true) × (not (eqb i first) ≡ true)
      rest_of i i< is =
          (and-eq-true_iff _ _).0
          (sym (rest_member i g i< g< (first_member n g g< some).1) ∙ inside_member i n s (g - alone) (part_inside n s (g - alone) p) i< is)

      apart : Apart n alone s
      apart i i< = at (member i alone) refl (member i s) refl
        where
          at : (b : Bool) → member i alone ≡ b → (c : Bool) → member i s ≡ c → (member i alone && member i s) ≡ false
          at true one true two = absurd (false≢true (sym (ap not (sym (member_single i first) ∙ one)) ∙ (rest_of i i< two).1))
          at true one false two = rw (one, two)
          at false one c two = rw one

      joined : (i : ℕ) → i < n → member i (alone + s) ≡ (member i alone || member i s)
      joined i i< = member_join i n alone s alone_below s< apart i<

      go : (i : ℕ) → i < n → (b : Bool) → member i alone ≡ b → (member i alone || member i s) ≡ true → member i g ≡ true
      go i i< true one is = inside_member i n alone g alone_part i< one
      go i i< false one is = (rest_of i i< (rw one at is)).0

-- ---- the search

-- so a search below c may continue from b
pub skip_to : (test : ℕ → Bool) (a b c : ℕ) → a ≤ b → b ≤ c → ((u : ℕ) → a ≤ u → u < b → test u ≡ false)
    → a + first_place test (range a (c - a)) ≡ b + first_place test (range b (c - b))
skip_to test a b c ab bc none =
    let count : c - a ≡ (b - a) + (c - b) = omega arith in
    let start : a + (b - a) ≡ b = omega arith in
    ap (λ (k : ℕ). a + first_place test (range a k)) count
    ∙ skip test a (b - a) (c - b) (λ u low high. none u low (omega arith))
    ∙ ap (λ (k : ℕ). k + first_place test (range k (c - b))) start

module _ (n : ℕ) (marks : List ℕ) (g : ℕ) (some : 0 < g) (g< : g < 2 ^ n) where
  -- some split has mark 2 at both parts exactly when some A has
  some_split : any (parts_at n marks g) (range 1 (g - 1)) ≡ any (is_a n marks g) (range 1 (g - 1))
  some_split = two_ways _ _ (λ found. some-A n marks g g< (search_parts n marks g g< found)) back
    where
      back : any (is_a n marks g) (range 1 (g - 1)) ≡ true → any (parts_at n marks g) (range 1 (g - 1)) ≡ true
      back found =
          let at = first_passes (is_a n marks g) 1 (g - 1) found in
          mem_any (parts_at n marks g) (mem_range 1 (g - 1) _ (omega arith) (omega arith)) ((and-eq-true_iff _ _).0 at.1).0

  -- a group splits into two groups of mark 2 exactly when its A is found
  pub split_found : any (parts_at n marks g) (range 1 (g - 1)) ≡ ltb (split_of n marks g) g
  unfolding split_of
  split_found =
      some_split
      ∙ any_place (is_a n marks g) (range 1 (g - 1))
      ∙ ap (ltb place) (range_length 1 (g - 1))
      ∙ sym (leb-suc-suc (suc place) (g - 1))
      ∙ ap₂ ltb one_more back
    where
      place : ℕ
      place = first_place (is_a n marks g) (range 1 (g - 1))

      one_more : suc place ≡ 1 + place
      one_more = omega arith

      back : suc (g - 1) ≡ g
      back = omega arith

-- the search reads only the marks of the groups below g
pub split_agree : (n : ℕ) (xs ys : List ℕ) (g : ℕ) → ((a : ℕ) → a < g → mark_in xs a ≡ mark_in ys a) → split_of n xs g ≡ split_of n ys g
unfolding split_of parts_at
split_agree n xs ys g e = ap (λ (k : ℕ). 1 + k) (place_agree (is_a n xs g) (is_a n ys g) 1 (g - 1) same)
  where
    same : (a : ℕ) → 1 ≤ a → a < 1 + (g - 1) → is_a n xs g a ≡ is_a n ys g a
    same a low high = rw (e a (omega arith), e (g - a) (omega arith))
