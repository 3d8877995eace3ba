-- The loop of `mark_below` over plain lists: the groups below g are marked and known, and the arrays keep their lengths.
-- Assumes nothing.
use Rattle.std.specs.Prelude.{◌<◌, ◌≤◌, ◌+◌, ◌-◌, ◌^◌, ◌*◌, ◌≡◌, ◌&&◌, ◌||◌}
use Rattle.laws.specs.Prelude.{ℕ, ◌∙◌, sym, ap, refl, subst, ap₂, subst⁻¹, subst₂, true, false, Bool, not}
use Rattle.laws.specs.Prelude.{true≢false, or-true, List, pow-suc, dec_lt, arith, eqb, length, get_or, set, eq-eqb, eqb-true, pow_mono, pow_pos}
use Rattle.rules.specs.Groups.Groups.{member, multiplicity}
use Rattle.rules.specs.Nets.Leaves.{matters}
use Rattle.rules.specs.Nets.Trees.{Apart}
use Rattle.rules.specs.Nets.Wirings.{first_input}
use Rattle.rules.specs.Groups.Marks.{mark_in}
use Rattle.laws.specs.Lists.Tests.{or_false_iff, not_true_false, not_false_true}
use Rattle.trees.specs.Groups.Members.{member_zero, member_single, member_rest, single_below, first_member, member_join, join_below}
use Rattle.trees.specs.Groups.Joins.{apart_sym}
use Rattle.trees.specs.Groups.Covers.{covers_few}
use Rattle.trees.specs.Groups.MarkRule.{marked}
use Rattle.trees.specs.Groups.TakenOff.{alone_inside, off_inside}
use Rattle.trees.specs.Groups.Told.{told_many}
use Rattle.trees.specs.Leaves.CutWirings.{Idle}
use Rattle.trees.specs.Leaves.Mattering.{matters_classes}
use Rattle.trees.specs.Leaves.IdleMarks.{one_class_idle}
use Rattle.trees.proofs.Leaves.IdleMarks.{idle_mark}
use Rattle.radix.specs.Parts.{member_and, without_first, first_run}
use Rattle.representatives.specs.Known.{Known}
use Rattle.representatives.specs.Steps.{AllIdle, Near, near_none, near_next}
use Rattle.marks.specs.Marking.{IdleGroup, Below, below_none, below_next, below_marked, marked_below}
use Rattle.marks.specs.Fast.Below.{GroupMarked, MoreIdle, as_before, with_group, apart_none, CopiesPassed, none_copied, some_copied}

pub record Passed (m n : ℕ) (f : ℕ → ℕ) (before : List ℕ) (counts kept marks : List ℕ) (idle past g : ℕ) : Type 0 where
  pub marked : Below m n f before g marks
  pub all_idle : AllIdle m n f idle
  pub idle_below : idle < 2 ^ n
  pub known : (h : ℕ) → h < g → Apart n h idle → Known m n f counts kept h
  pub near : Near n g past
  pub found : (i : ℕ) → i < n → 2 ^ i < g → matters m n f i ≡ false → member i idle ≡ true

pub passed_none : (m n : ℕ) (f : ℕ → ℕ) (before counts kept : List ℕ) → Passed m n f before counts kept before 0 1 0
passed_none m n f before counts kept =
    record {
      marked = below_none m n f before;
      all_idle = λ i i< is. absurd (true≢false (sym is ∙ member_zero i));
      idle_below = pow_pos n;
      known = λ h h<. absurd (omega arith);
      near = near_none n;
      found = λ i i< h. absurd (omega arith);
    }

-- `more` contains the idle inputs `idle`, an idle input whose group is g, and no input that matters
record Grown (m n : ℕ) (f : ℕ → ℕ) (idle g more : ℕ) : Type 0 where
  all_idle : AllIdle m n f more
  below : more < 2 ^ n
  free : (h : ℕ) → Apart n h more → Apart n h idle
  has : (i : ℕ) → i < n → member i idle ≡ true → member i more ≡ true
  last : (i : ℕ) → i < n → 2 ^ i ≡ g → matters m n f i ≡ false → member i more ≡ true

module _ {m n : ℕ} {f : ℕ → ℕ} {before counts kept marks : List ℕ} {idle past g : ℕ} (passed : Passed m n f before counts kept marks idle past g) where
  -- the inputs that are known to be idle afterwards
  module _ {mark : ℕ} {counts' kept' : List ℕ} (pos : 0 < m) (g< : g < 2 ^ n) (group : GroupMarked m n f marks idle g mark counts' kept') where
    -- what is known about g, if it has no known idle member
    g_known : Apart n g idle → Known m n f counts' kept' g
    g_known apart = group.known g (omega arith) apart

    grown : {more : ℕ} → MoreIdle counts' g idle more → Grown m n f idle g more
    grown {more} (as_before either e) =
        record {
          all_idle = subst⁻¹ (AllIdle m n f) e passed.all_idle;
          below = omega (arith, e, passed.idle_below);
          free = λ h apart. subst (Apart n h) e apart;
          has = λ i i< is. subst⁻¹ (λ (k : ℕ). member i k ≡ true) e is;
          last = λ i i< alone none. subst⁻¹ (λ (k : ℕ). member i k ≡ true) e (not_false_true _ (λ out. new i i< alone none out));
        }
      where
        new : (i : ℕ) → i < n → 2 ^ i ≡ g → matters m n f i ≡ false → member i idle ≡ false → ⊥
        new i i< alone none out = either (counted (dec_lt 0 (get_or counts' g 0))) (apart_none n g idle g< apart)
          where
            apart : Apart n g idle
            apart j j< =
                subst (λ (h : ℕ). (member j h && member j idle) ≡ false) alone
                (ap (λ t. t && member j idle) (member_single j i) ∙ here (eqb j i) refl)
              where
                here : (t : Bool) → eqb j i ≡ t → (t && member j idle) ≡ false
                here true e = subst⁻¹ (λ (k : ℕ). member k idle ≡ false) (eqb-true j i e) out
                here false e = refl

            few : multiplicity m n f g ≤ 1
            few = subst (λ (h : ℕ). multiplicity m n f h ≤ 1) alone (one (dec_lt 1 (multiplicity m n f (2 ^ i))))
              where
                one : Dec (1 < multiplicity m n f (2 ^ i)) → multiplicity m n f (2 ^ i) ≤ 1
                one (yes many) = absurd (true≢false (sym ((matters_classes m n pos f i i<).1 many) ∙ none))
                one (no h) = omega arith

            counted : Dec (0 < get_or counts' g 0) → get_or counts' g 0 ≡ 1
            counted (yes some) = omega (arith, few, ((g_known apart).few some).exact)
            counted (no none) = absurd (omega (arith, few, told_many m n pos f g _ (m + 1) g< ((g_known apart).many (omega arith))))
    grown {more} (with_group one none e) =
        record {
          all_idle = λ i i< is. each i i< (member i idle) refl (sym (members i i<) ∙ is);
          below = omega (arith, e, join_below n idle g passed.idle_below g< apart);
          free = λ h free i i<. without (member i h) (member i idle) (member i g) (ap (λ t. member i h && t) (sym (members i i<)) ∙ free i i<);
          has = λ i i< is. members i i< ∙ ap (λ t. t || member i g) is;
          last = λ i i< alone _. members i i< ∙ ap (λ t. member i idle || t) (ap (member i) (sym alone) ∙ member_single i i ∙ eq-eqb i i refl)
              ∙ or-true (member i idle);
        }
      where
        apart_group : Apart n g idle
        apart_group i i< = sym (member_and i g idle) ∙ ap (member i) none ∙ member_zero i

        apart : Apart n idle g
        apart = apart_sym n g idle apart_group

        members : (i : ℕ) → i < n → member i more ≡ (member i idle || member i g)
        members i i< = ap (member i) e ∙ member_join i n idle g passed.idle_below g< apart i<

        few : multiplicity m n f g ≤ 1
        few =
            let known = (g_known apart_group).few (omega (arith, one)) in
            omega (arith, one, covers_few m n pos f g (get_or counts' g 0) _ g< known.cover)

        each : (i : ℕ) → i < n → (t : Bool) → member i idle ≡ t → (member i idle || member i g) ≡ true → matters m n f i ≡ false
        each i i< true in_idle _ = passed.all_idle i i< in_idle
        each i i< false out is = one_class_idle m n pos f g g< few i i< (rw out at is)

        without : (s t u : Bool) → (s && (t || u)) ≡ false → (s && t) ≡ false
        without true t u none = ((or_false_iff t u).0 none).0
        without false t u none = refl

  module _ (room : 2 ^ n ≤ length before) where
    -- and then the group is passed
    pub passed_next : {next mark more : ℕ} {counts' kept' marks' : List ℕ} → 0 < m → g < 2 ^ n → (Near n g next) × (g < next)
        → GroupMarked m n f marks idle g mark counts' kept' → marks' ≡ set marks g mark → MoreIdle counts' g idle more
        → Passed m n f before counts' kept' marks' more next (g + 1)
    passed_next {mark = mark} {more} pos g< past_of group written idler =
        let grew = grown pos g< group idler in
        record {
          marked = subst⁻¹ (Below m n f before (g + 1)) written (below_next m n f before room g marks passed.marked g< mark group.is);
          all_idle = grew.all_idle;
          idle_below = grew.below;
          known = λ h h< free. group.known h h< (grew.free h free);
          near = near_next past_of.0 past_of.1;
          found = λ i i< h none. at i i< h none (dec_lt (2 ^ i) g) grew;
        }
      where
        at : (i : ℕ) → i < n → 2 ^ i < g + 1 → matters m n f i ≡ false → Dec (2 ^ i < g) → Grown m n f idle g more → member i more ≡ true
        at i i< h none (yes old) grew = grew.has i i< (passed.found i i< old none)
        at i i< h none (no new) grew = grew.last i i< (omega arith) none

-- once the group of each input is passed, exactly the idle inputs are known
pub passed_idle : {m n : ℕ} {f : ℕ → ℕ} {before counts kept marks : List ℕ} {idle past g : ℕ} → Passed m n f before counts kept marks idle past g
    → g ≡ 2 ^ n - 1 → 1 < n → IdleGroup m n f idle
passed_idle {m} {n} {f} {idle = idle} passed all several =
    record { below = passed.idle_below; is = λ i i<. go i i< (matters m n f i) refl }
  where
    below_last : (i : ℕ) → i < n → 2 ^ i < 2 ^ n - 1
    below_last i i< =
        let half : 2 ^ n ≡ 2 ^ (n - 1) * 2 = ap (λ (j : ℕ). 2 ^ j) (omega arith) ∙ pow-suc 2 (n - 1) in
        omega (arith, half, pow_mono {i = i} {j = n - 1} (omega arith), pow_mono {i = 1} {j = n - 1} (omega arith))

    go : (i : ℕ) → i < n → (t : Bool) → matters m n f i ≡ t → member i idle ≡ not t
    go i i< true is = not_true_false _ (λ in_idle. true≢false (sym is ∙ passed.all_idle i i< in_idle))
    go i i< false none = passed.found i i< (omega (arith, all, below_last i i<)) none

-- a group without one of its members, which is idle
idle_one : (m n : ℕ) (pos : 0 < m) (f : ℕ → ℕ) (h i : ℕ) → h < 2 ^ n → i < n → member i h ≡ true → matters m n f i ≡ false → Idle m n pos f (h - 2 ^ i) h
idle_one m n pos f h i h< i< is none = record { part = off_inside n h i h< i< is; idle = λ j j< in_h out. go j j< in_h out (eqb j i) refl }
  where
    go : (j : ℕ) → j < n → member j h ≡ true → member j (h - 2 ^ i) ≡ false → (t : Bool) → eqb j i ≡ t → matters m n f j ≡ false
    go j j< in_h out true e = ap (matters m n f) (eqb-true j i e) ∙ none
    go j j< in_h out false e =
        absurd (true≢false (ap₂ (λ (s t : Bool). s && not t) (sym in_h) (sym (member_single j i ∙ e))
        ∙ sym (member_rest j n (2 ^ i) h (single_below i n i<) h< (alone_inside n h i h< i< is) j<) ∙ out))

-- the groups whose marks are copied are passed too
pub passed_copies : {m n : ℕ} {f : ℕ → ℕ} {before counts kept marks : List ℕ} {idle past g end next : ℕ} {after : List ℕ} → 0 < m → 2 ^ n ≤ length before
    → Passed m n f before counts kept marks idle past (g + 1) → g < past → g < end → end ≤ 2 ^ n → length after ≡ length marks
    → CopiesPassed idle g end marks next after
    → (g < next) × (next ≤ end) × Passed m n f before counts kept after idle past next
passed_copies {m} {n} {f} {before} {counts} {kept} {idle = idle} {past} {g} {end} {next} {after} pos room passed inside g<end low long (none_copied is same) =
    (omega (arith, is), omega (arith, is), subst₂ (λ (l : List ℕ) (k : ℕ). Passed m n f before counts kept l idle past k) (sym same) (sym is) passed)
passed_copies {m} {n} {f} {before} {counts} {kept} {marks} {idle} {past} {g} {end} {next} {after} pos room passed inside g<end low long
    (some_copied first rest some parts in_idle above near below copied) = (
      above,
      below,
      record {
        marked = marked_below m n pos f before next after (omega arith) room (long ∙ passed.marked.same) (λ a a<. mark_is a a< (dec_lt a (g + 1)));
        all_idle = passed.all_idle;
        idle_below = passed.idle_below;
        known = λ h h< free. is_known h h< free (dec_lt h (g + 1));
        near =
            let p = passed.near in
            let g<e : g < 2 ^ p.end = omega (arith, p.is) in
            record {
              end = p.end;
              is = p.is;
              low = p.low;
              reached = omega (arith, p.is, near, (parts p.end g<e).1, (without_first p.end g some g<e).0, (first_run p.end g some g<e).0);
              half = λ _. omega (arith, p.half (omega arith), above);
              first = λ none. absurd (omega (arith, above));
            };
        found = λ j j< h none. at j j< h none (dec_lt (2 ^ j) (g + 1));
      },
    )
  where
    g< : g < 2 ^ n
    g< = omega arith

    i : ℕ
    i = first_input n g

    lowest : (2 ^ i ≤ g) × (rest ≡ g - 2 ^ i)
    lowest = ((without_first n g some g<).0, (parts n g<).1)

    i< : i < n
    i< = (first_member n g g< some).0

    is_idle : member i idle ≡ true
    is_idle = subst (λ (j : ℕ). member j idle ≡ true) (parts n g<).0 in_idle

    -- a group that is passed holds the idle input
    holds : (h : ℕ) → g ≤ h → h < next → member i h ≡ true
    holds h g≤ h< = subst (λ (k : ℕ). member i k ≡ true) (omega arith) ((first_run n g some g<).1 (h - g) (omega (arith, near, lowest)))

    is_known : (h : ℕ) → h < next → Apart n h idle → Dec (h < g + 1) → Known m n f counts kept h
    is_known h h< free (yes old) = passed.known h old free
    is_known h h< free (no new) = absurd (true≢false (sym (ap₂ ◌&&◌ (holds h (omega arith) h<) is_idle) ∙ free i i<))

    at : (j : ℕ) → j < n → 2 ^ j < next → matters m n f j ≡ false → Dec (2 ^ j < g + 1) → member j idle ≡ true
    at j j< h none (yes old) = passed.found j j< old none
    at j j< h none (no new) =
        subst (λ (k : ℕ). member k idle ≡ true) (eqb-true i j (sym (member_single i j) ∙ holds (2 ^ j) (omega arith) h)) is_idle

    mark_is : (a : ℕ) → a < next → Dec (a < g + 1) → mark_in after a ≡ marked m n pos f a
    mark_is a a< (yes old) = copied.below a old ∙ below_marked m n pos f before (g + 1) marks passed.marked a old
    mark_is a a< (no new) =
        let k : ℕ = a - (g + 1) in
        let there : g + 1 + k ≡ a = omega arith in
        let back : rest + 1 + k ≡ a - 2 ^ i = omega (arith, lowest) in
        ap (mark_in after) (sym there)
        ∙ copied.copied k (omega arith)
        ∙ ap (mark_in marks) back
        ∙ below_marked m n pos f before (g + 1) marks passed.marked (a - 2 ^ i) (omega (arith, lowest, near))
        ∙ sym (idle_mark m n pos f (a - 2 ^ i) a (omega (arith, lowest)) (omega arith) (omega arith)
        (idle_one m n pos f a i (omega arith) i< (holds a (omega arith) a<) (passed.all_idle i i< is_idle)))
