-- A step from group to group over plain lists: what the calls that count the classes of a group require, and what is found about the group.
-- Assumes nothing.
use Rattle.std.specs.Prelude.{◌<◌, ◌≤◌, ◌+◌, ◌-◌, ◌^◌, ◌*◌, ◌≡◌}
use Rattle.laws.specs.Prelude.{ℕ, ◌∙◌, sym, ap, refl, subst, subst⁻¹, true, false, Bool, not, List, dec_lt, arith}
use Rattle.laws.specs.Prelude.{length, get_or, take, pow-lt}
use Rattle.std.specs.Int.Bits.{bit_and}
use Rattle.std.proofs.lemmas.Nat.{and_le_r}
use Rattle.rules.specs.Groups.Groups.{member, others}
use Rattle.rules.specs.Groups.Marks.{inside}
use Rattle.rules.specs.Nets.Trees.{Apart}
use Rattle.trees.specs.Filling.Carried.{first_single}
use Rattle.trees.specs.Leaves.CutWirings.{Idle}
use Rattle.trees.specs.Leaves.IdleMarks.{idle_covers}
use Rattle.rules.specs.Nets.Wirings.{first_input}
use Rattle.representatives.specs.Columns.{columns_of}
use Rattle.trees.specs.Groups.Covers.{Covers}
use Rattle.trees.specs.Groups.Reps.{Listed}
use Rattle.radix.specs.Parts.{PartOf, part_inside, part_apart, member_without, without_inside, without_apart}
use Rattle.representatives.specs.Known.{RepFew, Base, places_before}
use Rattle.representatives.specs.Extension.{Covering, Covered}
use Rattle.representatives.specs.Steps.{AllIdle, Work, NextStep, RepJudged, RepStepped}
use Rattle.representatives.specs.LastInputs.{run_listed}
use Rattle.representatives.specs.Counting.{front_listed}

-- a group without its idle members
pub without_idle : (m n : ℕ) (pos : 0 < m) (f : ℕ → ℕ) (g idle : ℕ) → g < 2 ^ n → AllIdle m n f idle → Idle m n pos f (g - bit_and g idle) g
without_idle m n pos f g idle g< all_idle =
    record {
      part = without_inside n g idle g<;
      idle = λ i i< is out. all_idle i i< (must (member i idle) (rw is at (sym (member_without n g idle g< i i<) ∙ out)));
    }
  where
    must : (t : Bool) → not t ≡ false → t ≡ true
    must true e = refl
    must false e = sym e

module _ {m n : ℕ} {f : ℕ → ℕ} {cells weights counts kept xs ys firsts : List ℕ} {idle g past : ℕ}
    (work : Work m n cells weights counts kept xs ys firsts) (next : NextStep m n f counts kept idle g past) where
  -- there is a level
  pub step_level : 0 < m
  step_level = omega (arith, work.levels)

  -- the places of a group below g, and those of g, exist
  pub step_places : (h : ℕ) → h < g → h * m + m ≤ length kept
  step_places h h< = omega (arith, places_before m h g h<, places_before m g (2 ^ n) next.group, work.for_kept)

  pub step_own_places : g * m + m ≤ length kept
  step_own_places = omega (arith, places_before m g (2 ^ n) next.group, work.for_kept)

  -- a group with few classes below g can be extended to one that contains it
  module _ {from to : ℕ} (from< : from < g) (free : Apart n from idle) (some : 0 < get_or counts from 0) (part : inside n from to ≡ true) (low : from ≤ to)
      (to< : to < 2 ^ n) where
    few : RepFew m n f kept from (get_or counts from 0)
    few = (next.known from from< free).few some

    pub step_covering : {out : List ℕ} → m ^ n ≤ length out → Covering m n weights counts kept from to out
    step_covering room =
        record {
          levels = step_level;
          inputs = work.inputs;
          small = work.small;
          weighed = work.weighed;
          all_weighed = work.all_weighed;
          part_of = part;
          part_le = low;
          group = to<;
          counted = omega (arith, next.group, work.for_counts);
          stored = omega (arith, step_places from from<, few.most);
          some = some;
          fits = few.fits;
          own = few.cover.own;
          room = room;
        }

    pub step_cover : Covers m n f from (get_or counts from 0) (λ k. get_or kept (from * m + k) 0)
    step_cover = few.cover

  -- what is recorded for a group below g may be read
  pub step_counted : {h : ℕ} → h < g → Apart n h idle → (h < length counts) × (h * m + 1 < length kept) × (get_or counts h 0 ≡ 0 → Base m counts kept h)
  step_counted {h} h< free = (omega (arith, next.group, work.for_counts), omega (arith, step_places h h<, work.levels), (next.known h h< free).base)

  module _ (some : 0 < g) where
    -- the other inputs before the last member are a group below g, ..
    pub step_others_lower : past - 1 - g < g
    step_others_lower = omega (arith, next.above, next.near.half some)

    others< : past - 1 - g < 2 ^ n
    others< = omega (arith, step_others_lower, next.group)

    -- .. and `past` is a power of two
    step_before : past - 1 - g ≡ 2 ^ next.near.end - 1 - g
    step_before = ap (λ (k : ℕ). k - 1 - g) next.near.is

    -- the last member comes right before that power, and the run is its weight
    pub step_run : {end : ℕ} → ((k : ℕ) → past < 2 ^ k → end ≡ first_input k past) → (0 < end) × (end - 1 < n)
        × (get_or weights (end - 1) 0 ≡ m ^ (n - next.near.end))
    step_run {end} first =
        let is : end ≡ next.near.end =
        first (n + 1) (omega (arith, next.near.is, pow-lt {i = next.near.end} {j = n + 1} (omega (arith, next.near.low))))
        ∙ ap (first_input (n + 1)) next.near.is
        ∙ first_single (n + 1) next.near.end (omega (arith, next.near.low)) in
        let some_end : 0 < end = has_end (dec_lt 0 end) is in
        let place : n - 1 - (end - 1) ≡ n - next.near.end = omega arith in
        (some_end, omega (arith, next.near.low), work.weighed (end - 1) (omega (arith, next.near.low)) ∙ ap (λ (k : ℕ). m ^ k) place)
      where
        has_end : {end : ℕ} → Dec (0 < end) → end ≡ next.near.end → 0 < end
        has_end (yes h) is = h
        has_end (no h) is =
            let none : next.near.end ≡ 0 = omega arith in
            absurd (omega (arith, next.above, next.near.is, ap (λ (k : ℕ). 2 ^ k) none))

    -- those of them that are not idle
    module _ {before : ℕ} (is_before : before ≡ (past - 1 - g) - bit_and (past - 1 - g) idle) where
      before< : before < g
      before< = omega (arith, is_before, step_others_lower)

      before_free : Apart n before idle
      before_free = subst⁻¹ (λ (k : ℕ). Apart n k idle) is_before (without_apart n (past - 1 - g) idle others<)

      pub step_before_counted : (before < length counts) × (before * m + 1 < length kept) × (get_or counts before 0 ≡ 0 → Base m counts kept before)
      step_before_counted = step_counted before< before_free

      -- a group with few classes inside can be extended to them
      module _ {below : ℕ} (part : PartOf below before) (counted : 0 < get_or counts below 0) where
        low : below ≤ before
        low = omega (arith, and_le_r below before, part)

        below< : below < g
        below< = omega (arith, low, before<)

        to< : before < 2 ^ n
        to< = omega (arith, before<, next.group)

        is_inside : inside n below before ≡ true
        is_inside = part_inside n below before part

        free : Apart n below idle
        free = part_apart n below before idle is_inside before_free

        pub step_columns : {out : List ℕ} → m ^ n ≤ length out → Covering m n weights counts kept below before out
        step_columns room = step_covering below< free counted is_inside low to< room

        -- with a run, the result covers all other inputs
        pub step_columns_listed : {out : List ℕ} {count run : ℕ} → run ≡ m ^ (n - next.near.end) → Covered m n counts kept below before out count
            → Listed m n f (others n g) (columns_of run (take (count - 0) out))
        step_columns_listed {out} {count} {run} is_run covered =
            subst⁻¹ (λ (r : ℕ). Listed m n f (others n g) (columns_of r (take (count - 0) out))) is_run
            (run_listed m n step_level f next.near.end next.near.low g (omega (arith, next.above, next.near.is)) (take (count - 0) out)
            (subst (λ (to : ℕ). Listed m n f to (take (count - 0) out)) step_before
            (idle_covers m n step_level f before (past - 1 - g) to< others<
            (subst⁻¹ (λ (k : ℕ). Idle m n step_level f k (past - 1 - g)) is_before
            (without_idle m n step_level f (past - 1 - g) idle others< next.all_idle)) _ _
            (front_listed m n step_level f before out count covered.inside_out (covered.cover f (step_cover below< free counted is_inside low to<))))))

  -- what the count of g's classes gives
  pub step_judged : {from count : ℕ} {after : List ℕ} → from < g → PartOf from g → 0 < get_or counts from 0 → RepJudged m n f g from kept count after
      → RepStepped m n f counts kept g count after
  step_judged {from} {count} {after} from< part some judged =
      record {
        below = judged.below;
        found = record {
          few = judged.few;
          many = judged.many;
          base = λ none. record {
            inside = subst⁻¹ (λ (b : ℕ). PartOf b g) (judged.base none) part;
            few =
                subst⁻¹ (λ (b : ℕ). 0 < get_or counts b 0) (judged.base none) some;
          };
          lower = λ none. omega (arith, judged.base none);
        };
      }
