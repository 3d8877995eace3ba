-- References, by name and by number.
-- Assumes nothing.
use Rattle.std.specs.Prelude.{◌<◌, ◌≤◌, ◌+◌, ◌-◌, ◌≡◌, ◌||◌, ◌∷◌, ◌++◌, Option, Some, None, Ok}
use Rattle.laws.specs.Prelude.{ℕ, suc, zero, ◌∙◌, sym, ap, refl, true, false, Bool, not, List, [], map, sub-zero}
use Rattle.laws.specs.Prelude.{arith, eqb, length, get_or, drop, set, length-set, replicate, get_or-replicate, get_or-set_same, get_or-set_other, eq-eqb, eqb-true}
use Rattle.laws.specs.Prelude.{ne_eqb, eqb-false}
use Rattle.std.proofs.Math.Option as math
use Rattle.rules.specs.Limits.{most_name_bytes}
use Rattle.rules.specs.Lists.{range, all, any, find, same}
use Rattle.rules.specs.Text.{space_byte}
use Rattle.rules.specs.Sheets.Fields.{Judged, good, bad, judged, field, run}
use Rattle.laws.specs.Lists.Finds.{First, found, missing, first_in_range}
use Rattle.laws.specs.Lists.Ranges.{range_next, range_none}
use Rattle.laws.specs.Lists.Same.{same_true}
use Rattle.laws.specs.Lists.Tests.{any_cons}
use Rattle.fields.specs.Judging.{field_judged}
use Rattle.fields.specs.Steps.{Step, Verdict, judged_as, judged_field, judged_field_in, step_as, itself, option_of}
use Rattle.fields.specs.Taken.{field_on}
use Rattle.fields.specs.declared.steps.Field.{Field}
use Rattle.rules.specs.Sheets.Sheets.{Gate, reference_text, reference_of, reference_field, used_by, earlier_used}
use Rattle.nets.specs.Forms.{gate_of}
use Rattle.nets.specs.Room.{most_wires}
use Rattle.nets.specs.declared.forms.Net.{Net}
use Rattle.net_sheets.specs.Reader.Keys.{Keyed}

-- ---- what a field refers to

-- what w refers to, of the first `count` inputs and gates
pub record Referred (keys lens : List ℕ) (count : ℕ) (w : List ℕ) (r : Option ℕ) : Type 0 where
  pub finds : (names : List (List ℕ)) → Keyed names keys lens count → option_of r ≡ find (λ k. same w (reference_text names k)) (range 0 count)
  pub below : (k : ℕ) → r ≡ Some k → k < count

-- a place that was found is below `count`, and nowhere is no place
pub at_below : (count r k : ℕ) → r < count → Some r ≡ Some k → k < count
at_below count r k below e = let same_place : r ≡ k = cc in omega arith

pub nowhere_below : (count k : ℕ) → ◌≡◌ {A = Option ℕ} None (Some k) → k < count
nowhere_below count k e = absurd (let z : ◌≡◌ {A = ℕ} 0 1 = cc in omega arith)

-- a long field refers to nothing
pub long_refers : (keys lens : List ℕ) (count : ℕ) (w : List ℕ) → most_name_bytes < length w → Referred keys lens count w None
long_refers keys lens count w long =
    record {
      finds = λ names keyed.
          nothing_found (first_in_range _ 0 count)
          (λ k p. omega (arith, ap length (same_true w (reference_text names k) p.2), (keyed.each k (omega arith)).short));
      below = nowhere_below count;
    }
  where
    nothing_found : {P : ℕ → Type 0} {R : ℕ → ℕ → Type 0} {o : math.Option ℕ} → First P R o → ((k : ℕ) → P k → ⊥) → math.none ≡ o
    nothing_found (found g p least) never = absurd (never g p)
    nothing_found (missing empty) never = refl

-- ---- what is used

module _ (net : Net) (r k : ℕ) where
  -- the references that the gates from k on use
  used_from : List ℕ
  used_from = used_by (map (gate_of net) (range k (net.gates - k)))

  module _ (more : k < net.gates) where
    first_used : used_from ≡ get_or net.left k 0 ∷ get_or net.right k 0 ∷ used_by (map (gate_of net) (range (k + 1) (net.gates - (k + 1))))
    unfolding used_from used_by gate_of
    first_used = rw (range_next k net.gates more) refl

    pub used_left : get_or net.left k 0 ≡ r → any (eqb r) (used_by (map (gate_of net) (range k (net.gates - k)))) ≡ true
    unfolding used_from any
    used_left e = rw (first_used, eq-eqb r (get_or net.left k 0) (sym e), any)

    module _ (left : get_or net.left k 0 ≡ r → ⊥) where
      pub used_right : get_or net.right k 0 ≡ r → any (eqb r) (used_by (map (gate_of net) (range k (net.gates - k)))) ≡ true
      unfolding used_from any
      used_right e = rw (first_used, ne_eqb r (get_or net.left k 0) (λ q. left (sym q)), eq-eqb r (get_or net.right k 0) (sym e), any)

      pub used_next : (get_or net.right k 0 ≡ r → ⊥)
          → any (eqb r) (used_by (map (gate_of net) (range k (net.gates - k))))
          ≡ any (eqb r) (used_by (map (gate_of net) (range (k + 1) (net.gates - (k + 1)))))
      unfolding used_from any
      used_next right =
          rw (first_used, ne_eqb r (get_or net.left k 0) (λ q. left (sym q)), ne_eqb r (get_or net.right k 0) (λ q. right (sym q)), any)

  pub used_none : net.gates ≤ k → any (eqb r) (used_by (map (gate_of net) (range k (net.gates - k)))) ≡ false
  unfolding any used_by
  used_none h = rw (range_none k net.gates h)

-- ---- what is marked

-- `used` marks exactly the references of a list
pub record Marked (used : List Bool) (list : List ℕ) : Type 0 where
  pub room : length used ≡ most_wires
  pub marks : (r : ℕ) → r < most_wires → get_or used r false ≡ any (eqb r) list

pub none_marked : Marked (replicate most_wires false) []
unfolding any
none_marked = record { room = refl; marks = λ r h. get_or-replicate most_wires r false false h }

-- one more
more_marked : (used : List Bool) (list : List ℕ) (r : ℕ) → r < most_wires → Marked used list → Marked (set used r true) (r ∷ list)
more_marked used list r small marked =
    record { room = length-set used r true ∙ marked.room; marks = λ k h. rw any_cons (go k h (eqb k r) refl) }
  where
    go : (k : ℕ) → k < most_wires → (t : Bool) → eqb k r ≡ t → get_or (set used r true) k false ≡ (eqb k r || any (eqb k) list)
    go k h true q = rw (q, eqb-true k r q) (get_or-set_same used r true false (rw marked.room small))
    go k h false q = rw q (get_or-set_other used r k true false (eqb-false k r q) ∙ marked.marks k h)

-- the order does not matter
orders : (a b c d e : Bool) → (a || (b || (c || (d || e)))) ≡ (c || (d || (a || (b || e))))
orders false false c d e = refl
orders true b true d e = refl
orders true b false true e = refl
orders true b false false e = refl
orders false true true d e = refl
orders false true false true e = refl
orders false true false false e = refl

any_none : (r : ℕ) → any (eqb r) [] ≡ false
unfolding any
any_none r = refl

used_last : (r : ℕ) (g : Gate) (gates : List Gate) → any (eqb r) (g.right ∷ g.left ∷ used_by gates) ≡ any (eqb r) (used_by (gates ++ (g ∷ [])))
unfolding used_by
used_last r g [] = simp (any_cons, any_none) (orders (eqb r g.right) false (eqb r g.left) false false)
used_last r g (x ∷ gates) =
    simp any_cons
    (orders (eqb r g.right) (eqb r g.left) (eqb r x.left) (eqb r x.right) (any (eqb r) (used_by gates))
    ∙ ap (λ t. eqb r x.left || (eqb r x.right || t)) (simp any_cons at (used_last r g gates)))

pub gate_marked : (used : List Bool) (g : Gate) (gates : List Gate) → Marked used (g.right ∷ g.left ∷ used_by gates) → Marked used (used_by (gates ++ (g ∷ [])))
gate_marked used g gates marked = record { room = marked.room; marks = λ r h. marked.marks r h ∙ used_last r g gates }

-- ---- earlier gates

-- whether the gates from k on are marked, except the last
unfoldable pub marked_on : List Bool → ℕ → ℕ → ℕ → Bool
marked_on used inputs gates k = all (λ j. get_or used (inputs + j) false) (range k (gates - 1 - k))

module _ (used : List Bool) (inputs gates k : ℕ) where
  module _ (more : k < gates - 1) where
    pub unmarked_here : get_or used (inputs + k) false ≡ false → marked_on used inputs gates k ≡ false
    unfolding marked_on all
    unmarked_here e = rw (range_next k (gates - 1) more, e, all)

    pub marked_here : get_or used (inputs + k) false ≡ true → marked_on used inputs gates k ≡ marked_on used inputs gates (k + 1)
    unfolding marked_on all
    marked_here e = rw (range_next k (gates - 1) more, e, all)

  pub marked_all : gates - 1 ≤ k → marked_on used inputs gates k ≡ true
  unfolding marked_on all
  marked_all end = rw (range_none k (gates - 1) end)

all_range_same : (t u : ℕ → Bool) (from count : ℕ) → ((k : ℕ) → k < from + count → t k ≡ u k) → all t (range from count) ≡ all u (range from count)
unfolding all range
all_range_same t u from zero h = refl
all_range_same t u from (suc count) h =
    rw (h from (omega arith))
    (ap (λ rest. elim (u from) [ true ↦ rest | false ↦ false ]) (all_range_same t u (suc from) count (λ k l. h k (omega arith))))

pub earlier_marked : (used : List Bool) (inputs : ℕ) (gates : List Gate) → Marked used (used_by gates) → inputs + length gates ≤ most_wires
    → marked_on used inputs (length gates) 0 ≡ earlier_used inputs gates
unfolding marked_on earlier_used
earlier_marked used inputs gates marked room =
    rw sub-zero (all_range_same _ _ 0 (length gates - 1) (λ k h. marked.marks (inputs + k) (omega arith)))

-- ---- a reference, judged

-- the verdict r on w, with these marks before and after it
pub record ReferenceJudged (keys lens : List ℕ) (count : ℕ) (used : List Bool) (w : List ℕ) (after : List Bool) (r : Judged ℕ) : Type 0 where
  pub judges : (names : List (List ℕ)) (earlier : ℕ) (list : List ℕ) → length names + earlier ≡ count → Keyed names keys lens count → Marked used list
      → r ≡ reference_field names earlier list w
  pub marks : (list : List ℕ) (value : ℕ) → Marked used list → r ≡ good value → Marked after (value ∷ list)
  pub below : (value : ℕ) → r ≡ good value → value < most_wires

never_good : {A : Type 0} (number value : ℕ) → ◌≡◌ {A = Judged ℕ} (bad number) (good value) → A
never_good number value e = let z : ◌≡◌ {A = ℕ} 0 1 = cc in absurd (omega arith)

module _ (keys lens : List ℕ) (count : ℕ) (w : List ℕ) (found : Option ℕ) (refers : Referred keys lens count w found) where
  is_of_lem : (names : List (List ℕ)) (earlier : ℕ) → length names + earlier ≡ count → Keyed names keys lens count → reference_of names earlier w ≡ option_of found
  unfolding reference_of
  is_of_lem names earlier all keyed = rw all (sym (refers.finds names keyed))

  pub judged_none : (used : List Bool) → found ≡ None → ReferenceJudged keys lens count used w used (bad 7)
  unfolding reference_field
  judged_none used q =
      record {
        judges = λ names earlier list all keyed marked. rw (is_of_lem names earlier all keyed ∙ ap option_of q, reference_field);
        marks = λ list value marked. never_good 7 value;
        below = λ value. never_good 7 value;
      }

  module _ (few : count ≤ most_wires) (r : ℕ) (q : found ≡ Some r) where
    pub refers_below : r < most_wires
    refers_below = omega (arith, refers.below r q)

    module _ (used : List Bool) where
      judged_marked : (names : List (List ℕ)) (earlier : ℕ) (list : List ℕ) → length names + earlier ≡ count → Keyed names keys lens count → Marked used list
          → reference_field names earlier list w ≡ judged (not (get_or used r false)) r 8
      unfolding reference_field
      judged_marked names earlier list all keyed marked =
          rw (is_of_lem names earlier all keyed ∙ ap option_of q, reference_field) (ap (λ t. judged (not t) r 8) (sym (marked.marks r refers_below)))

      pub judged_used : get_or used r false ≡ true → ReferenceJudged keys lens count used w used (bad 8)
      judged_used p =
          record {
            judges = λ names earlier list all keyed marked. rw (judged_marked names earlier list all keyed marked, p) refl;
            marks = λ list value marked. never_good 8 value;
            below = λ value. never_good 8 value;
          }

      pub judged_free : get_or used r false ≡ false → ReferenceJudged keys lens count used w (set used r true) (good r)
      judged_free p =
          record {
            judges = λ names earlier list all keyed marked. rw (judged_marked names earlier list all keyed marked, p) refl;
            marks = λ list value marked g. let same_value : r ≡ value = cc in rw (← same_value) (more_marked used list r refers_below marked);
            below = λ value g. let same_value : r ≡ value = cc in rw (← same_value) refers_below;
          }

-- reading a reference field at `at`
pub record ReferenceRead (s : List ℕ) (at : ℕ) (keys lens : List ℕ) (count : ℕ) (used after : List Bool) (r : Step) : Type 0 where
  pub reads : (names : List (List ℕ)) (earlier : ℕ) (list : List ℕ) → length names + earlier ≡ count → Keyed names keys lens count → Marked used list
      → step_as itself s r ≡ field (reference_field names earlier list) space_byte (drop at s) at
  pub marks : (list : List ℕ) (field : Field) → Marked used list → r ≡ Ok field → Marked after (field.value ∷ list)
  pub below : (field : Field) → r ≡ Ok field → field.value < most_wires

pub reference_read : (s : List ℕ) (at : ℕ) (keys lens : List ℕ) (count : ℕ) (used after : List Bool) (w : List ℕ) (v : Verdict) (r : Step)
    → w ≡ run (drop at s) → ReferenceJudged keys lens count used w after (judged_as itself v) → step_as itself s r ≡ judged_field v space_byte s at
    → ReferenceRead s at keys lens count used after r
unfolding judged_field_in
reference_read s at keys lens count used after w v r is judged reads =
    record {
      reads = λ names earlier list all keyed marked.
          field_judged itself (reference_field names earlier list) space_byte s at w v r is (judged.judges names earlier list all keyed marked) reads;
      marks = λ list field marked e. judged.marks list field.value marked (told field e);
      below = λ field e. judged.below field.value (told field e);
    }
  where
    told : (field : Field) → r ≡ Ok field → judged_as itself v ≡ good field.value
    told field e = (field_on s r at field e itself (λ _. judged_as itself v) space_byte reads).judged
