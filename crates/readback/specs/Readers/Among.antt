-- The numbers with which a reader refuses, for any list of numbers that contains 1: they are those of its fields' judges.
-- Assumes nothing.
use Rattle.std.specs.Prelude.{◌+◌, ◌≡◌, ◌∷◌}
use Rattle.laws.specs.Prelude.{ℕ, suc, sym, refl, subst, true, false, Bool, List, [], arith, eqb, read_cases, judged_cases}
use Rattle.rules.specs.Calls.Answers.{Answer, refused}
use Rattle.rules.specs.Lists.{same}
use Rattle.rules.specs.Sheets.Fields.{Read, read, turned_back, Reader, then, ◌>>=◌, give, Judged, bad, Judge, judged, run, past, separator, past_spaces}
use Rattle.rules.specs.Sheets.Fields.{spaces_in, spaces, strict, loose, Layout, loose_separator, separator_in, after_field_in, field_of_in, field_in, the_word, closed}
use Rattle.rules.specs.Sheets.Reading.{answered}
use Rattle.rules.specs.Text.{space, text}
use Prim.Native.String.{String}
use Rattle.laws.specs.Lists.Distinct.{In}
use Rattle.readback.specs.Readers.Spells.{not_read}
use Rattle.readback.specs.Readers.Fields.{not_good}

-- every number with which a judge, or a reader, refuses is one of `numbers`
abbrev pub AmongJudge : {A : Type 0} → List ℕ → Judge A → Type 0
AmongJudge numbers judge = (w : List ℕ) (k : ℕ) → judge w ≡ bad k → In k numbers

abbrev pub Among : {A : Type 0} → List ℕ → Reader A → Type 0
Among numbers r = (s : List ℕ) (at k place : ℕ) → r s at ≡ turned_back k place → In k numbers

-- 1 is among them
module _ (numbers : List ℕ) (one : In 1 numbers) where
  -- a number in the list
  pub named_bad : {A : Type 0} (number k : ℕ) → In number numbers → ◌≡◌ {A = Judged A} (bad number) (bad k) → In k numbers
  named_bad number k h e = subst (λ (k : ℕ). In k numbers) (let z : number ≡ k = cc in z) h

  pub named_turned : {A : Type 0} (number at k place : ℕ) → In number numbers → ◌≡◌ {A = Read A} (turned_back number at) (turned_back k place) → In k numbers
  named_turned number at k place h e = subst (λ (k : ℕ). In k numbers) (let z : number ≡ k = cc in z) h

  pub test_bad : {A : Type 0} (t : Bool) (a : A) (number k : ℕ) → In number numbers → judged t a number ≡ bad k → In k numbers
  test_bad true a number k h e = absurd (not_good k a (sym e))
  test_bad false a number k h e = named_bad number k h e

  -- ---- combined readers

  pub among_give : {A : Type 0} (a : A) → Among numbers (give a)
  among_give a s at k place e = absurd (not_read k place a s at (sym e))

  pub among_then : {A B : Type 0} (r : Reader A) (next : A → Reader B) → Among numbers r → ((a : A) → Among numbers (next a)) → Among numbers (r >>= next)
  unfolding then
  among_then {A} r next h i s at k place e = read_cases (r s at)
      (λ a rest p d. i a rest p k place (rw d at e))
      (λ number p d. named_turned number p k place (h s at number p d) (rw d at e))

  among_separator : {A : Type 0} (a : A) (due : ℕ) (s : List ℕ) (at k place : ℕ) → separator a due s at ≡ turned_back k place → In k numbers
  unfolding separator
  among_separator a due [] at k place e = named_turned 1 at k place one e
  among_separator {A} a due (b ∷ s) at k place e = go (eqb b due) e
    where
      go : (t : Bool) → ◌≡◌ {A = Read A} (elim t [ true ↦ read a s (suc at) | false ↦ turned_back 1 at ]) (turned_back k place) → In k numbers
      go true e = absurd (not_read k place a s (suc at) (sym e))
      go false e = named_turned 1 at k place one e

  among_loose : {A : Type 0} (a : A) (due : ℕ) (s : List ℕ) (at k place : ℕ) → loose_separator a due s at ≡ turned_back k place → In k numbers
  unfolding loose_separator spaces then
  among_loose {A} a due s at k place e = go (eqb due space) e
    where
      after : (u : Read A) → ((j p : ℕ) → u ≡ turned_back j p → In j numbers) → then u spaces ≡ turned_back k place → In k numbers
      after (read b rest p) h e = absurd (not_read k place b (past_spaces rest) (p + spaces_in rest) (sym e))
      after (turned_back j p) h e = named_turned j p k place (h j p refl) e

      go : (t : Bool) → ◌≡◌ {A = Read A} (elim t [ true ↦ then (separator a due s at) spaces | false ↦ then (spaces a s at) (λ a. separator a due) ])
          (turned_back k place) → In k numbers
      go true e = after (separator a due s at) (λ j p d. among_separator a due s at j p d) e
      go false e = among_separator a due (past_spaces s) (at + spaces_in s) k place e

  among_separator_in : (layout : Layout) {A : Type 0} (a : A) (due : ℕ) (s : List ℕ) (at k place : ℕ)
      → separator_in layout a due s at ≡ turned_back k place → In k numbers
  among_separator_in strict a due s at k place e = among_separator a due s at k place e
  among_separator_in loose a due s at k place e = among_loose a due s at k place e

  pub among_field_in : (layout : Layout) {A : Type 0} (judge : Judge A) (due : ℕ) → AmongJudge numbers judge → Among numbers (field_in layout judge due)
  unfolding field_in field_of_in after_field_in
  among_field_in layout {A} judge due h s at k place e = go (run s) e
    where
      go : (w : List ℕ) → field_of_in layout judge due w (past s) at ≡ turned_back k place → In k numbers
      go [] e = named_turned 1 at k place one e
      go (b ∷ w) e = judged_cases (judge (b ∷ w))
          (λ a d. among_separator_in layout a due (past s) _ k place (rw d at e))
          (λ number d. named_turned number at k place (h (b ∷ w) number d) (rw d at e))

  -- ---- a fixed word, and the end of a sheet

  pub among_word : (word : String) → AmongJudge numbers (the_word word)
  unfolding the_word
  among_word word w k e = test_bad (same w (text word)) tt 1 k one e

  pub among_closed : Among numbers closed
  unfolding closed
  among_closed [] at k place e = absurd (not_read k place tt [] at (sym e))
  among_closed (b ∷ s) at k place e = named_turned 1 at k place one e

-- ---- the refusals of an answer

-- every number with which a call refuses is one of `numbers`
abbrev pub Refuses : List ℕ → {A : Type 0} → (List ℕ → Answer A) → Type 0
Refuses numbers call = (s : List ℕ) (number place : ℕ) → call s ≡ refused number place → In number numbers

pub among_answer : {A : Type 0} (numbers : List ℕ) (r : Reader A) → ((s : List ℕ) (at k place : ℕ) → r s at ≡ turned_back k place → In k numbers)
    → Refuses numbers (λ s. answered (r s 0))
unfolding answered
among_answer {A} numbers r h s number place e = go (r s 0) refl e
  where
    go : (u : Read A) → r s 0 ≡ u → answered u ≡ refused number place → In number numbers
    go (read a rest p) d e = absurd (let z : ◌≡◌ {A = ℕ} 0 1 = cc in omega arith)
    go (turned_back k p) d e = subst (λ (k : ℕ). In k numbers) (let same : k ≡ number = cc in same) (h s 0 k p d)
