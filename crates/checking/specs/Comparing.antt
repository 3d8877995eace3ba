-- Two lists of inks compared, by the first index that differs.
-- Assumes nothing.
use Rattle.std.specs.Prelude.{◌<◌, ◌≤◌, ◌≡◌, Option, Some, None, MatchOption}
use Rattle.laws.specs.Prelude.{ℕ, ◌∙◌, sym, ap, List, dec_lt, arith, length, get_or}
use Rattle.std.specs.List.{zip, AllWithin, HoldsAt}
use Rattle.std.proofs.lemmas.Slice.Zip.{get_or-zip, length-zip}
use Rattle.rules.specs.Calls.Checking.{Verdict, agree, differ, compared}
use Rattle.net_sheets.specs.Text.Put.{Put, put_wrote}
use Rattle.laws.specs.Calls.Checking.{AgreeAt, Compared, all_agree, first_differs, comparison}
use Rattle.checking.specs.CheckAnswers.{compared_into, comparison_of}

-- the two agree at every index below i at which the second is not open
abbrev pub AgreeTo : ℕ → List ℕ → List ℕ → ℕ → Type 0
AgreeTo m xs ys i = (p : ℕ) → p < i → AgreeAt m xs ys p

module _ (m : ℕ) (xs ys : List ℕ) where
  pub agree_all : AgreeTo m xs ys (length xs) → agree ≡ compared m xs ys
  agree_all same = go (comparison m xs ys)
    where
      go : Compared m xs ys → agree ≡ compared m xs ys
      go (all_agree e _) = sym e
      go (first_differs k _ l shut unlike _) = absurd (unlike (same k l shut))

  pub differ_first : (i : ℕ) → i < length xs → (get_or ys i 0 ≡ m → ⊥) × (get_or xs i 0 ≡ get_or ys i 0 → ⊥) → AgreeTo m xs ys i → differ i ≡ compared m xs ys
  differ_first i h (shut, other) before = go (comparison m xs ys)
    where
      only : (k : ℕ) → (get_or ys k 0 ≡ m → ⊥) → (get_or xs k 0 ≡ get_or ys k 0 → ⊥) → AgreeTo m xs ys k → Dec (i < k) → Dec (k < i) → i ≡ k
      only k full unlike earlier (yes l) d = absurd (other (earlier i l shut))
      only k full unlike earlier (no l) (yes g) = absurd (unlike (before k g full))
      only k full unlike earlier (no l) (no g) = omega arith

      go : Compared m xs ys → differ i ≡ compared m xs ys
      go (all_agree _ same) = absurd (other (same i h shut))
      go (first_differs k e _ full unlike earlier) = ap differ (only k full unlike earlier (dec_lt i k) (dec_lt k i)) ∙ sym e

-- ---- the two as pairs

-- a pair of inks that differ, and one that agree
abbrev pub PairDiffers : ℕ → ℕ × ℕ → Type 0
PairDiffers m p = (p.1 ≡ m → ⊥) × (p.0 ≡ p.1 → ⊥)

abbrev pub PairAgrees : ℕ → ℕ × ℕ → Type 0
PairAgrees m p = (p.1 ≡ m → ⊥) → p.0 ≡ p.1

module _ (m : ℕ) (xs ys : List ℕ) (fits : length xs ≤ length ys) where
  pairs_length : length (zip xs ys) ≡ length xs
  pairs_length = omega (arith, length-zip xs ys)

  pairs_to : (i : ℕ) → i ≤ length xs → AllWithin (PairAgrees m) (zip xs ys) 0 i → AgreeTo m xs ys i
  pairs_to i low all p h = rw (get_or-zip xs ys p (0, 0) (omega arith) (omega arith)) at (all p (0, 0) (omega arith) h)

  pairs_agree : AllWithin (PairAgrees m) (zip xs ys) 0 (length (zip xs ys)) → agree ≡ compared m xs ys
  pairs_agree all = agree_all m xs ys (pairs_to (length xs) (omega arith) (rw pairs_length at all))

  pairs_differ : (i : ℕ) → (i < length (zip xs ys)) × HoldsAt (PairDiffers m) (zip xs ys) i × AllWithin (PairAgrees m) (zip xs ys) 0 i
      → differ i ≡ compared m xs ys
  pairs_differ i (turn, here, all) =
      let h : i < length xs = omega (arith, pairs_length) in
      differ_first m xs ys i h (rw (get_or-zip xs ys i (0, 0) h (omega arith)) at (here (0, 0))) (pairs_to i (omega arith) all)

  -- the first pair that differs, if any
  pub pairs_compared : (r : Option ℕ)
      → MatchOption r (AllWithin (PairAgrees m) (zip xs ys) 0 (length (zip xs ys)))
      (λ i. (i < length (zip xs ys)) × HoldsAt (PairDiffers m) (zip xs ys) i × AllWithin (PairAgrees m) (zip xs ys) 0 i)
      → comparison_of r ≡ compared m xs ys
  pairs_compared (Some i) first = pairs_differ i first
  pairs_compared None all = pairs_agree all

-- the inks copied, and the table compared with them
pub inks_compared : (m : ℕ) (table inks cells filled : List ℕ) (next : ℕ) → length inks ≤ length cells → Put cells 0 inks filled next → (verdict : Verdict)
    → verdict ≡ compared m table inks → record { answer = verdict; cells = filled } ≡ compared_into m table inks cells
inks_compared m table inks cells filled next fits put verdict e = λ i. record { answer = e i; cells = (put_wrote fits put).text i }
