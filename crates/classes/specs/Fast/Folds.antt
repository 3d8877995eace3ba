-- Several inks as one number. The number determines the inks, so comparing numbers compares the inks.
-- Assumes nothing.
use Rattle.std.specs.Prelude.{◌<◌, ◌+◌, ◌-◌, ◌*◌, ◌%◌, ◌/◌, ◌≡◌, ◌↔◌}
use Rattle.laws.specs.Prelude.{ℕ, ◌∙◌, sym, ap, subst, ap₂, true, List, [], map, Memᴰ, mem_not_nil}
use Rattle.laws.specs.Prelude.{mem_of_map, mem_map, arith, length, get_or, get_or-take, eq-eqb, eqb-true, digits_mod, digits_div}
use Rattle.laws.specs.Prelude.{zero-mul, one-mul, add-zero, suc, zero}
use Rattle.rules.specs.Lists.{range}
use Rattle.rules.specs.Groups.Groups.{alike_over}
use Rattle.laws.specs.Lists.Concat.{mem_concat, concat_mem}
use Rattle.laws.specs.Lists.Places.{mem_place}
use Rattle.laws.specs.Lists.Ranges.{mem_range, range_mem}
use Rattle.laws.specs.Lists.Tests.{all_mem, mem_all, two_ways}
use Rattle.radix.specs.Offsets.{widened, widened_length, widened_front, widened_step}
use Rattle.trees.specs.Groups.SameTests.{firsts_same}
use Rattle.classes.specs.Firsts.{classes_over}
use Rattle.classes.specs.Within.{Within}

-- the first columns of a widened list
pub front_at : (m w : ℕ) (zs : List ℕ) (k : ℕ) → 0 < m → k < length zs → get_or (widened m w zs) k 0 ≡ get_or zs k 0
front_at m w zs k some low = sym (get_or-take (length zs) (widened m w zs) k 0 low) ∙ ap (λ (l : List ℕ). get_or l k 0) (widened_front m w zs some)

-- alike: the same inks at each column
each_ink : (f : ℕ → ℕ) (ys : List ℕ) (p q : ℕ) → alike_over f ys p q ≡ true → (y : ℕ) → Memᴰ y ys → f (p + y) ≡ f (q + y)
unfolding alike_over
each_ink f ys p q e y is = eqb-true _ _ (all_mem _ is e)

inks_alike : (f : ℕ → ℕ) (ys : List ℕ) (p q : ℕ) → ((y : ℕ) → Memᴰ y ys → f (p + y) ≡ f (q + y)) → alike_over f ys p q ≡ true
unfolding alike_over
inks_alike f ys p q h = mem_all _ ys (λ y is. eq-eqb _ _ (h y is))

-- below c, the number t determines the inks at the m levels of an input of weight w, and they determine it
abbrev Determines : (ℕ → ℕ) → ℕ → ℕ → (ℕ → ℕ) → ℕ → Type 0
Determines t m w f c = (j k : ℕ) → j < c → k < c → (t j ≡ t k) ↔ ((l : ℕ) → l < m → f (j + l * w) ≡ f (k + l * w))

-- The law of one fold: over each level of an input and the columns zs, two assignments are alike exactly if they are over the numbers and zs.
module _ (t f : ℕ → ℕ) (m w c : ℕ) (zs : List ℕ) (numbers : Determines t m w f c) (p q : ℕ) (p_in : Within c zs p) (q_in : Within c zs q) where
  moved : (p y l : ℕ) → p + y + l * w ≡ p + (l * w + y)
  moved p y l = omega arith

  at : (y : ℕ) → Memᴰ y zs → (t (p + y) ≡ t (q + y)) ↔ ((l : ℕ) → l < m → f (p + y + l * w) ≡ f (q + y + l * w))
  at y is = let (k, low, here) = mem_place y zs is in numbers (p + y) (q + y) (omega (arith, p_in k low)) (omega (arith, q_in k low))

  pub fold_alike : alike_over f (widened m w zs) p q ≡ alike_over t zs p q
  unfolding widened
  fold_alike =
      two_ways _ _
      (λ e. inks_alike t zs p q (λ y is. (at y is).1 (λ l low. ap f (moved p y l)
      ∙ each_ink f (widened m w zs) p q e (l * w + y) (mem_concat _ (mem_range 0 m l (omega arith) (omega arith)) (mem_map (λ x. l * w + x) is))
      ∙ ap f (sym (moved q y l)))))
      (λ e. inks_alike f (widened m w zs) p q (λ z is.
      let (l, level, here) = concat_mem (λ l. map (λ x. l * w + x) zs) (range 0 m) is in
      let (y, column, equal) = mem_of_map (λ x. l * w + x) zs here in
      ap (λ (z : ℕ). f (p + z)) (sym equal) ∙ ap f (sym (moved p y l))
      ∙ (at y column).0 (each_ink t zs p q e y column) l (omega (arith, range_mem 0 m l level))
      ∙ ap f (moved q y l) ∙ ap (λ (z : ℕ). f (q + z)) equal))

-- t over the columns zs of c cells compares assignments as f over the columns ys of b cells does
pub record Folds (f : ℕ → ℕ) (b : ℕ) (ys : List ℕ) (t : ℕ → ℕ) (c : ℕ) (zs : List ℕ) : Type 0 where
  pub within : (p : ℕ) → Within b ys p → Within c zs p
  pub alike : (p q : ℕ) → Within b ys p → Within b ys q → alike_over f ys p q ≡ alike_over t zs p q

pub folds_both : {f t s : ℕ → ℕ} {b c d : ℕ} {ys zs us : List ℕ} → Folds f b ys t c zs → Folds t c zs s d us → Folds f b ys s d us
folds_both x y = record {
  within = λ p h. y.within p (x.within p h);
  alike = λ p q h k. x.alike p q h k ∙ y.alike p q (x.within p h) (x.within q k);
}

-- it gives the same classes
pub folds_classes : {f t : ℕ → ℕ} {b c : ℕ} {ys zs : List ℕ} → Folds f b ys t c zs → (xs : List ℕ)
    → ((i : ℕ) → i < length xs → Within b ys (get_or xs i 0)) → classes_over t zs xs ≡ classes_over f ys xs
unfolding classes_over
folds_classes {f} {t} {b} {ys} {zs} fold xs inside =
    sym (firsts_same (Within b ys) (alike_over f ys) (alike_over t zs) fold.alike [] xs (λ x is. absurd (mem_not_nil is))
    (λ x is. let (i, low, at) = mem_place x xs is in subst (Within b ys) at (inside i low)))

-- r numbers at the front of `to`, each of two of the first `len` inks: the digits in base b
pub record Paired (f : ℕ → ℕ) (len w b r : ℕ) (to : List ℕ) : Type 0 where
  pub count : r ≡ len - w
  pub number : (k : ℕ) → k < r → get_or to k 0 ≡ f (k + w) * b + f k
  pub small : (k : ℕ) → k < r → get_or to k 0 < b * b

module _ {f : ℕ → ℕ} {len w b r : ℕ} {to : List ℕ} (small : (k : ℕ) → k < len → f k < b) (paired : Paired f len w b r to) where
  digits : (k : ℕ) → k < r → (get_or to k 0 % b ≡ f k) × (get_or to k 0 / b ≡ f (k + w))
  digits k h =
      let low = small k (omega (arith, paired.count)) in
      rw (paired.number k h) (digits_mod (f (k + w)) low, digits_div (f (k + w)) low)

  two : Determines (λ k. get_or to k 0) 2 w f r
  two j k hj hk = (λ e. each e, both)
    where
      each : get_or to j 0 ≡ get_or to k 0 → (l : ℕ) → l < 2 → f (j + l * w) ≡ f (k + l * w)
      each e zero h = rw (zero-mul w, add-zero j, add-zero k) (sym (digits j hj).0 ∙ ap (λ (x : ℕ). x % b) e ∙ (digits k hk).0)
      each e (suc zero) h = rw (one-mul w) (sym (digits j hj).1 ∙ ap (λ (x : ℕ). x / b) e ∙ (digits k hk).1)
      each e (suc (suc l)) h = absurd (omega arith)

      both : ((l : ℕ) → l < 2 → f (j + l * w) ≡ f (k + l * w)) → get_or to j 0 ≡ get_or to k 0
      both h =
          let first = rw (zero-mul w, add-zero j, add-zero k) at (h 0 (omega arith)) in
          let second = rw (one-mul w) at (h 1 (omega arith)) in
          paired.number j hj ∙ ap₂ (λ (x y : ℕ). x * b + y) second first ∙ sym (paired.number k hk)

  -- the numbers of an input of two levels are a fold
  pub two_folds : (zs : List ℕ) → Folds f len (widened 2 w zs) (λ k. get_or to k 0) r zs
  two_folds zs = record { within = inside; alike = λ p q h k. fold_alike (λ k. get_or to k 0) f 2 w r zs two p q (inside p h) (inside q k) }
    where
      inside : (p : ℕ) → Within len (widened 2 w zs) p → Within r zs p
      inside p h k below =
          omega (
            arith,
            h (length zs + k) (omega (arith, widened_length 2 w zs)),
            widened_step 2 w zs k (omega arith),
            front_at 2 w zs k (omega arith) below,
            paired.count,
          )
