-- Sums over lists, and how to go from a number to a part and back: parts are in sequence, each with its own count, and a number stands for a
-- part and a number below that part's count.
-- Assumes nothing.
use Rattle.std.specs.Prelude.{◌<◌, ◌≤◌, ◌+◌, ◌-◌, ◌≡◌, ◌⊎◌, ◌||◌, ◌∷◌, ◌++◌}
use Rattle.laws.specs.Prelude.{ℕ, suc, zero, ◌∙◌, sym, ap, refl, ap₂, inl, inr, true, false, Bool, cond, false≢true}
use Rattle.laws.specs.Prelude.{List, [], map, Memᴰ, mem_head, mem_not_nil, mem_tail, mem_cases_cons, zero-add}
use Rattle.laws.specs.Prelude.{add-zero, suc-add, arith, eqb, ltb, eq-eqb, eqb-true, ne_eqb, lt-ltb, eqb-false, ltb-true, ltb-false, test_cases}
use Rattle.rules.specs.Lists.{range, any, those, first_place, total}
use Rattle.rules.specs.Nets.Family.{Numbered, numbered_at}
use Rattle.rules.specs.Sheets.SheetRules.{Distinct}
use Rattle.laws.specs.Lists.Tests.{any_cons, none_mem}
use Rattle.laws.specs.Lists.Ranges.{range_mem}
use Rattle.laws.specs.Lists.Finds.{those_mem}
use Rattle.laws.specs.Lists.FirstPlaces.{first_cons}

-- ---- sums

-- of a function over two lists joined
pub total_parts : (f : ℕ → ℕ) (xs ys : List ℕ) → total (map f (xs ++ ys)) ≡ total (map f xs) + total (map f ys)
unfolding total
total_parts f [] ys = omega arith
total_parts f (x ∷ xs) ys = omega (arith, total_parts f xs ys)

-- each of the numbers is at most their sum
pub total_most : (f : ℕ → ℕ) (xs : List ℕ) (x : ℕ) → Memᴰ x xs → f x ≤ total (map f xs)
unfolding total
total_most f [] x is = absurd (mem_not_nil is)
total_most f (y ∷ xs) x is =
    elim (mem_cases_cons is) [ inl e ↦ rw e (omega arith) | inr is ↦ omega (arith, total_most f xs x is) ]

-- functions that agree over the list
pub total_same : (f h : ℕ → ℕ) (xs : List ℕ) → ((x : ℕ) → Memᴰ x xs → f x ≡ h x) → total (map f xs) ≡ total (map h xs)
unfolding total
total_same f h [] e = refl
total_same f h (x ∷ xs) e = ap₂ ◌+◌ (e x (mem_head refl)) (total_same f h xs (λ y is. e y (mem_tail is)))

-- ---- those that pass

-- by the first element's test
pub those_cons : (test : ℕ → Bool) (x : ℕ) (xs : List ℕ) → those test (x ∷ xs) ≡ cond (test x) (x ∷ those test xs) (those test xs)
unfolding those
those_cons test x xs =
    elim (test x) as (λ t. elim t as (λ _. List ℕ) [ true ↦ x ∷ those test xs | false ↦ those test xs ] ≡ cond t (x ∷ those test xs) (those test xs)) [
      | true ↦ refl
      | false ↦ refl
    ]

pub those_append : (test : ℕ → Bool) (xs ys : List ℕ) → those test (xs ++ ys) ≡ those test xs ++ those test ys
unfolding those
those_append test [] ys = refl
those_append test (x ∷ xs) ys = rw (those_cons test x (xs ++ ys), those_cons test x xs, those_append test xs ys) (go (test x))
  where
    go : (t : Bool) → cond t (x ∷ (those test xs ++ those test ys)) (those test xs ++ those test ys)
        ≡ cond t (x ∷ those test xs) (those test xs) ++ those test ys
    go true = refl
    go false = refl

-- numbers that fail are skipped
those_skip : (test : ℕ → Bool) (a count more : ℕ) → ((u : ℕ) → a ≤ u → u < a + count → test u ≡ false)
    → those test (range a (count + more)) ≡ those test (range (a + count) more)
unfolding range
those_skip test a zero more none = rw (zero-add, add-zero)
those_skip test a (suc count) more none =
    let here : test a ≡ false = none a (omega arith) (omega arith) in
    let end : a + suc count ≡ suc a + count = omega arith in
    rw (end, suc-add, those_cons test a (range (suc a) (count + more)), here)
    (those_skip test (suc a) count more (λ u low high. none u (omega arith) (omega arith)))

-- so those below c can be collected from b on
pub those_past : (test : ℕ → Bool) (a b c : ℕ) → a ≤ b → b ≤ c → ((u : ℕ) → a ≤ u → u < b → test u ≡ false)
    → those test (range a (c - a)) ≡ those test (range b (c - b))
those_past test a b c ab bc none =
    let count : c - a ≡ (b - a) + (c - b) = omega arith in
    let start : a + (b - a) ≡ b = omega arith in
    ap (λ (k : ℕ). those test (range a k)) count
    ∙ those_skip test a (b - a) (c - b) (λ u low high. none u low (omega arith))
    ∙ ap (λ (k : ℕ). those test (range k (c - b))) start

-- a number that a test finds in a list
pub any_mem : (x : ℕ) (xs : List ℕ) → any (eqb x) xs ≡ true → Memᴰ x xs
unfolding any
any_mem x [] e = absurd (false≢true e)
any_mem x (y ∷ xs) e = go (eqb x y) refl e (any_mem x xs)
  where
    go : (t : Bool) → eqb x y ≡ t → elim t as (λ _. Bool) [ true ↦ true | false ↦ any (eqb x) xs ] ≡ true → (any (eqb x) xs ≡ true → Memᴰ x xs)
        → Memᴰ x (y ∷ xs)
    go true same e later = mem_head (eqb-true x y same)
    go false other e later = mem_tail (later e)

-- in `those` of a range no number occurs twice
pub those_range_distinct : (test : ℕ → Bool) (from count : ℕ) → Distinct (those test (range from count))
unfolding range those
those_range_distinct test from zero = tt
those_range_distinct test from (suc count) =
    rw (those_cons test from (range (suc from) count)) (go (test from) (those_range_distinct test (suc from) count))
  where
    later : any (eqb from) (those test (range (suc from) count)) ≡ false
    later = test_cases (any (eqb from) (those test (range (suc from) count)))
        (λ e.
        let between = range_mem (suc from) count from (those_mem test (range (suc from) count) from (any_mem from _ e)) in
        absurd (omega arith))
        (λ e. e)

    go : (t : Bool) → Distinct (those test (range (suc from) count))
        → Distinct (cond t (from ∷ those test (range (suc from) count)) (those test (range (suc from) count)))
    go true rest = (later, rest)
    go false rest = rest

-- ---- parts in sequence

module _ (count : ℕ → ℕ) where
  -- the sum of the counts of the parts before a
  unfoldable pub before : List ℕ → ℕ → ℕ
  before [] a = 0
  before (x ∷ xs) a = elim (eqb x a) [ true ↦ 0 | false ↦ count x + before xs a ]

  pub before_cons : (x : ℕ) (xs : List ℕ) (a : ℕ) → before (x ∷ xs) a ≡ cond (eqb x a) 0 (count x + before xs a)
  unfolding before
  before_cons x xs a =
      elim (eqb x a) as (λ t. elim t as (λ _. ℕ) [ true ↦ 0 | false ↦ count x + before xs a ] ≡ cond t 0 (count x + before xs a)) [ true ↦ refl | false ↦ refl ]

  pub numbered_cons : (x : ℕ) (xs : List ℕ) (r : ℕ)
      → numbered_at count (x ∷ xs) r ≡ cond (ltb r (count x)) (record { part = x; number = r }) (numbered_at count xs (r - count x))
  unfolding numbered_at
  numbered_cons x xs r =
      elim (ltb r (count x)) as (λ t. elim t as (λ _. Numbered) [ true ↦ record { part = x; number = r } | false ↦ numbered_at count xs (r - count x) ]
      ≡ cond t (record { part = x; number = r }) (numbered_at count xs (r - count x))) [ true ↦ refl | false ↦ refl ]

  -- the first part has the first numbers, ..
  pub numbered_here : (x : ℕ) (xs : List ℕ) (r : ℕ) → r < count x → numbered_at count (x ∷ xs) r ≡ record { part = x; number = r }
  numbered_here x xs r h = numbered_cons x xs r ∙ rw (lt-ltb r (count x) h)

  -- .. and the others follow
  pub numbered_later : (x : ℕ) (xs : List ℕ) (r : ℕ) → count x ≤ r → numbered_at count (x ∷ xs) r ≡ numbered_at count xs (r - count x)
  numbered_later x xs r h = numbered_cons x xs r ∙ test_cases (ltb r (count x))
      (λ e. absurd (omega (arith, ltb-true r (count x) e)))
      (λ e. rw e)

  -- a number below a part's count gives a number below the sum of all counts, ..
  pub before_below : (xs : List ℕ) (a s : ℕ) → Memᴰ a xs → s < count a → before xs a + s < total (map count xs)
  unfolding total
  before_below [] a s is h = absurd (mem_not_nil is)
  before_below (x ∷ xs) a s is h = rw before_cons (go (eqb x a) refl (mem_cases_cons is) (λ is. before_below xs a s is h))
    where
      go : (t : Bool) → eqb x a ≡ t → (a ≡ x) ⊎ Memᴰ a xs → (Memᴰ a xs → before xs a + s < total (map count xs))
          → cond t 0 (count x + before xs a) + s < count x + total (map count xs)
      go true e is later = let same : count x ≡ count a = ap count (eqb-true x a e) in omega arith
      go false e (inl same) later = absurd (eqb-false x a e (sym same))
      go false e (inr is) later = omega (arith, later is)

  -- .. which determines the part and the number
  pub numbered_before : (xs : List ℕ) (a s : ℕ) → Memᴰ a xs → s < count a → numbered_at count xs (before xs a + s) ≡ record { part = a; number = s }
  numbered_before [] a s is h = absurd (mem_not_nil is)
  numbered_before (x ∷ xs) a s is h =
      rw before_cons (go (eqb x a) refl (mem_cases_cons is) (λ is. numbered_before xs a s is h))
    where
      go : (t : Bool) → eqb x a ≡ t → (a ≡ x) ⊎ Memᴰ a xs
          → (Memᴰ a xs → numbered_at count xs (before xs a + s) ≡ record { part = a; number = s })
          → numbered_at count (x ∷ xs) (cond t 0 (count x + before xs a) + s) ≡ record { part = a; number = s }
      go true e is later =
          let same : x ≡ a = eqb-true x a e in
          rw (same, zero-add) (numbered_here a xs s h)
      go false e (inl same) later = absurd (eqb-false x a e (sym same))
      go false e (inr is) later =
          let less : count x + before xs a + s - count x ≡ before xs a + s = omega arith in
          numbered_later x xs (count x + before xs a + s) (omega arith) ∙ ap (numbered_at count xs) less ∙ later is

  -- the part and the number that a number below the sum stands for
  pub record Placed (xs : List ℕ) (r : ℕ) : Type 0 where
    pub listed : Memᴰ (numbered_at count xs r).part xs
    pub below : (numbered_at count xs r).number < count (numbered_at count xs r).part
    pub again : before xs (numbered_at count xs r).part + (numbered_at count xs r).number ≡ r

  pub numbered_placed : (xs : List ℕ) → Distinct xs → (r : ℕ) → r < total (map count xs) → Placed xs r
  unfolding total
  numbered_placed [] distinct r h = absurd (omega arith)
  numbered_placed (x ∷ xs) distinct r h = test_cases (ltb r (count x))
      (λ e.
      let here = numbered_here x xs r (ltb-true r (count x) e) in
      record {
        listed = rw here (mem_head refl);
        below = rw here (ltb-true r (count x) e);
        again = rw (here, before_cons, eq-eqb x x refl, zero-add);
      })
      (λ e.
      let past : count x ≤ r = ltb-false r (count x) e in
      let rest = numbered_placed xs distinct.1 (r - count x) (omega arith) in
      let there = numbered_later x xs r past in
      let other : eqb x (numbered_at count xs (r - count x)).part ≡ false =
      ne_eqb _ _ (λ same. eqb-false x _ (none_mem (eqb x) rest.listed distinct.0) same) in
      record {
        listed = rw there (mem_tail rest.listed);
        below = rw there rest.below;
        again = rw (there, before_cons, other) (omega (arith, rest.again));
      })

  -- number 0 belongs to the first part, for the numbers in a range that pass a test
  pub numbered_first : (test : ℕ → Bool) (from k : ℕ) → any test (range from k) ≡ true → ((a : ℕ) → Memᴰ a (those test (range from k)) → 0 < count a)
      → numbered_at count (those test (range from k)) 0 ≡ record { part = from + first_place test (range from k); number = 0 }
  unfolding range any
  numbered_first test from zero some positive = absurd (false≢true some)
  numbered_first test from (suc k) some positive =
      rw (those_cons test from (range (suc from) k), first_cons test from (range (suc from) k))
      (go (test from) refl (sym (any_cons test from (range (suc from) k)) ∙ some) (rw (those_cons test from (range (suc from) k)) at positive)
      (numbered_first test (suc from) k))
    where
      go : (t : Bool) → test from ≡ t → (t || any test (range (suc from) k)) ≡ true
          → ((a : ℕ) → Memᴰ a (cond t (from ∷ those test (range (suc from) k)) (those test (range (suc from) k))) → 0 < count a)
          → (any test (range (suc from) k) ≡ true → ((a : ℕ) → Memᴰ a (those test (range (suc from) k)) → 0 < count a)
          → numbered_at count (those test (range (suc from) k)) 0 ≡ record { part = suc from + first_place test (range (suc from) k); number = 0 })
          → numbered_at count (cond t (from ∷ those test (range (suc from) k)) (those test (range (suc from) k))) 0
          ≡ record { part = from + cond t 0 (suc (first_place test (range (suc from) k))); number = 0 }
      go true e some positive later = numbered_here from _ 0 (positive from (mem_head refl)) ∙ rw add-zero
      go false e some positive later =
          let same : suc from + first_place test (range (suc from) k) ≡ from + suc (first_place test (range (suc from) k)) = omega arith in
          later some positive ∙ rw same
