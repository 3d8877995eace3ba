-- Columns that distinguish rows, and the inputs at which they have the same levels as one of them.
-- Assumes nothing.
use Rattle.std.specs.Prelude.{◌<◌, ◌≤◌, ◌+◌, ◌-◌, ◌^◌, ◌≡◌, ◌≢◌}
use Rattle.laws.specs.Prelude.{ℕ, ◌∙◌, sym, subst⁻¹, true, false, false≢true, List, ℕ_discrete, arith, length, get_or}
use Rattle.rules.specs.Groups.Groups.{member, alike_over}
use Rattle.trees.specs.Groups.Members.{member_zero}
use Rattle.trees.specs.Groups.Told.{SameAt}
use Rattle.classes.specs.Within.{Within}
use Rattle.radix.specs.Widths.{most_members}
use Rattle.representatives.specs.Columns.{Column}
use Rattle.representatives.specs.Apart.{unlike_column}

-- every input of r is one of s
pub record Fewer (n s r : ℕ) : Type 0 where
  pub low : r ≤ s
  pub inside : (i : ℕ) → i < n → member i r ≡ true → member i s ≡ true

-- r has inputs of s at which x and y have the same level
pub record Agreed (m n x y s r : ℕ) : Type 0 where
  pub fewer : Fewer n s r
  pub same : SameAt m n r x y

-- what is required for two rows: they are inside the cells, and some column distinguishes them
pub record Telling (m n : ℕ) (f : ℕ → ℕ) (cells : ℕ) (ys : List ℕ) (base p q : ℕ) : Type 0 where
  pub levels : 0 < m
  pub inputs : n ≤ most_members
  pub there : Column ys base
  pub small : (y : ℕ) → Column ys y → y < m ^ n
  pub left : Within cells ys p
  pub right : Within cells ys q
  pub unlike : alike_over f ys p q ≡ false

-- a column that distinguishes p and q, with the levels of the column `base` at the inputs r
pub record Distinguishes (m n : ℕ) (f : ℕ → ℕ) (ys : List ℕ) (base p q r : ℕ) : Type 0 where
  pub column : ℕ
  pub there : Column ys column
  pub same : SameAt m n r column base
  pub differ : f (p + column) ≢ f (q + column)

pub record ToldOne (m n : ℕ) (f : ℕ → ℕ) (ys : List ℕ) (base p q s r : ℕ) : Type 0 where
  pub fewer : Fewer n s r
  pub tells : Distinguishes m n f ys base p q r

pub fewer_on : {n s r t : ℕ} → Fewer n s r → Fewer n r t → Fewer n s t
fewer_on a b = record { low = omega (arith, a.low, b.low); inside = λ i i< is. a.inside i i< (b.inside i i< is) }

module _ {m n : ℕ} {f : ℕ → ℕ} {ys : List ℕ} {base p q : ℕ} where
  -- the levels are also the same at fewer inputs
  pub tells_fewer : {r t : ℕ} → Fewer n r t → Distinguishes m n f ys base p q r → Distinguishes m n f ys base p q t
  tells_fewer fewer tells =
      record { column = tells.column; there = tells.there; same = λ i i< is. tells.same i i< (fewer.inside i i< is); differ = tells.differ }

  -- if s has no input, any column will do
  pub told_any : {s : ℕ} → s ≡ 0 → alike_over f ys p q ≡ false → ToldOne m n f ys base p q s 0
  told_any {s} none unlike =
      let (y, there, differ) = unlike_column f ys p q unlike in
      record {
        fewer = record { low = omega arith; inside = λ i i< is. absurd (false≢true (sym (member_zero i) ∙ is)) };
        tells = record { column = y; there = there; same = λ i i< is. absurd (false≢true (sym (member_zero i) ∙ is)); differ = differ };
      }

pub record ToldRow (m n : ℕ) (f : ℕ → ℕ) (ys : List ℕ) (base p : ℕ) (firsts : List ℕ) (count s r : ℕ) : Type 0 where
  pub fewer : Fewer n s r
  pub tells : (j : ℕ) → j < count → Distinguishes m n f ys base p (get_or firsts j 0) r

module _ {m n : ℕ} {f : ℕ → ℕ} {ys : List ℕ} {base p : ℕ} {firsts : List ℕ} where
  -- one more row
  pub row_next : {j s r t : ℕ} → ToldRow m n f ys base p firsts j s r → ToldOne m n f ys base p (get_or firsts j 0) r t
      → ToldRow m n f ys base p firsts (j + 1) s t
  row_next {j} {t} so_far one = record { fewer = fewer_on so_far.fewer one.fewer; tells = λ i h. at i h (ℕ_discrete i j) }
    where
      at : (i : ℕ) → i < j + 1 → Dec (i ≡ j) → Distinguishes m n f ys base p (get_or firsts i 0) t
      at i h (yes e) = subst⁻¹ (λ (k : ℕ). Distinguishes m n f ys base p (get_or firsts k 0) t) e one.tells
      at i h (no ne) = tells_fewer one.fewer (so_far.tells i (omega arith))

-- what is required for the first m + 1 of `firsts`
pub record RowsTold (m n : ℕ) (f : ℕ → ℕ) (cells : ℕ) (ys firsts : List ℕ) : Type 0 where
  pub levels : 0 < m
  pub inputs : n ≤ most_members
  pub some : 0 < length ys
  pub small : (y : ℕ) → Column ys y → y < m ^ n
  pub room : m < length firsts
  pub within : (j : ℕ) → j ≤ m → Within cells ys (get_or firsts j 0)
  pub unlike : (j k : ℕ) → j < k → k ≤ m → alike_over f ys (get_or firsts k 0) (get_or firsts j 0) ≡ false

pub record ToldAll (m n : ℕ) (f : ℕ → ℕ) (ys firsts : List ℕ) (r : ℕ) : Type 0 where
  pub low : r < 2 ^ 16
  pub base : ℕ
  pub there : Column ys base
  pub tells : (j k : ℕ) → j < k → k ≤ m → Distinguishes m n f ys base (get_or firsts k 0) (get_or firsts j 0) r

-- columns distinguish each row after row k from all rows before it
pub record ToldFrom (m n : ℕ) (f : ℕ → ℕ) (ys firsts : List ℕ) (base k r : ℕ) : Type 0 where
  pub low : r < 2 ^ 16
  pub most : k ≤ m
  pub tells : (j i : ℕ) → j < i → k < i → i ≤ m → Distinguishes m n f ys base (get_or firsts i 0) (get_or firsts j 0) r

module _ {m n : ℕ} {f : ℕ → ℕ} {ys firsts : List ℕ} {base : ℕ} where
  -- one more row
  pub from_next : {k r t : ℕ} → 0 < k → ToldFrom m n f ys firsts base k r → ToldRow m n f ys base (get_or firsts k 0) firsts k r t
      → ToldFrom m n f ys firsts base (k - 1) t
  from_next {k} {t} some so_far row =
      record {
        low = omega (arith, so_far.low, row.fewer.low);
        most = omega (arith, so_far.most);
        tells = λ j i h after i≤. at j i h after i≤ (ℕ_discrete i k);
      }
    where
      at : (j i : ℕ) → j < i → k - 1 < i → i ≤ m → Dec (i ≡ k) → Distinguishes m n f ys base (get_or firsts i 0) (get_or firsts j 0) t
      at j i h after i≤ (yes e) = subst⁻¹ (λ (l : ℕ). Distinguishes m n f ys base (get_or firsts l 0) (get_or firsts j 0) t) e (row.tells j (omega arith))
      at j i h after i≤ (no ne) = tells_fewer row.fewer (so_far.tells j i h (omega arith) i≤)
