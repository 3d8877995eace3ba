-- A key of an assignment: a number made of its inks at some assignments of the other inputs. Alike assignments have the same key, so only those with
-- the same key are compared.
-- Assumes nothing.
use Rattle.std.specs.Prelude.{◌<◌, ◌+◌, ◌*◌, ◌%◌, ◌≡◌, ◌∷◌}
use Rattle.laws.specs.Prelude.{ℕ, suc, zero, ◌∙◌, ap, refl, true, List, [], arith, length, get_or, take, drop}
use Rattle.laws.specs.Prelude.{eqb-true}
use Rattle.laws.specs.Lists.Walks.{rest}
use Rattle.rules.specs.Groups.Groups.{alike_over}
use Rattle.laws.specs.Lists.Tests.{all_iff}

-- every key is below this
abbrev pub key_bound : ℕ
key_bound = 256

-- the key, given the key so far and the remaining columns
unfoldable pub key_from : ℕ → (ℕ → ℕ) → ℕ → ℕ → List ℕ → ℕ
key_from m f p key [] = key
key_from m f p key (y ∷ ys) = key_from m f p ((key * m + f (p + y)) % 256) ys

-- one more column
pub key_next : (m : ℕ) (f : ℕ → ℕ) (p key : ℕ) (ys : List ℕ) (k : ℕ) → k < length ys
    → key_from m f p ((key * m + f (p + get_or ys k 0)) % 256) (drop (k + 1) ys) ≡ key_from m f p key (drop k ys)
unfolding key_from
key_next m f p key ys k h = rw (rest ys k h)

-- the key of p over the first `width` of the columns ys
unfoldable pub key_of : ℕ → (ℕ → ℕ) → List ℕ → ℕ → ℕ → ℕ
key_of m f ys width p = key_from m f p 0 (take width ys)

module _ (m : ℕ) (f : ℕ → ℕ) where
  from_below : (p key : ℕ) → key < key_bound → (ys : List ℕ) → key_from m f p key ys < key_bound
  unfolding key_from
  from_below p key h [] = h
  from_below p key h (y ∷ ys) = from_below p ((key * m + f (p + y)) % 256) (omega arith) ys

  pub key_below : (ys : List ℕ) (width p : ℕ) → key_of m f ys width p < key_bound
  unfolding key_of
  key_below ys width p = from_below p 0 (omega arith) (take width ys)

  -- no columns: one key
  pub key_none : (ys : List ℕ) (p : ℕ) → key_of m f ys 0 p ≡ 0
  unfolding key_of key_from
  key_none ys p = refl

  -- alike assignments have the same key
  module _ (p q : ℕ) where
    from_alike : (ys : List ℕ) (width key : ℕ) → alike_over f ys p q ≡ true → key_from m f p key (take width ys) ≡ key_from m f q key (take width ys)
    unfolding key_from alike_over
    from_alike ys zero key h = refl
    from_alike [] (suc width) key h = refl
    from_alike (y ∷ ys) (suc width) key h =
        let both = (all_iff _ y ys).0 h in
        ap (λ (ink : ℕ). key_from m f p ((key * m + ink) % 256) (take width ys)) (eqb-true _ _ both.0)
        ∙ from_alike ys width ((key * m + f (q + y)) % 256) both.1

    pub alike_key : (ys : List ℕ) (width : ℕ) → alike_over f ys p q ≡ true → key_of m f ys width p ≡ key_of m f ys width q
    unfolding key_of
    alike_key ys width h = from_alike ys width 0 h

-- every key is below the number of heads
abbrev pub Keys : ℕ → (ℕ → ℕ) → List ℕ → ℕ → ℕ → Type 0
Keys m f ys width heads = (p : ℕ) → key_of m f ys width p < heads
