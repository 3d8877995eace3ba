-- A list of equally long rows, read by row and column.
-- Assumes nothing.
use Rattle.std.specs.Prelude.{◌<◌, ◌+◌, ◌*◌, ◌≡◌, ◌∷◌}
use Rattle.laws.specs.Prelude.{ℕ, suc, zero, ◌∙◌, ap, ap₂, List, [], map, zero-add, zero-mul, suc-mul, le_of_suc-le-suc, arith}
use Rattle.laws.specs.Prelude.{length, get_or, get_or-append, get_or-append-add}
use Rattle.rules.specs.Lists.{range, concat_map}
use Rattle.laws.specs.Lists.Concat.{concat_length}
use Rattle.laws.specs.Lists.Ranges.{range_length, range_at, map_range_length, map_range_at}

-- the entry of row u and column v, where each row has m entries
rows_at : {A B : Type 0} (row : A → List B) (m : ℕ) → ((x : A) → length (row x) ≡ m)
    → (xs : List A) (u v : ℕ) (d : A) (e : B) → u < length xs → v < m → get_or (concat_map row xs) (u * m + v) e ≡ get_or (row (get_or xs u d)) v e
unfolding concat_map
rows_at row m even [] u v d e u< v< = absurd (omega arith)
rows_at row m even (x ∷ xs) zero v d e u< v< = rw (zero-mul, zero-add) (get_or-append (row x) (concat_map row xs) e v (rw even v<))
rows_at row m even (x ∷ xs) (suc u) v d e u< v< =
    let place : suc u * m + v ≡ length (row x) + (u * m + v) = omega (arith, suc-mul u m, even x) in
    rw place (get_or-append-add (row x) (concat_map row xs) (u * m + v) e ∙ rows_at row m even xs u v d e (le_of_suc-le-suc u<) v<)

-- a function's values at all (u, v) below m
abbrev pub grid : (ℕ → ℕ → ℕ) → ℕ → List ℕ
grid h m = concat_map (λ u. map (h u) (range 0 m)) (range 0 m)

module _ (h : ℕ → ℕ → ℕ) (m : ℕ) where
  -- there are m·m
  pub grid_length : length (grid h m) ≡ m * m
  grid_length = concat_length (λ u. map (h u) (range 0 m)) m (λ u. map_range_length (h u) 0 m) (range 0 m) ∙ ap (λ k. k * m) (range_length 0 m)

  -- the one at (u, v)
  pub grid_at : (u v : ℕ) → u < m → v < m → get_or (grid h m) (u * m + v) 0 ≡ h u v
  grid_at u v u< v< =
      rows_at (λ u. map (h u) (range 0 m)) m (λ u. map_range_length (h u) 0 m) (range 0 m) u v 0 0 (rw range_length u<) v<
      ∙ map_range_at (h (get_or (range 0 m) u 0)) 0 m v 0 v<
      ∙ ap₂ h (range_at 0 m u 0 u< ∙ zero-add u) (zero-add v)
