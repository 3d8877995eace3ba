-- The layout of a row, place by place: the bytes that fit there, and the weight of a level there in the index.
-- Assumes nothing.
use Rattle.std.specs.Prelude.{◌<◌, ◌≤◌, ◌+◌, ◌-◌, ◌^◌, ◌≡◌}
use Rattle.laws.specs.Prelude.{ℕ, List, length, get_or}
use Rattle.rules.specs.Limits.{most_cells}

-- the most places of a row that are compared, and the numbers of a frame
abbrev pub most_laid : ℕ
most_laid = 128

abbrev pub frame_length : ℕ
frame_length = 384

module _ (frame : List ℕ) where
  -- the numbers of place j: a byte fits if the byte plus `shift`, modulo 2 ^ 16, is at least `least`
  pub record PlaceAt (j shift least weight : ℕ) : Type 0 where
    pub shifts : get_or frame j 0 ≡ shift
    pub bounds : get_or frame (128 + j) 0 ≡ least
    pub weighs : get_or frame (256 + j) 0 ≡ weight

  -- place j has a space, ..
  abbrev pub SpaceAt : ℕ → Type 0
  SpaceAt j = PlaceAt j 65503 65535 0

  -- .. or a level below m, with this many levels after it
  abbrev pub LevelAt : ℕ → ℕ → ℕ → Type 0
  LevelAt m j after = PlaceAt j (65488 - m) (65536 - m) (m ^ after)

  -- the first j places of a row are laid out, and have i of the n levels, each followed by a space
  pub data LooseLaid (m n : ℕ) : ℕ → ℕ → Type 0 where
    laid_none : (j i : ℕ) → j ≡ 0 → i ≡ 0 → LooseLaid m n j i
    laid_space : (j i k : ℕ) → LooseLaid m n j i → 0 < i → SpaceAt j → k ≡ j + 1 → LooseLaid m n k i
    laid_level : (j i k h : ℕ) → LooseLaid m n j i → i < n → LevelAt m j (n - (i + 1)) → SpaceAt (j + 1) → k ≡ j + 2 → h ≡ i + 1 → LooseLaid m n k h

-- the ink is at `width`, and from there on no place has a weight; if `width` is 0, there is no frame
pub record Framed (m n : ℕ) (frame : List ℕ) (width : ℕ) : Type 0 where
  pub long : length frame ≡ frame_length
  pub light : (k : ℕ) → get_or frame (256 + k) 0 ≤ most_cells
  pub most : width ≤ most_laid
  pub laid : 0 < width → LooseLaid frame m n width n
  pub rest : 0 < width → (k : ℕ) → width ≤ k → get_or frame (256 + k) 0 ≡ 0
