-- A part of a list after a paste into it.
-- Assumes nothing.
use Rattle.std.specs.Prelude.{◌<◌, ◌≤◌, ◌+◌, ◌≡◌, ◌∷◌, ◌++◌}
use Rattle.laws.specs.Prelude.{ℕ, suc, zero, ◌∙◌, sym, ap, refl, List, [], append_assoc, add-zero, suc-add, add-suc}
use Rattle.laws.specs.Prelude.{arith, length, get_or, take, drop, set, length-set, length-drop, take-append-drop, get_or-set_same, get_or-set_other}
use Rattle.laws.specs.Prelude.{length-take-le, take_at, paste, sets, take_all, drop_at, drop-append-le, take-append-le}

module _ {A : Type 0} (d : List A) (from : ℕ) (v : List A) (n : ℕ) (fits : from + n ≤ length d) (long : length v ≡ n) where
  front : length (take from d) ≡ from
  front = length-take-le from d (omega arith)

  -- what is before the paste stays
  pub part_before : (a k : ℕ) → a + k ≤ from → take k (drop a (paste d from v n)) ≡ take k (drop a d)
  part_before a k h =
      ap (λ l. take k (drop a l)) (append_assoc (take from d) (take n v) (drop (from + n) d))
      ∙ before (take n v ++ drop (from + n) d)
      ∙ sym (before (drop from d))
      ∙ ap (λ l. take k (drop a l)) (take-append-drop from d)
    where
      before : (rest : List A) → take k (drop a (take from d ++ rest)) ≡ take k (drop a (take from d))
      before rest =
          ap (take k) (drop-append-le a (take from d) rest (rw front (omega arith)))
          ∙ take-append-le k (drop a (take from d)) rest (rw (length-drop a (take from d), front) (omega arith))

  -- the pasted part is there
  pub part_pasted : take n (drop from (paste d from v n)) ≡ v
  part_pasted =
      ap (λ l. take n (drop from l)) (append_assoc (take from d) (take n v) (drop (from + n) d))
      ∙ ap (take n) (drop_at (take from d) (take n v ++ drop (from + n) d) from front)
      ∙ ap (λ l. take n (l ++ drop (from + n) d)) (take_all n v (omega arith))
      ∙ take_at v (drop (from + n) d) n long

-- writing t and then u after it is writing t ++ u
pub sets_append : (t u l : List ℕ) (at : ℕ) → sets l at (t ++ u) ≡ sets (sets l at t) (at + length t) u
sets_append [] u l at = ap (λ (k : ℕ). sets l k u) (sym (add-zero at))
sets_append (b ∷ t) u l at =
    sets_append t u (set l at b) (suc at)
    ∙ ap (λ (k : ℕ). sets (sets (set l at b) (suc at) t) k u) (suc-add at (length t) ∙ sym (add-suc at (length t)))

-- what writing a text at `at` changes, place by place: nothing before it, ..
module _ {A : Type 0} where
  pub sets_before : (t l : List A) (at q : ℕ) (d : A) → q < at → get_or (sets l at t) q d ≡ get_or l q d
  sets_before [] l at q d h = refl
  sets_before (b ∷ t) l at q d h = sets_before t (set l at b) (suc at) q d (omega arith) ∙ get_or-set_other l at q b d (λ e. omega arith)

  -- .. nothing after it, ..
  pub sets_behind : (t l : List A) (at q : ℕ) (d : A) → at + length t ≤ q → get_or (sets l at t) q d ≡ get_or l q d
  sets_behind [] l at q d h = refl
  sets_behind (b ∷ t) l at q d h = sets_behind t (set l at b) (suc at) q d (omega arith) ∙ get_or-set_other l at q b d (λ e. omega arith)

  -- .. and there is the text
  pub sets_there : (t l : List A) (at k : ℕ) (d : A) → k < length t → at + length t ≤ length l → get_or (sets l at t) (at + k) d ≡ get_or t k d
  sets_there [] l at k d h fits = absurd (omega arith)
  sets_there (b ∷ t) l at zero d h fits =
      rw add-zero (sets_before t (set l at b) (suc at) at d (omega arith) ∙ get_or-set_same l at b d (omega arith))
  sets_there (b ∷ t) l at (suc k) d h fits =
      rw (add-suc, ← (suc-add at k)) (sets_there t (set l at b) (suc at) k d (omega arith) (rw length-set (omega arith)))
