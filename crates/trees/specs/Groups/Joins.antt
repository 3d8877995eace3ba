-- Two groups that share no input, and their join: the levels of the join determine the levels of each, and a value that determines the ink
-- over the join determines it over each.
-- Assumes nothing.
use Rattle.std.specs.Prelude.{◌<◌, ◌+◌, ◌^◌, ◌≡◌}
use Rattle.laws.specs.Prelude.{ℕ, ◌∙◌, sym, ap, true, false, and-true, and_comm, add_comm, test_cases}
use Rattle.rules.specs.Groups.Groups.{member, part}
use Rattle.rules.specs.Nets.Trees.{Apart}
use Rattle.rules.specs.Sheets.Sheets.{level}
use Rattle.laws.specs.Lists.Tests.{or_false_iff}
use Rattle.trees.specs.Trees.Trees.{Tells, mix}
use Rattle.trees.specs.Groups.Members.{member_join, join_below}
use Rattle.trees.specs.Groups.Levels.{level_ext, level_part_in, level_mix_in, level_mix_out, mix_below, part_ext, part_mix}

-- sharing no input is symmetric
pub apart_sym : (n a b : ℕ) → Apart n a b → Apart n b a
apart_sym n a b apart i h = and_comm (member i b) (member i a) ∙ apart i h

-- v depends only on what group g is given
abbrev pub Over : ℕ → ℕ → ℕ → (ℕ → ℕ) → Type 0
Over m n g v = (p q : ℕ) → part m n g p ≡ part m n g q → v p ≡ v q

module _ (m n : ℕ) (pos : 0 < m) (a b : ℕ) (a< : a < 2 ^ n) (b< : b < 2 ^ n) (apart : Apart n a b) where
  -- a member of the left group is a member of the join
  in_join : (i : ℕ) → i < n → member i a ≡ true → member i (a + b) ≡ true
  in_join i h e = rw (member_join i n a b a< b< apart h, e)

  -- and an input outside the join is outside the left group
  out_of_join : (i : ℕ) → i < n → member i (a + b) ≡ false → member i a ≡ false
  out_of_join i h e = ((or_false_iff (member i a) (member i b)).0 (sym (member_join i n a b a< b< apart h) ∙ e)).0

  -- what a join is given determines what its left group is given
  pub part_left : (p q : ℕ) → part m n (a + b) p ≡ part m n (a + b) q → part m n a p ≡ part m n a q
  part_left p q e = part_ext m n pos a p q (λ i h k. same i h (in_join i h k))
    where
      same : (i : ℕ) → i < n → member i (a + b) ≡ true → level m n p i ≡ level m n q i
      same i h k = sym (level_part_in m n pos (a + b) p i h k) ∙ ap (λ r. level m n r i) e ∙ level_part_in m n pos (a + b) q i h k

  -- a mix over a has y's levels at b
  mix_apart : (p y : ℕ) → part m n b (mix m n a p y) ≡ part m n b y
  mix_apart p y = part_ext m n pos b (mix m n a p y) y (λ i h k. level_mix_out m n pos a p y i a< h (out i h k))
    where
      out : (i : ℕ) → i < n → member i b ≡ true → member i a ≡ false
      out i h k = sym (and-true (member i a)) ∙ (rw k at (apart i h))

  -- a mix over a, mixed over the join with the same y, stays the same
  mix_again : (p y : ℕ) → mix m n (a + b) (mix m n a p y) y ≡ mix m n a p y
  mix_again p y = level_ext m n pos (mix m n (a + b) (mix m n a p y) y) (mix m n a p y)
      (mix_below m n pos (a + b) (mix m n a p y) y g<) (mix_below m n pos a p y a<) (λ i h. test_cases (member i (a + b))
      (λ e. level_mix_in m n pos (a + b) (mix m n a p y) y i g< h e)
      (λ e. level_mix_out m n pos (a + b) (mix m n a p y) y i g< h e ∙ sym (level_mix_out m n pos a p y i a< h (out_of_join i h e))))
    where
      g< : a + b < 2 ^ n
      g< = join_below n a b a< b< apart

  -- A value v over a and a value w over b determine a value x over the join. If x determines the ink, v does.
  pub tells_left : (f v w x : ℕ → ℕ) → Over m n a v → Over m n b w → ((p q : ℕ) → v p ≡ v q → w p ≡ w q → x p ≡ x q)
      → Tells m n f (a + b) x → Tells m n f a v
  tells_left f v w x over_a over_b settles tells p q e y =
      let w_same = over_b _ _ (mix_apart p y ∙ sym (mix_apart q y)) in
      let v_same = over_a _ p (part_mix m n pos a p y a<) ∙ e ∙ sym (over_a _ q (part_mix m n pos a q y a<)) in
      sym (ap f (mix_again p y)) ∙ tells (mix m n a p y) (mix m n a q y) (settles _ _ v_same w_same) y ∙ ap f (mix_again q y)

-- the same for the right group
module _ (m n : ℕ) (pos : 0 < m) (a b : ℕ) (a< : a < 2 ^ n) (b< : b < 2 ^ n) (apart : Apart n a b) where
  pub part_right : (p q : ℕ) → part m n (a + b) p ≡ part m n (a + b) q → part m n b p ≡ part m n b q
  part_right p q e = part_left m n pos b a b< a< (apart_sym n a b apart) p q (rw (add_comm b a) e)

  pub tells_right : (f v w x : ℕ → ℕ) → Over m n a v → Over m n b w → ((p q : ℕ) → v p ≡ v q → w p ≡ w q → x p ≡ x q)
      → Tells m n f (a + b) x → Tells m n f b w
  tells_right f v w x over_a over_b settles tells =
      tells_left m n pos b a b< a< (apart_sym n a b apart) f w v x over_b over_a (λ p q d e. settles p q e d) (rw (add_comm b a) tells)
