-- `radix::powers::weights` meets its contract. The loop's invariant: the inputs from `i` on have their weights, and `w` is the next. Assumes
-- nothing.
use Rattle.std.specs.Prelude.{◌<◌, ◌≤◌, ◌-◌, ◌^◌, ◌*◌, ◌≡◌}
use Rattle.laws.specs.Prelude.{ℕ, suc, ◌∙◌, sym, ap, subst⁻¹, List, pow-suc, pow-le-pow_right, ℕ_discrete}
use Rattle.laws.specs.Prelude.{arith, length, get_or, set, get_or-set_same, get_or-set_other}
use Rattle.radix.proofs.powers.weights.Goals as goal

-- the next weight
one_more : (m n i w : ℕ) → 0 < i → i ≤ n → w ≡ m ^ (n - i) → w * m ≡ m ^ (n - (i - 1))
one_more m n i w some low e =
    let next : n - (i - 1) ≡ suc (n - i) = omega arith in
    ap (λ (k : ℕ). k * m) e ∙ sym (pow-suc m (n - i)) ∙ ap (λ (k : ℕ). m ^ k) (sym next)

-- and a weight is small
weight_below : (m n i w : ℕ) → 0 < m → w ≡ m ^ (n - i) → w ≤ m ^ n
weight_below m n i w some e = subst⁻¹ (λ (k : ℕ). k ≤ m ^ n) e (pow-le-pow_right some (omega arith))

-- one more input has its weight
turn : (m n i w : ℕ) (out : List ℕ) → 0 < i → i ≤ length out → w ≡ m ^ (n - i) → ((j : ℕ) → i ≤ j → j < n → get_or out j 0 ≡ m ^ (n - 1 - j))
    → (j : ℕ) → i - 1 ≤ j → j < n → Dec (j ≡ i - 1) → get_or (set out (i - 1) w) j 0 ≡ m ^ (n - 1 - j)
turn m n i w out some room e known j low high (yes here) =
    ap (λ (k : ℕ). get_or (set out (i - 1) w) k 0) here
    ∙ get_or-set_same out (i - 1) w 0 (omega arith)
    ∙ e
    ∙ ap (λ (k : ℕ). m ^ k) (omega arith)
turn m n i w out some room e known j low high (no other) = get_or-set_other out (i - 1) j w 0 other ∙ known j (omega arith) high

pub overflow_cast-out : goal.overflow_cast-out
overflow_cast-out c =
    let a = c.args in
    let l = c.loop-i in
    omega (arith, weight_below a.m a.n l.i l.w c.requires.0 l.invariant.0)

pub overflow_mul-w : goal.overflow_mul-w
overflow_mul-w c =
    let a = c.args in
    let l = c.loop-i in
    omega (
      arith,
      weight_below a.m a.n (l.i - 1) (l.w * a.m) c.requires.0
          (one_more a.m a.n l.i l.w (omega arith) (omega arith) l.invariant.0),
    )

pub loop-i-preserved : goal.loop-i-preserved
loop-i-preserved c =
    let a = c.args in
    let l = c.loop-i in (
      one_more a.m a.n l.i l.w (omega arith) (omega arith) l.invariant.0,
      λ j low high. turn a.m a.n l.i l.w l.out (omega arith) (omega arith) l.invariant.0 l.invariant.1 j low high (ℕ_discrete j (l.i - 1)),
    )
