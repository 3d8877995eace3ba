-- The settling time of a gate list, whatever its wiring: with later arrivals at the used inputs it is no earlier, and in a finer unit it is the same
-- time. "Arrival times count used inputs only." (document 02, K12)
-- Assumes nothing.
use Rattle.std.specs.Prelude.{◌≤◌, ◌+◌, ◌*◌, ◌≡◌}
use Rattle.laws.specs.Prelude.{ℕ, ◌∙◌, sym, ap, List, Memᴰ, add-mul, mul_right_comm, arith, get_or}
use Rattle.rules.specs.Nets.Arrivals.{gates_on_way, used_inputs, settling_time}
use Rattle.rules.specs.Sheets.Sheets.{Gate}
use Rattle.laws.specs.Lists.Extremes.{most_more, most_same, most_times}

module _ (n : ℕ) (gates : List Gate) where
  pub settles_later : (delay : ℕ) (xs ys : List ℕ) → ((i : ℕ) → Memᴰ i (used_inputs n gates) → get_or xs i 0 ≤ get_or ys i 0)
      → settling_time n gates delay xs ≤ settling_time n gates delay ys
  unfolding settling_time
  settles_later delay xs ys later = most_more _ _ (used_inputs n gates) (λ i listed. omega (arith, later i listed))

  -- the same arrivals at them settle at the same time
  pub settles_same : (delay : ℕ) (xs ys : List ℕ) → ((i : ℕ) → Memᴰ i (used_inputs n gates) → get_or xs i 0 ≡ get_or ys i 0)
      → settling_time n gates delay xs ≡ settling_time n gates delay ys
  unfolding settling_time
  settles_same delay xs ys same = most_same _ _ (used_inputs n gates) (λ i listed. ap (λ (x : ℕ). x + delay * gates_on_way n gates i) (same i listed))

  -- scales every arrival and the delay by k
  pub settles_scaled : (delay k : ℕ) (xs ys : List ℕ) → ((i : ℕ) → Memᴰ i (used_inputs n gates) → get_or ys i 0 ≡ get_or xs i 0 * k)
      → settling_time n gates (delay * k) ys ≡ settling_time n gates delay xs * k
  unfolding settling_time
  settles_scaled delay k xs ys scaled =
      most_same _ _ (used_inputs n gates) each
      ∙ most_times (λ i. get_or xs i 0 + delay * gates_on_way n gates i) k (used_inputs n gates)
    where
      each : (i : ℕ) → Memᴰ i (used_inputs n gates) → get_or ys i 0 + delay * k * gates_on_way n gates i ≡ (get_or xs i 0 + delay * gates_on_way n gates i) * k
      each i h =
          let way = gates_on_way n gates i in
          ap (λ (x : ℕ). x + delay * k * way) (scaled i h)
          ∙ ap (λ (x : ℕ). get_or xs i 0 * k + x) (mul_right_comm delay k way)
          ∙ sym (add-mul (get_or xs i 0) (delay * way) k)
