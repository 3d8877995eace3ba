-- The layers of a gate list are its settling time if every input arrives at 0 and each gate takes 1.
-- Assumes nothing.
use Rattle.std.specs.Prelude.{◌<◌, ◌+◌, ◌-◌, ◌≡◌, ◌∷◌, ◌++◌}
use Rattle.laws.specs.Prelude.{ℕ, suc, zero, max, ◌∙◌, sym, ap, refl, ap₂, List, [], map, arith, length, get_or}
use Rattle.laws.specs.Prelude.{length-append, length-map, replicate}
use Rattle.rules.specs.Lists.{range, with_each}
use Rattle.rules.specs.Sheets.SheetRules.{RefersBack}
use Rattle.rules.specs.Sheets.Sheets.{Gate}
use Rattle.rules.specs.Nets.Layers.{gate_ways, with_ways, ways_of, most, layers}
use Rattle.laws.specs.Lists.Concat.{map-append}
use Rattle.laws.specs.Lists.Extremes.{most_append, most_suc}
use Rattle.laws.specs.Lists.Places.{each_snoc, length_snoc, map_at}
use Rattle.laws.specs.Lists.Ranges.{map_range_all, map_range_at, map_range_length}
use Rattle.laws.specs.Lists.WithEach.{with_each_length}
use Rattle.laws.specs.Nets.Times.{gate_time, with_times}

-- ---- they are the most gates on a way

-- there is a way to every reference
abbrev Reached : List (List ℕ) → Type 0
Reached ways = (i : ℕ) → i < length ways → 0 < length (get_or ways i [])

module _ (ways : List (List ℕ)) (reached : Reached ways) (g : Gate) (left : g.left < length ways) (right : g.right < length ways) where
  -- and also to the next gate
  gate_reached : 0 < length (gate_ways ways g)
  unfolding gate_ways
  gate_reached = rw (length-map, length-append) (omega (arith, reached g.left left))

  gate_depth : most (gate_ways ways g) ≡ gate_time 1 (map most ways) g
  unfolding gate_ways gate_time
  gate_depth =
      let both = get_or ways g.left [] ++ get_or ways g.right [] in
      most_suc both (rw length-append (omega (arith, reached g.left left)))
      ∙ ap suc (most_append (get_or ways g.left []) (get_or ways g.right []))
      ∙ ap₂ (λ (a b : ℕ). suc (max a b)) (sym (map_at most ways g.left [] 0 left)) (sym (map_at most ways g.right [] 0 right))
      ∙ omega arith

pub ways_depths : (ways : List (List ℕ)) (gates : List Gate) → Reached ways → RefersBack (length ways) gates
    → map most (with_ways ways gates) ≡ with_times 1 (map most ways) gates
unfolding with_each
ways_depths ways [] reached back = refl
ways_depths ways (g ∷ gates) reached back =
    let more = ways ++ (gate_ways ways g ∷ []) in
    ways_depths more gates
    (each_snoc (λ (way : List ℕ). 0 < length way) [] ways (gate_ways ways g) reached (gate_reached ways reached g back.0 back.1))
    (rw length_snoc back.2)
    ∙ ap (λ (depths : List ℕ). with_times 1 depths gates)
    (map-append most ways (gate_ways ways g ∷ []) ∙ ap (λ (d : ℕ). map most ways ++ (d ∷ [])) (gate_depth ways reached g back.0 back.1))

-- ---- the layers of a gate list

module _ (n : ℕ) (gates : List Gate) (some : 0 < length gates) (back : RefersBack n gates) where
  abbrev input_ways : List (List ℕ)
  input_ways = map (λ _. 0 ∷ []) (range 0 n)

  inputs_many : length input_ways ≡ n
  inputs_many = map_range_length {A = List ℕ} (λ _. 0 ∷ []) 0 n

  inputs_reached : Reached input_ways
  inputs_reached i h = rw (map_range_at {A = List ℕ} (λ _. 0 ∷ []) 0 n i [] (rw inputs_many at h)) (omega arith)

  -- every input has depth 0
  inputs_depth : map most input_ways ≡ replicate n 0
  unfolding most
  inputs_depth = ap (map most) (map_range_all {A = List ℕ} (0 ∷ []) 0 n) ∙ zeros n
    where
      zeros : (k : ℕ) → map most (replicate k (0 ∷ [])) ≡ replicate k 0
      zeros zero = refl
      zeros (suc k) = ap {B = List ℕ} (λ ds. 0 ∷ ds) (zeros k)

  -- they are the depth of the last gate
  pub layers_depth : layers n gates ≡ get_or (with_times 1 (replicate n 0) gates) (n + length gates - 1) 0
  unfolding layers ways_of
  layers_depth =
      let all = with_ways input_ways gates in
      sym (map_at most all (n + length gates - 1) [] 0 (omega (arith, with_each_length gate_ways input_ways gates, inputs_many)))
      ∙ ap (λ (ds : List ℕ). get_or ds (n + length gates - 1) 0)
      (ways_depths input_ways gates inputs_reached (rw inputs_many back) ∙ ap (λ (ds : List ℕ). with_times 1 ds gates) inputs_depth)
