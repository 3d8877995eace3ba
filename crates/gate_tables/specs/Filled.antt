-- A wiring filled link by link: what is done, and what remains.
-- Assumes nothing.
use Rattle.std.specs.Prelude.{◌<◌, ◌≤◌, ◌+◌, ◌^◌, ◌≡◌, ◌∷◌, ◌++◌}
use Rattle.laws.specs.Prelude.{ℕ, suc, zero, ◌∙◌, sym, ap, refl, subst, ap₂, subst⁻¹, subst₂, Bool, List, [], add-zero}
use Rattle.laws.specs.Prelude.{add-one, dec_lt, ℕ_discrete, arith, eqb, length, get_or, take, drop, length-drop, get_or-append_seam, eq-eqb, ne_eqb}
use Rattle.rules.specs.Lists.{range, with_each}
use Rattle.rules.specs.Groups.Groups.{multiplicity}
use Rattle.rules.specs.Sheets.Sheets.{Gate}
use Rattle.rules.specs.Nets.Wirings.{Link}
use Rattle.rules.specs.Nets.Filling.{gate_digits, input_groups, filled_from, filled}
use Rattle.laws.specs.Lists.Places.{length_snoc}
use Rattle.laws.specs.Lists.WithEach.{with_each_earlier}
use Rattle.trees.specs.Groups.Classes.{Few, few_classes}
use Rattle.trees.specs.Filling.DigitRule.{Parts, join_small}
use Rattle.trees.specs.Filling.Fillings.{Fillable, link_group, with_groups, inputs_grouped}
use Rattle.nets.specs.declared.forms.Net.{Net}
use Rattle.nets.specs.Forms.{gates_of, no_gates}
use Rattle.wirings.specs.declared.forms.Wiring.{Wiring}
use Rattle.wirings.specs.Links.{link_at, links_in, links_count, link_in}
use Rattle.gate_tables.specs.Growth.{Joined}

-- the net of a wiring
pub record Filled (m n : ℕ) (f : ℕ → ℕ) (wiring : Wiring) (net : Net) : Type 0 where
  pub levels : net.levels ≡ m
  pub inputs : net.inputs ≡ n
  pub count : net.gates ≡ wiring.gates
  pub gates : gates_of net ≡ filled m n f (links_in wiring)

-- the group of the gate with k gates before it
abbrev pub link_group_at : ℕ → List Link → ℕ → ℕ
link_group_at n links k = get_or (with_groups (input_groups n) links) (n + k) 0

-- the net of a wiring, up to the first gate whose group has too many classes
pub record FilledTo (m n : ℕ) (f : ℕ → ℕ) (wiring : Wiring) (net : Net) : Type 0 where
  pub levels : net.levels ≡ m
  pub inputs : net.inputs ≡ n
  pub count : net.gates ≤ wiring.gates
  pub gates : net.gates ≡ wiring.gates → gates_of net ≡ filled m n f (links_in wiring)
  pub few : (k : ℕ) → k < net.gates → Few m n f (link_group_at n (links_in wiring) k)
  pub many : net.gates < wiring.gates → m < multiplicity m n f (link_group_at n (links_in wiring) net.gates)

-- ---- a link among others

-- the gate of a link, where `groups` holds the groups of its references
abbrev gate_on : ℕ → ℕ → (ℕ → ℕ) → Bool → List ℕ → Link → Gate
gate_on m n f last groups l =
    record { left = l.left; right = l.right; digits = gate_digits m n f last (get_or groups l.left 0) (get_or groups l.right 0) }

-- Link k of a list: its references are earlier, their groups may be joined, its own group is their union, and its gate is the next.
pub record LinkAt (m n : ℕ) (h f : ℕ → ℕ) (groups : List ℕ) (links : List Link) (k : ℕ) (l : Link) : Type 0 where
  pub earlier : (l.left < length groups + k) × (l.right < length groups + k)
  pub joins : Parts m n h (get_or (with_groups groups links) l.left 0) (get_or (with_groups groups links) l.right 0)
  pub group : get_or (with_groups groups links) (length groups + k) 0 ≡ link_group (with_groups groups links) l
  pub gates : take (suc k) (filled_from m n f groups links)
      ≡ take k (filled_from m n f groups links) ++ (gate_on m n f (eqb (length (drop (suc k) links)) 0) (with_groups groups links) l ∷ [])

module _ (m n : ℕ) (h f : ℕ → ℕ) where
  link_at_lem : (groups : List ℕ) (links : List Link) → Fillable m n h groups links → (k : ℕ) → k < length links → (d : Link)
      → LinkAt m n h f groups links k (get_or links k d)
  unfolding with_each filled_from
  link_at_lem groups [] may k k< d = absurd (omega arith)
  link_at_lem groups (l ∷ links) may zero k< d =
      let same : (r : ℕ) → r < length groups → get_or groups r 0 ≡ get_or (with_groups groups (l ∷ links)) r 0 =
      λ r r<. sym (with_each_earlier link_group 0 groups (l ∷ links) r r<) in
      record {
        earlier = (omega (arith, may.0), omega (arith, may.1));
        joins = subst₂ (Parts m n h) (same _ may.0) (same _ may.1) may.2;
        group = ap (λ (i : ℕ). get_or (with_groups groups (l ∷ links)) i 0) (add-zero (length groups))
            ∙ with_each_earlier link_group 0 (groups ++ (link_group groups l ∷ [])) links (length groups) (omega (arith, length_snoc groups (link_group groups l)))
            ∙ get_or-append_seam groups (link_group groups l) [] 0
            ∙ ap₂ (λ (x y : ℕ). x + y) (same _ may.0) (same _ may.1);
        gates = ap₂ (λ (x y : ℕ). record { left = l.left; right = l.right; digits = gate_digits m n f (eqb (length links) 0) x y } ∷ [])
            (same _ may.0) (same _ may.1);
      }
  link_at_lem groups (l ∷ links) may (suc k) k< d =
      let more : List ℕ = groups ++ (link_group groups l ∷ []) in
      let on : length more + k ≡ length groups + suc k = omega (arith, length_snoc groups (link_group groups l)) in
      let rest = link_at_lem more links may.3 k (omega arith) d in
      record {
        earlier = (omega (arith, rest.earlier), omega (arith, rest.earlier));
        joins = rest.joins;
        group = ap (λ (i : ℕ). get_or (with_groups more links) i 0) (sym on) ∙ rest.group;
        gates = ap (λ (gs : List Gate). gate_on m n f (eqb (length links) 0) groups l ∷ gs) rest.gates;
      }

  -- as many gates as links
  all_gates : (groups : List ℕ) (links : List Link) → take (length links) (filled_from m n f groups links) ≡ filled_from m n f groups links
  unfolding filled_from
  all_gates groups [] = refl
  all_gates groups (l ∷ links) =
      ap (λ (gs : List Gate). gate_on m n f (eqb (length links) 0) groups l ∷ gs) (all_gates (groups ++ (link_group groups l ∷ [])) links)

-- the same for a wiring's links, after the inputs
module _ (m n : ℕ) (h f : ℕ → ℕ) (links : List Link) (may : Fillable m n h (input_groups n) links) (k : ℕ) (k< : k < length links) (l : Link)
    (is : get_or links k l ≡ l) where
  link : LinkAt m n h f (input_groups n) links k l
  link = subst (LinkAt m n h f (input_groups n) links k) is (link_at_lem m n h f (input_groups n) links may k k< l)

  -- its references are earlier
  pub earlier : (l.left < n + k) × (l.right < n + k)
  earlier = (omega (arith, link.earlier, (inputs_grouped n).0), omega (arith, link.earlier, (inputs_grouped n).0))

  -- their groups may be joined
  pub joins : Parts m n h (get_or (with_groups (input_groups n) links) l.left 0) (get_or (with_groups (input_groups n) links) l.right 0)
  joins = link.joins

  -- and its own group is their union
  pub own_group : link_group_at n links k ≡ link_group (with_groups (input_groups n) links) l
  own_group = ap (λ (i : ℕ). get_or (with_groups (input_groups n) links) i 0) (omega (arith, (inputs_grouped n).0)) ∙ link.group

-- ---- what can be filled

-- every group has few classes in a table whose inks are all 0
pub few_blank : (m n : ℕ) → 0 < m → (g : ℕ) → g < 2 ^ n → Few m n (λ _. 0) g
few_blank m n pos g g< = few_classes m n pos (λ _. 0) g g< m (λ _. 0) (λ _. pos) (λ p q e y. refl)

module _ (m n : ℕ) (pos : 0 < m) (f : ℕ → ℕ) where
  pub fillable_blank : (groups : List ℕ) (links : List Link) → Fillable m n f groups links → Fillable m n (λ _. 0) groups links
  fillable_blank groups [] may = tt
  fillable_blank groups (l ∷ links) may =
      let parts = may.2 in (
        may.0,
        may.1,
        record {
          some_a = parts.some_a;
          some_b = parts.some_b;
          a_below = parts.a_below;
          b_below = parts.b_below;
          apart = parts.apart;
          few_a = few_blank m n pos _ parts.a_below;
          few_b = few_blank m n pos _ parts.b_below;
          few = few_blank m n pos _ (join_small m n pos f _ _ parts);
        },
        fillable_blank (groups ++ (link_group groups l ∷ [])) links may.3,
      )

  -- then no gate has too many
  pub filled_all : (wiring : Wiring) (net : Net) → Fillable m n f (input_groups n) (links_in wiring) → FilledTo m n f wiring net → Filled m n f wiring net
  filled_all wiring net may to =
      let all : net.gates ≡ wiring.gates = go (dec_lt net.gates wiring.gates) in
      record { levels = to.levels; inputs = to.inputs; count = all; gates = to.gates all }
    where
      go : Dec (net.gates < wiring.gates) → net.gates ≡ wiring.gates
      go (no h) = omega (arith, to.count)
      go (yes h) =
          let k< : net.gates < length (links_in wiring) = omega (arith, links_count wiring) in
          let l = link_at wiring net.gates in
          let is = link_in wiring net.gates l h in
          absurd (omega (
            arith,
            to.many h,
            subst⁻¹ (Few m n f) (own_group m n f f (links_in wiring) may net.gates k< l is) (joins m n f f (links_in wiring) may net.gates k< l is).few,
          ))

-- the first k links are filled, and their gates' groups have few classes
pub record Going (m n : ℕ) (f : ℕ → ℕ) (links : List Link) (k : ℕ) (net : Net) : Type 0 where
  pub levels : net.levels ≡ m
  pub inputs : net.inputs ≡ n
  pub count : net.gates ≡ k
  pub few : (j : ℕ) → j < k → Few m n f (link_group_at n links j)
  pub gates : gates_of net ≡ take k (filled m n f links)

module _ (m n : ℕ) (f : ℕ → ℕ) (links : List Link) where
  -- before the first
  pub going_start : Going m n f links 0 (no_gates m n)
  unfolding no_gates gates_of range
  going_start = record { levels = refl; inputs = refl; count = refl; few = λ j h. absurd (omega arith); gates = refl }

  -- the next link
  module _ (may : Fillable m n (λ _. 0) (input_groups n) links) (k : ℕ) (net : Net) (going : Going m n f links k net) (k< : k < length links) (l : Link)
      (is : get_or links k l ≡ l) where
    abbrev groups : List ℕ
    groups = with_groups (input_groups n) links

    -- it is the last if no other link remains
    last_left : eqb (length (drop (suc k) links)) 0 ≡ eqb (k + 1) (length links)
    last_left = go (dec_lt (k + 1) (length links))
      where
        go : Dec (k + 1 < length links) → eqb (length (drop (suc k) links)) 0 ≡ eqb (k + 1) (length links)
        go (yes more) =
            ne_eqb (length (drop (suc k) links)) 0 (λ e. omega (arith, length-drop (suc k) links))
            ∙ sym (ne_eqb (k + 1) (length links) (λ e. omega arith))
        go (no end) =
            eq-eqb (length (drop (suc k) links)) 0 (omega (arith, length-drop (suc k) links))
            ∙ sym (eq-eqb (k + 1) (length links) (omega arith))

    pub going_next : Few m n f (link_group groups l) → (after : Net)
        → Joined m n f (eqb (k + 1) (length links)) (get_or groups l.left 0) (get_or groups l.right 0) l.left l.right net after
        → Going m n f links (k + 1) after
    unfolding filled
    going_next few after joined =
        record {
          levels = joined.levels ∙ going.levels;
          inputs = joined.inputs ∙ going.inputs;
          count = joined.count ∙ ap (λ (j : ℕ). j + 1) going.count;
          few = λ j h. each j h (ℕ_discrete j k);
          gates = joined.gates
              ∙ ap₂ (λ (gs : List Gate) (last : Bool). gs ++ (gate_on m n f last groups l ∷ [])) going.gates (sym last_left)
              ∙ sym (link m n (λ _. 0) f links may k k< l is).gates
              ∙ ap (λ (j : ℕ). take j (filled m n f links)) (sym (add-one k));
        }
      where
        each : (j : ℕ) → j < k + 1 → Dec (j ≡ k) → Few m n f (link_group_at n links j)
        each j h (yes e) = rw (e, own_group m n (λ _. 0) f links may k k< l is) few
        each j h (no ne) = going.few j (omega arith)

-- what is filled when the code stops: before a gate with too many classes, or after the last

module _ (m n : ℕ) (f : ℕ → ℕ) (wiring : Wiring) (k : ℕ) (net : Net) (going : Going m n f (links_in wiring) k net) where
  pub filled_stop : k < wiring.gates → m < multiplicity m n f (link_group_at n (links_in wiring) k) → FilledTo m n f wiring net
  filled_stop more many =
      record {
        levels = going.levels;
        inputs = going.inputs;
        count = omega (arith, going.count);
        gates = λ e. absurd (omega (arith, going.count));
        few = λ j h. going.few j (omega (arith, going.count));
        many = λ _. subst⁻¹ (λ (j : ℕ). m < multiplicity m n f (link_group_at n (links_in wiring) j)) going.count many;
      }

  pub filled_end : k ≡ wiring.gates → FilledTo m n f wiring net
  unfolding filled
  filled_end end =
      record {
        levels = going.levels;
        inputs = going.inputs;
        count = omega (arith, going.count);
        gates = λ _. going.gates ∙ ap (λ (j : ℕ). take j (filled m n f (links_in wiring))) (end ∙ sym (links_count wiring))
            ∙ all_gates m n f f (input_groups n) (links_in wiring);
        few = λ j h. going.few j (omega (arith, going.count));
        many = λ h. absurd (omega (arith, going.count));
      }
