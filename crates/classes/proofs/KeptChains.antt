-- The first of each class in chains, one chain for each key.
-- Assumes nothing.
use Rattle.std.specs.Prelude.{◌<◌, ◌≤◌, ◌+◌, ◌≡◌}
use Rattle.laws.specs.Prelude.{ℕ, ◌∙◌, sym, ap, subst, subst⁻¹, true, false, Bool, true≢false, List, arith, length}
use Rattle.laws.specs.Prelude.{get_or, take, set, get_or-set_same, get_or-set_other, get_or-take, length-take-le}
use Rattle.rules.specs.Lists.{first_place}
use Rattle.rules.specs.Groups.Groups.{alike_over}
use Rattle.laws.specs.Lists.FirstPlaces.{first_passing}
use Rattle.laws.specs.Lists.Places.{mem_get_or}
use Rattle.laws.specs.Lists.Tests.{mem_any, not_true_false}
use Rattle.classes.specs.Chains.{InChain, here, later, NoChains, Searched}
use Rattle.classes.specs.Counting.{by_set}
use Rattle.classes.specs.Firsts.{search_is}
use Rattle.classes.specs.Keys.{key_of, alike_key}

-- a link leads to an earlier place
abbrev pub Backward : List ℕ → ℕ → Type 0
Backward links count = (j : ℕ) → j < count → get_or links j 0 ≤ j

-- a chain visits only places before its head, so a later link does not change it
pub chain_kept : (links : List ℕ) (count v j head : ℕ) → Backward links count → head ≤ count → InChain links j head → InChain (set links count v) j head
chain_kept links count v j head back low (here _ e) = here head e
chain_kept links count v j head back low (later _ i e rest) =
    let same : get_or (set links count v) i 0 ≡ get_or links i 0 = get_or-set_other links count i v 0 (omega arith) in
    later head i e (subst⁻¹ (InChain (set links count v) j) same (chain_kept links count v j (get_or links i 0) back (omega (arith, back i (omega arith))) rest))

module _ (m : ℕ) (f : ℕ → ℕ) (ys : List ℕ) (width : ℕ) where
  abbrev key_at : List ℕ → ℕ → ℕ
  key_at fs j = key_of m f ys width (get_or fs j 0)

  -- the first `count` of fs are each in the chain of their key
  pub record Chained (fs links heads : List ℕ) (count : ℕ) : Type 0 where
    pub backward : Backward links count
    pub low : (b : ℕ) → get_or heads b 0 ≤ count
    pub reached : (j : ℕ) → j < count → InChain links j (get_or heads (key_at fs j) 0)

  pub chained_none : (fs links heads : List ℕ) → NoChains heads → Chained fs links heads 0
  chained_none fs links heads none =
      record { backward = λ j h. absurd (omega arith); low = λ b. omega (arith, none b); reached = λ j h. absurd (omega arith) }

  -- one more, with its key
  module _ {fs links heads : List ℕ} {count : ℕ} (chains : Chained fs links heads count) (p key : ℕ) (is : key ≡ key_of m f ys width p) where
    abbrev head : ℕ
    head = get_or heads key 0

    module _ (room : count < length fs) (room_links : count < length links) (room_heads : key < length heads) where
      pub chained_new : Chained (set fs count p) (set links count head) (set heads key (count + 1)) (count + 1)
      chained_new = record { backward = back; low = low; reached = reach }
        where
          links' : List ℕ
          links' = set links count head

          heads' : List ℕ
          heads' = set heads key (count + 1)

          back : Backward links' (count + 1)
          back j h = by_set (λ x. x ≤ j) links count head j room_links (λ e. omega (arith, e, chains.low key)) (λ ne. chains.backward j (omega (arith, ne)))

          low : (b : ℕ) → get_or heads' b 0 ≤ count + 1
          low b = by_set (λ x. x ≤ count + 1) heads key (count + 1) b room_heads (λ _. omega arith) (λ _. omega (arith, chains.low b))

          -- an earlier one, in a chain that may have a new head
          old : (j : ℕ) → j < count → (b : ℕ) → InChain links j (get_or heads b 0) → InChain links' j (get_or heads' b 0)
          old j h b chain =
              let kept = chain_kept links count head j (get_or heads b 0) chains.backward (chains.low b) chain in
              by_set (InChain links' j) heads key (count + 1) b room_heads
              (λ e. later _ count (omega arith) (subst⁻¹ (InChain links' j) (get_or-set_same links count head 0 room_links)
              (subst (λ (k : ℕ). InChain links' j (get_or heads k 0)) e kept)))
              (λ _. kept)

          reach : (j : ℕ) → j < count + 1 → InChain links' j (get_or heads' (key_at (set fs count p) j) 0)
          reach j h =
              by_set (λ x. InChain links' j (get_or heads' (key_of m f ys width x) 0)) fs count p j room
              (λ e. here _ (ap (λ (k : ℕ). get_or heads' k 0) (sym is) ∙ get_or-set_same heads key (count + 1) 0 room_heads ∙ omega (arith, e)))
              (λ ne. old j (omega (arith, ne)) (key_at fs j) (chains.reached j (omega (arith, ne))))

    -- what a search of its chain says about its class
    module _ {r : Bool} (long : count ≤ length fs) (searched : Searched (alike_over f ys p) fs links head r) where
      pub known : r ≡ true → first_place (alike_over f ys p) (take count fs) < count
      known e =
          let one = searched.found e in
          let all = length-take-le count fs long in
          let inside : one.place < count = omega (arith, one.below, chains.low key) in
          let some = mem_any (alike_over f ys p) (mem_get_or (take count fs) one.place 0 (omega (arith, inside, all)))
          (ap (alike_over f ys p) (get_or-take count fs one.place 0 inside) ∙ one.passes) in
          omega (arith, (first_passing (alike_over f ys p) 0 (take count fs) some).0, all)

      pub unknown : r ≡ false → count ≡ first_place (alike_over f ys p) (take count fs)
      unknown e =
          search_is _ fs count count long (omega arith)
          (λ j h. not_true_false _ (λ alike. let same_key : key_at fs j ≡ key = sym (alike_key m f p (get_or fs j 0) ys width alike) ∙ sym is in
          true≢false (sym alike ∙ searched.missed e j (subst (λ (k : ℕ). InChain links j (get_or heads k 0)) same_key (chains.reached j h)))))
          (λ h. absurd (omega arith))
