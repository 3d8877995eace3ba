-- A run over the whole blocks of some cells, each tested for the same: the tests show whether it holds for every block.
-- Assumes nothing.
use Rattle.std.specs.Prelude.{◌<◌, ◌+◌, ◌*◌, ◌/◌, ◌≡◌}
use Rattle.std.specs.Bool.{Decides, MatchBool, IsTrue}
use Rattle.std.specs.Option.{IfSome, IsSomeAnd, option_map}
use Rattle.std.specs.Fn.{Takes, Called}
use Rattle.std.specs.Iterator.{Yields, CallableWhile}
use Rattle.std.specs.Iterator.Runs.{Run, AllItemsGive, AnyItemGives, IsChunksExactRun, CallKeepsClosure}
use Rattle.std.proofs.lemmas.Fn.{serves_by}
use denote.Param.Members.{Mut}
use Rattle.std.proofs.Common.{Bor, Option, Some, None}
use Rattle.laws.specs.Prelude.{ℕ, ◌∙◌, sym, ap, refl, true, false, Bool, List, [], ◌∷◌, false≢true, subst₂}
use Rattle.laws.specs.Prelude.{arith, length, get_or, mul-div_cancel, lt_of_mul-lt-mul_right}
use Rattle.wirings.specs.Leaves.Blocks.{SameCells, SameBlock}

both_some : {A : Type 0} {P Q R : A → Type 0} (o : Option A) → IfSome o P → IfSome o Q → ((x : A) → P x → Q x → R x) → IfSome o R
both_some None h k f = tt
both_some (Some x) h k f = f x h k

some_and : {A B : Type 0} {P Q : A → Type 0} (o : Option A) → IfSome o P → IsSomeAnd o Q → ((x : A) → P x → Q x → B) → B
some_and None h k f = absurd k
some_and (Some x) h k f = f x h k

is_there : {A B : Type 0} (o : Option A) (y : A) → option_map (λ (z : A). z) o ≡ Some y → IfSome o (λ _. B) → B
is_there None y e h = absurd cc
is_there (Some x) y e h = h

-- the test may be called at each block, since each has the same size
module _ {S F : Type 0} (steps : S → Option (Bor (List ℕ)) → S → Type 0) (size : S → ℕ) (g : Mut F (Bor (List ℕ) × Unit {0}) Bool)
    (each : (s : S) (x : Bor (List ℕ)) (t : S) → steps s (Some x) t → (size t ≡ size s) × (length x.now ≡ size s)) where
  size_stays : (s : S) (xs : List (Bor (List ℕ))) (t : S) → Yields steps s xs t → size t ≡ size s
  size_stays s [] t same = ap size (sym same)
  size_stays s (x ∷ xs) t (u, step, rest) = size_stays u xs t rest ∙ (each s x u step).0

  pub callable : (s : S) (f : F) → CallKeepsClosure g f → ((x : Bor (List ℕ)) → length x.now ≡ size s → Takes g f (x, tt)) → CallableWhile steps g true s f
  callable s f keeps may =
      serves_by _ (λ _ q. q ≡ f) (λ xs q x v same call. keeps _ _ _ (rw same at call)) steps _ s f refl
      (λ xs t q x u before step same. rw same (may x ((each t x u step).1 ∙ size_stays s xs t before)))

-- a run over the whole blocks of xs, whose cells have the inks f
module _ {S : Type 0} {steps : S → Option (Bor (List ℕ)) → S → Type 0} (p : Run steps) (xs : List ℕ) (f : ℕ → ℕ) (size weight blocks : ℕ)
    (n : ℕ) (ys : List ℕ) (run : 0 < n → IsChunksExactRun p n ys) (size_is : n ≡ size) (cells_are : ys ≡ xs) (some : 0 < size)
    (long : length xs ≡ blocks * size) (inks : (q : ℕ) → q < length xs → get_or xs q 0 ≡ f q) where
  items : IsChunksExactRun p size xs
  items = subst₂ (IsChunksExactRun p) size_is cells_are (run (rw size_is some))

  -- what a test of an item says of the block
  abbrev Tells : ℕ → Bor (List ℕ) → Type 0
  Tells k x = (k < blocks) × (SameCells x.now weight → SameBlock f size weight k) × (SameBlock f size weight k → SameCells x.now weight)

  block_tells : (k : ℕ) → IfSome (p.at k) (Tells k)
  block_tells k =
      both_some (p.at k) (items.2 k) (items.2 k) λ x is _.
      let ink : (j q : ℕ) → j < size → q ≡ k * size + j → get_or x.now j 0 ≡ f q =
      λ j q j< at. is.2.2 j 0 j< ∙ rw (← at) (inks q (omega (arith, is.1))) in (
        lt_of_mul-lt-mul_right size (omega (arith, is.1, some)),
        (λ same j j<. sym (ink j _ (omega arith) refl) ∙ same j (omega (arith, is.0)) ∙ ink (weight + j) _ (omega arith) (omega arith)),
        (λ same j j<. ink j _ (omega (arith, is.0)) refl ∙ same j (omega (arith, is.0)) ∙ sym (ink (weight + j) _ (omega (arith, is.0)) (omega arith))),
      )

  -- so tests of all blocks, up to the first that fails, say whether the same holds for every block
  module _ {F : Type 0} (g : Mut F (Bor (List ℕ) × Unit {0}) Bool) (t : F) (keeps : CallKeepsClosure g t)
      (tests : (x : Bor (List ℕ)) (b : Bool) → Called g t (x, tt) b t → Decides b (SameCells x.now weight)) where
    pub chunks_tell : (r : Bool) → MatchBool r (IsTrue p.whole × AllItemsGive p g t true) (AnyItemGives p g t false)
        → Decides r ((k : ℕ) → k < blocks → SameBlock f size weight k)
    chunks_tell true (whole, all) =
        let count : p.len ≡ blocks = items.1 whole ∙ ap (λ (l : ℕ). l / size) long ∙ mul-div_cancel blocks some in
        let each : (k : ℕ) → k < blocks → SameBlock f size weight k =
        λ k k<. is_there (p.at k) _ (p.reads k (record { ref_ptr = (0, 0); now = [] }) (omega (arith, count)))
        (both_some (p.at k) (block_tells k) (all keeps k) (λ x is call. is.1 ((tests x true call).0 refl))) in
        (λ _. each, λ _. refl)
    chunks_tell false one =
        let (k, k<, call) = one keeps in (
          λ e. absurd (false≢true e),
          λ all. some_and (p.at k) (block_tells k) call (λ x is fails. (tests x false fails).1 (is.2 (all k is.0))),
        )
