-- Laws of `concat_map` and `map`.
-- Assumes nothing.
use Rattle.std.specs.Prelude.{◌<◌, ◌+◌, ◌*◌, ◌≡◌, ◌∷◌, ◌++◌}
use Rattle.laws.specs.Prelude.{ℕ, suc, zero, ◌∙◌, sym, ap, refl, inl, inr, List, [], map, Memᴰ, append_assoc}
use Rattle.laws.specs.Prelude.{mem_head, mem_not_nil, mem_tail, mem_append_cases, mem_append_right, mem_append_left, zero-add}
use Rattle.laws.specs.Prelude.{zero-mul, suc-mul, add_comm, arith, length, get_or, length-append, get_or-append, get_or-append-add}
use Rattle.rules.specs.Lists.{concat_map}
pub use Rattle.std.proofs.lemmas.List.{map-append}

pub concat_append : {A B : Type 0} (f : A → List B) (xs ys : List A) → concat_map f (xs ++ ys) ≡ concat_map f xs ++ concat_map f ys
unfolding concat_map
concat_append f [] ys = refl
concat_append f (x ∷ xs) ys = ap (λ (r : List _). f x ++ r) (concat_append f xs ys) ∙ sym (append_assoc (f x) (concat_map f xs) (concat_map f ys))

-- one concatenation after another
pub concat_concat : {A B C : Type 0} (f : A → List B) (h : B → List C) (xs : List A)
    → concat_map h (concat_map f xs) ≡ concat_map (λ x. concat_map h (f x)) xs
unfolding concat_map
concat_concat f h [] = refl
concat_concat f h (x ∷ xs) = concat_append h (f x) (concat_map f xs) ∙ ap (λ (r : List _). concat_map h (f x) ++ r) (concat_concat f h xs)

pub concat_map_lem : {A B C : Type 0} (f : A → B) (h : B → List C) (xs : List A) → concat_map h (map f xs) ≡ concat_map (λ x. h (f x)) xs
unfolding concat_map
concat_map_lem f h [] = refl
concat_map_lem f h (x ∷ xs) = ap (λ (r : List _). h (f x) ++ r) (concat_map_lem f h xs)

pub map_concat : {A B C : Type 0} (f : A → List B) (h : B → C) (xs : List A) → map h (concat_map f xs) ≡ concat_map (λ x. map h (f x)) xs
unfolding concat_map
map_concat f h [] = refl
map_concat f h (x ∷ xs) = map-append h (f x) (concat_map f xs) ∙ ap (λ (r : List _). map h (f x) ++ r) (map_concat f h xs)

pub concat_same : {A B : Type 0} (f h : A → List B) → ((x : A) → f x ≡ h x) → (xs : List A) → concat_map f xs ≡ concat_map h xs
unfolding concat_map
concat_same f h e [] = refl
concat_same f h e (x ∷ xs) = λ i. e x i ++ concat_same f h e xs i

pub map_same : {A B : Type 0} (f h : A → B) → ((x : A) → f x ≡ h x) → (xs : List A) → map f xs ≡ map h xs
map_same f h e [] = refl
map_same f h e (x ∷ xs) = λ i. e x i ∷ map_same f h e xs i

module _ {A B : Type 0} (f : A → List B) where
  -- if each element gives k
  pub concat_length : (k : ℕ) → ((x : A) → length (f x) ≡ k) → (xs : List A) → length (concat_map f xs) ≡ length xs * k
  unfolding concat_map
  concat_length k e [] = sym (zero-mul k)
  concat_length k e (x ∷ xs) = rw (length-append, e x, concat_length k e xs, suc-mul, add_comm k (length xs * k))

  -- .. by place: entry x of the list that element y gives
  pub concat_at : (k : ℕ) → ((x : A) → length (f x) ≡ k) → (xs : List A) (d : A) (e : B) (y x : ℕ) → y < length xs → x < k
      → get_or (concat_map f xs) (y * k + x) e ≡ get_or (f (get_or xs y d)) x e
  unfolding concat_map
  concat_at k same [] d e y x h l = absurd (omega arith)
  concat_at k same (z ∷ xs) d e zero x h l = rw (zero-mul, zero-add) (get_or-append (f z) (concat_map f xs) e x (rw same l))
  concat_at k same (z ∷ xs) d e (suc y) x h l =
      let place : suc y * k + x ≡ length (f z) + (y * k + x) = rw (same z, suc-mul) (omega arith) in
      rw (place, get_or-append-add) (concat_at k same xs d e y x (omega arith) l)

  -- what an element gives is listed, ..
  pub mem_concat : {x : A} {y : B} {xs : List A} → Memᴰ x xs → Memᴰ y (f x) → Memᴰ y (concat_map f xs)
  unfolding concat_map
  mem_concat (mem_head {xs} e) h = mem_append_left (concat_map f xs) (rw e at h)
  mem_concat (mem_tail {x = z} i) h = mem_append_right (f z) (mem_concat i h)

  -- .. and nothing else
  pub concat_mem : {y : B} (xs : List A) → Memᴰ y (concat_map f xs) → (x : A) × Memᴰ x xs × Memᴰ y (f x)
  unfolding concat_map
  concat_mem [] h = absurd (mem_not_nil h)
  concat_mem {y} (x ∷ xs) h = elim (mem_append_cases (f x) h) [
    | inl i ↦ (x, mem_head refl, i)
    | inr i ↦ let s = concat_mem xs i in (s.0, mem_tail s.1, s.2)
  ]
    where
      Source : List A → Type 0
      Source zs = (z : A) × Memᴰ z zs × Memᴰ y (f z)

pub concat_single : (f : ℕ → ℕ) (xs : List ℕ) → concat_map (λ x. f x ∷ []) xs ≡ map f xs
unfolding concat_map
concat_single f [] = refl
concat_single f (x ∷ xs) = ap {B = List ℕ} (λ r. f x ∷ r) (concat_single f xs)
