-- Idle inputs (document 02, K12) and marks: a group has the mark of the group of its members that matter, and mark 2 if none of them does. So only
-- groups of inputs that matter need to be marked by document 01's rule.
-- Assumes nothing.
use Rattle.std.specs.Prelude.{◌<◌, ◌≤◌, ◌^◌, ◌≡◌}
use Rattle.laws.specs.Prelude.{ℕ, ◌∙◌, sym, ap, refl, true, false, Bool, true≢false, cond, arith}
use Rattle.rules.specs.Groups.Groups.{member, part, multiplicity}
use Rattle.rules.specs.Nets.Leaves.{matters}
use Rattle.rules.specs.Nets.Wirings.{first_input}
use Rattle.rules.specs.Sheets.Sheets.{level}
use Rattle.laws.specs.Lists.Tests.{not_true_false}
use Rattle.trees.specs.Trees.Trees.{Alike}
use Rattle.trees.specs.Groups.Members.{inside_member, single_below, size_single, first_member}
use Rattle.trees.specs.Groups.Levels.{level_ext, level_part, level_part_in, part_below, mix_self}
use Rattle.trees.specs.Groups.Classes.{class_below, class_alike}
use Rattle.trees.specs.Groups.Covers.{Covers}
use Rattle.trees.specs.Groups.MarkRule.{marked, three_way}
use Rattle.trees.specs.Groups.TakenOff.{alone_inside}
use Rattle.trees.specs.Leaves.Mattering.{mix_is, matters_differ}
use Rattle.trees.specs.Leaves.CutWirings.{Idle, idle_mix, hung}

module _ (m n : ℕ) (pos : 0 < m) (f : ℕ → ℕ) where
  -- ---- classes

  -- no member of a group with one class matters
  pub one_class_idle : (g : ℕ) → g < 2 ^ n → multiplicity m n f g ≤ 1 → (i : ℕ) → i < n → member i g ≡ true → matters m n f i ≡ false
  one_class_idle g g< one i i< is = not_true_false _ λ is_IsLeaf.
      let two = matters_differ m n pos f i i< is_IsLeaf in
      let like : Alike m n f g two.one two.other =
      class_alike m n pos f g g< two.one two.other (omega (arith, class_below m n pos f g g< two.one, class_below m n pos f g g< two.other)) in
      two.inks (sym (ap f (mix_self m n pos g two.one g< two.one_below)) ∙ like two.one
      ∙ ap f (mix_is m n pos f g two.one two.other g< two.other_below
      (λ j j< out. two.elsewhere j j< (λ same. true≢false (sym is ∙ ap (λ (k : ℕ). member k g) (sym same) ∙ out)))))

  -- assignments that cover a group also cover it with idle inputs added
  pub idle_covers : (g h : ℕ) → g < 2 ^ n → h < 2 ^ n → Idle m n pos f g h → (c : ℕ) (e : ℕ → ℕ) → Covers m n f g c e → Covers m n f h c e
  idle_covers g h g< h< rest c e cover = record {
    own = λ k k<. own (e k) (cover.own k k<);
    every = λ p.
        let (k, k<, like) = cover.every p in
        (k, k<, λ y. sym (idle_mix m n pos f g h g< h< rest p y) ∙ like y ∙ idle_mix m n pos f g h g< h< rest (e k) y);
  }
    where
      own : (x : ℕ) → part m n g x ≡ x → part m n h x ≡ x
      own x x_own = level_ext m n pos (part m n h x) x (part_below m n pos h x) (rw x_own at (part_below m n pos g x)) (λ i i<. at i i< (member i h) refl)
        where
          at : (i : ℕ) → i < n → (t : Bool) → member i h ≡ t → level m n (part m n h x) i ≡ level m n x i
          at i i< true in_h = level_part_in m n pos h x i i< in_h
          at i i< false out_h =
              let out_g : member i g ≡ false = not_true_false _ (λ in_g. true≢false (sym (inside_member i n g h rest.part i< in_g) ∙ out_h)) in
              level_part m n pos h x i i<
              ∙ ap (λ t. cond t (level m n x i) 0) (out_h ∙ sym out_g)
              ∙ sym (level_part m n pos g x i i<)
              ∙ ap (λ r. level m n r i) x_own

  -- ---- marks

  -- a group has mark 2 if none of its members matters
  pub all_idle_mark : (h : ℕ) → 0 < h → h < 2 ^ n → ((i : ℕ) → i < n → member i h ≡ true → matters m n f i ≡ false) → marked m n pos f h ≡ 2
  all_idle_mark h some h< idle =
      let (i<, is) = first_member n h h< some in
      hung m n pos f (2 ^ first_input n h) h (single_below (first_input n h) n i<) h<
      (record { part = alone_inside n h (first_input n h) h< i< is; idle = λ j j< in_h _. idle j j< in_h })
      ((three_way m n pos f (2 ^ first_input n h) (single_below (first_input n h) n i<)).single (size_single (first_input n h) n i<))
