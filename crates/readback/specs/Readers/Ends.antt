-- Where a net sheet may end: after any gate line (`or_end`), if every earlier gate has been used (`all_used`). For these two readers: what they spell,
-- which bytes decide, and the numbers with which they refuse.
-- Assumes nothing.
use Rattle.std.specs.Prelude.{◌<◌, ◌≡◌, ◌⊎◌, ◌∷◌, ◌++◌}
use Rattle.laws.specs.Prelude.{ℕ, ◌∙◌, sym, ap, refl, ⊎_elim, inl, inr, true, false, Bool, List, [], add-zero, arith, length, take}
use Rattle.laws.specs.Prelude.{length-append}
use Rattle.rules.specs.Sheets.Fields.{Read, read, turned_back, Reader}
use Rattle.rules.specs.Sheets.Sheets.{Gate, or_end, earlier_used, all_used}
use Rattle.laws.specs.Lists.Distinct.{In}
use Rattle.readback.specs.Readers.Spells.{SpellsBetween, Any, not_read}
use Rattle.readback.specs.Readers.Fields.{Ended}
use Rattle.readback.specs.Readers.Fronts.{StartAlike, none_alike, behind_alike, ReadFront, TurnedFront, FromFront}
use Rattle.readback.specs.Readers.Among.{Among}

-- ---- the sheet's end, or more of it

module _ {A : Type 0} (a : A) (more : Reader A) where
  -- if bytes are left, more is read
  pub or_end_more : (s : List ℕ) (at : ℕ) → 0 < length s → or_end a more s at ≡ more s at
  unfolding or_end
  or_end_more [] at some = absurd (omega arith)
  or_end_more (b ∷ s) at some = refl

  -- the empty text, or one of the texts that `more` reads, none of which is empty
  module _ {X : Type 0} {f : X → A} {p : X → List ℕ} (spells : SpellsBetween Ended Any more X f p) (some : (x : X) → 0 < length (p x)) where
    abbrev value : Unit {0} ⊎ X → A
    value y = ⊎_elim (λ _. a) f y

    abbrev print : Unit {0} ⊎ X → List ℕ
    print y = ⊎_elim (λ _. []) p y

    or_end_back : (y : Unit {0} ⊎ X) (rest : List ℕ) (at : ℕ) → Ended rest → (place : ℕ) × (or_end a more (print y ++ rest) at ≡ read (value y) rest place)
    unfolding or_end
    or_end_back (inl _) rest at h = (at, rw h)
    or_end_back (inr x) rest at h =
        let (place, e) = spells.back x rest at h in
        (place, or_end_more (p x ++ rest) at (rw length-append (omega (arith, some x))) ∙ e)

    or_end_only : (s : List ℕ) (at : ℕ) (b : A) (rest : List ℕ) (place : ℕ) → or_end a more s at ≡ read b rest place
        → (y : Unit {0} ⊎ X) × (b ≡ value y) × (s ≡ print y ++ rest) × Any rest
    unfolding or_end
    or_end_only [] at b rest place e = (inl tt, (cc), (cc), tt)
    or_end_only (c ∷ s) at b rest place e =
        let (x, i, j, h) = spells.only (c ∷ s) at b rest place e in
        (inr x, i, j, h)

    pub spells_or_end : SpellsBetween Ended Any (or_end a more) (Unit {0} ⊎ X) (λ y. value y) (λ y. print y)
    spells_or_end = record { back = or_end_back; only = or_end_only }

  -- from the front: the first byte shows whether the sheet ends here
  pub front_or_end : FromFront more → FromFront (or_end a more)
  unfolding or_end
  front_or_end front = record { reads = reads; turns = turns }
    where
      -- a text that starts like one with a byte has a byte
      some_alike : (t : List ℕ) (b : ℕ) (s : List ℕ) → StartAlike t (b ∷ s) → 0 < length t
      some_alike [] b s e = absurd (let z : ◌≡◌ {A = ℕ} 0 1 = cc in omega arith)
      some_alike (c ∷ t) b s e = omega arith

      reads : (s : List ℕ) (at : ℕ) (b : A) (rest : List ℕ) (place : ℕ) → or_end a more s at ≡ read b rest place → ReadFront (or_end a more) s at b rest place
      reads [] at b rest place e =
          let none : rest ≡ [] = cc in
          record {
            bytes = [];
            whole = (cc);
            stands = let z : place ≡ at = cc in z ∙ sym (add-zero at);
            alike = λ t h. rw (none_alike t (h ∙ ap (take 1) none)) (cc);
          }
      reads (c ∷ s) at b rest place e =
          let f = front.reads (c ∷ s) at b rest place e in
          record {
            bytes = f.bytes;
            whole = f.whole;
            stands = f.stands;
            alike = λ t h.
                or_end_more (f.bytes ++ t) at (some_alike (f.bytes ++ t) c s (behind_alike f.bytes t rest h ∙ ap (take 1) (sym f.whole)))
                ∙ f.alike t h;
          }

      turns : (s : List ℕ) (at number place : ℕ) → or_end a more s at ≡ turned_back number place → TurnedFront (or_end a more) s at number place
      turns [] at number place e = absurd (not_read number place a [] at (sym e))
      turns (c ∷ s) at number place e =
          let f = front.turns (c ∷ s) at number place e in
          record {
            before = f.before;
            rest = f.rest;
            whole = f.whole;
            stands = f.stands;
            alike = λ t h.
                or_end_more (f.before ++ t) at
                (some_alike (f.before ++ t) c s (behind_alike f.before t f.rest h.same_start ∙ ap (take 1) (sym f.whole)))
                ∙ f.alike t h;
          }

  pub among_or_end : (numbers : List ℕ) → Among numbers more → Among numbers (or_end a more)
  unfolding or_end
  among_or_end numbers among [] at k place e = absurd (not_read k place a [] at (sym e))
  among_or_end numbers among (b ∷ s) at k place e = among (b ∷ s) at k place e

-- ---- every earlier gate is used

module _ (n : ℕ) (gates : List Gate) where
  -- nothing is read if they are, ..
  pub used_read : (s : List ℕ) (at : ℕ) (a : Unit {0}) (rest : List ℕ) (place : ℕ) → all_used n gates s at ≡ read a rest place
      → (earlier_used n gates ≡ true) × (rest ≡ s) × (place ≡ at)
  unfolding all_used
  used_read s at a rest place e = go (earlier_used n gates) refl e
    where
      go : (t : Bool) → earlier_used n gates ≡ t
          → ◌≡◌ {A = Read (Unit {0})} (elim t [ true ↦ read tt s at | false ↦ turned_back 26 at ]) (read a rest place)
          → (earlier_used n gates ≡ true) × (rest ≡ s) × (place ≡ at)
      go true d e = (d, (cc), (cc))
      go false d e = absurd (not_read 26 at a rest place e)

  -- .. and 26 is the refusal if not
  pub used_turned : (s : List ℕ) (at number place : ℕ) → all_used n gates s at ≡ turned_back number place
      → (earlier_used n gates ≡ false) × (number ≡ 26) × (place ≡ at)
  unfolding all_used
  used_turned s at number place e = go (earlier_used n gates) refl e
    where
      go : (t : Bool) → earlier_used n gates ≡ t
          → ◌≡◌ {A = Read (Unit {0})} (elim t [ true ↦ read tt s at | false ↦ turned_back 26 at ]) (turned_back number place)
          → (earlier_used n gates ≡ false) × (number ≡ 26) × (place ≡ at)
      go true d e = absurd (not_read number place tt s at (sym e))
      go false d e = (d, (cc), (cc))

  pub front_used : FromFront (all_used n gates)
  unfolding all_used
  front_used = record {
    reads = λ s at a rest place e.
        let (used, all, here) = used_read s at a rest place e in
        record { bytes = []; whole = sym all; stands = here ∙ sym (add-zero at); alike = λ t h. rw (used, all_used, here) };
    turns = λ s at number place e.
        let (unused, is, here) = used_turned s at number place e in
        record { before = []; rest = s; whole = refl; stands = here ∙ sym (add-zero at); alike = λ t h. rw (unused, all_used, is, here) };
  }

  pub among_used : (numbers : List ℕ) → In 26 numbers → Among numbers (all_used n gates)
  among_used numbers late s at k place e = rw (used_turned s at k place e).1 late
