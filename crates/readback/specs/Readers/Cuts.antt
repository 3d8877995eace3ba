-- A text that is cut, and one that continues. What a reader has read stays read when bytes are added after it. A refusal at the text's end is
-- 1 or, for a short text, the number that is judged last. A refusal before the end stays, however the text continues, once the text is so long
-- that no field which might still become good reaches its end. Stated once for readers; the laws here combine such readers.
-- Assumes nothing.
use Rattle.std.specs.Prelude.{◌<◌, ◌≤◌, ◌+◌, ◌≡◌, ◌∷◌, ◌++◌}
use Rattle.laws.specs.Prelude.{ℕ, suc, ◌∙◌, sym, ap, refl, true, false, Bool, List, [], append-nil, le_trans, lt_of_not-le}
use Rattle.laws.specs.Prelude.{arith, eqb, length, length-append, read_cases, judged_cases}
use Rattle.rules.specs.Sheets.Fields.{Read, read, turned_back, Reader, then, ◌>>=◌, give, good, bad, Judge, run, past, separator, after_field_in, field_of}
use Rattle.rules.specs.Sheets.Fields.{field_of_in, field, field_in, closed}
use Rattle.laws.specs.Lists.Runs.{run_past, run_more, run_through}
use Rattle.readback.specs.Readers.Spells.{not_read}
use Rattle.readback.specs.Readers.Fronts.{separator_turned, field_read}

-- ---- readers

-- what was read: where it ends, and that bytes added after what is left change nothing
pub record Went {A : Type 0} (r : Reader A) (s : List ℕ) (at : ℕ) (a : A) (rest : List ℕ) (place : ℕ) : Type 0 where
  pub ends : place + length rest ≡ at + length s
  pub more : (t : List ℕ) → r (s ++ t) at ≡ read a (rest ++ t) place

abbrev pub Goes : {A : Type 0} → Reader A → Type 0
Goes {A} r = (s : List ℕ) (at : ℕ) (a : A) (rest : List ℕ) (place : ℕ) → r s at ≡ read a rest place → Went r s at a rest place

-- what was refused: with 1 at the end, or, for a text of fewer than `b` bytes, with `late` there; or before the end, and then in the same way however
-- a text of `b` bytes or more continues
pub data Stopped {A : Type 0} (late : ℕ) (r : Reader A) (b : ℕ) (s : List ℕ) (at number place : ℕ) : Type 0 where
  at_end : number ≡ 1 → place ≡ at + length s → Stopped late r b s at number place
  late_end : number ≡ late → length s < b → place ≡ at + length s → Stopped late r b s at number place
  before : place < at + length s → (b ≤ length s → (t : List ℕ) → r (s ++ t) at ≡ turned_back number place) → Stopped late r b s at number place

abbrev pub Firm : {A : Type 0} → ℕ → ℕ → Reader A → Type 0
Firm late b r = (s : List ℕ) (at number place : ℕ) → r s at ≡ turned_back number place → Stopped late r b s at number place

-- everything was read, and any further byte is refused with 1 there, if the value does not allow the text to continue
pub record Shut {A : Type 0} (r : Reader A) (s : List ℕ) (at : ℕ) (rest : List ℕ) : Type 0 where
  pub none : rest ≡ []
  pub after : (b : ℕ) (t : List ℕ) → r (s ++ b ∷ t) at ≡ turned_back 1 (at + length s)

abbrev pub Shuts : {A : Type 0} → (A → Type 0) → Reader A → Type 0
Shuts {A} Whole r = (s : List ℕ) (at : ℕ) (a : A) (rest : List ℕ) (place : ℕ) → r s at ≡ read a rest place → Whole a → Shut r s at rest

-- at most `w` bytes are read
abbrev pub Takes : {A : Type 0} → ℕ → Reader A → Type 0
Takes {A} w r = (s : List ℕ) (at : ℕ) (a : A) (rest : List ℕ) (place : ℕ) → r s at ≡ read a rest place → length s ≤ w + length rest

-- ---- a value given without reading

module _ {A : Type 0} (a : A) where
  pub goes_give : Goes (give a)
  goes_give s at b rest place e = record {
    ends = let same : place ≡ at = cc in let all : rest ≡ s = cc in omega (arith, ap length all);
    more = λ t. (cc);
  }

  pub firm_give : {late : ℕ} (b : ℕ) → Firm late b (give a)
  firm_give b s at number place e = absurd (not_read number place a s at (sym e))

  pub takes_give : (w : ℕ) → Takes w (give a)
  takes_give w s at b rest place e = let all : rest ≡ s = cc in omega (arith, ap length all)

-- ---- one reader after another

module _ {A B : Type 0} {r : Reader A} (next : A → Reader B) where
  pub goes_then : Goes r → ((a : A) → Goes (next a)) → Goes (r >>= next)
  unfolding then
  goes_then first nexts s at b rest place e = read_cases (r s at)
      (λ a middle p d. both a middle p (first s at a middle p d) (nexts a middle p b rest place (rw d at e)))
      (λ number p d. absurd (not_read number p b rest place (rw d at e)))
    where
      both : (a : A) (middle : List ℕ) (p : ℕ) → Went r s at a middle p → Went (next a) middle p b rest place → Went (r >>= next) s at b rest place
      both a middle p f g = record { ends = omega (arith, f.ends, g.ends); more = λ t. rw (f.more t) (g.more t) }

  -- The second reader is firm from `c` bytes on, and the first leaves it that many if the text has `b` or more.
  pub firm_then : {late : ℕ} (b c : ℕ) → Goes r → Firm late b r
      → ((s : List ℕ) (at : ℕ) (a : A) (rest : List ℕ) (place : ℕ) → r s at ≡ read a rest place → Firm late c (next a) × (b ≤ length s → c ≤ length rest))
      → Firm late b (r >>= next)
  unfolding then
  firm_then {late} b c goes first nexts s at number place e = go (r s at) refl e
    where
      at_once : Stopped late r b s at number place → Stopped late (r >>= next) b s at number place
      at_once (at_end one end) = at_end one end
      at_once (late_end is short end) = late_end is short end
      at_once (before within stays) = before within (λ long t. rw (stays long t) refl)

      second : (a : A) (middle : List ℕ) (p : ℕ) → Went r s at a middle p → (b ≤ length s → c ≤ length middle)
          → Stopped late (next a) c middle p number place → Stopped late (r >>= next) b s at number place
      second a middle p f left (at_end one end) = at_end one (omega (arith, f.ends))
      second a middle p f left (late_end is short end) =
          late_end is (lt_of_not-le (λ long. let enough = left long in omega arith)) (omega (arith, f.ends))
      second a middle p f left (before within stays) = before (omega (arith, f.ends)) (λ long t. rw (f.more t) (stays (left long) t))

      go : (u : Read A) → r s at ≡ u → then u next ≡ turned_back number place → Stopped late (r >>= next) b s at number place
      go (read a middle p) d e =
          let (firm, left) = nexts s at a middle p d in
          second a middle p (goes s at a middle p d) left (firm middle p number place e)
      go (turned_back k p) d e = at_once (first s at number place (d ∙ let z : ◌≡◌ {A = Read A} (turned_back k p) (turned_back number place) = cc in z))

  pub takes_then : (w v : ℕ) → Takes w r → ((s : List ℕ) (at : ℕ) (a : A) (rest : List ℕ) (place : ℕ) → r s at ≡ read a rest place → Takes v (next a))
      → Takes (w + v) (r >>= next)
  unfolding then
  takes_then w v first nexts s at b rest place e = read_cases (r s at)
      (λ a middle p d. omega (arith, first s at a middle p d, nexts s at a middle p d middle p b rest place (rw d at e)))
      (λ number p d. absurd (not_read number p b rest place (rw d at e)))

  pub shuts_then : {Whole : B → Type 0} → Goes r → ((a : A) → Shuts Whole (next a)) → Shuts Whole (r >>= next)
  unfolding then
  shuts_then first nexts s at b rest place e is = read_cases (r s at)
      (λ a middle p d. both a middle p (first s at a middle p d) (nexts a middle p b rest place (rw d at e) is))
      (λ number p d. absurd (not_read number p b rest place (rw d at e)))
    where
      both : (a : A) (middle : List ℕ) (p : ℕ) → Went r s at a middle p → Shut (next a) middle p rest → Shut (r >>= next) s at rest
      both a middle p f g = record { none = g.none; after = λ c t. rw (f.more (c ∷ t)) (g.after c t ∙ ap (turned_back 1) f.ends) }

-- a larger bound on the bytes read also holds
pub takes_more : {A : Type 0} {r : Reader A} (w v : ℕ) → w ≤ v → Takes w r → Takes v r
takes_more w v h takes s at a rest place e = omega (arith, takes s at a rest place e)

-- firm from a larger number of bytes on, too
pub firm_more : {A : Type 0} {r : Reader A} {late : ℕ} (b c : ℕ) → b ≤ c → Firm late b r → Firm late c r
firm_more {A} {r} {late} b c h firm s at number place e = elim (firm s at number place e) [
  | at_end one end ↦ at_end one end
  | late_end is short end ↦ late_end is (omega arith) end
  | before within stays ↦ before within (λ long. stays (le_trans h long))
]

-- ---- a field

-- a word of `b` bytes or more that a judge refuses is refused with the same number whatever is added to it
abbrev pub Stays : {A : Type 0} → ℕ → Judge A → Type 0
Stays b judge = (w v : List ℕ) (k : ℕ) → 0 < length w → b ≤ length w → judge w ≡ bad k → judge (w ++ v) ≡ bad k

-- no word of more than `l` bytes passes, and all those are refused with one number
pub record Narrow {A : Type 0} (l : ℕ) (judge : Judge A) : Type 0 where
  pub short : (w : List ℕ) (a : A) → judge w ≡ good a → length w ≤ l
  pub number : ℕ
  pub one : (w : List ℕ) (k : ℕ) → judge w ≡ bad k → l < length w → k ≡ number

pub narrow_stays : {A : Type 0} {judge : Judge A} (l : ℕ) → Narrow l judge → Stays (suc l) judge
narrow_stays {A} {judge} l narrow w v k some long e = judged_cases (judge (w ++ v))
    (λ a d. absurd (omega (arith, longer, narrow.short (w ++ v) a d)))
    (λ j d. d ∙ ap bad (narrow.one (w ++ v) j d longer ∙ sym (narrow.one w k e (omega arith))))
  where
    longer : l < length (w ++ v)
    longer = omega (arith, length-append w v)

-- the separator that is due was there
separator_value : {A : Type 0} (a : A) (due : ℕ) (s : List ℕ) (end : ℕ) (b : A) (rest : List ℕ) (place : ℕ) → separator a due s end ≡ read b rest place → a ≡ b
unfolding separator
separator_value a due [] end b rest place e = absurd (not_read 1 end b rest place e)
separator_value {A} a due (c ∷ s) end b rest place e = go (eqb c due) e
  where
    go : (u : Bool) → ◌≡◌ {A = Read A} (elim u [ true ↦ read a s (suc end) | false ↦ turned_back 1 end ]) (read b rest place) → a ≡ b
    go true e = cc
    go false e = absurd (not_read 1 end b rest place e)

module _ {A : Type 0} (judge : Judge A) (due : ℕ) where
  pub goes_field : Goes (field judge due)
  unfolding field_in
  goes_field s at a rest place e =
      let (i, j, k) = field_read judge due (run s) (past s) at a rest place e in
      record {
        ends = omega (arith, j, ap length i, ap length (run_past s) ∙ length-append (run s) (past s));
        more = λ t. let (l, m) = run_more s t due rest i in rw (l, m) (k (rest ++ t));
      }

  -- a field that was read was judged good
  pub field_good : (s : List ℕ) (at : ℕ) (a : A) (rest : List ℕ) (place : ℕ) → field judge due s at ≡ read a rest place → judge (run s) ≡ good a
  unfolding field_in field_of_in after_field_in
  field_good s at a rest place e = go (run s) e
    where
      go : (w : List ℕ) → field_of judge due w (past s) at ≡ read a rest place → judge w ≡ good a
      go [] e = absurd (not_read 1 at a rest place e)
      go (b ∷ w) e = judged_cases (judge (b ∷ w))
          (λ c d. d ∙ ap good (separator_value c due (past s) _ a rest place (rw d at e)))
          (λ number d. absurd (not_read number at a rest place (rw d at e)))

  pub takes_field : (l : ℕ) → ((w : List ℕ) (a : A) → judge w ≡ good a → length w ≤ l) → Takes (suc l) (field judge due)
  unfolding field_in
  takes_field l short s at a rest place e =
      let (i, _, _) = field_read judge due (run s) (past s) at a rest place e in
      omega (arith, short (run s) a (field_good s at a rest place e), ap length i, ap length (run_past s) ∙ length-append (run s) (past s))

  pub firm_field : {late : ℕ} (b : ℕ) → Stays b judge → Firm late b (field judge due)
  unfolding field_in field_of_in after_field_in separator
  firm_field {late} b stays s at number place e = go (run s) refl (past s) refl e
    where
      parts : length s ≡ length (run s) + length (past s)
      parts = ap length (run_past s) ∙ length-append (run s) (past s)

      -- refused because of the field, which ends in a separator: so it stays with more bytes after it
      alone : (c : ℕ) (rest : List ℕ) → past s ≡ c ∷ rest → place < at + length s
          → ((q : List ℕ) → field_of judge due (run s) (c ∷ q) at ≡ turned_back number place) → Stopped late (field judge due) b s at number place
      alone c rest d within same = before within (λ long t. let (i, j) = run_more s t c rest d in rw (i, j) (same (rest ++ t)))

      -- the field is the whole text
      whole : past s ≡ [] → run s ≡ s
      whole d = sym (run_past s ∙ ap (λ p. run s ++ p) d ∙ append-nil (run s))

      -- no field
      none : run s ≡ [] → (p : List ℕ) → past s ≡ p → field_of judge due [] p at ≡ turned_back number place → Stopped late (field judge due) b s at number place
      none d [] f e = at_end (cc) (let here : place ≡ at = cc in omega (arith, ap length d, ap length f, parts))
      none d (c ∷ rest) f e =
          alone c rest f (let here : place ≡ at = cc in omega (arith, ap length d, ap length f, parts)) (λ q. rw d e)

      -- a bad field
      refused : (c : ℕ) (w : List ℕ) → run s ≡ c ∷ w → (k : ℕ) → judge (c ∷ w) ≡ bad k → ◌≡◌ {A = Read A} (turned_back k at) (turned_back number place)
          → (p : List ℕ) → past s ≡ p → Stopped late (field judge due) b s at number place
      refused c w d k j e [] f =
          let here : place ≡ at = cc in
          let all : s ≡ c ∷ w = sym (whole f) ∙ d in
          before (omega (arith, ap length all))
          (λ long t. rw (run_through s t f, all, stays (c ∷ w) (run t) k (omega arith) (rw all at long) j) (cc))
      refused c w d k j e (x ∷ rest) f =
          alone x rest f (let here : place ≡ at = cc in omega (arith, ap length d, parts)) (λ q. rw (d, j) (cc))

      -- a good field, and the byte after it
      after : (c : ℕ) (w : List ℕ) → run s ≡ c ∷ w → (a : A) → judge (c ∷ w) ≡ good a → (p : List ℕ) → past s ≡ p
          → separator a due p (at + suc (length w)) ≡ turned_back number place → Stopped late (field judge due) b s at number place
      after c w d a j [] f e =
          at_end (cc) (let there : place ≡ at + suc (length w) = cc in omega (arith, ap length d, ap length f, parts))
      after c w d a j (x ∷ rest) f e =
          let (there, same) = separator_turned a due (x ∷ rest) (at + suc (length w)) number place e in
          alone x rest f (omega (arith, there, ap length d, ap length f, parts)) (λ q. rw (d, j) (same (x ∷ q) refl))

      go : (w : List ℕ) → run s ≡ w → (p : List ℕ) → past s ≡ p → field_of judge due w p at ≡ turned_back number place
          → Stopped late (field judge due) b s at number place
      go [] d p f e = none d p f e
      go (c ∷ w) d p f e = judged_cases (judge (c ∷ w))
          (λ a j. after c w d a j p f (rw j at e))
          (λ k j. refused c w d k j (rw j at e) p f)

-- a narrow field, followed by a reader that is firm from `b` bytes on, or that takes at most that many
module _ {A B : Type 0} (judge : Judge A) (due l : ℕ) (narrow : Narrow l judge) (b : ℕ) (next : A → Reader B) where
  pub firm_step : {late : ℕ} → ((s : List ℕ) (at : ℕ) (a : A) (rest : List ℕ) (place : ℕ) → field judge due s at ≡ read a rest place → Firm late b (next a))
      → Firm late (suc l + b) (field judge due >>= next)
  firm_step nexts =
      firm_then next (suc l + b) b (goes_field judge due)
      (firm_more (suc l) (suc l + b) (omega arith) (firm_field judge due (suc l) (narrow_stays l narrow)))
      (λ s at a rest place e. (nexts s at a rest place e, λ long. omega (arith, takes_field judge due l narrow.short s at a rest place e)))

  pub takes_step : ((s : List ℕ) (at : ℕ) (a : A) (rest : List ℕ) (place : ℕ) → field judge due s at ≡ read a rest place → Takes b (next a))
      → Takes (suc l + b) (field judge due >>= next)
  takes_step nexts = takes_then next (suc l) b (takes_field judge due l narrow.short) nexts

-- ---- the end of a sheet, and the value given there

module _ {A : Type 0} (a : A) where
  pub firm_end : {late : ℕ} → Firm late 0 (closed >>= λ _. give a)
  unfolding closed then
  firm_end [] at number place e = absurd (not_read number place a [] at (sym e))
  firm_end (b ∷ s) at number place e = before (let here : place ≡ at = cc in omega arith) (λ long t. e)

  pub shuts_end : (Whole : A → Type 0) → Shuts Whole (closed >>= λ _. give a)
  unfolding closed then
  shuts_end Whole [] at b rest place e is = record { none = (cc); after = λ c t. ap (turned_back 1) (omega arith) }
  shuts_end Whole (c ∷ s) at b rest place e is = absurd (not_read 1 at b rest place e)
