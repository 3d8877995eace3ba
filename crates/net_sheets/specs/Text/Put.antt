-- Text written into a buffer at a place, and the rest of a text while its parts are written one after the other.
-- Assumes nothing.
use Rattle.std.specs.Prelude.{◌<◌, ◌≤◌, ◌+◌, ◌≡◌, ◌∷◌, ◌++◌}
use Rattle.laws.specs.Prelude.{ℕ, ◌∙◌, sym, ap, refl, subst, List, [], zero-add, add-zero, add-one, arith, length, get_or}
use Rattle.laws.specs.Prelude.{drop, set, length-set, length-append, drop_of_length-le, drop-cons, sets, length-sets, sets-eq}
use Rattle.std.proofs.Math.ListN
use Rattle.rules.specs.Calls.Answers.{written}
use Rattle.laws.specs.Lists.Pastes.{sets_append}

-- the text t fits into the buffer from `at` on
abbrev pub PutRoom : List ℕ → ℕ → List ℕ → Type 0
PutRoom out at t = at + length t ≤ length out

-- `t` was written at `at`: the buffer was `before` and is `after`, and `next` is the place after the text
pub record Put (before : List ℕ) (at : ℕ) (t : List ℕ) (after : List ℕ) (next : ℕ) : Type 0 where
  pub text : after ≡ sets before at t
  pub end : next ≡ at + length t

-- Of the text t₀, to be written at at₀ of the buffer out₀, `t` is left to write at `at`, and the buffer is `out`.
pub record NetLeft (out : List ℕ) (at : ℕ) (t : List ℕ) (out₀ : List ℕ) (at₀ : ℕ) (t₀ : List ℕ) : Type 0 where
  pub text : sets out at t ≡ sets out₀ at₀ t₀
  pub end : at + length t ≡ at₀ + length t₀
  pub room : PutRoom out at t
  pub kept : length out ≡ length out₀

put_length : {before t after : List ℕ} {at next : ℕ} → Put before at t after next → length after ≡ length before
put_length {before} {t} {after} {at} p = ap length p.text ∙ length-sets before at t

pub all_left : {out : List ℕ} {at : ℕ} {t : List ℕ} → PutRoom out at t → NetLeft out at t out at t
all_left h = record { text = refl; end = refl; room = h; kept = refl }

-- the same text, composed another way
pub parts_left : {out : List ℕ} {at : ℕ} {t u : List ℕ} → t ≡ u → PutRoom out at t → NetLeft out at u out at t
parts_left {out} {at} {t} e h = subst (λ (w : List ℕ). NetLeft out at w out at t) e (all_left h)

module _ {out : List ℕ} {at : ℕ} {out₀ : List ℕ} {at₀ : ℕ} {t₀ : List ℕ} where
  -- one byte
  byte_left : {b : ℕ} {t : List ℕ} → NetLeft out at (b ∷ t) out₀ at₀ t₀ → NetLeft (set out at b) (at + 1) t out₀ at₀ t₀
  byte_left {b} {t} h =
      record {
        text = ap (λ (k : ℕ). sets (set out at b) k t) (add-one at) ∙ h.text;
        end = omega (arith, h.end);
        room = simp length-set (omega (arith, h.room));
        kept = length-set out at b ∙ h.kept;
      }

  -- the byte at i of a text that is written from i on
  pub next_left : (t : List ℕ) (i : ℕ) → i < length t → NetLeft out at (drop i t) out₀ at₀ t₀
      → NetLeft (set out at (get_or t i 0)) (at + 1) (drop (i + 1) t) out₀ at₀ t₀
  next_left t i h l = rw (add-one i) (byte_left (rw (drop-cons t i 0) at l))

  -- another function's text
  pub put_left : {u out' t : List ℕ} {at' : ℕ} → NetLeft out at (u ++ t) out₀ at₀ t₀ → Put out at u out' at' → NetLeft out' at' t out₀ at₀ t₀
  put_left {u} {out'} {t} {at'} h p =
      record {
        text = (λ i. sets (p.text i) (p.end i) t) ∙ sym (sets_append u t out at) ∙ h.text;
        end = omega (arith, p.end, simp length-append at h.end);
        room = rw (put_length p) (omega (arith, p.end, simp length-append at h.room));
        kept = put_length p ∙ h.kept;
      }

  pub room_for : (u t : List ℕ) → NetLeft out at (u ++ t) out₀ at₀ t₀ → PutRoom out at u
  room_for u t h = omega (arith, simp length-append at h.room)

  pub room_byte : {b : ℕ} {t : List ℕ} → NetLeft out at (b ∷ t) out₀ at₀ t₀ → at < length out
  room_byte h = omega (arith, h.room)

  pub none_left : NetLeft out at [] out₀ at₀ t₀ → Put out₀ at₀ t₀ out at
  none_left h = record { text = h.text; end = sym (add-zero at) ∙ h.end }

  pub past_left : (t : List ℕ) (i : ℕ) → length t ≤ i → NetLeft out at (drop i t) out₀ at₀ t₀ → Put out₀ at₀ t₀ out at
  past_left t i h l = none_left (rw (drop_of_length-le t {i = i}) at l)

  -- the last part
  pub last_put : {u out' : List ℕ} {at' : ℕ} → NetLeft out at u out₀ at₀ t₀ → Put out at u out' at' → Put out₀ at₀ t₀ out' at'
  last_put h p = record { text = p.text ∙ h.text; end = p.end ∙ h.end }

-- two bytes
pub bytes_left : {out : List ℕ} {at : ℕ} {a b : ℕ} {t out₀ : List ℕ} {at₀ : ℕ} {t₀ : List ℕ} → NetLeft out at (a ∷ b ∷ t) out₀ at₀ t₀
    → NetLeft (set (set out at a) (at + 1) b) (at + 2) t out₀ at₀ t₀
bytes_left {out} {at} h =
    let e : at + 1 + 1 ≡ at + 2 = omega arith in
    rw e at (byte_left (byte_left h))

-- "A call that writes a sheet answers its length, and the sheet is that many bytes from the front of the output."
pub record NetWrote (before sheet after : List ℕ) (answer : ℕ) : Type 0 where
  pub text : after ≡ written before sheet
  pub length : answer ≡ ListN.length sheet

pub put_wrote : {out t out' : List ℕ} {r : ℕ} → length t ≤ length out → Put out 0 t out' r → NetWrote out t out' r
unfolding written
put_wrote {out} {t} h p =
    let e : 0 + length t ≡ length t = zero-add (length t) in
    record { text = p.text ∙ sets-eq t out 0 (omega arith) ∙ ap (λ (k : ℕ). t ++ drop k out) e; length = p.end ∙ e }
