-- The key of a short byte string: its bytes as one number. Strings of one length with one key are the same.
-- Assumes nothing.
use Rattle.std.specs.Prelude.{◌<◌, ◌≤◌, ◌+◌, ◌-◌, ◌^◌, ◌*◌, ◌≡◌, ◌∷◌}
use Rattle.laws.specs.Prelude.{ℕ, suc, zero, ◌∙◌, sym, ap, refl, ap₂, true, false, Bool, List, []}
use Rattle.laws.specs.Prelude.{pow-le-pow_right, pow-succ', arith, eqb, length, get_or, drop, eqb-true, eqb-false}
use Rattle.rules.specs.Lists.{same}
use Rattle.rules.specs.Limits.{most_name_bytes}
use Rattle.laws.specs.Lists.Same.{same_refl, same_true, same_length}
use Rattle.laws.specs.Lists.Tests.{not_true_false}
use Rattle.laws.specs.Lists.Walks.{rest}

unfoldable pub key_of : List ℕ → ℕ
key_of [] = 0
key_of (b ∷ w) = b + 256 * key_of w

abbrev pub AreBytes : List ℕ → Type 0
AreBytes w = (i : ℕ) → get_or w i 0 < 256

-- `key` is the key of some bytes
pub record IsKey (w : List ℕ) (key : ℕ) : Type 0 where
  pub is : key ≡ key_of w
  pub bytes : AreBytes w

-- ---- two keys

key_alike : (v w : List ℕ) → AreBytes v → AreBytes w → length v ≡ length w → key_of v ≡ key_of w → v ≡ w
unfolding key_of
key_alike [] [] bv bw long e = refl
key_alike [] (b ∷ w) bv bw long e = absurd (omega arith)
key_alike (a ∷ v) [] bv bw long e = absurd (omega arith)
key_alike (a ∷ v) (b ∷ w) bv bw long e =
    ap₂ ◌∷◌ (omega (arith, bv 0, bw 0)) (key_alike v w (λ i. bv (suc i)) (λ i. bw (suc i)) (omega arith) (omega (arith, bv 0, bw 0)))

-- whether two byte strings with these keys and lengths are equal
abbrev pub SameKey : ℕ → ℕ → ℕ → ℕ → Bool → Type 0
SameKey k count l len r = (v w : List ℕ) → IsKey v k → length v ≡ count → IsKey w l → length w ≡ len → r ≡ same v w

pub key_differs : (k count l len : ℕ) → (k ≡ l → ⊥) → SameKey k count l len false
key_differs k count l len other v w kv long kw len_w =
    sym (not_true_false (same v w) (λ e. other (kv.is ∙ (ap key_of (same_true v w e) ∙ sym kw.is))))

pub key_same : (k count l len : ℕ) → k ≡ l → SameKey k count l len (eqb count len)
key_same k count l len e v w kv long kw len_w = go (eqb count len) refl
  where
    go : (t : Bool) → eqb count len ≡ t → t ≡ same v w
    go true q =
        let one_length : length v ≡ length w = long ∙ (eqb-true count len q ∙ sym len_w) in
        sym (rw (key_alike v w kv.bytes kw.bytes one_length (sym kv.is ∙ (e ∙ kw.is))) (same_refl w))
    go false q = sym (same_length v w (λ h. eqb-false count len q (sym long ∙ (h ∙ len_w))))

-- ---- a key, byte by byte

key_less : (w : List ℕ) → AreBytes w → key_of w < 256 ^ length w
unfolding key_of
key_less [] bytes = omega arith
key_less (b ∷ w) bytes = rw pow-succ' (omega (arith, bytes 0, key_less w (λ i. bytes (suc i))))

pub no_key : IsKey [] 0
unfolding key_of
no_key = record { is = refl; bytes = λ i. omega arith }

-- there is room for one more byte
pub key_room : (w : List ℕ) (key : ℕ) → IsKey w key → length w < most_name_bytes → key < 256 ^ 7
key_room w key is short =
    let few : length w ≤ 7 = omega arith in
    let most : 256 ^ length w ≤ 256 ^ 7 = pow-le-pow_right {n = 256} (omega arith) few in
    omega (arith, key_less w is.bytes, is.is)

-- one byte more, in front
pub one_more : (b key : ℕ) (w : List ℕ) → b < 256 → IsKey w key → IsKey (b ∷ w) (key * 256 + b)
unfolding key_of
one_more b key w small is = record { is = omega (arith, is.is); bytes = each }
  where
    each : AreBytes (b ∷ w)
    each zero = small
    each (suc i) = is.bytes i

pub key_more : (w : List ℕ) (i key : ℕ) → 0 < i → i ≤ length w → get_or w (i - 1) 0 < 256 → IsKey (drop i w) key
    → IsKey (drop (i - 1) w) (key * 256 + get_or w (i - 1) 0)
key_more w i key some within small is =
    let back : i - 1 + 1 ≡ i = omega arith in
    rw (rest w (i - 1) (omega arith), back) (one_more (get_or w (i - 1) 0) key (drop i w) small is)
