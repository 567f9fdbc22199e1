-- The front of a part: a byte that stands there, and a character. Assumes nothing.
use Prim.Native.Nat.{ℕ, suc, ◌+◌, ◌<◌, ◌≤◌}
use native.Mathlib.Omega.{arith}
use mathlib.Core.List.{List, [], ◌∷◌, ◌++◌}
use mathlib.Core.Path.{◌≡◌, ◌∙◌, ap, sym}
use lib.ListN.{get_or-eq_default, drop, get_or, length, length-drop}
use lib.Seq.{drop_at}
use Rattle.text.proofs.Choices.{either, lt_or_le}
use Rattle.text.proofs.Lists.{front}
use Rattle.text.proofs.Utf8Agree.{Head, char_scalar, decode_encode, encode_1, head_view}
use Rattle.text.proofs.Utf8Agree.Head.{a_char, no_char}
use Rattle.text.specs.Utf8.{Scalar, char_len, code_of, encode}

-- a byte that is not 0 stands within its part
pub stands : (s : List ℕ) (i x : ℕ) → 0 < x → get_or s i 0 ≡ x → i < length s
stands s i x p e =
    either (lt_or_le i (length s)) (λ h. h)
    (λ h. let z : get_or s i 0 ≡ 0 = get_or-eq_default s 0 h in absurd (omega arith))

-- and what stands from there on begins with it
pub begins : (s : List ℕ) (i x : ℕ) → 0 < x → get_or s i 0 ≡ x → drop i s ≡ x ∷ drop (i + 1) s
begins s i x p e = front s i (stands s i x p e) ∙ ap (λ (b : ℕ). b ∷ drop (i + 1) s) e

-- two places in a part with the same rest are one
pub same_place : (s : List ℕ) (i k : ℕ) → i ≤ length s → k ≤ length s → drop i s ≡ drop k s → i ≡ k
same_place s i k h j e = omega (arith, ap length e, length-drop i s, length-drop k s)

-- by what the width says of the part
by_head : (s : List ℕ) (n k : ℕ) → Head s n → n ≡ suc k → Scalar (code_of s) × (s ≡ encode (code_of s) ++ drop (suc k) s) × (length (encode (code_of s)) ≡ suc k)
by_head s n k no_char e = absurd (omega arith)
by_head s n k (a_char {l} t {n = j} ch long q) e =
    let z = char_scalar l ch in
    let c : code_of s ≡ code_of l = ap code_of (q ∙ ap (λ (x : List ℕ). x ++ t) (sym z.1)) ∙ decode_encode (code_of l) t z.0 in
    let d : drop (suc k) s ≡ t = ap (drop (suc k)) q ∙ drop_at l t (suc k) (omega arith) in
    rw c (z.0, q ∙ ap (λ (x : List ℕ). x ++ t) (sym z.1) ∙ ap (λ (x : List ℕ). encode (code_of l) ++ x) (sym d), ap length z.1 ∙ omega arith)

-- the character at the front is the encoding of its code point
pub first_char : (s : List ℕ) (k : ℕ) → char_len s ≡ suc k → Scalar (code_of s) × (s ≡ encode (code_of s) ++ drop (suc k) s) × (length (encode (code_of s)) ≡ suc k)
first_char s k e = by_head s (char_len s) k (head_view s) e

-- a character that begins with a byte of ASCII is that byte
pub same_first : (c b : ℕ) (w r : List ℕ) → c < 0x80 → b ∷ w ≡ encode c ++ r → b ≡ c
same_first c b w r h e = let q : b ∷ w ≡ (c ∷ []) ++ r = e ∙ ap (λ (x : List ℕ). x ++ r) (encode_1 c h) in cc
