-- Bytes one by one, until they are a whole character: no shorter front of an encoding is one, and bytes that are one for the first time are the encoding
-- of a scalar value; `front-none` and `none-front`: their width is 0 exactly where no front of them is one. Assumes nothing.
use Prim.Native.Nat.{ℕ, ◌+◌, ◌-◌, ◌≤◌, ◌<◌}
use native.Mathlib.Omega.{arith}
use mathlib.Core.List.{List, [], ◌∷◌, ◌++◌, append_assoc, append-nil}
use mathlib.Core.Path.{◌≡◌, ◌∙◌, ap, refl, subst, sym}
use lib.Dec.{ltb}
use lib.ListN.{length, length-append, take}
use lib.Seq.{take-append-add, take-append-le, take_all}
use Rattle.text.proofs.CharFronts.{no_second}
use Rattle.text.proofs.Choices.{cond_cases}
use Rattle.text.proofs.Utf8Agree.{Head, char_encode, char_pos, char_scalar, char_len_char, decode_encode, head_view}
use Rattle.text.proofs.Utf8Agree.Head.{a_char, no_char}
use Rattle.text.specs.Utf8.{Char, Scalar, char_len, code_of, encode}
use Rattle.escaped.specs.Wrong.{NoFront}

-- an encoding has at most 4 bytes
pub encode_four : (c : ℕ) → length (encode c) ≤ 4
unfolding encode
encode_four c =
    cond_cases Short (ltb c 0x80) _ _ (λ e. omega arith)
    (λ n1. cond_cases Short (ltb c 0x800) _ _ (λ e. omega arith)
    (λ n2. cond_cases Short (ltb c 0x10000) _ _ (λ e. omega arith) (λ n3. omega arith)))
  where
    Short : List ℕ → Type 0
    Short l = length l ≤ 4

-- and is as wide as it is long
pub encode_wide : (c : ℕ) → Scalar c → char_len (encode c) ≡ length (encode c)
encode_wide c sc = ap char_len (sym (append-nil (encode c))) ∙ char_len_char (encode c) [] (char_encode c sc)

-- it has a first byte
pub encode_some : (c : ℕ) → Scalar c → 0 < length (encode c)
encode_some c sc = char_pos (char_encode c sc)

-- it is read back
pub encode_back : (c : ℕ) → Scalar c → code_of (encode c) ≡ c
encode_back c sc = ap code_of (sym (append-nil (encode c))) ∙ decode_encode c [] sc

-- a byte above U+007F is no character alone
pub lone : (b : ℕ) → 0x80 ≤ b → char_len (b ∷ []) ≡ 0
unfolding char_len
lone b h = no_second 0 (omega arith) b [] h

-- ---- no shorter front of an encoding is a character

-- a front behind which a byte of the encoding still stands
pub part : (c : ℕ) (l : List ℕ) (x : ℕ) (r : List ℕ) → Scalar c → encode c ≡ l ++ x ∷ r → char_len l ≡ 0
part c l x r sc e = go (char_len l) refl (head_view l)
  where
    go : (n : ℕ) → char_len l ≡ n → Head l n → char_len l ≡ 0
    go n z no_char = z
    go n z (a_char {l = k} t ch f q) =
        let w : char_len (encode c) ≡ length k = ap char_len (e ∙ ap (λ (u : List ℕ). u ++ x ∷ r) q ∙ append_assoc k t (x ∷ r)) ∙ char_len_char k (t ++ x ∷ r) ch in
        absurd (omega (arith, encode_wide c sc, w, ap length e, length-append l (x ∷ r), ap length q, length-append k t))

-- ---- bytes that are a character for the first time

-- where the last byte does not belong to the character, the bytes in front of it hold the character
shorter : (bs : List ℕ) (b : ℕ) (k t : List ℕ) → bs ++ b ∷ [] ≡ k ++ t → 0 < length t → (r : List ℕ) × (bs ≡ k ++ r)
shorter bs b k t e h =
    let n = length bs - length k in
    let size : length bs ≡ length k + n = omega (arith, ap length e, length-append bs (b ∷ []), length-append k t) in
    let front : take (length bs) (bs ++ b ∷ []) ≡ bs = take-append-le (length bs) bs (b ∷ []) (omega arith) ∙ take_all (length bs) bs (omega arith) in
    (take n t, sym front ∙ ap (take (length bs)) e ∙ ap (λ (m : ℕ). take m (k ++ t)) size ∙ take-append-add k t n)

-- the bytes that were no character are one with this byte: it is their encoding
pub whole : (bs : List ℕ) (b : ℕ) → char_len bs ≡ 0 → (char_len (bs ++ b ∷ []) ≡ 0 → ⊥) → Scalar (code_of (bs ++ b ∷ [])) × (encode (code_of (bs ++ b ∷ [])) ≡ bs ++ b ∷ [])
whole bs b z n = go (char_len (bs ++ b ∷ [])) refl (head_view (bs ++ b ∷ []))
  where
    Whole : List ℕ → Type 0
    Whole l = Scalar (code_of l) × (encode (code_of l) ≡ l)

    all : (k t : List ℕ) → Char k → bs ++ b ∷ [] ≡ k ++ t → Whole (bs ++ b ∷ [])
    all k [] ch q = subst Whole (sym (q ∙ append-nil k)) (char_scalar k ch)
    all k (x ∷ t) ch q =
        let r = shorter bs b k (x ∷ t) q (omega arith) in
        let w : char_len bs ≡ length k = ap char_len r.1 ∙ char_len_char k r.0 ch in
        absurd (omega (arith, char_pos ch))

    go : (w : ℕ) → char_len (bs ++ b ∷ []) ≡ w → Head (bs ++ b ∷ []) w → Whole (bs ++ b ∷ [])
    go w e no_char = absurd (n e)
    go w e (a_char {l = k} t ch f q) = all k t ch q

-- ---- bytes that are no character yet

-- where the width is 0, no front is a character
pub none_front : (bs : List ℕ) → char_len bs ≡ 0 → NoFront bs
none_front bs z c t sc e = omega (arith, encode_some c sc, char_len_char (encode c) t (char_encode c sc), ap char_len e)

-- and the other way round
pub front_none : (bs : List ℕ) → NoFront bs → char_len bs ≡ 0
front_none bs n = go (char_len bs) refl (head_view bs)
  where
    go : (w : ℕ) → char_len bs ≡ w → Head bs w → char_len bs ≡ 0
    go w e no_char = e
    go w e (a_char {l = k} t ch f q) = let i = char_scalar k ch in absurd (n (code_of k) t i.0 (q ∙ ap (λ (x : List ℕ). x ++ t) (sym i.1)))

-- nor are fewer of the bytes one
pub fewer : (bs cs : List ℕ) → NoFront (bs ++ cs) → NoFront bs
fewer bs cs n c t sc e = n c (t ++ cs) sc (ap (λ (k : List ℕ). k ++ cs) e ∙ append_assoc (encode c) t cs)
