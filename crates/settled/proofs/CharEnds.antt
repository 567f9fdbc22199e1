-- The character at the front, once it has come whole: nothing behind it changes it. Assumes nothing.
use Prim.Native.Nat.{ℕ, ◌<◌}
use native.Mathlib.Omega.{arith}
use mathlib.Core.Bool.{Bool, cond}
use mathlib.Core.List.{List, ◌++◌, append_assoc}
use mathlib.Core.Path.{◌≡◌, ◌∙◌, ap, ap₂, sym}
use lib.ListN.{length}
use Rattle.text.proofs.Utf8Agree.{Head, char_encode, char_scalar, char_len_char, decode_encode, head_view}
use Rattle.text.proofs.Utf8Agree.Head.{a_char, no_char}
use Rattle.text.specs.Ahead.{char_if}
use Rattle.text.specs.Utf8.{Scalar, char_len, code_of, encode}

-- p begins with a character
pub record Front (p : List ℕ) : Type 0 where
  pub code : ℕ
  pub rest : List ℕ
  pub scalar : Scalar code
  pub split : p ≡ encode code ++ rest

pub front_char : (p : List ℕ) → 0 < char_len p → Front p
front_char p h = go (char_len p) (head_view p) h
  where
    go : (n : ℕ) → Head p n → 0 < n → Front p
    go n no_char h = absurd (omega arith)
    go n (a_char {l} t c e q) h =
        let k = char_scalar l c in
        record { code = code_of l; rest = t; scalar = k.0; split = q ∙ ap (λ (x : List ℕ). x ++ t) (sym k.1) }

module _ (p v : List ℕ) (h : 0 < char_len p) where
  pub front_more : (f : Front p) → p ++ v ≡ encode f.code ++ (f.rest ++ v)
  front_more f = ap (λ (x : List ℕ). x ++ v) f.split ∙ append_assoc (encode f.code) f.rest v

  pub len_more : char_len (p ++ v) ≡ char_len p
  len_more =
      let f = front_char p h in
      let one : (t : List ℕ) → char_len (encode f.code ++ t) ≡ length (encode f.code) = λ t. char_len_char (encode f.code) t (char_encode f.code f.scalar) in
      ap char_len (front_more f) ∙ one (f.rest ++ v) ∙ sym (one f.rest) ∙ ap char_len (sym f.split)

  code_more : code_of (p ++ v) ≡ code_of p
  code_more =
      let f = front_char p h in
      ap code_of (front_more f) ∙ decode_encode f.code (f.rest ++ v) f.scalar ∙ sym (decode_encode f.code f.rest f.scalar) ∙ ap code_of (sym f.split)

  -- of a class or not
  pub if_more : (q : ℕ → Bool) → char_if q (p ++ v) ≡ char_if q p
  unfolding char_if
  if_more q = ap₂ (λ (k n : ℕ). cond (q k) n 0) code_more len_more
