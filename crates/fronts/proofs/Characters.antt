-- The character at the front of a part: its width and code point are those of the encoding that stands there, and the width is 0 exactly where none does.
-- Assumes nothing.
use Prim.Native.Nat.{ℕ}
use native.Mathlib.Omega.{arith}
use mathlib.Core.List.{List, ◌++◌}
use mathlib.Core.Logic.{◌↔◌}
use mathlib.Core.Path.{◌≡◌, ◌∙◌, ap, refl, sym}
use lib.ListN.{length}
use Rattle.text.specs.Utf8.{Scalar, char_len, code_of, encode}
use Rattle.text.proofs.Utf8Agree.{Head, char_encode, char_pos, char_scalar, char_len_char, decode_encode, head_view}
use Rattle.text.proofs.Utf8Agree.Head.{a_char, no_char}

pub char_front : (c : ℕ) (t : List ℕ) → Scalar c → (code_of (encode c ++ t) ≡ c) × (char_len (encode c ++ t) ≡ length (encode c))
char_front c t k = (decode_encode c t k, char_len_char (encode c) t (char_encode c k))

by_head : (s : List ℕ) (n : ℕ) → Head s n → ((c : ℕ) (t : List ℕ) → Scalar c → s ≡ encode c ++ t → ⊥) → n ≡ 0
by_head s n no_char h = refl
by_head s n (a_char {l} t ch e q) h = let k = char_scalar l ch in absurd (h (code_of l) t k.0 (q ∙ ap (λ (x : List ℕ). x ++ t) (sym k.1)))

pub no_char_front : (s : List ℕ) → (char_len s ≡ 0) ↔ ((c : ℕ) (t : List ℕ) → Scalar c → s ≡ encode c ++ t → ⊥)
no_char_front s = (
  (λ e c t k q. let w : char_len s ≡ length (encode c) = ap char_len q ∙ (char_front c t k).1 in omega (arith, char_pos (char_encode c k))),
  (λ h. by_head s (char_len s) (head_view s) h),
)
