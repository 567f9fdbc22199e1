-- Laws of a buffer that is written from its front. Assumes nothing.
use Prim.Native.Nat.{◌+◌, ◌<◌, ◌≤◌, ℕ}
use native.Mathlib.Numerals.{add-one}
use native.Mathlib.Omega.{arith}
use mathlib.Core.Bool.{true}
use mathlib.Core.List.{List, [], ◌++◌, ◌∷◌}
use mathlib.Core.Path.{◌∙◌, ◌≡◌, ap, refl, sym}
use lib.ListN.{drop, get_or, length, set, take}
use lib.Seq.{append_snoc, length-take-le, set_at, take-length, take-suc}
use borrow.Author.Tests.{le-leb}
use Rattle.strings.proofs.PieceLaws.{encode_length}
use Rattle.strings.specs.Strings.{into_out}
use Rattle.text.proofs.Lists.{front}
use Rattle.text.specs.Utf8.{encode, encoded_into, encoded_len, scalar}

-- one more byte of t is copied
pub copy_step : (t o : List ℕ) (i : ℕ) → i < length t → length t ≤ length o → set (take i t ++ drop i o) i (get_or t i 0) ≡ take (i + 1) t ++ drop (i + 1) o
copy_step t o i h l =
    let more : take (i + 1) t ≡ take i t ++ (get_or t i 0 ∷ []) = rw add-one (take-suc t i 0 h) in
    ap (λ (x : List ℕ). set (take i t ++ x) i (get_or t i 0)) (front o i (omega arith))
    ∙ set_at (take i t) (get_or o i 0) (drop (i + 1) o) (get_or t i 0) i (length-take-le i t (omega arith))
    ∙ sym (append_snoc (take i t) (get_or t i 0) (drop (i + 1) o))
    ∙ ap (λ (x : List ℕ). x ++ drop (i + 1) o) (sym more)

pub copy_done : (t o : List ℕ) (i : ℕ) → i ≡ length t → take i t ++ drop i o ≡ into_out t o
copy_done t o i e = rw (e, take-length t)

pub put-byte : (b : ℕ) (o : List ℕ) → 1 ≤ length o → set o 0 b ≡ into_out (b ∷ []) o
put-byte b [] h = absurd (omega arith)
put-byte b (x ∷ o) h = refl

pub put_point : (c : ℕ) (o : List ℕ) → scalar c ≡ true → length (encode c) ≤ length o → encoded_into c o ≡ into_out (encode c) o
unfolding encoded_into
put_point c o e h = rw (e, le-leb (encoded_len c) (length o) (omega (arith, encode_length c)), encode_length c)
