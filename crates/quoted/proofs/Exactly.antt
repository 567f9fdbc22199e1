-- Strings, byte strings, chars and byte literals are read and decoded exactly as specs/Literals.antt says, over any bytes.
--     string-exactly, byte-string-exactly    what stands there is what is read: the bytes that it decodes to, and where it ends
--     string-length, byte-string-length      the length that is told is that of the decoded bytes
--     char-exactly, byte-exactly             a char, a byte literal, with its length and its code point or byte
-- Assumes nothing.
use Rattle.std.proofs.Common.{Ok}
use Prim.Native.Nat.{ℕ, ◌≤◌}
use mathlib.Core.List.{List}
use mathlib.Core.Logic.{◌↔◌}
use mathlib.Core.Path.{◌≡◌, ◌∙◌, ap, subst, sym}
use lib.ListN.{drop, length}
use Rattle.quoted.proofs.ByteLiterals.{byte_reads, byte_stands}
use Rattle.quoted.proofs.Chars.{char_reads, char_stands}
use Rattle.quoted.proofs.Fronts.{same_place}
use Rattle.quoted.proofs.StringReads.{byte_string_reads, byte_string_stands, string_reads, string_stands}
use Rattle.quoted.specs.Literals.{ByteAt, ByteStringAt, CharAt, StringAt}
use Rattle.strings.proofs.Wholes.{byte_string_whole, string_whole}
use Rattle.strings.specs.Chars.{byte_of, char_of}
use Rattle.strings.specs.Strings.{byte_string_decoded, byte_string_of, string_decoded, string_of}
use Rattle.strings.specs.declared.literal.Literal.{Literal}

-- ---- strings

-- a string stands at the front of s that decodes to d, and t behind it, exactly where one is read, decodes to d and ends before t
pub string_exactly : (s d t : List ℕ) → StringAt s d t ↔ ((l : Literal) × (string_of s ≡ Ok l) × (string_decoded s ≡ d) × (drop l.len s ≡ t) × (l.len ≤ length s))
string_exactly s d t = (
  λ x. string_reads x,
  λ r. subst (λ (x : List ℕ). StringAt s x t) r.2 (subst (StringAt s (string_decoded s)) r.3 (string_stands s r.0 r.1)),
)

-- the length that is told is that of the decoded bytes
pub string_length : (s : List ℕ) (l : Literal) → string_of s ≡ Ok l → length (string_decoded s) ≡ l.decoded
string_length s l e = (string_whole s l e).count

-- the same of byte strings
pub byte_string_exactly : (s d t : List ℕ) → ByteStringAt s d t ↔ ((l : Literal) × (byte_string_of s ≡ Ok l) × (byte_string_decoded s ≡ d) × (drop l.len s ≡ t) × (l.len ≤ length s))
byte_string_exactly s d t = (
  λ x. byte_string_reads x,
  λ r. subst (λ (x : List ℕ). ByteStringAt s x t) r.2 (subst (ByteStringAt s (byte_string_decoded s)) r.3 (byte_string_stands s r.0 r.1)),
)

-- and of their lengths
pub byte_string_length : (s : List ℕ) (l : Literal) → byte_string_of s ≡ Ok l → length (byte_string_decoded s) ≡ l.decoded
byte_string_length s l e = (byte_string_whole s l e).count

-- ---- chars and byte literals

-- a char of n bytes is read exactly where one stands
pub char_exactly : (s : List ℕ) (n c : ℕ) → (char_of s ≡ Ok (n, c)) ↔ ((n ≤ length s) × CharAt s c (drop n s))
char_exactly s n c = (
  λ e. char_stands s n c e,
  λ h. let r = char_reads h.1 in r.3 ∙ ap (λ (i : ℕ). Ok (i, c)) (same_place s r.0 n r.1 h.0 (sym r.2)),
)

-- a byte literal of n bytes is read exactly where one stands
pub byte_exactly : (s : List ℕ) (n b : ℕ) → (byte_of s ≡ Ok (n, b)) ↔ ((n ≤ length s) × ByteAt s b (drop n s))
byte_exactly s n b = (
  λ e. byte_stands s n b e,
  λ h. let r = byte_reads h.1 in r.3 ∙ ap (λ (i : ℕ). Ok (i, b)) (same_place s r.0 n r.1 h.0 (sym r.2)),
)
