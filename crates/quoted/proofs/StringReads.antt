-- A string is read exactly where one stands, and decodes to what stands there; and so does a byte string. Assumes nothing.
use Rattle.std.proofs.Common.{Ok, Err}
use Rattle.text.specs.Refusals.{Told}
use Prim.Native.Nat.{ℕ, ◌≤◌}
use native.Mathlib.Omega.{arith}
use mathlib.Core.List.{List, [], ◌∷◌}
use mathlib.Core.Path.{◌≡◌}
use lib.Dec.{eqb}
use lib.ListN.{drop, length}
use borrow.Author.Tests.{eqb-true}
use Rattle.escapes.specs.declared.answers.Mode.TheVariants.{Bytes, Str}
use Rattle.quoted.proofs.QuotedReads.{inside_quoted, quoted_inside}
use Rattle.quoted.proofs.RawReads.{raw_reads, raw_stands}
use Rattle.quoted.specs.Literals.{ByteStringAt, StringAt}
use Rattle.strings.proofs.QuotedLaws.{byte_string_short}
use Rattle.strings.specs.Strings.{byte_string_decoded, byte_string_of, string_decoded, string_of}
use Rattle.strings.specs.declared.literal.Literal.{Literal}
use Rattle.text.proofs.Choices.{bool_cases, either}

-- ---- strings

-- what is read is a string, and decodes to what the relation says
pub string_stands : (s : List ℕ) (l : Literal) → string_of s ≡ Ok l → StringAt s (string_decoded s) (drop l.len s)
unfolding string_of string_decoded
string_stands [] l e = let z : ◌≡◌ {A = ℕ} 0 1 = cc in absurd (omega arith)
string_stands (b ∷ s) l e =
    either (bool_cases (eqb b 0x22))
    (λ p. let q : b ≡ 0x22 = eqb-true b 0x22 p in rw q (StringAt.quoted (quoted_inside Str 1 (0x22 ∷ s) l (rw q at e)).inside))
    (λ p. either (bool_cases (eqb b 0x72))
    (λ r. let q : b ≡ 0x72 = eqb-true b 0x72 r in rw q (StringAt.raw (raw_stands Str 1 (0x72 ∷ s) l (rw q at e))))
    (λ r. let f : ◌≡◌ {A = Told Literal} (Err _) (Ok l) = rw (p, r) at e in let z : ◌≡◌ {A = ℕ} 0 1 = cc in absurd (omega arith)))

-- what the reader says where a string stands that decodes to d, and t behind it
abbrev pub Read-string : List ℕ → List ℕ → List ℕ → Type 0
Read-string s d t = (l : Literal) × (string_of s ≡ Ok l) × (string_decoded s ≡ d) × (drop l.len s ≡ t) × (l.len ≤ length s)

-- a string is read
pub string_reads : {s d t : List ℕ} → StringAt s d t → Read-string s d t
unfolding string_of string_decoded
string_reads (StringAt.quoted {s} {d} {t} x) =
    let r = inside_quoted Str 1 (0x22 ∷ s) d t x in (r.literal, r.read, r.decodes, r.behind, r.within)
string_reads (StringAt.raw {s} {d} {t} x) =
    let r = raw_reads Str 1 (0x72 ∷ s) d t x in (r.told, r.read, r.contents, r.behind, r.within)

-- ---- byte strings

-- the same of a byte string
pub byte_string_stands : (s : List ℕ) (l : Literal) → byte_string_of s ≡ Ok l → ByteStringAt s (byte_string_decoded s) (drop l.len s)
unfolding byte_string_of byte_string_decoded
byte_string_stands [] l e = let z : ◌≡◌ {A = ℕ} 0 1 = cc in absurd (omega arith)
byte_string_stands (a ∷ []) l e = let f = byte_string_short (a ∷ []) (omega arith) in let z : ◌≡◌ {A = ℕ} 0 1 = cc in absurd (omega arith)
byte_string_stands (a ∷ b ∷ s) l e =
    either (bool_cases (eqb a 0x62))
    (λ o. let i : a ≡ 0x62 = eqb-true a 0x62 o in
    either (bool_cases (eqb b 0x22))
    (λ p. let q : b ≡ 0x22 = eqb-true b 0x22 p in rw (i, q) (ByteStringAt.quoted (quoted_inside Bytes 2 (0x62 ∷ 0x22 ∷ s) l (rw (i, q) at e)).inside))
    (λ p. either (bool_cases (eqb b 0x72))
    (λ r. let q : b ≡ 0x72 = eqb-true b 0x72 r in rw (i, q) (ByteStringAt.raw (raw_stands Bytes 2 (0x62 ∷ 0x72 ∷ s) l (rw (i, q) at e))))
    (λ r. let f : ◌≡◌ {A = Told Literal} (Err _) (Ok l) = rw (o, p, r) at e in let z : ◌≡◌ {A = ℕ} 0 1 = cc in absurd (omega arith))))
    (λ o. let f : ◌≡◌ {A = Told Literal} (Err _) (Ok l) = rw o at e in let z : ◌≡◌ {A = ℕ} 0 1 = cc in absurd (omega arith))

-- what the reader says where a byte string stands that decodes to d, and t behind it
abbrev pub Read-byte-string : List ℕ → List ℕ → List ℕ → Type 0
Read-byte-string s d t = (l : Literal) × (byte_string_of s ≡ Ok l) × (byte_string_decoded s ≡ d) × (drop l.len s ≡ t) × (l.len ≤ length s)

-- a byte string is read
pub byte_string_reads : {s d t : List ℕ} → ByteStringAt s d t → Read-byte-string s d t
unfolding byte_string_of byte_string_decoded
byte_string_reads (ByteStringAt.quoted {s} {d} {t} x) =
    let r = inside_quoted Bytes 2 (0x62 ∷ 0x22 ∷ s) d t x in (r.literal, r.read, r.decodes, r.behind, r.within)
byte_string_reads (ByteStringAt.raw {s} {d} {t} x) =
    let r = raw_reads Bytes 2 (0x62 ∷ 0x72 ∷ s) d t x in (r.told, r.read, r.contents, r.behind, r.within)
