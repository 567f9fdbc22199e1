-- Laws of what the scan passes over: where it ends, and that this lies within the part. Assumes nothing.
use Rattle.std.proofs.Common.{Ok, Err}
use Rattle.text.specs.Refusals.{Told}
use Rattle.strings.specs.declared.literal.Literal.{Literal}
use Prim.Native.Nat.{◌+◌, ◌^◌, ◌<◌, ◌≤◌, ℕ}
use native.Mathlib.Omega.{arith}
use mathlib.Core.List.{List}
use mathlib.Core.Path.{◌≡◌, refl, subst}
use lib.Dec.{eqb}
use lib.ListN.{drop, length, length-drop}
use Rattle.text.proofs.Choices.{cond_cases}
use Rattle.text.specs.Refusals.{placed_behind}
use Rattle.comments.proofs.GapLaws.{EndsBy, gap_bounded}
use Rattle.comments.specs.Gaps.{gap_of}
use Rattle.comments.specs.declared.gap.Gap.{Gap}
use Rattle.comments.specs.declared.gap.Gap.TheVariants as gap
use Rattle.strings.proofs.Bounds.{Bounded-char, Bounded-string, byte_string_bounded, char_bounded, string_bounded}
use Rattle.strings.specs.Chars.{char_of}
use Rattle.strings.specs.Strings.{string_of, byte_string_of}
use Rattle.structs.specs.Passes.{Fits, FitsLiteral, behind_char, behind_gap, behind_literal, past_byte_string, past_char, past_gap, past_string}

-- ---- from a place that was reached

module _ (s : List ℕ) (from : Told ℕ) (at : ℕ) (e : from ≡ Ok at) where
  pub past-gap : (g : Gap) → gap_of (drop at s) ≡ g → past_gap s from ≡ behind_gap at g
  unfolding past_gap
  past-gap g h = rw (e, h)

  pub past-char : (r : Told (ℕ × ℕ)) → char_of (drop at s) ≡ r → past_char s from ≡ behind_char at r
  unfolding past_char
  past-char r h = rw (e, h)

  pub past-string : (r : Told Literal) → string_of (drop at s) ≡ r → past_string s from ≡ behind_literal 16 at r
  unfolding past_string
  past-string r h = rw (e, h)

  pub past-byte-string : (r : Told Literal) → byte_string_of (drop at s) ≡ r → past_byte_string s from ≡ behind_literal 18 at r
  unfolding past_byte_string
  past-byte-string r h = rw (e, h)

  pub place_le : Fits (length s) from → at ≤ length s
  place_le f = rw e at f

-- ---- within the part

gap_by : (size at n : ℕ) (g : Gap) → at + n ≤ size → EndsBy n g → Fits size (behind_gap at g)
gap_by size at n (gap.Clear m) h b = omega arith
gap_by size at n (gap.InLine m) h b = omega arith
gap_by size at n (gap.Refused r) h b = omega arith

char_by : (size at : ℕ) (s : List ℕ) (r : Told (ℕ × ℕ)) → at + length s ≤ size → Bounded-char s r → Fits size (behind_char at r)
char_by size at s (Ok (n, c)) h b = omega (arith, b.1)
char_by size at s (Err r) h b = omega arith

literal_by : (none size at : ℕ) (s : List ℕ) (r : Told Literal) → at + length s ≤ size → Bounded-string s r → Fits size (behind_literal none at r)
literal_by none size at s (Ok l) h b = omega (arith, b.1)
literal_by none size at s (Err r) h b =
    cond_cases (Fits size) (eqb r.number none) (Ok at) (Err (placed_behind at r)) (λ e. omega arith) (λ e. omega arith)

literal_fits : (size at : ℕ) (s : List ℕ) (r : Told Literal) → at + length s ≤ size → size < 2 ^ 64 → Bounded-string s r → FitsLiteral at r
literal_fits size at s (Ok l) h m b = omega (arith, b.1)
literal_fits size at s (Err r) h m b = omega arith

module _ (s : List ℕ) (at : ℕ) (h : at ≤ length s) where
  rest : at + length (drop at s) ≤ length s
  rest = omega (arith, length-drop at s)

  pub gap_at : (g : Gap) → gap_of (drop at s) ≡ g → Fits (length s) (behind_gap at g)
  gap_at g e = gap_by (length s) at (length (drop at s)) g rest (subst (EndsBy (length (drop at s))) e (gap_bounded (drop at s)))

  pub char_at : (r : Told (ℕ × ℕ)) → char_of (drop at s) ≡ r → Fits (length s) (behind_char at r)
  char_at r e = char_by (length s) at (drop at s) r rest (subst (Bounded-char (drop at s)) e (char_bounded (drop at s)))

  pub string_at : Fits (length s) (behind_literal 16 at (string_of (drop at s)))
  string_at = literal_by 16 (length s) at (drop at s) (string_of (drop at s)) rest (string_bounded (drop at s))

  pub byte_string_at : Fits (length s) (behind_literal 18 at (byte_string_of (drop at s)))
  byte_string_at = literal_by 18 (length s) at (drop at s) (byte_string_of (drop at s)) rest (byte_string_bounded (drop at s))

  pub string_places : length s < 2 ^ 64 → FitsLiteral at (string_of (drop at s))
  string_places l = literal_fits (length s) at (drop at s) (string_of (drop at s)) rest l (string_bounded (drop at s))

  pub byte_string_places : length s < 2 ^ 64 → FitsLiteral at (byte_string_of (drop at s))
  byte_string_places l = literal_fits (length s) at (drop at s) (byte_string_of (drop at s)) rest l (byte_string_bounded (drop at s))

module _ (s : List ℕ) where
  pub gap_fits : (from : Told ℕ) → Fits (length s) from → Fits (length s) (past_gap s from)
  unfolding past_gap
  gap_fits (Ok at) h = gap_at s at h (gap_of (drop at s)) refl
  gap_fits (Err r) h = h

  pub char_fits : (from : Told ℕ) → Fits (length s) from → Fits (length s) (past_char s from)
  unfolding past_char
  char_fits (Ok at) h = char_at s at h (char_of (drop at s)) refl
  char_fits (Err r) h = h

  pub string_fits : (from : Told ℕ) → Fits (length s) from → Fits (length s) (past_string s from)
  unfolding past_string
  string_fits (Ok at) h = string_at s at h
  string_fits (Err r) h = h

  pub byte_string_fits : (from : Told ℕ) → Fits (length s) from → Fits (length s) (past_byte_string s from)
  unfolding past_byte_string
  byte_string_fits (Ok at) h = byte_string_at s at h
  byte_string_fits (Err r) h = h
