-- Escapes that are refused with 13, and for which reason (CR 1): "digit not hex, unknown letter, not a byte-escaped character, missing open brace, no
-- digits, no closing brace, not a character, Unicode in a byte literal." s is what stands behind the backslash; places are counted from there.
use Rattle.std.specs.Prelude.{ℕ, ◌+◌, ◌-◌, ◌*◌, ◌<◌, ◌≤◌, List, [], ◌∷◌, ◌++◌, ◌≡◌, length}
use Rattle.text.specs.Utf8.{Scalar, char_len, encode}
use Rattle.text.specs.declared.reason.EscapeReason.{EscapeReason}
use Rattle.text.specs.declared.reason.EscapeReason.TheVariants.{DigitNotHex, UnknownLetter, NotByteEscaped, MissingOpenBrace}
use Rattle.text.specs.declared.reason.EscapeReason.TheVariants.{NoDigits, NoClosingBrace, NotACharacter}
use Rattle.hexes.specs.Hex.{hex_of}
use Rattle.escapes.specs.declared.answers.Mode.{Mode}
use Rattle.escapes.specs.declared.answers.Mode.TheVariants.{Str, Char as InChar}
use Rattle.escaped.specs.Escape.{Letter, Hex, Written}

-- No front of these bytes is a character.
abbrev pub NoFront : List ℕ → Type 0
NoFront bs = (c : ℕ) (t : List ℕ) → Scalar c → bs ≡ encode c ++ t → ⊥

-- t does not begin with the bytes l.
abbrev pub NotAt : List ℕ → List ℕ → Type 0
NotAt l t = (u : List ℕ) → t ≡ l ++ u → ⊥

-- `Taken m s p t`: a `\x` is taken, and behind its x, at the place p, stands t. The first is always taken; in a string another one is, behind up to three
-- whose bytes form no character yet.
pub data Taken : Mode → List ℕ → ℕ → List ℕ → Type 0 where
  first : {m : Mode} {t : List ℕ} → Taken m (0x78 ∷ t) 1 t
  next : {bs s t : List ℕ} → Written bs (0x5C ∷ s) (0x5C ∷ 0x78 ∷ t) → length bs ≤ 3 → NoFront bs → Taken Str s (4 * length bs + 1) t

-- `Wrong m s why p`: behind a backslash stands s, which is refused for this reason at this place.
pub data Wrong : Mode → List ℕ → EscapeReason → ℕ → Type 0 where
  -- 1, of a `\x`: behind fewer than two hex digits stands a byte that is none.
  x_digit : {m : Mode} {p v : ℕ} {s ds : List ℕ} (b : ℕ) (t : List ℕ) → Taken m s p (ds ++ b ∷ t) → Hex 0 ds v → length ds < 2 → hex_of b ≡ 16
      → Wrong m s DigitNotHex (p + length ds + char_len (b ∷ t))
  -- 1, of a `\u{`: behind fewer than six hex digits stands a byte that is none, and no `}`.
  u_digit : {m : Mode} {v : ℕ} {ds : List ℕ} (b : ℕ) (t : List ℕ) → Hex 0 ds v → length ds < 6 → hex_of b ≡ 16 → (b ≡ 0x7D → ⊥)
      → Wrong m (0x75 ∷ 0x7B ∷ (ds ++ b ∷ t)) DigitNotHex (2 + length ds + char_len (b ∷ t))
  -- 2: a letter that means nothing, and neither `x` nor `u`.
  letter : {m : Mode} (b : ℕ) (t : List ℕ) → ((v : ℕ) → Letter b v → ⊥) → (b ≡ 0x78 → ⊥) → (b ≡ 0x75 → ⊥) → Wrong m (b ∷ t) UnknownLetter (char_len (b ∷ t))
  -- 3, in a char: a `\x` above 7F.
  high : {h l c : ℕ} {t : List ℕ} → Hex 0 (h ∷ l ∷ []) c → 0x80 ≤ c → Wrong InChar (0x78 ∷ h ∷ l ∷ t) NotByteEscaped 3
  -- 3, in a string: one to four `\x` whose bytes form no character, and no more of them are taken.
  bytes : {bs s t : List ℕ} → Written bs (0x5C ∷ s) t → 1 ≤ length bs → length bs ≤ 4 → NoFront bs → (length bs < 4 → NotAt (0x5C ∷ 0x78 ∷ []) t)
      → Wrong Str s NotByteEscaped (4 * length bs - 1)
  -- 4: behind the `u` stands no `{`.
  no_brace : {m : Mode} (t : List ℕ) → NotAt (0x7B ∷ []) t → Wrong m (0x75 ∷ t) MissingOpenBrace 1
  -- 5: `\u{}`.
  no_digits : {m : Mode} {t : List ℕ} → Wrong m (0x75 ∷ 0x7B ∷ 0x7D ∷ t) NoDigits 2
  -- 6: behind six digits stands no `}`.
  not_closed : {m : Mode} {v : ℕ} {ds : List ℕ} (t : List ℕ) → Hex 0 ds v → length ds ≡ 6 → NotAt (0x7D ∷ []) t
      → Wrong m (0x75 ∷ 0x7B ∷ (ds ++ t)) NoClosingBrace 8
  -- 7: one to six digits in braces that come to no scalar value.
  no_scalar : {m : Mode} {v : ℕ} {ds : List ℕ} (t : List ℕ) → Hex 0 ds v → 1 ≤ length ds → length ds ≤ 6 → (Scalar v → ⊥)
      → Wrong m (0x75 ∷ 0x7B ∷ (ds ++ 0x7D ∷ t)) NotACharacter (3 + length ds)

-- `Ends m s`: the text ends before the escape does, which is 6 at its end.
pub data Ends : Mode → List ℕ → Type 0 where
  nothing : {m : Mode} → Ends m []
  x_ends : {m : Mode} {p v : ℕ} {s ds : List ℕ} → Taken m s p ds → Hex 0 ds v → length ds < 2 → Ends m s
  u_ends : {m : Mode} {v : ℕ} {ds : List ℕ} → Hex 0 ds v → length ds < 6 → Ends m (0x75 ∷ 0x7B ∷ ds)
