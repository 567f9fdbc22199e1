-- The gap before a token (document 01, modules 1 and 2), said plainly: "Whitespace: U+0009 to U+000D, U+0020, U+0085, U+200E, U+200F, U+2028, U+2029."
-- "Block comments nest; `//` runs to LF. Unclosed at the end, a line comment is accepted." Refusals 4, 5 and 6.
use Rattle.std.specs.Prelude.{ℕ, ◌+◌, true, List, [], ◌∷◌, ◌++◌, ◌≡◌, length}
use Rattle.text.specs.Classes.{blank}
use Rattle.text.specs.Utf8.{Scalar, char_len, encode}
use Rattle.comments.specs.Blocks.{Body}

-- A line that no LF ends.
pub data Line : List ℕ → Type 0 where
  none : Line []
  more : {b : ℕ} {w : List ℕ} → (b ≡ 0x0A → ⊥) → Line w → Line (b ∷ w)

-- `Gap s t`: s begins with whitespace and comments, each as a whole, and then stands t.
pub data Gap : List ℕ → List ℕ → Type 0 where
  none : {s : List ℕ} → Gap s s
  space : {c : ℕ} {s t : List ℕ} → Scalar c → blank c ≡ true → Gap s t → Gap (encode c ++ s) t
  line : {w s t : List ℕ} → Line w → Gap (0x0A ∷ s) t → Gap (0x2F ∷ 0x2F ∷ (w ++ 0x0A ∷ s)) t
  block : {s u t : List ℕ} → Body s u → Gap u t → Gap (0x2F ∷ 0x2A ∷ s) t

-- No gap goes on here: no whitespace stands at the front, and no `/`.
pub record Clear (t : List ℕ) : Type 0 where
  pub no_blank : (c : ℕ) (u : List ℕ) → Scalar c → blank c ≡ true → t ≡ encode c ++ u → ⊥
  pub no_slash : (u : List ℕ) → t ≡ 0x2F ∷ u → ⊥

-- The gap is whole, and then stands t.
abbrev pub Whole : List ℕ → List ℕ → Type 0
Whole s t = Gap s t × Clear t

-- The gap runs into a line comment that the text's end leaves open.
abbrev pub OpenLine : List ℕ → Type 0
OpenLine s = (w : List ℕ) × Line w × Gap s (0x2F ∷ 0x2F ∷ w)

-- 4: it runs into a block comment that nothing closes.
abbrev pub OpenBlock : List ℕ → Type 0
OpenBlock s = (w : List ℕ) × Gap s (0x2F ∷ 0x2A ∷ w) × ((t : List ℕ) → Body w t → ⊥)

-- 5: it runs into a `/` with neither `/` nor `*` behind it; b is what stands there, and then w.
abbrev pub StraySlash : List ℕ → ℕ → List ℕ → Type 0
StraySlash s b w = Gap s (0x2F ∷ b ∷ w) × (b ≡ 0x2F → ⊥) × (b ≡ 0x2A → ⊥)

-- And p is behind the character that stands there: as many bytes behind b's place as the character has.
abbrev pub Behind : List ℕ → ℕ → List ℕ → ℕ → Type 0
Behind s b w p = p + length (b ∷ w) ≡ length s + char_len (b ∷ w)

-- 6: it runs into a `/` at the end of the text.
abbrev pub LastSlash : List ℕ → Type 0
LastSlash s = Gap s (0x2F ∷ [])
