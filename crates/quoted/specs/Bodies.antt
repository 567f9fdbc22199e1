-- The body of a quoted string (document 01, module 4), said plainly: bytes that stand for themselves, escapes, and line continuations, up to the closing quote.
-- "Continuation whitespace: space, tab, LF, CR."
use Rattle.std.specs.Prelude.{ℕ, true, false, List, [], ◌∷◌, ◌++◌, ◌≡◌, get_or}
use Rattle.text.specs.Classes.{continuation_blank}
use Rattle.text.specs.Utf8.{encode}
use Rattle.escapes.specs.declared.answers.Mode.{Mode}
use Rattle.escaped.specs.Escape.{Escape, Meant}
use Rattle.escaped.specs.Escape.Meant.{byte, point}

-- The bytes that an escape decodes to.
abbrev pub decoded_to : Meant → List ℕ
decoded_to (byte b) = b ∷ []
decoded_to (point c) = encode c

-- Continuation whitespace, as far as it stands, and then t. Past the end stands 0, which is none.
pub data Blanks : List ℕ → List ℕ → Type 0 where
  none : {t : List ℕ} → continuation_blank (get_or t 0 0) ≡ false → Blanks t t
  more : {b : ℕ} {s t : List ℕ} → continuation_blank b ≡ true → Blanks s t → Blanks (b ∷ s) t

-- A line continuation behind its backslash: LF or CRLF, then continuation whitespace.
pub data Continued : List ℕ → List ℕ → Type 0 where
  lf : {s t : List ℕ} → Blanks s t → Continued (0x0A ∷ s) t
  crlf : {s t : List ℕ} → Blanks s t → Continued (0x0D ∷ 0x0A ∷ s) t

-- `Inside m s d t`: s, from behind the opening quote, is a body that decodes to d, with its closing quote, and then t.
pub data Inside (m : Mode) : List ℕ → List ℕ → List ℕ → Type 0 where
  closes : {t : List ℕ} → Inside m (0x22 ∷ t) [] t
  itself : {b : ℕ} {s d t : List ℕ} → (b ≡ 0x22 → ⊥) → (b ≡ 0x5C → ⊥) → Inside m s d t → Inside m (b ∷ s) (b ∷ d) t
  escaped : {v : Meant} {s u d t : List ℕ} → Escape m s v u → Inside m u d t → Inside m (0x5C ∷ s) (decoded_to v ++ d) t
  continued : {s u d t : List ℕ} → Continued s u → Inside m u d t → Inside m (0x5C ∷ s) d t
