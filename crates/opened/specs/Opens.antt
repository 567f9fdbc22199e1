-- What it means that something that is not closed begins at a place, or that a field is named before, said without the search that finds it.
use Rattle.std.specs.Prelude.{Err, ℕ, ◌<◌, ◌≤◌, true, List, ◌∷◌, ◌⊎◌, ◌≡◌, drop}
use Rattle.comments.specs.Blocks.{Body}
use Rattle.strings.specs.Strings.{string_of, byte_string_of}
use Rattle.text.specs.declared.refusal.Refusal.{Refusal}
use Rattle.fields.specs.Names.{name_at}
use Rattle.opened.specs.Brackets.{innermost}
use Rattle.opened.specs.Former.{is_field}

-- A block comment begins at p and is not closed: `/*` stands there, and behind it no body of a comment.
pub record CommentAt (text : List ℕ) (p : ℕ) : Type 0 where
  pub behind : List ℕ
  pub stands : drop p text ≡ 0x2f ∷ 0x2a ∷ behind
  pub not_closed : (t : List ℕ) → Body behind t → ⊥

-- A string that is not closed has its quote at p: a quote stands there, and the string that begins at it, or at `b` or `r` before it, is refused with 17.
pub record QuoteAt (text : List ℕ) (p : ℕ) : Type 0 where
  pub behind : List ℕ
  pub stands : drop p text ≡ 0x22 ∷ behind
  pub begins : ℕ
  pub before : begins ≤ p
  pub refusal : Refusal
  pub number_is : refusal.number ≡ 17
  pub not_closed : (string_of (drop begins text) ≡ Err refusal) ⊎ (byte_string_of (drop begins text) ≡ Err refusal)

-- Entry i names a field before entry n, with the same name and in the same brackets: the innermost bracket that is open before both is one.
pub record NamedBefore (text tape : List ℕ) (n i : ℕ) : Type 0 where
  pub before : i < n
  pub is-field : is_field tape i ≡ true
  pub alike : name_at text tape i ≡ name_at text tape n
  pub together : innermost tape i ≡ innermost tape n
