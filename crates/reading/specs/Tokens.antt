-- The tokens of a text. Document 01: "Whitespace and comments make no entry." No place is told here: the tokens of a part depend on the part alone.
use Rattle.std.specs.Prelude.{ℕ, zero, suc, ◌+◌, ◌-◌, List, [], ◌∷◌}
use Rattle.text.specs.declared.refusal.Refusal.{Refusal}

-- A token: how many bytes of whitespace and comments stand in front of it, how many it has itself, its kind and its detail.
pub record Token : Type 0 where
  pub gap : ℕ
  pub len : ℕ
  pub kind : ℕ
  pub detail : ℕ

-- How far a token reaches: its gap and its own bytes.
abbrev pub reach : Token → ℕ
reach t = t.gap + t.len

-- The same token with nothing in front of it.
abbrev pub ungapped : Token → Token
ungapped t = record { gap = 0; len = t.len; kind = t.kind; detail = t.detail }

-- What a token reader answers at the front of a part: a token, that there is none any more, or a refusal, its place counted from the front.
pub data Answer : Type 0 where
  token : Token → Answer
  stop : Answer
  refuse : Refusal → Answer

-- Tokens one behind the other, and how they end: with the text, or with a refusal, its place counted from the end of the last token.
pub data Tokens : Type 0 where
  done : Tokens
  fault : Refusal → Tokens
  next : Token → Tokens → Tokens

-- What an answer begins, given the tokens behind so many bytes.
abbrev pub by_answer : Answer → (ℕ → Tokens) → Tokens
by_answer stop behind = done
by_answer (refuse r) behind = fault r
by_answer (token t) behind = next t (behind (reach t))

-- The tokens of a part behind its first n bytes.
unfoldable pub tokens_from : (List ℕ → Answer) → List ℕ → ℕ → Tokens
tokens_from tok [] n = done
tokens_from tok (a ∷ s) (suc n) = tokens_from tok s n
tokens_from tok (a ∷ s) zero = by_answer (tok (a ∷ s)) (λ n. tokens_from tok s (n - 1))

-- The tokens of a part.
abbrev pub tokens : (List ℕ → Answer) → List ℕ → Tokens
tokens tok s = tokens_from tok s 0
