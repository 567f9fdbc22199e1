-- The token reader of RON (document 01, module 9): "Whitespace and comments make no entry." It is the reader that the theory of readings is used with.
use Rattle.std.specs.Prelude.{Ok, Err, ℕ, cond, List, ltb, length, drop}
use Rattle.text.specs.Refusals.{Told, placed_behind}
use Rattle.tokens.specs.declared.lexeme.Lexeme.{Lexeme}
use Rattle.comments.specs.Gaps.{gap_of}
use Rattle.comments.specs.declared.gap.Gap.{Gap}
use Rattle.comments.specs.declared.gap.Gap.TheVariants as gap
use Rattle.reading.specs.Tokens.{Answer, token, stop, refuse}
use Rattle.tokens.specs.declared.following.Following.{Following}
use Rattle.tokens.specs.declared.following.Following.TheVariants.{Token, End, Refused}
use Rattle.tokens.specs.Token.{token_of}
use Rattle.tokens.specs.Lexemes.{lexeme_of}

-- The code's answer in the words of the theory.
abbrev pub answer_of : Following → Answer
answer_of (Token g l) = token (record { gap = g; len = l.len; kind = l.kind; detail = l.detail })
answer_of End = stop
answer_of (Refused r) = refuse r

-- A lexeme behind g bytes.
abbrev pub lexeme_behind : ℕ → Told Lexeme → Answer
lexeme_behind g (Ok l) = token (record { gap = g; len = l.len; kind = l.kind; detail = l.detail })
lexeme_behind g (Err r) = refuse (placed_behind g r)

-- What stands behind a gap: a token, unless the text ends there.
abbrev pub by_gap : List ℕ → Gap → Answer
by_gap s (gap.Clear g) = let found = lexeme_behind g (lexeme_of (token_of (drop g s))) in cond (ltb g (length s)) found stop
by_gap s (gap.InLine n) = stop
by_gap s (gap.Refused r) = refuse r

-- The first token of s.
unfoldable pub ron_token : List ℕ → Answer
ron_token s = by_gap s (gap_of s)
