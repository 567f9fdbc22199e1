-- Plain tokens: those that a look at their own bytes and the one behind them tells, with nothing in front. Document 01 knows only tokens (module 9); that
-- a plain token is the token that stands there is proved in proofs/PlainLaws.antt, so nothing here has to be believed.
use Rattle.std.specs.Prelude.{ℕ, ◌-◌, cond, List, ltb, get_or}
use Rattle.plain_names.specs.inner.PlainNames.{plain_name}
use Rattle.plain_numbers.specs.inner.PlainNumbers.{plain_number}
use Rattle.plain_strings.specs.inner.PlainStrings.{plain_string}
use Rattle.tokens.specs.Shapes.{mark_kind}
use Rattle.tokens.specs.declared.lexeme.Lexeme.{Lexeme}

-- The plain token at the front of s: a plain name, a mark, a plain string or a plain number; its length is 0 where none stands there.
unfoldable pub plain_of : List ℕ → Lexeme
plain_of s =
    let name = plain_name s in
    let kind = mark_kind (get_or s 0 0) in
    let quoted = plain_string s in
    cond (ltb 0 name) (record { len = name; kind = 9; detail = 0 })
    (cond (ltb 0 kind) (record { len = 1; kind = kind; detail = 0 })
    (cond (ltb 0 quoted) (record { len = quoted; kind = 14; detail = quoted - 2 })
    (plain_number s)))
