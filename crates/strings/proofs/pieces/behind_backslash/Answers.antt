use Prim.Native.Nat.{◌+◌, ℕ}
use native.Mathlib.Omega.{arith}
use mathlib.Core.Path.{◌∙◌, ap, sym}
use Rattle.escapes.specs.declared.answers.EscapeAnswer.TheVariants.{Ascii, Utf8, Refused}
use Rattle.strings.proofs.PieceLaws.{fits}
use Rattle.strings.specs.Pieces.{behind_backslash, by_escape}
use Rattle.strings.specs.declared.pieces.Decoded.TheVariants.{Nothing}
use Rattle.strings.specs.declared.pieces.Piece.TheVariants.{Backslash}
use Rattle.strings.specs.declared.pieces.Piece.TheVariants as pieces
use Rattle.text.proofs.RunLaws.{run_le}
use Rattle.text.specs.Classes.{continuation_blank}
use Rattle.strings.proofs.pieces.behind_backslash.Goals as goal

pub overflow_add-result : goal.overflow_add-result
overflow_add-result c = omega (arith, c.count_blanks.ensures, run_le continuation_blank c.args.s.now)

pub returns-then-is_line_end : goal.returns-then-is_line_end
unfolding behind_backslash
returns-then-is_line_end c = rw (sym c.is_line_end.ensures ∙ c.if-is_line_end.true) (ap (λ (k : ℕ). Backslash (k + 1) Nothing) c.count_blanks.ensures)

pub overflow_add-result-in-Ascii : goal.overflow_add-result-in-Ascii
overflow_add-result-in-Ascii c = omega (arith, fits c.args.m c.args.s.now (Ascii c.in-Ascii.b c.in-Ascii.n) (sym c.in-Ascii.is ∙ c.parse_escape.ensures))

pub overflow_add-result-in-Utf8 : goal.overflow_add-result-in-Utf8
overflow_add-result-in-Utf8 c = omega (arith, (fits c.args.m c.args.s.now (Utf8 c.in-Utf8.c c.in-Utf8.n) (sym c.in-Utf8.is ∙ c.parse_escape.ensures)).0)

pub placed_behind-requires : goal.placed_behind-requires
placed_behind-requires c = omega (arith, fits c.args.m c.args.s.now (Refused c.in-Refused.r) (sym c.in-Refused.is ∙ c.parse_escape.ensures))

pub returns-in-Ascii : goal.returns-in-Ascii
unfolding behind_backslash
returns-in-Ascii c = rw (sym c.is_line_end.ensures ∙ c.if-is_line_end.false) (ap by_escape (sym c.in-Ascii.is ∙ c.parse_escape.ensures))

pub returns-in-Utf8 : goal.returns-in-Utf8
unfolding behind_backslash
returns-in-Utf8 c = rw (sym c.is_line_end.ensures ∙ c.if-is_line_end.false) (ap by_escape (sym c.in-Utf8.is ∙ c.parse_escape.ensures))

pub returns-in-Refused : goal.returns-in-Refused
unfolding behind_backslash
returns-in-Refused c = rw (sym c.is_line_end.ensures ∙ c.if-is_line_end.false) (ap pieces.Refused c.placed_behind.ensures ∙ ap by_escape (sym c.in-Refused.is ∙ c.parse_escape.ensures))
