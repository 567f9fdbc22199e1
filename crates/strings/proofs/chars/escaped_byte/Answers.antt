use Rattle.std.proofs.Common.{Err}
use lib.ListN.{drop}
use mathlib.Core.Path.{◌∙◌, ◌≡◌, ap, sym}
use Rattle.cursor.specs.declared.escape.Escaped.TheVariants.{Ascii, Utf8, Refused}
use Rattle.cursor.specs.declared.escape.Escaped.{Escaped}
use Rattle.escapes.specs.Escapes.{escape_of}
use Rattle.escapes.specs.declared.answers.Mode.TheVariants.{Bytes}
use Rattle.strings.proofs.CursorLaws.{byte-escaped, byte_escaped}
use Rattle.strings.specs.Chars.{by_byte_escape}
use Rattle.strings.proofs.chars.escaped_byte.Goals as goal

pub returns-in-Ascii : goal.returns-in-Ascii
returns-in-Ascii c =
    let read : (x : Escaped) → c.parse_escape-escaped.result ≡ x → byte_escaped c.args.s.now x ≡ by_byte_escape c.args.s.now (escape_of Bytes (drop 3 c.args.s.now)) = λ x e. ap (byte_escaped c.args.s.now) (sym e ∙ c.parse_escape-escaped.ensures)
    ∙ byte-escaped c.args.s.now c.args.cursor c.requires in
    c.byte_ends.ensures ∙ read (Ascii _ _) c.in-Ascii.is

pub returns-in-Utf8 : goal.returns-in-Utf8
returns-in-Utf8 c =
    let read : (x : Escaped) → c.parse_escape-escaped.result ≡ x → byte_escaped c.args.s.now x ≡ by_byte_escape c.args.s.now (escape_of Bytes (drop 3 c.args.s.now)) = λ x e. ap (byte_escaped c.args.s.now) (sym e ∙ c.parse_escape-escaped.ensures)
    ∙ byte-escaped c.args.s.now c.args.cursor c.requires in
    ap Err c.in_byte_literal.ensures ∙ read (Utf8 _ _) c.in-Utf8.is

pub returns-in-Refused : goal.returns-in-Refused
returns-in-Refused c =
    let read : (x : Escaped) → c.parse_escape-escaped.result ≡ x → byte_escaped c.args.s.now x ≡ by_byte_escape c.args.s.now (escape_of Bytes (drop 3 c.args.s.now)) = λ x e. ap (byte_escaped c.args.s.now) (sym e ∙ c.parse_escape-escaped.ensures)
    ∙ byte-escaped c.args.s.now c.args.cursor c.requires in
    read (Refused _) c.in-Refused.is
