use native.Mathlib.Omega.{arith}
use mathlib.Core.Path.{◌∙◌, sym}
use lib.ListN.{length-drop}
use borrow.Author.Tests.{le-ltb, lt-ltb}
use Rattle.escapes.proofs.EscapeLaws.{hex_byte, hex_refused, hex_utf8, two_ascii}
use Rattle.text.proofs.Lists.{tail_part}
use Rattle.escapes.proofs.hex.hex_escape.Goals as goal

pub returns-then-b-lt128 : goal.returns-then-b-lt128
returns-then-b-lt128 c = sym (hex_byte c.args.m c.args.at c.args.t.now c.in-Ascii.b c.in-Ascii.p (sym c.in-Ascii.is ∙ c.decode_ascii_escape.ensures) ∙ rw c.in-Char.is (simp (lt-ltb c.in-Ascii.b 0x80 c.if-b-lt128.true)))

pub returns-then-b-lt128-2 : goal.returns-then-b-lt128-2
returns-then-b-lt128-2 c = sym (hex_byte c.args.m c.args.at c.args.t.now c.in-Ascii.b c.in-Ascii.p (sym c.in-Ascii.is ∙ c.decode_ascii_escape.ensures) ∙ rw c.in-Str.is (simp (lt-ltb c.in-Ascii.b 0x80 c.if-b-lt128-2.true)))

pub slice_bounds-more_bytes-count : goal.slice_bounds-more_bytes-count
slice_bounds-more_bytes-count c = omega (arith, (two_ascii c.args.at c.args.t.now c.in-Ascii.b c.in-Ascii.p (sym c.in-Ascii.is ∙ c.decode_ascii_escape.ensures)).1)

pub slice_bounds-more_bytes-start : goal.slice_bounds-more_bytes-start
slice_bounds-more_bytes-start c = omega (arith, (two_ascii c.args.at c.args.t.now c.in-Ascii.b c.in-Ascii.p (sym c.in-Ascii.is ∙ c.decode_ascii_escape.ensures)).1)

pub more_bytes-requires : goal.more_bytes-requires
more_bytes-requires c = simp tail_part (omega (arith, two_ascii c.args.at c.args.t.now c.in-Ascii.b c.in-Ascii.p (sym c.in-Ascii.is ∙ c.decode_ascii_escape.ensures), length-drop 2 c.args.t.now))

pub returns-in-Bytes : goal.returns-in-Bytes
returns-in-Bytes c = sym (hex_byte c.args.m c.args.at c.args.t.now c.in-Ascii.b c.in-Ascii.p (sym c.in-Ascii.is ∙ c.decode_ascii_escape.ensures) ∙ rw c.in-Bytes.is)

pub returns-else-b-lt128 : goal.returns-else-b-lt128
returns-else-b-lt128 c = c.invalid.ensures ∙ sym (hex_byte c.args.m c.args.at c.args.t.now c.in-Ascii.b c.in-Ascii.p (sym c.in-Ascii.is ∙ c.decode_ascii_escape.ensures) ∙ rw c.in-Char.is (simp (le-ltb c.in-Ascii.b 0x80 c.if-b-lt128.false)))

pub returns-else-b-lt128-2 : goal.returns-else-b-lt128-2
returns-else-b-lt128-2 c = (simp tail_part at c.more_bytes.ensures) ∙ sym (hex_byte c.args.m c.args.at c.args.t.now c.in-Ascii.b c.in-Ascii.p (sym c.in-Ascii.is ∙ c.decode_ascii_escape.ensures) ∙ rw c.in-Str.is (simp (le-ltb c.in-Ascii.b 0x80 c.if-b-lt128-2.false)))

pub returns-in-Utf8 : goal.returns-in-Utf8
returns-in-Utf8 c = sym (hex_utf8 c.args.m c.args.at c.args.t.now c.in-Utf8.v c.in-Utf8.p (sym c.in-Utf8.is ∙ c.decode_ascii_escape.ensures))

pub returns-in-Refused : goal.returns-in-Refused
returns-in-Refused c = sym (hex_refused c.args.m c.args.at c.args.t.now c.in-Refused.r (sym c.in-Refused.is ∙ c.decode_ascii_escape.ensures))
