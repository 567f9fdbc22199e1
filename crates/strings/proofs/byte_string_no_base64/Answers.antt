use Rattle.std.proofs.Common.{Err}
use mathlib.Core.Path.{◌∙◌, ap, sym}
use lib.ListN.{get_or}
use borrow.Author.Tests.{eq-eqb, ne_eqb}
use Rattle.strings.proofs.QuotedLaws.{byte_string_short}
use Rattle.strings.specs.Strings.{byte_string_of}
use Rattle.strings.proofs.byte_string_no_base64.Goals as goal

pub returns-then-s-lt2 : goal.returns-then-s-lt2
returns-then-s-lt2 c = ap Err c.expected_byte_string.ensures ∙ sym (byte_string_short c.args.s.now c.if-s-lt2.true)

pub returns-then-s-ne98 : goal.returns-then-s-ne98
unfolding byte_string_of
returns-then-s-ne98 c = ap Err c.expected_byte_string-then-s-ne98.ensures ∙ simp (ne_eqb (get_or c.args.s.now 0 0) 0x62 c.if-s-ne98.true)

pub returns-then-s-eq34 : goal.returns-then-s-eq34
unfolding byte_string_of
returns-then-s-eq34 c = c.quoted.ensures ∙ simp (eq-eqb (get_or c.args.s.now 0 0) 0x62 c.if-s-ne98.false, eq-eqb (get_or c.args.s.now 1 0) 0x22 c.if-s-eq34.true)

pub returns-then-s-eq114 : goal.returns-then-s-eq114
unfolding byte_string_of
returns-then-s-eq114 c = c.raw.ensures ∙ simp (eq-eqb (get_or c.args.s.now 0 0) 0x62 c.if-s-ne98.false, ne_eqb (get_or c.args.s.now 1 0) 0x22 c.if-s-eq34.false, eq-eqb (get_or c.args.s.now 1 0) 0x72 c.if-s-eq114.true)

pub returns : goal.returns
unfolding byte_string_of
returns c = ap Err c.expected_byte_string-2.ensures ∙ simp (eq-eqb (get_or c.args.s.now 0 0) 0x62 c.if-s-ne98.false, ne_eqb (get_or c.args.s.now 1 0) 0x22 c.if-s-eq34.false, ne_eqb (get_or c.args.s.now 1 0) 0x72 c.if-s-eq114.false)
