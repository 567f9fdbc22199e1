use Rattle.std.proofs.Common.{Err}
use native.Mathlib.Omega.{arith}
use mathlib.Core.Path.{◌∙◌, ap}
use lib.ListN.{get_or-eq_default, get_or}
use borrow.Author.Tests.{eq-eqb, ne_eqb}
use Rattle.strings.specs.Strings.{string_of}
use Rattle.strings.proofs.string.Goals as goal

pub returns-then-s-eq0 : goal.returns-then-s-eq0
unfolding string_of
returns-then-s-eq0 c = ap Err c.expected_string.ensures ∙ simp (get_or-eq_default c.args.s.now 0 {n = 0} (omega arith))

pub returns-then-s-eq34 : goal.returns-then-s-eq34
unfolding string_of
returns-then-s-eq34 c = c.quoted.ensures ∙ simp (eq-eqb (get_or c.args.s.now 0 0) 0x22 c.if-s-eq34.true)

pub returns-then-s-eq114 : goal.returns-then-s-eq114
unfolding string_of
returns-then-s-eq114 c = c.raw.ensures ∙ simp (ne_eqb (get_or c.args.s.now 0 0) 0x22 c.if-s-eq34.false, eq-eqb (get_or c.args.s.now 0 0) 0x72 c.if-s-eq114.true)

pub returns : goal.returns
unfolding string_of
returns c = ap Err c.expected_string-2.ensures ∙ simp (ne_eqb (get_or c.args.s.now 0 0) 0x22 c.if-s-eq34.false, ne_eqb (get_or c.args.s.now 0 0) 0x72 c.if-s-eq114.false)
