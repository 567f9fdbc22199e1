use native.Mathlib.Omega.{arith}
use mathlib.Core.Path.{◌∙◌, sym}
use borrow.Author.Rules.{rules}
use Rattle.names.proofs.CharLaws.{part_char, part_fits, run_ends, run_on, run_stops}
use Rattle.names.specs.Characters.{ident_char}
use Rattle.names.proofs.table_chars.chars_len.Goals as goal

pub returns-then-n-eq0 : goal.returns-then-n-eq0
returns-then-n-eq0 c = sym (run_stops (ident_char c.args.class) c.args.s.now c.loop-i.i ((part_char (ident_char c.args.class) c.args.s.now c.loop-i.i _ c.char_if-n.ensures) ∙ c.if-n-eq0.true)) ∙ c.loop-i.invariant.1

pub overflow_add-i : goal.overflow_add-i
overflow_add-i c = omega (arith, part_fits (ident_char c.args.class) c.args.s.now c.loop-i.i _ c.char_if-n.ensures)

pub loop-i-preserved : goal.loop-i-preserved
loop-i-preserved c = (omega (arith, part_fits (ident_char c.args.class) c.args.s.now c.loop-i.i _ c.char_if-n.ensures), sym (run_on (ident_char c.args.class) c.args.s.now c.loop-i.i _ (part_char (ident_char c.args.class) c.args.s.now c.loop-i.i _ c.char_if-n.ensures) (omega (arith, c.if-n-eq0.false))) ∙ c.loop-i.invariant.1)

pub returns : goal.returns
returns c = sym (run_ends (ident_char c.args.class) c.args.s.now c.loop-i.i (search rules)) ∙ c.loop-i.invariant.1
