use native.Mathlib.Omega.{arith}
use mathlib.Core.Bool.{Bool, cond}
use mathlib.Core.Path.{◌∙◌, ap, sym}
use borrow.Author.Rules.{rules}
use Rattle.names.proofs.CharLaws.{part_char, part_fits, run_ends, run_on, run_stops}
use Rattle.names.proofs.NearLaws.{near_at}
use Rattle.names.specs.Characters.{ident_char, near}
use Rattle.names.proofs.characters.near_len.Goals as goal

pub returns-then-not-is_ascii_char : goal.returns-then-not-is_ascii_char
returns-then-not-is_ascii_char c = sym (run_stops (near (ident_char c.args.class)) c.args.s.now c.loop-i.i (near_at c.args.class c.args.s.now c.loop-i.i (search rules) c.if-a-lt128.true ∙ ap (λ (t : Bool). cond t 1 0) (sym c.is_ascii_char.ensures ∙ c.if-not-is_ascii_char.true))) ∙ c.loop-i.invariant.1

pub loop-i-preserved-then-a-lt128 : goal.loop-i-preserved-then-a-lt128
loop-i-preserved-then-a-lt128 c = (search rules, sym (run_on (near (ident_char c.args.class)) c.args.s.now c.loop-i.i 1 (near_at c.args.class c.args.s.now c.loop-i.i (search rules) c.if-a-lt128.true ∙ ap (λ (t : Bool). cond t 1 0) (sym c.is_ascii_char.ensures ∙ c.if-not-is_ascii_char.false)) (omega arith)) ∙ c.loop-i.invariant.1)

pub returns-then-n-eq0 : goal.returns-then-n-eq0
returns-then-n-eq0 c = sym (run_stops (near (ident_char c.args.class)) c.args.s.now c.loop-i.i ((part_char (near (ident_char c.args.class)) c.args.s.now c.loop-i.i _ c.near_if-n.ensures) ∙ c.if-n-eq0.true)) ∙ c.loop-i.invariant.1

pub overflow_add-i-else-a-lt128 : goal.overflow_add-i-else-a-lt128
overflow_add-i-else-a-lt128 c = omega (arith, part_fits (near (ident_char c.args.class)) c.args.s.now c.loop-i.i _ c.near_if-n.ensures)

pub loop-i-preserved : goal.loop-i-preserved
loop-i-preserved c = (omega (arith, part_fits (near (ident_char c.args.class)) c.args.s.now c.loop-i.i _ c.near_if-n.ensures), sym (run_on (near (ident_char c.args.class)) c.args.s.now c.loop-i.i _ (part_char (near (ident_char c.args.class)) c.args.s.now c.loop-i.i _ c.near_if-n.ensures) (omega (arith, c.if-n-eq0.false))) ∙ c.loop-i.invariant.1)

pub returns : goal.returns
returns c = sym (run_ends (near (ident_char c.args.class)) c.args.s.now c.loop-i.i (search rules)) ∙ c.loop-i.invariant.1
