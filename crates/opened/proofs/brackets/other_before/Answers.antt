use mathlib.Core.Path.{ap, ap₂, sym, ◌∙◌}
use native.Mathlib.Omega.{arith}
use Rattle.rows.specs.declared.Entry.{Entry}
use Rattle.opened.specs.Brackets.{closes_other, other_of, other_before}
use Rattle.opened.proofs.BracketLaws.{innermost_before, other_shown, other_same}
use Rattle.opened.proofs.brackets.other_before.Goals as goal

pub entry-requires : goal.entry-requires
entry-requires c = omega (arith, (innermost_before c.args.tape.now c.args.n _ (sym c.in-Some.ensures)).0)

pub bracket_at-requires : goal.bracket_at-requires
bracket_at-requires c = omega (arith, (innermost_before c.args.tape.now c.args.n _ (sym c.in-Some.ensures)).0)

pub returns-then-closes_other : goal.returns-then-closes_other
returns-then-closes_other c = c.bracket_at.ensures ∙ other_shown c.args.tape.now c.args.n _ (sym c.in-Some.ensures) (sym (c.closes_other.ensures ∙ ap₂ (λ (e f : Entry). closes_other e.kind f.kind) c.entry.ensures c.entry-in-Some.ensures) ∙ c.if-closes_other.true)

pub returns-in-None : goal.returns-in-None
unfolding other_before
returns-in-None c = ap (other_of c.args.tape.now c.args.n) c.in-None.ensures

pub returns-else-closes_other : goal.returns-else-closes_other
returns-else-closes_other c = other_same c.args.tape.now c.args.n _ (sym c.in-Some.ensures) (sym (c.closes_other.ensures ∙ ap₂ (λ (e f : Entry). closes_other e.kind f.kind) c.entry.ensures c.entry-in-Some.ensures) ∙ c.if-closes_other.false)
