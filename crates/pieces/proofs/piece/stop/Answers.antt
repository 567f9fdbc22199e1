use borrow.Author.Tests.{le-ltb, lt-ltb}
use Rattle.pieces.specs.declared.turn.Stands.{Stands}
use Rattle.pieces.specs.inner.Steps.{StopFits}
use native.Mathlib.Omega.{arith}
use mathlib.Core.Path.{subst, sym, ◌∙◌}
use Rattle.pieces.proofs.piece.stop.Goals as goal

pub placed_behind-requires : goal.placed_behind-requires
placed_behind-requires c = subst (λ (x : Stands). StopFits x c.args.end c.args.base) c.in-Stopped.is c.requires

pub overflow_sub-end : goal.overflow_sub-end
overflow_sub-end c = (subst (λ (x : Stands). StopFits x c.args.end c.args.base) c.in-Begun.is c.requires).0

pub returns-then-end-start-lt-MOST_HELD : goal.returns-then-end-start-lt-MOST_HELD
returns-then-end-start-lt-MOST_HELD c = c.barred-then-end-start-lt-MOST_HELD.ensures ∙ sym (rw c.in-Begun.is (simp (lt-ltb _ _ c.if-end-start-lt-MOST_HELD.true)))

pub overflow_add-base : goal.overflow_add-base
overflow_add-base c = omega (arith, (subst (λ (x : Stands). StopFits x c.args.end c.args.base) c.in-Begun.is c.requires).1)

pub returns-in-Stopped : goal.returns-in-Stopped
returns-in-Stopped c = c.placed_behind.ensures ∙ sym (rw c.in-Stopped.is)

pub returns-in-Within : goal.returns-in-Within
returns-in-Within c = c.barred.ensures ∙ sym (rw c.in-Within.is)

pub returns-in-Held : goal.returns-in-Held
returns-in-Held c = c.barred-in-Held.ensures ∙ sym (rw c.in-Held.is)

pub returns-else-end-start-lt-MOST_HELD : goal.returns-else-end-start-lt-MOST_HELD
returns-else-end-start-lt-MOST_HELD c = c.barred-in-Begun.ensures ∙ sym (rw (c.in-Begun.is, c.entry_too_long.ensures) (simp (le-ltb _ _ c.if-end-start-lt-MOST_HELD.false)))
