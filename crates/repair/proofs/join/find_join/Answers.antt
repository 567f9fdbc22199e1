use Rattle.std.proofs.Common.{Ok, Err}
use Prim.Native.Nat.{ℕ, ◌+◌}
use native.Mathlib.Omega.{arith}
use mathlib.Core.Path.{◌∙◌, ap, refl, sym}
use Rattle.read.proofs.ReadSteps.{refuse_within, step_refuse, step_stop, step_token, step_within}
use Rattle.reading.proofs.Steps.{from_end}
use Rattle.reading.specs.Owed.{quiet_byte}
use Rattle.repair.proofs.Searching.{met_next, scan_at, scan_broken, scan_end, scan_on, stands}
use Rattle.repair.specs.Repair.{scan_of}
use Rattle.rows.proofs.RowLaws.{length_entries}
use Rattle.rows.specs.Rows.{entries_of}
use Rattle.tokens.proofs.RonLaws.{laws}
use Rattle.tokens.specs.Ron.{ron_token}
use Rattle.repair.proofs.join.find_join.Goals as goal

pub loop-at-init : goal.loop-at-init
loop-at-init c = (c.requires.1, omega arith, stands (entries_of c.args.count c.args.tape.now) c.args.b c.args.e _ _ c.requires.4, refl)

pub overflow_add-start : goal.overflow_add-start
overflow_add-start c = let w = step_within c.args.text.now c.loop-at.at _ c.next_token-found.ensures _ _ c.in-Token.is in omega (arith, w.0, w.1, c.requires.0)

pub meet-met-requires : goal.meet-met-requires
meet-met-requires c = let w = step_within c.args.text.now c.loop-at.at _ c.next_token-found.ensures _ _ c.in-Token.is in (c.requires.2, λ h. c.loop-at.invariant.2 (c.loop-at.at + c.in-Token.g) h (omega arith), omega (arith, w.1, c.requires.3))

pub returns-in-At : goal.returns-in-At
returns-in-At c = sym (ap (scan_of (entries_of c.args.count c.args.tape.now) c.args.b c.args.e c.loop-at.n) (step_token c.args.text.now c.loop-at.at _ c.next_token-found.ensures _ _ c.in-Token.is) ∙ scan_at (entries_of c.args.count c.args.tape.now) c.args.b c.args.e c.loop-at.n c.loop-at.i _ _ _ (sym c.meet-met.ensures ∙ c.in-At.is)) ∙ c.loop-at.invariant.3

pub overflow_add-at : goal.overflow_add-at
overflow_add-at c = let w = step_within c.args.text.now c.loop-at.at _ c.next_token-found.ensures _ _ c.in-Token.is in omega (arith, w.0, w.1, c.requires.0)

pub loop-at-smaller : goal.loop-at-smaller
loop-at-smaller c = let w = step_within c.args.text.now c.loop-at.at _ c.next_token-found.ensures _ _ c.in-Token.is in omega (arith, w.0, w.1)

pub loop-at-preserved : goal.loop-at-preserved
loop-at-preserved c = let w = step_within c.args.text.now c.loop-at.at _ c.next_token-found.ensures _ _ c.in-Token.is in let m = sym c.meet-met.ensures ∙ c.in-Next.is in (omega (arith, w.1), omega (arith, w.0, c.loop-at.invariant.1), λ y h l. (met_next (entries_of c.args.count c.args.tape.now) c.args.b c.args.e c.loop-at.i c.in-Token.g (c.loop-at.at + c.in-Token.g) _ m).1 y (omega arith) (c.loop-at.invariant.2 y h (omega arith)), sym (ap (scan_of (entries_of c.args.count c.args.tape.now) c.args.b c.args.e c.loop-at.n) (step_token c.args.text.now c.loop-at.at _ c.next_token-found.ensures _ _ c.in-Token.is) ∙ scan_on (entries_of c.args.count c.args.tape.now) c.args.b c.args.e c.loop-at.n c.loop-at.i _ _ _ m) ∙ c.loop-at.invariant.3)

pub returns-in-End : goal.returns-in-End
returns-in-End c = sym (ap (scan_of (entries_of c.args.count c.args.tape.now) c.args.b c.args.e c.loop-at.n) (step_stop c.args.text.now c.loop-at.at _ c.next_token-found.ensures c.in-End.is) ∙ scan_end (entries_of c.args.count c.args.tape.now) c.args.b c.args.e c.loop-at.n ∙ ap (λ (y : ℕ). Ok (c.loop-at.n, y)) (length_entries c.args.count c.args.tape.now)) ∙ c.loop-at.invariant.3

pub placed_behind-requires : goal.placed_behind-requires
placed_behind-requires c = omega (arith, refuse_within c.args.text.now c.loop-at.at _ c.next_token-found.ensures _ c.in-Refused.is, c.requires.0)

pub returns-in-Refused : goal.returns-in-Refused
returns-in-Refused c = ap Err c.placed_behind.ensures ∙ sym (ap (scan_of (entries_of c.args.count c.args.tape.now) c.args.b c.args.e c.loop-at.n) (step_refuse c.args.text.now c.loop-at.at _ c.next_token-found.ensures _ c.in-Refused.is) ∙ scan_broken (entries_of c.args.count c.args.tape.now) c.args.b c.args.e c.loop-at.n _) ∙ c.loop-at.invariant.3

pub returns : goal.returns
returns c = sym (ap (scan_of (entries_of c.args.count c.args.tape.now) c.args.b c.args.e c.loop-at.n) (from_end ron_token quiet_byte laws c.args.text.now c.loop-at.at (omega arith)) ∙ scan_end (entries_of c.args.count c.args.tape.now) c.args.b c.args.e c.loop-at.n ∙ ap (λ (y : ℕ). Ok (c.loop-at.n, y)) (length_entries c.args.count c.args.tape.now)) ∙ c.loop-at.invariant.3
