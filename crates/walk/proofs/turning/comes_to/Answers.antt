use Rattle.std.proofs.Common.{Err}
use Prim.Native.Nat.{ℕ, ◌<◌}
use native.Mathlib.Omega.{arith}
use mathlib.Core.List.{List}
use mathlib.Core.Path.{◌∙◌, ◌≡◌, ap, subst, sym}
use Rattle.text.specs.declared.refusal.Refusal.{Refusal}
use Rattle.rows.specs.Rows.{entry_at}
use Rattle.rows.specs.declared.Entry.{Entry}
use Rattle.grammar.specs.declared.kinds.Kind.{Kind}
use Rattle.grammar.specs.declared.states.Frame.{Frame}
use Rattle.grammar.specs.declared.states.Want.{Want}
use Rattle.grammar.specs.declared.states.Move.{Move}
use Rattle.grammar.specs.Kinds.{kind_of}
use Rattle.grammar.specs.Steps.{step_of}
use Rattle.walk.specs.inner.Turns.{Steps, Stops, at_end, deep, closes_none, not_allowed}
use Rattle.walk.proofs.turning.comes_to.Goals as goal

-- the step at the entry's kind, as the code computes it
steps : (tape : List ℕ) (count limit i depth : ℕ) (w : Want) (inside : Frame) (k : Kind) (m : Move) → i < count → k ≡ kind_of (entry_at tape i).kind → step_of w k inside ≡ m
    → Steps tape count limit i depth w inside m
steps tape count limit i depth w inside k m h e s = record { there = h; does = ap (λ (x : Kind). step_of w x inside) (sym e) ∙ s }

pub returns-then-count-i : goal.returns-then-count-i
returns-then-count-i c = subst (Stops c.args.tape.now c.args.count c.args.limit c.args.i c.args.depth c.args.want c.args.inside) (sym c.finished.ensures) (at_end c.if-count-i.true)

pub returns-then-limit-depth : goal.returns-then-limit-depth
returns-then-limit-depth c = subst (λ (r : Refusal). Stops c.args.tape.now c.args.count c.args.limit c.args.i c.args.depth c.args.want c.args.inside (Err r)) (sym c.depth_limit_passed.ensures) (deep _ _ (steps c.args.tape.now c.args.count c.args.limit c.args.i c.args.depth c.args.want c.args.inside c.kind_of.result _ (omega arith) (c.kind_of.ensures ∙ ap (λ (x : Entry). kind_of x.kind) c.entry.ensures) (sym c.step.ensures ∙ c.in-Push.is)) c.if-limit-depth.true)

pub returns-then-depth-eq0 : goal.returns-then-depth-eq0
returns-then-depth-eq0 c = subst (λ (r : Refusal). Stops c.args.tape.now c.args.count c.args.limit c.args.i c.args.depth c.args.want c.args.inside (Err r)) (sym c.not_allowed_here.ensures) (closes_none (steps c.args.tape.now c.args.count c.args.limit c.args.i c.args.depth c.args.want c.args.inside c.kind_of.result _ (omega arith) (c.kind_of.ensures ∙ ap (λ (x : Entry). kind_of x.kind) c.entry.ensures) (sym c.step.ensures ∙ c.in-Pop.is)) c.if-depth-eq0.true)

pub returns-in-Bad : goal.returns-in-Bad
returns-in-Bad c = subst (λ (r : Refusal). Stops c.args.tape.now c.args.count c.args.limit c.args.i c.args.depth c.args.want c.args.inside (Err r)) (sym c.not_allowed_here-in-Bad.ensures) (not_allowed (steps c.args.tape.now c.args.count c.args.limit c.args.i c.args.depth c.args.want c.args.inside c.kind_of.result _ (omega arith) (c.kind_of.ensures ∙ ap (λ (x : Entry). kind_of x.kind) c.entry.ensures) (sym c.step.ensures ∙ c.in-Bad.is)))
