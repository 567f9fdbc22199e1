use Rattle.std.proofs.Common.{Option, ℕ}
use Prim.Native.Nat.{◌-◌}
use native.Mathlib.Omega.{arith}
use mathlib.Core.Path.{◌∙◌, ap, refl, subst}
use lib.ListN.{length-set}
use Rattle.rows.specs.Rows.{entry_at}
use Rattle.grammar.specs.Kinds.{kind_of}
use Rattle.fields.proofs.Readable.{has_name}
use Rattle.walk.specs.inner.Gathered.{told_by}
use Rattle.walk.specs.inner.Turns.{Comes}
use Rattle.walk.proofs.JudgeTurns.{turn_starts, turn_noted, turn_pushes, turn_pops, stop_with}
use Rattle.walk.proofs.OpenLaws.{rising_next}
use borrow.Author.Rules.{rules}
use Rattle.walk.proofs.judging.judge_in.Goals as goal

pub loop-w-init : goal.loop-w-init
loop-w-init c = (search rules, search rules, refl, refl, refl, turn_starts c.args.text.now c.args.tape.now c.args.count c.args.limit _ _ _)

pub loop-w-preserved-in-Stay : goal.loop-w-preserved-in-Stay
loop-w-preserved-in-Stay c = let s = subst (Comes c.args.tape.now c.args.count c.args.limit c.loop-w.next c.loop-w.depth c.loop-w.want c.loop-w.inside) c.in-Stay.is c.comes_to.ensures in let n = turn_noted c.args.text.now c.args.tape.now c.args.count c.args.limit c.loop-w.fields c.loop-w.outer c.loop-w.bases c.loop-w.depth c.loop-w.top c.loop-w.want c.loop-w.inside c.loop-w.found c.loop-w.next c.loop-w.invariant.5 (kind_of (entry_at c.args.tape.now c.loop-w.next).kind) s.there refl _ _ s.does (has_name c.args.text.now c.args.tape.now c.args.count c.requires.0 c.requires.3 c.requires.4 c.loop-w.next s.there) (omega (arith, c.loop-w.invariant.4, c.requires.5)) (omega (arith, c.loop-w.invariant.4, c.requires.6)) c.noted-top.new.fields c.noted-top.result c.noted-top.ensures.counted c.noted-top.ensures.put in (omega (arith, s.there), search rules, search rules, search rules, n.0 ∙ c.loop-w.invariant.4, n.1)

pub loop-w-preserved-in-Push : goal.loop-w-preserved-in-Push
loop-w-preserved-in-Push c = let s = subst (Comes c.args.tape.now c.args.count c.args.limit c.loop-w.next c.loop-w.depth c.loop-w.want c.loop-w.inside) c.in-Push.is c.comes_to.ensures in (omega (arith, s.0.there), omega (arith, s.1), length-set c.loop-w.outer c.loop-w.depth c.loop-w.inside ∙ c.loop-w.invariant.2, length-set c.loop-w.bases c.loop-w.depth c.loop-w.top ∙ c.loop-w.invariant.3, search rules, turn_pushes c.args.text.now c.args.tape.now c.args.count c.args.limit c.loop-w.fields c.loop-w.outer c.loop-w.bases c.loop-w.depth c.loop-w.top c.loop-w.want c.loop-w.inside c.loop-w.found c.loop-w.next c.loop-w.invariant.5 (kind_of (entry_at c.args.tape.now c.loop-w.next).kind) s.0.there refl _ _ s.0.does s.1 (omega (arith, s.1, c.requires.1, c.loop-w.invariant.2)) (omega (arith, s.1, c.requires.1, c.loop-w.invariant.3)))

pub closed-found-requires : goal.closed-found-requires
closed-found-requires c = let s = subst (Comes c.args.tape.now c.args.count c.args.limit c.loop-w.next c.loop-w.depth c.loop-w.want c.loop-w.inside) c.in-Pop.is c.comes_to.ensures in let n = rising_next c.loop-w.bases c.loop-w.depth (c.loop-w.depth - 1) c.loop-w.top (omega (arith, s.1)) c.loop-w.invariant.5.rising in (n.0, c.loop-w.invariant.5.held)

pub loop-w-preserved : goal.loop-w-preserved
loop-w-preserved c = let s = subst (Comes c.args.tape.now c.args.count c.args.limit c.loop-w.next c.loop-w.depth c.loop-w.want c.loop-w.inside) c.in-Pop.is c.comes_to.ensures in (omega (arith, s.0.there), omega arith, search rules, search rules, c.closed-found.ensures.kept.as_long ∙ c.loop-w.invariant.4, turn_pops c.args.text.now c.args.tape.now c.args.count c.args.limit c.loop-w.fields c.loop-w.outer c.loop-w.bases c.loop-w.depth c.loop-w.top c.loop-w.want c.loop-w.inside c.loop-w.found c.loop-w.next c.loop-w.invariant.5 (kind_of (entry_at c.args.tape.now c.loop-w.next).kind) s.0.there refl c.closed-found.new.fields c.closed-found.result s.0.does s.1 c.closed-found.ensures.kept c.closed-found.ensures.told)

pub returns : goal.returns
returns c = c.told.ensures ∙ ap (λ (a : Option ℕ). told_by a c.in-Stop.v) c.still_open-again.ensures ∙ stop_with c.args.text.now c.args.tape.now c.args.count c.args.limit c.loop-w.fields c.loop-w.outer c.loop-w.bases c.loop-w.depth c.loop-w.top c.loop-w.want c.loop-w.inside c.loop-w.found c.loop-w.next c.loop-w.invariant.5 _ (subst (Comes c.args.tape.now c.args.count c.args.limit c.loop-w.next c.loop-w.depth c.loop-w.want c.loop-w.inside) c.in-Stop.is c.comes_to.ensures)
