use Rattle.std.proofs.Common.{Err}
use mathlib.Core.Path.{◌≡◌, sym}
use borrow.Author.Rules.{rules}
use Rattle.text.proofs.JudgeLaws.{fit_short}
use Rattle.repair.proofs.Judging.{call_fit, call_refused}
use Rattle.sarridok.proofs.repair_call.repair.Goals as goal

pub returns-in_err-judge : goal.returns-in_err-judge
returns-in_err-judge c =
    let e : c.from_residual.result ≡ Err c.in_err-judge.field-0.0 = search rules in
    rw e (call_refused c.args.tape.now c.args.count c.args.old_len c.args.a c.args.b c.args.text.now _ (sym c.in_err-judge.ensures))

pub repair_text-requires : goal.repair_text-requires
repair_text-requires c = fit_short c.args.text.now (sym c.in_ok-judge.ensures)

pub returns : goal.returns
returns c = call_fit c.args.tape.now c.args.count c.args.old_len c.args.a c.args.b c.args.text.now (sym c.in_ok-judge.ensures) _ _ c.repair_text.ensures
