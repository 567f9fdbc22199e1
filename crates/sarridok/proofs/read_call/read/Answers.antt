use Rattle.std.proofs.Common.{Err}
use mathlib.Core.Path.{◌≡◌, ◌∙◌, sym}
use lib.ListN.{length}
use borrow.Author.Rules.{rules}
use Rattle.text.proofs.JudgeLaws.{fit_short}
use Rattle.read.proofs.ReadLaws.{read_fit, read_refused, tape-by}
use Rattle.sarridok.proofs.read_call.read.Goals as goal

pub returns-in_err-judge : goal.returns-in_err-judge
returns-in_err-judge c =
    let w : c.from_residual.result ≡ Err c.in_err-judge.field-0.0 = search rules in
    let e = read_refused c.args.text.now (length c.args.tape.now) _ (sym c.in_err-judge.ensures) in
    (w ∙ sym e, sym (tape-by c.args.text.now c.args.tape.now _ (sym e)))

pub read_text-requires : goal.read_text-requires
read_text-requires c = fit_short c.args.text.now (sym c.in_ok-judge.ensures)

pub returns : goal.returns
returns c =
    let e = c.read_text.ensures.0 ∙ sym (read_fit c.args.text.now (length c.args.tape.now) (sym c.in_ok-judge.ensures)) in
    (e, c.read_text.ensures.1 ∙ sym (tape-by c.args.text.now c.args.tape.now _ e))
