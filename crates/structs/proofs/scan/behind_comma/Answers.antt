use Rattle.std.proofs.Common.{Err}
use Rattle.std.proofs.lemmas.Result.{err_from_is_err_and}
use mathlib.Core.Path.{◌∙◌, sym, ap}
use borrow.Author.Tests.{eq-eqb, ne_eqb}
use Rattle.structs.specs.Scan.{after_comma}
use Rattle.structs.proofs.scan.behind_comma.Goals as goal

pub returns-then-peek-eq41 : goal.returns-then-peek-eq41
unfolding after_comma
returns-then-peek-eq41 c = simp (sym c.skip_ws.ensures ∙ c.in_ok-i.was, eq-eqb _ _ (sym c.peek.ensures ∙ c.if-peek-eq41.true))

pub returns : goal.returns
unfolding after_comma
returns c = simp (sym c.skip_ws.ensures ∙ c.in_ok-i.was, ne_eqb _ _ (λ e. c.if-peek-eq41.false (c.peek.ensures ∙ e)))

pub returns-in_err-i : goal.returns-in_err-i
unfolding after_comma
returns-in_err-i c =
    let p = err_from_is_err_and c.from_residual.result c.from_residual.ensures.1 in
    p.1 ∙ ap Err p.2 ∙ simp (sym c.skip_ws.ensures ∙ c.in_err-i.was)
