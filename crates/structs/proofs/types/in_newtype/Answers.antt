use Rattle.std.proofs.lemmas.Result.{err_from_is_err_and}
use Rattle.std.proofs.Common.{Ok, Err}
use native.Mathlib.Omega.{arith}
use mathlib.Core.Path.{◌∙◌, sym, ap}
use Rattle.structs.proofs.PassLaws.{gap_fits, place_le}
use Rattle.structs.specs.Structs.{inside_newtype}
use Rattle.structs.proofs.types.in_newtype.Goals as goal

pub contents-requires : goal.contents-requires
contents-requires c = place_le c.args.s.now _ _ (sym c.skip_ws.ensures ∙ c.in_ok-i.was) (gap_fits c.args.s.now (Ok 0) (omega arith))

pub returns : goal.returns
unfolding inside_newtype
returns c = simp (sym c.skip_ws.ensures ∙ c.in_ok-i.was) c.contents.ensures

pub returns-in_err-i : goal.returns-in_err-i
unfolding inside_newtype
returns-in_err-i c =
    let p = err_from_is_err_and c.from_residual.result c.from_residual.ensures.1 in
    p.1 ∙ ap Err p.2 ∙ simp (sym c.skip_ws.ensures ∙ c.in_err-i.was)
