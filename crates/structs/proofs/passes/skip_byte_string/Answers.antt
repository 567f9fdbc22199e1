use Rattle.std.proofs.Common.{Err}
use Rattle.std.proofs.lemmas.Result.{err_from_is_err_and}
use native.Mathlib.Omega.{arith}
use mathlib.Core.Path.{◌∙◌, ap, sym}
use Rattle.strings.specs.Strings.{byte_string_of}
use Rattle.structs.proofs.PassLaws.{byte_string_places, past-byte-string, place_le}
use Rattle.structs.specs.Passes.{past_byte_string}
use Rattle.text.proofs.Lists.{tail_part}
use Rattle.structs.proofs.passes.skip_byte_string.Goals as goal

pub slice_bounds-byte_string_no_base64-count : goal.slice_bounds-byte_string_no_base64-count
slice_bounds-byte_string_no_base64-count c = place_le c.args.s.now c.args.from _ c.in_ok-at.was c.requires

pub slice_bounds-byte_string_no_base64-start : goal.slice_bounds-byte_string_no_base64-start
slice_bounds-byte_string_no_base64-start c = place_le c.args.s.now c.args.from _ c.in_ok-at.was c.requires

pub behind_literal-requires : goal.behind_literal-requires
behind_literal-requires c = rw (c.byte_string_no_base64.ensures ∙ ap byte_string_of (tail_part c.args.s.now c.in_ok-at.at)) (byte_string_places c.args.s.now c.in_ok-at.at (place_le c.args.s.now c.args.from _ c.in_ok-at.was c.requires) (omega arith))

pub returns : goal.returns
returns c = c.behind_literal.ensures ∙ sym (past-byte-string c.args.s.now c.args.from _ c.in_ok-at.was _ (sym (c.byte_string_no_base64.ensures ∙ ap byte_string_of (tail_part c.args.s.now c.in_ok-at.at))))

pub returns-in_err-at : goal.returns-in_err-at
unfolding past_byte_string
returns-in_err-at c =
    let p = err_from_is_err_and c.from_residual.result c.from_residual.ensures.1 in
    p.1 ∙ ap Err p.2 ∙ ap (past_byte_string c.args.s.now) (sym c.in_err-at.was)
