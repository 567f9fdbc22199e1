use native.Mathlib.Omega.{arith}
use mathlib.Core.Path.{◌≡◌, sym, ap, ◌∙◌}
use mathlib.Core.Bool.{true, false}
use lib.ListN.{length}
use Rattle.words.specs.Dash.{is_dash}
use borrow.Author.Tests.{eqb-true}
use Rattle.words.specs.Hex.{hex_in}
use Rattle.words.proofs.Dashes.{dash_is}
use Rattle.words.proofs.Pairs.{over_short}
use Rattle.words.proofs.hex.bytes.Goals as goal

pub returns-then-is_dash : goal.returns-then-is_dash
unfolding hex_in
returns-then-is_dash c =
    let dash : is_dash c.args.s.now ≡ true = sym c.is_dash.ensures ∙ c.if-is_dash.true in
    record { value = rw dash; buf_after = over_short _ _ (omega (arith, ap length (dash_is _ dash))) }

pub returns-then-is_empty : goal.returns-then-is_empty
unfolding hex_in
returns-then-is_empty c =
    let other : is_dash c.args.s.now ≡ false = sym c.is_dash.ensures ∙ c.if-is_dash.false in
    record { value = rw (other, sym c.is_empty.ensures ∙ c.if-is_empty.true); buf_after = over_short _ _ (omega (arith, eqb-true _ _ (sym c.is_empty.ensures ∙ c.if-is_empty.true))) }

pub returns : goal.returns
unfolding hex_in
returns c =
    let other : is_dash c.args.s.now ≡ false = sym c.is_dash.ensures ∙ c.if-is_dash.false in
    record { value = rw (other, sym c.is_empty.ensures ∙ c.if-is_empty.false) c.pairs.ensures.value; buf_after = c.pairs.ensures.buf_after }
