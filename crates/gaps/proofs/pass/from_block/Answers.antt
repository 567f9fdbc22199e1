use native.Mathlib.Omega.{arith}
use Prim.Native.Nat.{ℕ}
use mathlib.Core.Path.{◌∙◌, ◌≡◌, ap, subst, sym}
use Rattle.gaps.proofs.PassLaws.{RestSized, block_rest_at, passed_rest, rest_sized}
use Rattle.gaps.specs.inner.Steps.{block_at}
use Rattle.std.proofs.Common.{Result, Ok, Err}
use Rattle.gaps.specs.declared.state.Open.{Open}
use Rattle.gaps.proofs.pass.from_block.Goals as goal

pub from_clear-requires : goal.from_clear-requires
from_clear-requires c =
    let sized : (r : Result ℕ Open) → c.block_rest-rest.result ≡ r → RestSized (c.args.s.now) r = λ r e. subst (RestSized (c.args.s.now)) (sym c.block_rest-rest.ensures ∙ e) (rest_sized (c.args.s.now) c.args.from c.args.around c.requires.0) in
    omega (arith, sized (Ok _) c.in-Ok.is)

pub returns-in-Ok : goal.returns-in-Ok
returns-in-Ok c =
    let follows : (r : Result ℕ Open) → c.block_rest-rest.result ≡ r → passed_rest (c.args.s.now) r ≡ block_at (c.args.s.now) c.args.from c.args.around = λ r e. ap (passed_rest (c.args.s.now)) (sym e ∙ c.block_rest-rest.ensures) ∙ sym (block_rest_at (c.args.s.now) c.args.from c.args.around) in
    c.from_clear.ensures ∙ follows (Ok _) c.in-Ok.is

pub returns-in-Err : goal.returns-in-Err
returns-in-Err c =
    let follows : (r : Result ℕ Open) → c.block_rest-rest.result ≡ r → passed_rest (c.args.s.now) r ≡ block_at (c.args.s.now) c.args.from c.args.around = λ r e. ap (passed_rest (c.args.s.now)) (sym e ∙ c.block_rest-rest.ensures) ∙ sym (block_rest_at (c.args.s.now) c.args.from c.args.around) in
    follows (Err _) c.in-Err.is
