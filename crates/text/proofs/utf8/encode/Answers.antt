use Rattle.std.proofs.Common.{Ok}
use native.Mathlib.Omega.{arith}
use mathlib.Core.Path.{◌∙◌, ap, refl, sym}
use lib.ListN.{length}
use borrow.Author.Tests.{le-leb, lt-leb}
use Rattle.text.proofs.Utf8Agree.{scalar_true}
use Rattle.text.specs.Utf8.{encode_answer, encoded_into, encoded_len}
use Rattle.text.proofs.utf8.encode.Goals as goal

pub returns-then-not-is_scalar : goal.returns-then-not-is_scalar
unfolding encode_answer encoded_into
returns-then-not-is_scalar c = simp (sym c.is_scalar.ensures ∙ c.if-not-is_scalar.true) (refl, refl)

pub returns-then-out-n : goal.returns-then-out-n
unfolding encode_answer encoded_into
returns-then-out-n c = simp (sym c.is_scalar.ensures ∙ c.if-not-is_scalar.false, lt-leb (encoded_len c.args.c) (length c.args.out.now) (omega (arith, c.encoded_len-n.ensures))) (refl, refl)

pub put-requires : goal.put-requires
put-requires c = ((scalar_true c.args.c (sym c.is_scalar.ensures ∙ c.if-not-is_scalar.false)).0, omega (arith, c.encoded_len-n.ensures))

pub returns : goal.returns
unfolding encode_answer encoded_into
returns c = simp (sym c.is_scalar.ensures ∙ c.if-not-is_scalar.false, le-leb (encoded_len c.args.c) (length c.args.out.now) (omega (arith, c.encoded_len-n.ensures))) (ap Ok c.encoded_len-n.ensures, c.put.ensures)
