use Prim.Native.Nat.{ℕ}
use native.Mathlib.Omega.{arith}
use mathlib.Core.Path.{◌∙◌, ap, sym}
use lib.Dec.{eqb}
use Rattle.fields.proofs.RawLaws.{raw_first, raw_other, raw_second, raw_short}
use Rattle.fields.proofs.names.raw_fits.Goals as goal

pub returns-then-e-ne-RAW_NAME : goal.returns-then-e-ne-RAW_NAME
returns-then-e-ne-RAW_NAME c = sym (raw_other c.args.text.now c.args.e c.if-e-ne-RAW_NAME.true)

pub returns-then-e-at-le2 : goal.returns-then-e-at-le2
returns-then-e-at-le2 c = sym (raw_short c.args.text.now c.args.e c.if-e-ne-RAW_NAME.false (omega arith))

pub returns-then-peek-ne114 : goal.returns-then-peek-ne114
returns-then-peek-ne114 c = sym (raw_first c.args.text.now c.args.e c.if-e-ne-RAW_NAME.false (omega arith) c.requires.1 (λ e. c.if-peek-ne114.true (c.peek.ensures ∙ e)))

pub returns : goal.returns
returns c = ap (λ (x : ℕ). eqb x 0x23) c.peek-2.ensures ∙ sym (raw_second c.args.text.now c.args.e c.if-e-ne-RAW_NAME.false (omega arith) c.requires.1 (sym c.peek.ensures ∙ c.if-peek-ne114.false))
