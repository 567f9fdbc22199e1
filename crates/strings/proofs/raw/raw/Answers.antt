use Rattle.std.proofs.Common.{Err}
use Prim.Native.Nat.{◌+◌}
use native.Mathlib.Omega.{arith}
use mathlib.Core.Path.{◌∙◌, ◌≡◌, ap, sym}
use lib.ListN.{get_or-eq_default, drop, length-drop}
use Rattle.strings.proofs.RawLaws.{raw_le, raw_missing, raw_read, raw_unclosed}
use Rattle.strings.specs.Raw.{hash}
use Rattle.text.proofs.Lists.{tail_part}
use Rattle.text.proofs.RunLaws.{run_le}
use Rattle.strings.proofs.raw.raw.Goals as goal

pub overflow_add-open : goal.overflow_add-open
overflow_add-open c = omega (arith, simp tail_part at c.count_hashes-hashes.ensures, run_le hash (drop c.args.start c.args.s.now), length-drop c.args.start c.args.s.now)

pub returns-then-s-open : goal.returns-then-s-open
returns-then-s-open c = ap Err c.expected.ensures ∙ sym (raw_missing c.args.m c.args.start c.args.s.now c.count_hashes-hashes.result (simp tail_part at c.count_hashes-hashes.ensures) (λ q. let z : 0x22 ≡ 0 = sym q ∙ get_or-eq_default c.args.s.now 0 c.if-s-open.true in omega arith))

pub returns-then-s-open-ne34 : goal.returns-then-s-open-ne34
returns-then-s-open-ne34 c = ap Err c.expected-then-s-open-ne34.ensures ∙ sym (raw_missing c.args.m c.args.start c.args.s.now c.count_hashes-hashes.result (simp tail_part at c.count_hashes-hashes.ensures) c.if-s-open-ne34.true)

pub overflow_add-end : goal.overflow_add-end
overflow_add-end c = omega (arith, simp tail_part at c.find_raw_end.ensures, raw_le c.count_hashes-hashes.result (drop (c.args.start + c.count_hashes-hashes.result + 1) c.args.s.now), length-drop (c.args.start + c.count_hashes-hashes.result + 1) c.args.s.now)

pub returns-then-s-end : goal.returns-then-s-end
returns-then-s-end c = c.unclosed.ensures ∙ sym (raw_unclosed c.args.m c.args.start c.args.s.now c.count_hashes-hashes.result (simp tail_part at c.count_hashes-hashes.ensures) c.find_raw_end.result (simp tail_part at c.find_raw_end.ensures) c.if-s-open-ne34.false c.if-s-end.true)

pub returns : goal.returns
returns c = sym (raw_read c.args.m c.args.start c.args.s.now c.count_hashes-hashes.result (simp tail_part at c.count_hashes-hashes.ensures) c.find_raw_end.result (simp tail_part at c.find_raw_end.ensures) c.if-s-open-ne34.false c.if-s-end.false)
