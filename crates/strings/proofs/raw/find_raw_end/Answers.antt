use Prim.Native.Nat.{◌+◌}
use native.Mathlib.Omega.{arith}
use lib.ListN.{drop, length-drop}
use Rattle.strings.proofs.RawLaws.{at_quote, raw_here, raw_more, raw_none, raw_on}
use Rattle.strings.specs.Pieces.{unquoted}
use Rattle.text.proofs.Lists.{tail_part}
use Rattle.text.proofs.RunLaws.{run_le}
use Rattle.strings.proofs.raw.find_raw_end.Goals as goal

pub overflow_add-q : goal.overflow_add-q
overflow_add-q c = omega (arith, simp tail_part at c.find_quote.ensures, run_le unquoted (drop c.loop-i.i c.args.t.now), length-drop c.loop-i.i c.args.t.now)

pub returns-then-t-q : goal.returns-then-t-q
returns-then-t-q c = let e = simp tail_part at c.find_quote.ensures in
    omega (arith, c.loop-i.invariant.1, raw_on c.args.n c.args.t.now c.loop-i.i c.find_quote.result e, raw_none c.args.n c.args.t.now (c.loop-i.i + c.find_quote.result) c.if-t-q.true)

pub returns-then-n-count_hashes : goal.returns-then-n-count_hashes
returns-then-n-count_hashes c = let e = simp tail_part at c.find_quote.ensures in
    omega (arith, c.loop-i.invariant.1, raw_on c.args.n c.args.t.now c.loop-i.i c.find_quote.result e, raw_here c.args.n c.args.t.now (c.loop-i.i + c.find_quote.result) c.if-t-q.false (at_quote c.args.t.now c.loop-i.i c.find_quote.result e c.if-t-q.false) (omega (arith, c.if-n-count_hashes.true, simp tail_part at c.count_hashes.ensures)))

pub loop-i-preserved : goal.loop-i-preserved
loop-i-preserved c = let e = simp tail_part at c.find_quote.ensures in
    (omega arith, omega (arith, c.loop-i.invariant.1, raw_on c.args.n c.args.t.now c.loop-i.i c.find_quote.result e, raw_more c.args.n c.args.t.now (c.loop-i.i + c.find_quote.result) c.if-t-q.false (omega (arith, c.if-n-count_hashes.false, simp tail_part at c.count_hashes.ensures))))

pub returns : goal.returns
returns c = omega (arith, c.loop-i.invariant.1, raw_none c.args.n c.args.t.now c.loop-i.i (omega arith))
