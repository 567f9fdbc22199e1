use Prim.Native.Nat.{◌+◌, ◌<◌, ◌≤◌}
use native.Mathlib.Omega.{arith}
use mathlib.Core.Path.{◌∙◌, ◌≡◌, refl, subst, sym}
use lib.ListN.{drop, length, length-drop}
use borrow.Author.Rules.{rules}
use Rattle.comments.proofs.BlockLaws.{Decided, block_passes, block_short, decided}
use Rattle.comments.specs.Blocks.{block_end, block_from}
use Rattle.comments.specs.declared.block.Decision.{Decision}
use Rattle.comments.specs.declared.block.Decision.TheVariants.{Open, CloseLast, CloseInner, PassOn}
use Rattle.search.specs.inner.Others.{neither}
use Rattle.text.proofs.RunLaws.{run_le}
use Rattle.comments.proofs.block.block_comment.Goals as goal

pub loop-i-init : goal.loop-i-init
unfolding block_end
loop-i-init c = (search rules, search rules, search rules, refl)

pub overflow_sub-s : goal.overflow_sub-s
overflow_sub-s c =
    let within : (c.loop-i.i ≤ c.find_either-i.result) × (c.find_either-i.result ≤ length (c.args.s.now)) = omega (arith, c.find_either-i.ensures, run_le (neither 0x2a 0x2f) (drop (c.loop-i.i) (c.args.s.now)), length-drop (c.loop-i.i) (c.args.s.now)) in
    omega (arith, within)

pub returns-then-s-i-lt2 : goal.returns-then-s-i-lt2
returns-then-s-i-lt2 c =
    let there : block_from (drop c.find_either-i.result (c.args.s.now)) (c.loop-i.level) c.find_either-i.result ≡ block_end (c.args.s.now) = sym (block_passes (c.args.s.now) (c.loop-i.i) (c.loop-i.level) c.find_either-i.result c.find_either-i.ensures) ∙ c.loop-i.invariant.3 in
    sym (block_short c.args.s.now c.find_either-i.result c.loop-i.level c.if-s-i-lt2.true) ∙ there

pub loop-i-preserved-in-Open : goal.loop-i-preserved-in-Open
loop-i-preserved-in-Open c =
    let within : (c.loop-i.i ≤ c.find_either-i.result) × (c.find_either-i.result ≤ length (c.args.s.now)) = omega (arith, c.find_either-i.ensures, run_le (neither 0x2a 0x2f) (drop (c.loop-i.i) (c.args.s.now)), length-drop (c.loop-i.i) (c.args.s.now)) in
    let there : block_from (drop c.find_either-i.result (c.args.s.now)) (c.loop-i.level) c.find_either-i.result ≡ block_end (c.args.s.now) = sym (block_passes (c.args.s.now) (c.loop-i.i) (c.loop-i.level) c.find_either-i.result c.find_either-i.ensures) ∙ c.loop-i.invariant.3 in
    let two : (c.loop-i.i ≤ c.find_either-i.result) × (c.find_either-i.result + 1 < length (c.args.s.now)) = omega (arith, within, c.if-s-i-lt2.false) in
    let told : (k : Decision) → c.decide.result ≡ k → Decided (c.args.s.now) c.find_either-i.result (c.loop-i.level) k = λ k e. subst (Decided (c.args.s.now) c.find_either-i.result (c.loop-i.level)) (sym c.decide.ensures ∙ e) (decided (c.args.s.now) c.find_either-i.result (c.loop-i.level) (two).1) in
    let w = told Open c.in-Open.is in
    (omega (arith, two), omega arith, omega (arith, two), sym w ∙ there)

pub returns-in-CloseLast : goal.returns-in-CloseLast
returns-in-CloseLast c =
    let within : (c.loop-i.i ≤ c.find_either-i.result) × (c.find_either-i.result ≤ length (c.args.s.now)) = omega (arith, c.find_either-i.ensures, run_le (neither 0x2a 0x2f) (drop (c.loop-i.i) (c.args.s.now)), length-drop (c.loop-i.i) (c.args.s.now)) in
    let there : block_from (drop c.find_either-i.result (c.args.s.now)) (c.loop-i.level) c.find_either-i.result ≡ block_end (c.args.s.now) = sym (block_passes (c.args.s.now) (c.loop-i.i) (c.loop-i.level) c.find_either-i.result c.find_either-i.ensures) ∙ c.loop-i.invariant.3 in
    let two : (c.loop-i.i ≤ c.find_either-i.result) × (c.find_either-i.result + 1 < length (c.args.s.now)) = omega (arith, within, c.if-s-i-lt2.false) in
    let told : (k : Decision) → c.decide.result ≡ k → Decided (c.args.s.now) c.find_either-i.result (c.loop-i.level) k = λ k e. subst (Decided (c.args.s.now) c.find_either-i.result (c.loop-i.level)) (sym c.decide.ensures ∙ e) (decided (c.args.s.now) c.find_either-i.result (c.loop-i.level) (two).1) in
    sym (told CloseLast c.in-CloseLast.is) ∙ there

pub loop-i-preserved-in-CloseInner : goal.loop-i-preserved-in-CloseInner
loop-i-preserved-in-CloseInner c =
    let within : (c.loop-i.i ≤ c.find_either-i.result) × (c.find_either-i.result ≤ length (c.args.s.now)) = omega (arith, c.find_either-i.ensures, run_le (neither 0x2a 0x2f) (drop (c.loop-i.i) (c.args.s.now)), length-drop (c.loop-i.i) (c.args.s.now)) in
    let there : block_from (drop c.find_either-i.result (c.args.s.now)) (c.loop-i.level) c.find_either-i.result ≡ block_end (c.args.s.now) = sym (block_passes (c.args.s.now) (c.loop-i.i) (c.loop-i.level) c.find_either-i.result c.find_either-i.ensures) ∙ c.loop-i.invariant.3 in
    let two : (c.loop-i.i ≤ c.find_either-i.result) × (c.find_either-i.result + 1 < length (c.args.s.now)) = omega (arith, within, c.if-s-i-lt2.false) in
    let told : (k : Decision) → c.decide.result ≡ k → Decided (c.args.s.now) c.find_either-i.result (c.loop-i.level) k = λ k e. subst (Decided (c.args.s.now) c.find_either-i.result (c.loop-i.level)) (sym c.decide.ensures ∙ e) (decided (c.args.s.now) c.find_either-i.result (c.loop-i.level) (two).1) in
    let w = told CloseInner c.in-CloseInner.is in
    (omega (arith, two), omega (arith, w.0), omega (arith, two), sym w.1 ∙ there)

pub loop-i-preserved : goal.loop-i-preserved
loop-i-preserved c =
    let within : (c.loop-i.i ≤ c.find_either-i.result) × (c.find_either-i.result ≤ length (c.args.s.now)) = omega (arith, c.find_either-i.ensures, run_le (neither 0x2a 0x2f) (drop (c.loop-i.i) (c.args.s.now)), length-drop (c.loop-i.i) (c.args.s.now)) in
    let there : block_from (drop c.find_either-i.result (c.args.s.now)) (c.loop-i.level) c.find_either-i.result ≡ block_end (c.args.s.now) = sym (block_passes (c.args.s.now) (c.loop-i.i) (c.loop-i.level) c.find_either-i.result c.find_either-i.ensures) ∙ c.loop-i.invariant.3 in
    let two : (c.loop-i.i ≤ c.find_either-i.result) × (c.find_either-i.result + 1 < length (c.args.s.now)) = omega (arith, within, c.if-s-i-lt2.false) in
    let told : (k : Decision) → c.decide.result ≡ k → Decided (c.args.s.now) c.find_either-i.result (c.loop-i.level) k = λ k e. subst (Decided (c.args.s.now) c.find_either-i.result (c.loop-i.level)) (sym c.decide.ensures ∙ e) (decided (c.args.s.now) c.find_either-i.result (c.loop-i.level) (two).1) in
    let w = told PassOn c.in-PassOn.is in
    (omega (arith, two), search rules, omega (arith, two), sym w ∙ there)
