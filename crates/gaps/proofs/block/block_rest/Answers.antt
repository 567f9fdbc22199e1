use Prim.Native.Nat.{◌+◌, ◌-◌, ◌<◌, ◌≤◌, pred, ℕ}
use native.Mathlib.Omega.{arith}
use mathlib.Core.Path.{◌∙◌, ◌≡◌, ap, ap₂, subst, sym}
use lib.ListN.{drop, length, length-drop}
use borrow.Author.Rules.{rules}
use Rattle.comments.specs.declared.block.Decision.{Decision}
use Rattle.comments.specs.declared.block.Decision.TheVariants as decision
use Rattle.search.specs.inner.Others.{neither}
use Rattle.text.proofs.RunLaws.{run_le}
use Rattle.gaps.proofs.RestLaws.{RestBy, rest_decided, rest_passes, rest_short, rest_start, rest_at}
use Rattle.gaps.specs.Opens.{unpaired}
use Rattle.gaps.specs.inner.Steps.{rest_of}
use Rattle.std.proofs.Common.{Err}
use Rattle.gaps.specs.declared.state.Open.TheVariants.{Block}
use Rattle.gaps.proofs.block.block_rest.Goals as goal

pub loop-i-init : goal.loop-i-init
loop-i-init c = (search rules, search rules, search rules, rest_start _ _ _)

pub overflow_sub-s : goal.overflow_sub-s
overflow_sub-s c =
    let within : (c.loop-i.i ≤ c.find_either-i.result) × (c.find_either-i.result ≤ length (c.args.s.now)) = omega (arith, c.find_either-i.ensures, run_le (neither 0x2a 0x2f) (drop (c.loop-i.i) (c.args.s.now)), length-drop (c.loop-i.i) (c.args.s.now)) in
    omega (arith, within)

pub returns-then-s-i-lt2 : goal.returns-then-s-i-lt2
returns-then-s-i-lt2 c =
    let there : rest_at (c.args.s.now) c.find_either-i.result (c.loop-i.level) ≡ rest_of (c.args.s.now) c.args.from c.args.around = sym (rest_passes (c.args.s.now) (c.loop-i.i) (c.loop-i.level) c.find_either-i.result c.find_either-i.ensures) ∙ c.loop-i.invariant.3 in
    let e : c.loop-i.level - 1 ≡ pred c.loop-i.level = omega arith in
    ap₂ (λ (n b : ℕ). Err (Block n b)) e (c.mark_byte-last.ensures ∙ ap unpaired c.peek.ensures)
    ∙ sym (rest_short c.args.s.now c.find_either-i.result c.loop-i.level c.if-s-i-lt2.true)
    ∙ there

pub loop-i-preserved-in-Open : goal.loop-i-preserved-in-Open
loop-i-preserved-in-Open c =
    let within : (c.loop-i.i ≤ c.find_either-i.result) × (c.find_either-i.result ≤ length (c.args.s.now)) = omega (arith, c.find_either-i.ensures, run_le (neither 0x2a 0x2f) (drop (c.loop-i.i) (c.args.s.now)), length-drop (c.loop-i.i) (c.args.s.now)) in
    let there : rest_at (c.args.s.now) c.find_either-i.result (c.loop-i.level) ≡ rest_of (c.args.s.now) c.args.from c.args.around = sym (rest_passes (c.args.s.now) (c.loop-i.i) (c.loop-i.level) c.find_either-i.result c.find_either-i.ensures) ∙ c.loop-i.invariant.3 in
    let two : (c.loop-i.i ≤ c.find_either-i.result) × (c.find_either-i.result + 1 < length (c.args.s.now)) = omega (arith, within, c.if-s-i-lt2.false) in
    let told : (k : Decision) → c.decide.result ≡ k → RestBy (c.args.s.now) c.find_either-i.result (c.loop-i.level) k = λ k e. subst (RestBy (c.args.s.now) c.find_either-i.result (c.loop-i.level)) (sym c.decide.ensures ∙ e) (rest_decided (c.args.s.now) c.find_either-i.result (c.loop-i.level) c.loop-i.invariant.1 (two).1) in
    let w = told decision.Open c.in-Open.is in
    (omega (arith, two), omega arith, omega (arith, two), sym w ∙ there)

pub returns-in-CloseLast : goal.returns-in-CloseLast
returns-in-CloseLast c =
    let within : (c.loop-i.i ≤ c.find_either-i.result) × (c.find_either-i.result ≤ length (c.args.s.now)) = omega (arith, c.find_either-i.ensures, run_le (neither 0x2a 0x2f) (drop (c.loop-i.i) (c.args.s.now)), length-drop (c.loop-i.i) (c.args.s.now)) in
    let there : rest_at (c.args.s.now) c.find_either-i.result (c.loop-i.level) ≡ rest_of (c.args.s.now) c.args.from c.args.around = sym (rest_passes (c.args.s.now) (c.loop-i.i) (c.loop-i.level) c.find_either-i.result c.find_either-i.ensures) ∙ c.loop-i.invariant.3 in
    let two : (c.loop-i.i ≤ c.find_either-i.result) × (c.find_either-i.result + 1 < length (c.args.s.now)) = omega (arith, within, c.if-s-i-lt2.false) in
    let told : (k : Decision) → c.decide.result ≡ k → RestBy (c.args.s.now) c.find_either-i.result (c.loop-i.level) k = λ k e. subst (RestBy (c.args.s.now) c.find_either-i.result (c.loop-i.level)) (sym c.decide.ensures ∙ e) (rest_decided (c.args.s.now) c.find_either-i.result (c.loop-i.level) c.loop-i.invariant.1 (two).1) in
    sym (told decision.CloseLast c.in-CloseLast.is) ∙ there

pub loop-i-preserved-in-CloseInner : goal.loop-i-preserved-in-CloseInner
loop-i-preserved-in-CloseInner c =
    let within : (c.loop-i.i ≤ c.find_either-i.result) × (c.find_either-i.result ≤ length (c.args.s.now)) = omega (arith, c.find_either-i.ensures, run_le (neither 0x2a 0x2f) (drop (c.loop-i.i) (c.args.s.now)), length-drop (c.loop-i.i) (c.args.s.now)) in
    let there : rest_at (c.args.s.now) c.find_either-i.result (c.loop-i.level) ≡ rest_of (c.args.s.now) c.args.from c.args.around = sym (rest_passes (c.args.s.now) (c.loop-i.i) (c.loop-i.level) c.find_either-i.result c.find_either-i.ensures) ∙ c.loop-i.invariant.3 in
    let two : (c.loop-i.i ≤ c.find_either-i.result) × (c.find_either-i.result + 1 < length (c.args.s.now)) = omega (arith, within, c.if-s-i-lt2.false) in
    let told : (k : Decision) → c.decide.result ≡ k → RestBy (c.args.s.now) c.find_either-i.result (c.loop-i.level) k = λ k e. subst (RestBy (c.args.s.now) c.find_either-i.result (c.loop-i.level)) (sym c.decide.ensures ∙ e) (rest_decided (c.args.s.now) c.find_either-i.result (c.loop-i.level) c.loop-i.invariant.1 (two).1) in
    let w = told decision.CloseInner c.in-CloseInner.is in
    (omega (arith, two), omega (arith, w.0), omega (arith, two), sym w.1 ∙ there)

pub loop-i-preserved : goal.loop-i-preserved
loop-i-preserved c =
    let within : (c.loop-i.i ≤ c.find_either-i.result) × (c.find_either-i.result ≤ length (c.args.s.now)) = omega (arith, c.find_either-i.ensures, run_le (neither 0x2a 0x2f) (drop (c.loop-i.i) (c.args.s.now)), length-drop (c.loop-i.i) (c.args.s.now)) in
    let there : rest_at (c.args.s.now) c.find_either-i.result (c.loop-i.level) ≡ rest_of (c.args.s.now) c.args.from c.args.around = sym (rest_passes (c.args.s.now) (c.loop-i.i) (c.loop-i.level) c.find_either-i.result c.find_either-i.ensures) ∙ c.loop-i.invariant.3 in
    let two : (c.loop-i.i ≤ c.find_either-i.result) × (c.find_either-i.result + 1 < length (c.args.s.now)) = omega (arith, within, c.if-s-i-lt2.false) in
    let told : (k : Decision) → c.decide.result ≡ k → RestBy (c.args.s.now) c.find_either-i.result (c.loop-i.level) k = λ k e. subst (RestBy (c.args.s.now) c.find_either-i.result (c.loop-i.level)) (sym c.decide.ensures ∙ e) (rest_decided (c.args.s.now) c.find_either-i.result (c.loop-i.level) c.loop-i.invariant.1 (two).1) in
    let w = told decision.PassOn c.in-PassOn.is in
    (omega (arith, two), search rules, omega (arith, two), sym w ∙ there)
