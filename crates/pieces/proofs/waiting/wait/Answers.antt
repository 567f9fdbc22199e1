use Prim.Native.Nat.{ℕ, ◌+◌}
use native.Mathlib.Omega.{arith}
use mathlib.Core.Path.{◌∙◌, ap, refl, sym}
use lib.Seq.{length-take-le}
use Rattle.text.specs.Refusals.{unexpected_char}
use Rattle.text.specs.declared.refusal.Refusal.{Refusal}
use Rattle.pieces.specs.Come.{later as laterOf}
use Rattle.pieces.specs.declared.verdict.Verdict.TheVariants.{Shuts}
use Rattle.pieces.proofs.WaitLaws.{found_there, goes_far, goes-on, judge_ready, none_left, nothing_waits, stop_inside}
use Rattle.pieces.proofs.waiting.wait.Goals as goal

pub returns-then-starts_nothing : goal.returns-then-starts_nothing
returns-then-starts_nothing c =
    ap (λ (d : Refusal). record { bytes = c.later-bytes.result; verdict = Shuts 0 0 d }) c.unexpected_char.ensures
    ∙ ap (λ (n : ℕ). record { bytes = n; verdict = Shuts 0 0 (unexpected_char 0) }) (c.later-bytes.ensures ∙ ap (λ (n : ℕ). laterOf n (c.args.seen + 1)) c.char_len.ensures)
    ∙ sym (nothing_waits c.args.part.now c.requires.2 (sym c.starts_nothing.ensures ∙ c.if-starts_nothing.true) c.args.seen c.requires.0)

pub loop-verdict-init : goal.loop-verdict-init
loop-verdict-init c = (omega arith, omega (arith, c.requires.0), refl)

pub next_stop-j-requires : goal.next_stop-j-requires
next_stop-j-requires c = c.loop-verdict.invariant.1

pub returns-then-j-part : goal.returns-then-j-part
returns-then-j-part c = none_left c.args.part.now c.args.seen c.requires.2 (sym c.starts_nothing.ensures ∙ c.if-starts_nothing.false) c.loop-verdict.q c.loop-verdict.invariant c.next_stop-j.result c.next_stop-j.ensures c.if-j-part.true

pub overflow_add-bytes : goal.overflow_add-bytes
overflow_add-bytes c = omega (arith, stop_inside c.args.part.now c.args.seen c.requires.2 (sym c.starts_nothing.ensures ∙ c.if-starts_nothing.false) c.loop-verdict.q c.loop-verdict.invariant c.next_stop-j.result c.next_stop-j.ensures c.if-j-part.false, c.requires.1)

pub slice_bounds-judge-end : goal.slice_bounds-judge-end
slice_bounds-judge-end c = sym (length-take-le (c.next_stop-j.result + 1) c.args.part.now (omega (arith, stop_inside c.args.part.now c.args.seen c.requires.2 (sym c.starts_nothing.ensures ∙ c.if-starts_nothing.false) c.loop-verdict.q c.loop-verdict.invariant c.next_stop-j.result c.next_stop-j.ensures c.if-j-part.false)))

pub judge-verdict-requires : goal.judge-verdict-requires
judge-verdict-requires c = judge_ready c.args.part.now c.args.seen c.requires.2 (sym c.starts_nothing.ensures ∙ c.if-starts_nothing.false) c.loop-verdict.q c.loop-verdict.invariant c.next_stop-j.result c.next_stop-j.ensures c.if-j-part.false c.requires.1

pub returns-then-is_some : goal.returns-then-is_some
returns-then-is_some c = found_there c.args.part.now c.args.seen c.requires.2 (sym c.starts_nothing.ensures ∙ c.if-starts_nothing.false) c.loop-verdict.q c.loop-verdict.invariant c.next_stop-j.result c.next_stop-j.ensures c.if-j-part.false c.judge-verdict.result c.judge-verdict.ensures (sym c.is_some.ensures ∙ c.if-is_some.true)

pub beyond-q-requires : goal.beyond-q-requires
beyond-q-requires c = (omega (arith, stop_inside c.args.part.now c.args.seen c.requires.2 (sym c.starts_nothing.ensures ∙ c.if-starts_nothing.false) c.loop-verdict.q c.loop-verdict.invariant c.next_stop-j.result c.next_stop-j.ensures c.if-j-part.false), c.requires.1)

pub loop-verdict-smaller : goal.loop-verdict-smaller
loop-verdict-smaller c = goes_far c.args.part.now c.args.seen c.requires.2 (sym c.starts_nothing.ensures ∙ c.if-starts_nothing.false) c.loop-verdict.q c.loop-verdict.invariant c.next_stop-j.result c.next_stop-j.ensures c.if-j-part.false c.beyond-q.result c.beyond-q.ensures

pub loop-verdict-preserved : goal.loop-verdict-preserved
loop-verdict-preserved c = goes-on c.args.part.now c.args.seen c.requires.2 (sym c.starts_nothing.ensures ∙ c.if-starts_nothing.false) c.loop-verdict.q c.loop-verdict.invariant c.next_stop-j.result c.next_stop-j.ensures c.if-j-part.false c.judge-verdict.result c.judge-verdict.ensures (sym c.is_some.ensures ∙ c.if-is_some.false) c.beyond-q.result c.beyond-q.ensures
