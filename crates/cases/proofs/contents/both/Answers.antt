use Prim.Native.Nat.{ℕ}
use mathlib.Core.List.{List}
use mathlib.Core.Path.{sym, ◌∙◌}
use mathlib.Core.Bool.{true≢false}
use Rattle.cases.proofs.ContentsLaws.{both_said}
use Rattle.cases.proofs.contents.both.Goals as goal

pub returns-then-calls_agree : goal.returns-then-calls_agree
returns-then-calls_agree c =
    let text : List ℕ = c.args.text.now in
    let tape : List ℕ = c.args.tape.now in
    let out : List ℕ × ℕ = (c.args.o.now, c.args.at) in
    (both_said text tape c.args.q out _ _ c.args.buffer.now _ _ c.viewed-a.ensures c.decode-r.ensures.result_value c.decode-r.ensures.buffer_after c.decoding-b.ensures, c.decode-r.ensures.buffer_after)

pub returns : goal.returns
returns c = absurd (true≢false (sym c.calls_agree.ensures ∙ c.if-calls_agree.false))
