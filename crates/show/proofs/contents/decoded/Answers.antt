use Rattle.text.specs.Refusals.{Told}
use Prim.Native.Nat.{ℕ, ◌-◌}
use native.Mathlib.Omega.{arith}
use mathlib.Core.List.{List}
use mathlib.Core.Path.{◌≡◌, sym, ap, ◌∙◌}
use lib.ListN.{take}
use Rattle.lines.specs.Out.{put}
use Rattle.show.specs.Answers.{answer_text}
use Rattle.show.specs.Contents.{bytes_text, wrote_text}
use Rattle.show.proofs.contents.decoded.Goals as goal

pub returns-in-Ok : goal.returns-in-Ok
unfolding wrote_text
returns-in-Ok c =
    let out : List ℕ × ℕ = (c.args.o.now, c.args.at) in
    let buffer : List ℕ = c.args.buffer.now in
    let n : ℕ = c.in-Ok.n in
    let all : n - 0 ≡ n = omega arith in
    c.wrote.ensures ∙ ap (λ (t : List ℕ). put out (bytes_text t)) (c.part.ensures ∙ ap (λ (k : ℕ). take k buffer) all)
    ∙ ap (λ (a : Told ℕ). put out (answer_text (wrote_text buffer) a)) (sym c.in-Ok.is)

pub returns-in-Err : goal.returns-in-Err
returns-in-Err c =
    let out : List ℕ × ℕ = (c.args.o.now, c.args.at) in
    let buffer : List ℕ = c.args.buffer.now in
    c.refused.ensures ∙ ap (λ (a : Told ℕ). put out (answer_text (wrote_text buffer) a)) (sym c.in-Err.is)
