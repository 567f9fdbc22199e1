use Prim.Native.Nat.{ℕ}
use mathlib.Core.Bool.{Bool}
use mathlib.Core.List.{List}
use mathlib.Core.Path.{sym, ap, ◌∙◌}
use Rattle.lines.specs.Out.{put}
use Rattle.show.specs.Answers.{clean_text}
use Rattle.show.proofs.clean.Goals as goal

pub returns-then-is : goal.returns-then-is
unfolding put
returns-then-is c =
    let out : List ℕ × ℕ = (c.args.o.now, c.args.at) in
    ap (λ (b : Bool). put out (clean_text b)) (sym c.if-is.true)

pub returns : goal.returns
returns c =
    let out : List ℕ × ℕ = (c.args.o.now, c.args.at) in
    c.bytes.ensures ∙ ap (λ (b : Bool). put out (clean_text b)) (sym c.if-is.false)
