use Prim.Native.Nat.{ℕ, ◌-◌}
use mathlib.Core.List.{List}
use mathlib.Core.Path.{ap, ◌∙◌}
use Rattle.explain.specs.Sentences.{line_at}
use Rattle.explain.proofs.SentenceLaws.{line_first, line_behind}
use Rattle.explain.proofs.sentence.+line.Goals as goal

pub returns-then-n-eq0 : goal.returns-then-n-eq0
returns-then-n-eq0 t c = c.until.ensures ∙ line_first c.args.n c.args.s.now c.if-n-eq0.true

pub returns : goal.returns
returns t c =
    let n : ℕ = c.args.n in
    c.line.ensures ∙ ap (λ (s : List ℕ). line_at (n - 1) s) c.past.ensures ∙ line_behind n c.args.s.now c.if-n-eq0.false
