use Prim.Native.Nat.{ℕ, min}
use mathlib.Core.List.{List, ◌++◌}
use mathlib.Core.Path.{ap, ◌∙◌}
use Rattle.lines.proofs.OutLaws.{then_as}
use Rattle.lines.specs.Ascii.{ascii}
use Rattle.explain.proofs.SentenceLaws.{put_none, put_some}
use Rattle.explain.specs.Sentences.{line_at, reasons, why_of}
use Rattle.explain.proofs.sentence.why.Goals as goal

pub returns-then-reason-eq0 : goal.returns-then-reason-eq0
unfolding why_of
returns-then-reason-eq0 c = put_none c.args.reason (c.args.o.now, c.args.at) (ascii ": " ++ line_at (min c.args.reason 8) reasons) c.if-reason-eq0.true

pub returns : goal.returns
unfolding reasons why_of
returns c =
    let out : List ℕ × ℕ = (c.args.o.now, c.args.at) in
    let words : List ℕ = line_at (min c.args.reason 8) reasons in
    put_some c.args.reason out (ascii ": " ++ words) c.if-reason-eq0.false _
    (then_as out _ _ (ascii ": ") _ words c.bytes-a.ensures c.bytes.ensures (c.line.ensures ∙ ap (λ (k : ℕ). line_at k reasons) c.known_reason.ensures))
