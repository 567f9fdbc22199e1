use Prim.Native.Nat.{ℕ}
use mathlib.Core.Path.{ap, ◌∙◌}
use Rattle.lines.specs.Out.{put}
use Rattle.explain.specs.Sentences.{line_at, sentences, sentence_of}
use Rattle.explain.proofs.sentence.say.Goals as goal

pub returns : goal.returns
unfolding sentences sentence_of
returns c =
    c.bytes.ensures ∙ ap (put (c.args.o.now, c.args.at)) (c.line.ensures ∙ ap (λ (k : ℕ). line_at k sentences) c.known.ensures)
