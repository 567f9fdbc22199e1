use Rattle.text.specs.Refusals.{Told}
use Prim.Native.Nat.{ℕ}
use mathlib.Core.List.{List, ◌++◌}
use mathlib.Core.Path.{sym, ap, ◌∙◌}
use Rattle.entries.specs.declared.view.Span.{Span}
use Rattle.lines.proofs.OutLaws.{then}
use Rattle.lines.specs.Ascii.{ascii}
use Rattle.lines.specs.Decimal.{word_of}
use Rattle.lines.specs.Out.{put}
use Rattle.show.specs.Answers.{answer_text}
use Rattle.show.specs.Contents.{span_text}
use Rattle.show.proofs.contents.view.Goals as goal

pub returns-in-Ok : goal.returns-in-Ok
unfolding span_text
returns-in-Ok c =
    let out : List ℕ × ℕ = (c.args.o.now, c.args.at) in
    let start : ℕ = c.in-Ok.s.start in
    let end : ℕ = c.in-Ok.s.end in
    then out _ _ (ascii "ok part") (word_of start ++ word_of end) c.bytes-a.ensures
    (then _ _ _ (word_of start) (word_of end) c.word-b.ensures c.word.ensures)
    ∙ ap (λ (a : Told Span). put out (answer_text span_text a)) (sym c.in-Ok.is)

pub returns-in-Err : goal.returns-in-Err
returns-in-Err c =
    let out : List ℕ × ℕ = (c.args.o.now, c.args.at) in
    c.refused.ensures ∙ ap (λ (a : Told Span). put out (answer_text span_text a)) (sym c.in-Err.is)
