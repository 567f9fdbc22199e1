use Prim.Native.Nat.{ℕ}
use mathlib.Core.List.{List}
use mathlib.Core.Path.{refl, sym, ◌∙◌}
use Rattle.lines.specs.Over.{over}
use Rattle.show.specs.Answers.{bad_text}
use Rattle.words.specs.Hex.{pairs}
use Rattle.tapes.specs.Reads.{read_line}
use Rattle.lines.proofs.LineLaws.{line3}
use Rattle.tapes.proofs.ReadLaws.{read_bad, read_goes}
use Rattle.tapes.proofs.read_text.answer.Goals as goal

pub returns-in_default : goal.returns-in_default
returns-in_default c =
    let words : List ℕ = c.args.words.now in
    let text : List ℕ = c.args.text.now in
    let tape : List ℕ = c.args.tape.now in
    line3 (c.args.o.now, c.args.at) _ bad_text _ _ (over (pairs words) text) tape (read_line words text tape)
    (read_bad words text tape (sym c.bytes.ensures.value ∙ c.in_default.is)) c.bad.ensures c.bytes.ensures.buf_after refl

pub returns : goal.returns
returns c =
    read_goes c.args.words.now c.args.text.now c.args.tape.now c.in-Some.n (sym c.bytes.ensures.value ∙ c.in-Some.is)
    _ _ _ _ (c.args.o.now, c.args.at) _ c.bytes.ensures.buf_after c.part-s.ensures c.room.ensures c.answer.ensures
