use Rattle.text.specs.Refusals.{Told}
use Prim.Native.Nat.{ℕ}
use mathlib.Core.List.{List, ◌++◌}
use mathlib.Core.Path.{sym, ap, ◌∙◌}
use Rattle.integers.specs.declared.integer.Value.{Value}
use Rattle.lines.proofs.OutLaws.{then}
use Rattle.lines.specs.Ascii.{ascii}
use Rattle.lines.specs.Decimal.{word_of}
use Rattle.lines.specs.Out.{put}
use Rattle.sarridok.specs.declared.integer_call.Typed.{Typed}
use Rattle.sarridok.specs.Typed.{signed_number}
use Rattle.show.specs.Answers.{answer_text}
use Rattle.show.specs.Integers.{signed_text, typed_text}
use Rattle.show.proofs.integer.read.Goals as goal

pub returns-in-Ok : goal.returns-in-Ok
unfolding typed_text
returns-in-Ok c =
    let out : List ℕ × ℕ = (c.args.o.now, c.args.at) in
    let v : Value = c.in-Ok.t.number in
    let end : ℕ = c.in-Ok.t.end in
    then out _ _ (ascii "ok ") (signed_text (signed_number v) ++ word_of end) c.bytes-a.ensures
    (then _ _ _ (signed_text (signed_number v)) (word_of end) c.value-b.ensures c.word.ensures)
    ∙ ap (λ (a : Told Typed). put out (answer_text typed_text a)) (sym c.in-Ok.is)

pub returns-in-Err : goal.returns-in-Err
returns-in-Err c =
    let out : List ℕ × ℕ = (c.args.o.now, c.args.at) in
    c.refused.ensures ∙ ap (λ (a : Told Typed). put out (answer_text typed_text a)) (sym c.in-Err.is)
