use Prim.Native.Nat.{ℕ}
use mathlib.Core.List.{List, ◌++◌}
use Rattle.lines.proofs.OutLaws.{then}
use Rattle.lines.specs.Ascii.{ascii}
use Rattle.lines.specs.Decimal.{decimal}
use Rattle.explain.specs.Sentences.{sentence_of, why_of}
use Rattle.explain.specs.Explained.{also_text, reason_text}
use Rattle.text.specs.declared.refusal.Refusal.{Refusal}
use Rattle.explain.proofs.answer.reason.Goals as goal

pub returns : goal.returns
unfolding reason_text
returns c =
    let out : List ℕ × ℕ = (c.args.o.now, c.args.at) in
    let f : Refusal = c.args.f in
    let said : List ℕ = sentence_of f.number in
    let why : List ℕ = said ++ why_of f.reason in
    let before-number : List ℕ = why ++ ascii " [" in
    let numbered : List ℕ = before-number ++ decimal f.number in
    then out _ _ (numbered ++ also_text f.reason) (ascii "]\n")
    (then out _ _ numbered (also_text f.reason)
    (then out _ _ before-number (decimal f.number) (then out _ _ why (ascii " [") (then out _ _ said (why_of f.reason) c.say-a.ensures c.why-b.ensures) c.bytes-c.ensures) c.number-d.ensures)
    c.also-e.ensures) c.bytes.ensures
