use Prim.Native.Nat.{ℕ}
use mathlib.Core.List.{List, ◌++◌}
use Rattle.lines.proofs.OutLaws.{then, then_byte}
use Rattle.lines.specs.Ascii.{ascii}
use Rattle.lines.specs.Decimal.{word_of}
use Rattle.explain.specs.Explained.{accepted_text}
use Rattle.explain.proofs.answer.accepted.Goals as goal

pub returns : goal.returns
unfolding accepted_text
returns c =
    let out : List ℕ × ℕ = (c.args.o.now, 0) in
    let ok : List ℕ = ascii "ok" in
    let n : List ℕ = word_of c.args.count in
    let of : List ℕ = ascii " entries, depth" in
    let d : List ℕ = word_of c.args.depth in
    then_byte out _ _ (ok ++ n ++ of ++ d) 10
    (then out _ _ (ok ++ n ++ of) d (then out _ _ (ok ++ n) of (then out _ _ ok n c.bytes-a.ensures c.word-b.ensures) c.bytes-c.ensures) c.word-d.ensures)
    c.byte.ensures
