use Prim.Native.Nat.{ℕ}
use mathlib.Core.List.{List, ◌++◌}
use Rattle.lines.proofs.OutLaws.{then}
use Rattle.lines.specs.Ascii.{ascii}
use Rattle.lines.specs.Decimal.{word_of}
use Rattle.explain.proofs.SentenceLaws.{put_none, put_some}
use Rattle.explain.specs.Explained.{also_text}
use Rattle.explain.proofs.answer.also.Goals as goal

pub returns-then-reason-eq0 : goal.returns-then-reason-eq0
unfolding also_text
returns-then-reason-eq0 c = put_none c.args.reason (c.args.o.now, c.args.at) (ascii "," ++ word_of c.args.reason) c.if-reason-eq0.true

pub returns : goal.returns
unfolding also_text
returns c =
    let out : List ℕ × ℕ = (c.args.o.now, c.args.at) in
    put_some c.args.reason out (ascii "," ++ word_of c.args.reason) c.if-reason-eq0.false _ (then out _ _ (ascii ",") (word_of c.args.reason) c.bytes-a.ensures c.word.ensures)
