use Prim.Native.Nat.{ℕ}
use mathlib.Core.List.{List}
use Rattle.tapes.proofs.ReadLaws.{tape_left, reads_said}
use Rattle.tapes.proofs.reads.read.Goals as goal

pub returns : goal.returns
returns c =
    let text : List ℕ = c.args.text.now in
    let tape : List ℕ = c.args.tape.now in (
      reads_said text tape _ _ c.mark.ensures c.read-r.ensures.1 _ c.read-r.ensures.0 (c.args.o.now, c.args.at) _ _ _ _
          c.read-a.ensures c.written.ensures c.kept-clean.ensures c.clean.ensures,
      tape_left text tape _ _ c.mark.ensures c.read-r.ensures.1,
    )
