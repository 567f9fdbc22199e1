use Prim.Native.Nat.{ℕ}
use mathlib.Core.List.{List}
use mathlib.Core.Path.{ap, ◌∙◌}
use Rattle.sarridok.specs.Contents.{decoded_answer, decoded_out}
use Rattle.cases.specs.Contents.{buffer_after}
use borrow.Author.Rules.{rules}
use Rattle.cases.proofs.contents.decode.Goals as goal

pub returns : goal.returns
unfolding buffer_after
returns c =
    let text : List ℕ = c.args.text.now in
    let tape : List ℕ = c.args.tape.now in
    record {
      result_value = c.decoded.ensures.result_value ∙ ap (decoded_answer text tape c.args.q.count c.args.q.entry) (search rules);
      buffer_after = c.decoded.ensures.out_after ∙ ap (decoded_out text tape c.args.q.count c.args.q.entry) c.mark.ensures;
    }
