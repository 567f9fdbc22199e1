use native.Mathlib.Omega.{arith}
use mathlib.Core.Path.{refl}
use borrow.Author.Rules.{rules}
use Rattle.lines.proofs.InputLaws.{read_behind}
use Rattle.lines.proofs.input.read_behind.Goals as goal

pub returns-then-n-buf : goal.returns-then-n-buf
returns-then-n-buf c =
    (λ h. read_behind c.args.buf.now c.read_part-got.new.part c.args.n c.read_part-got.result h (search rules) (search rules), λ h. absurd (omega arith))

pub returns : goal.returns
returns c = (λ h. absurd (omega arith), λ h. (c.ended.ensures, refl))
