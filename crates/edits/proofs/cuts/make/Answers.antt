use Prim.Native.Nat.{ℕ, ◌+◌, ◌-◌}
use mathlib.Core.Path.{ap, ◌∙◌}
use Rattle.edits.proofs.MoveLaws.{moved, made}
use Rattle.edits.proofs.cuts.make.Goals as goal

pub returns : goal.returns
returns c =
    let n : ℕ = c.args.n in
    let b : ℕ = c.args.b in
    c.copy_within-2.ensures.after ∙ ap (moved (n - b) b (n + c.args.a + c.args.k)) c.copy_within.ensures.after ∙ made c.args.s.now c.args.n c.args.k c.args.a c.args.b c.requires.0 c.requires.1 c.requires.2
