use Prim.Native.Nat.{ℕ, ◌+◌, ◌≤◌}
use native.Mathlib.Omega.{arith}
use mathlib.Core.List.{List}
use mathlib.Core.Path.{sym, ap, ◌∙◌}
use lib.ListN.{length, drop, drop_of_length-le}
use Rattle.lines.specs.Find.{find_of}
use Rattle.text.proofs.Lists.{tail_part}
use Rattle.lines.proofs.past.Goals as goal

pub returns-then-e-s : goal.returns-then-e-s
returns-then-e-s c =
    let s : List ℕ = c.args.s.now in
    tail_part s (c.find-e.result + 1) ∙ ap (λ (n : ℕ). drop (n + 1) s) c.find-e.ensures

pub returns : goal.returns
returns c =
    let s : List ℕ = c.args.s.now in
    let none : length s ≤ find_of c.args.b s + 1 = omega arith in
    sym (drop_of_length-le s none)
