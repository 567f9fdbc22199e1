use Rattle.std.proofs.Common.{Some}
use Prim.Native.Nat.{◌+◌}
use native.Mathlib.Omega.{arith}
use mathlib.Core.Path.{◌∙◌, ◌≡◌, ap, sym}
use Rattle.comments.proofs.LineLaws.{line_found, line_none}
use Rattle.comments.specs.Lines.{line_end}
use Rattle.search.specs.inner.Others.{other}
use Rattle.text.specs.Runs.{run}
use Rattle.comments.proofs.line.line_comment.Goals as goal

pub returns-then-i-s : goal.returns-then-i-s
unfolding line_end
returns-then-i-s c =
    let place : c.find-i.result ≡ 0 + run (other 0x0a) c.args.s.now = c.find-i.ensures in
    ap Some (place) ∙ sym (line_found c.args.s.now 0 (omega (arith, place)))

pub returns : goal.returns
unfolding line_end
returns c =
    let place : c.find-i.result ≡ 0 + run (other 0x0a) c.args.s.now = c.find-i.ensures in
    sym (line_none c.args.s.now 0 (omega (arith, place)))
