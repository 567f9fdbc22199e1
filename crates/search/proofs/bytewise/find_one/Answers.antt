use Prim.Native.Nat.{ℕ, ◌+◌}
use native.Mathlib.Omega.{arith}
use mathlib.Core.Path.{◌∙◌, ap, sym}
use mathlib.Core.Bool.{not}
use lib.ListN.{drop, length-drop}
use Rattle.std.proofs.Common.{rules, tests}
use Rattle.std.proofs.lemmas.Iterator.{YieldsList-from_slice}
use Rattle.std.proofs.lemmas.Iterator.Search.{position_from_yields_List}
use Rattle.text.proofs.Lists.{tail_part}
use Rattle.text.proofs.RunLaws.{run_found, run_whole}
use Rattle.search.specs.inner.Others.{other}
use Rattle.search.proofs.bytewise.find_one.Goals as goal

pub returns-in-Some : goal.returns-in-Some
unfolding other
returns-in-Some c =
    let found = position_from_yields_List (λ (x : ℕ). not (other c.args.b x)) _ _ c.position.result c.position.ensures.ran (YieldsList-from_slice _ c.iter.ensures.rest) (λ x b q k. search (rules, tests)) in
    ap (λ (n : ℕ). c.args.from + n) (sym (run_found (other c.args.b) (drop c.args.from c.args.s.now) c.in-Some.n (rw tail_part at (sym c.in-Some.is ∙ found))))

pub returns-in-None : goal.returns-in-None
unfolding other
returns-in-None c =
    let found = position_from_yields_List (λ (x : ℕ). not (other c.args.b x)) _ _ c.position.result c.position.ensures.ran (YieldsList-from_slice _ c.iter.ensures.rest) (λ x b q k. search (rules, tests)) in
    omega (arith, run_whole (other c.args.b) (drop c.args.from c.args.s.now) (rw tail_part at (sym c.in-None.is ∙ found)), length-drop c.args.from c.args.s.now)
