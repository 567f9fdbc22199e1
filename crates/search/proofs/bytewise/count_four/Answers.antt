use Prim.Native.Nat.{ℕ, ◌+◌, ◌-◌}
use native.Mathlib.Omega.{arith}
use mathlib.Core.Path.{◌≡◌, ◌∙◌}
use mathlib.Core.Bool.{not}
use lib.ListN.{drop, take, length, length-drop}
use Rattle.std.proofs.Common.{length-take-le, rules, tests}
use Rattle.std.proofs.lemmas.Iterator.{YieldsList-from_slice}
use Rattle.std.proofs.lemmas.Iterator.Search.{position_from_yields_List}
use Rattle.search.proofs.SearchLaws.{run_or, run_take}
use Rattle.search.specs.inner.Others.{neither}
use Rattle.search.proofs.bytewise.count_four.Goals as goal

pub returns : goal.returns
unfolding neither
returns c =
    let found = position_from_yields_List (λ (x : ℕ). not (neither c.args.a c.args.b x)) _ _ c.position.result c.position.ensures.ran (YieldsList-from_slice _ c.iter.ensures.rest) (λ x b q k. search (rules, tests)) in
    let p = neither c.args.a c.args.b in
    let rest = drop c.args.from c.args.s.now in
    let four : c.args.from + 4 - c.args.from ≡ 4 = omega arith in
    let whole : length (take 4 rest) ≡ 4 = length-take-le 4 rest (omega (arith, length-drop c.args.from c.args.s.now)) in
    c.unwrap_or.ensures ∙ run_or p (take 4 rest) 4 c.position.result whole (rw four at found) ∙ run_take p 4 rest
