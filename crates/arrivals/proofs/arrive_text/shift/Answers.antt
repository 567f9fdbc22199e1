use Prim.Native.Nat.{ℕ, ◌+◌, ◌-◌}
use native.Mathlib.Omega.{arith}
use mathlib.Core.List.{List, ◌++◌}
use mathlib.Core.Path.{◌≡◌, sym, ap, ◌∙◌}
use lib.ListN.{length, take, drop, length-drop}
use lib.Seq.{paste, length-take-le}
use Rattle.arrivals.proofs.TurnLaws.{over_whole}
use Rattle.arrivals.proofs.arrive_text.shift.Goals as goal

pub returns : goal.returns
returns c =
    let d : List ℕ = c.args.s.now in
    let part : List ℕ = take c.args.n (drop c.args.from d) in
    let many : c.args.from + c.args.n - c.args.from ≡ c.args.n = omega arith in
    let zero_behind : 0 + c.args.n ≡ c.args.n = omega arith in
    let long : length part ≡ c.args.n = length-take-le c.args.n (drop c.args.from d) (omega (arith, length-drop c.args.from d)) in
    c.copy_within.ensures.after ∙ ap (paste d 0 (drop c.args.from d)) many
    ∙ ap (λ (m : ℕ). part ++ drop m d) (zero_behind)
    ∙ sym (over_whole part d (omega (arith, long)) ∙ ap (λ (m : ℕ). part ++ drop m d) long)
