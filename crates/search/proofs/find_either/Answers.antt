use Prim.Native.Nat.{◌+◌, ◌<◌, ◌≤◌, ℕ}
use native.Mathlib.Omega.{arith}
use mathlib.Core.Logic.{◌⊎◌, inl, inr}
use mathlib.Core.Path.{◌≡◌, ◌∙◌, ap}
use lib.ListN.{drop}
use Rattle.text.proofs.Choices.{either, lt_or_le}
use Rattle.text.specs.Runs.{run}
use Rattle.search.specs.inner.Others.{neither}
use Rattle.search.proofs.SearchLaws.{at_most_below, at_most_bound, run_past}
use Rattle.search.proofs.find_either.Goals as goal

pub overflow_add-at : goal.overflow_add-at
overflow_add-at c =
    let counted : ((c.count_four-n.result < 4) × (c.count_four-n.result ≡ (let a = c.args in run (neither a.a a.b) (drop a.from a.s.now)))) ⊎ ((c.count_four-n.result ≡ 4) × (4 ≤ (let a = c.args in run (neither a.a a.b) (drop a.from a.s.now)))) = either (lt_or_le ((let a = c.args in run (neither a.a a.b) (drop a.from a.s.now))) 4)
    (λ l. let e : c.count_four-n.result ≡ (let a = c.args in run (neither a.a a.b) (drop a.from a.s.now)) = c.count_four-n.ensures ∙ at_most_below 4 ((let a = c.args in run (neither a.a a.b) (drop a.from a.s.now))) l in inl (omega arith, e))
    (λ g. inr (c.count_four-n.ensures ∙ at_most_bound 4 ((let a = c.args in run (neither a.a a.b) (drop a.from a.s.now))) g, g)) in
    either (counted) (λ w. omega arith) (λ w. omega arith)

pub returns-then-n-lt4 : goal.returns-then-n-lt4
returns-then-n-lt4 c =
    let counted : ((c.count_four-n.result < 4) × (c.count_four-n.result ≡ (let a = c.args in run (neither a.a a.b) (drop a.from a.s.now)))) ⊎ ((c.count_four-n.result ≡ 4) × (4 ≤ (let a = c.args in run (neither a.a a.b) (drop a.from a.s.now)))) = either (lt_or_le ((let a = c.args in run (neither a.a a.b) (drop a.from a.s.now))) 4)
    (λ l. let e : c.count_four-n.result ≡ (let a = c.args in run (neither a.a a.b) (drop a.from a.s.now)) = c.count_four-n.ensures ∙ at_most_below 4 ((let a = c.args in run (neither a.a a.b) (drop a.from a.s.now))) l in inl (omega arith, e))
    (λ g. inr (c.count_four-n.ensures ∙ at_most_bound 4 ((let a = c.args in run (neither a.a a.b) (drop a.from a.s.now))) g, g)) in
    either (counted) (λ w. omega arith) (λ w. absurd (omega arith))

pub find_far-requires-2 : goal.find_far-requires-2
find_far-requires-2 c =
    let counted : ((c.count_four-n.result < 4) × (c.count_four-n.result ≡ (let a = c.args in run (neither a.a a.b) (drop a.from a.s.now)))) ⊎ ((c.count_four-n.result ≡ 4) × (4 ≤ (let a = c.args in run (neither a.a a.b) (drop a.from a.s.now)))) = either (lt_or_le ((let a = c.args in run (neither a.a a.b) (drop a.from a.s.now))) 4)
    (λ l. let e : c.count_four-n.result ≡ (let a = c.args in run (neither a.a a.b) (drop a.from a.s.now)) = c.count_four-n.ensures ∙ at_most_below 4 ((let a = c.args in run (neither a.a a.b) (drop a.from a.s.now))) l in inl (omega arith, e))
    (λ g. inr (c.count_four-n.ensures ∙ at_most_bound 4 ((let a = c.args in run (neither a.a a.b) (drop a.from a.s.now))) g, g)) in
    either (counted) (λ w. omega arith) (λ w. omega arith)

pub returns : goal.returns
returns c =
    let counted : ((c.count_four-n.result < 4) × (c.count_four-n.result ≡ (let a = c.args in run (neither a.a a.b) (drop a.from a.s.now)))) ⊎ ((c.count_four-n.result ≡ 4) × (4 ≤ (let a = c.args in run (neither a.a a.b) (drop a.from a.s.now)))) = either (lt_or_le ((let a = c.args in run (neither a.a a.b) (drop a.from a.s.now))) 4)
    (λ l. let e : c.count_four-n.result ≡ (let a = c.args in run (neither a.a a.b) (drop a.from a.s.now)) = c.count_four-n.ensures ∙ at_most_below 4 ((let a = c.args in run (neither a.a a.b) (drop a.from a.s.now))) l in inl (omega arith, e))
    (λ g. inr (c.count_four-n.ensures ∙ at_most_bound 4 ((let a = c.args in run (neither a.a a.b) (drop a.from a.s.now))) g, g)) in
    either (counted)
    (λ w. absurd (omega arith))
    (λ w.
    c.find_far-2.ensures
    ∙ ap (λ (m : ℕ). c.args.from + m + run (neither c.args.a c.args.b) (drop (c.args.from + m) c.args.s.now)) w.0
    ∙ omega (arith, run_past (neither c.args.a c.args.b) 4 c.args.s.now c.args.from w.1))
