use Rattle.std.specs.Prelude.{Some}
use Prim.Native.Nat.{ℕ, ◌/◌, ◌≤◌, ◌<◌}
use native.Mathlib.Omega.{arith}
use mathlib.Core.List.{List}
use mathlib.Core.Path.{◌≡◌, refl, sym, ap, ◌∙◌}
use lib.ListN.{length, get_or, take, set}
use borrow.Author.Rules.{rules}
use Rattle.lines.proofs.Laws.{over_more, over_all, over_full}
use Rattle.lines.specs.Over.{over}
use Rattle.words.specs.Hex.{pairs}
use Rattle.words.proofs.Pairs.{pairs_next, pairs_other, pairs_end, in_more, in_full, in_whole}
use Rattle.words.proofs.hex.pairs.Goals as goal

pub loop-i-init : goal.loop-i-init
unfolding over
loop-i-init c = (search rules, search rules, refl, refl)

pub returns-then-b-gt255 : goal.returns-then-b-gt255
returns-then-b-gt255 c =
    let s : List ℕ = c.args.s.now in
    let n : length (pairs s) ≡ c.loop-i.i = pairs_other _ _ c.loop-i.invariant.0 (omega arith) (omega arith) in
    record { value = sym (in_more _ _ λ e. omega arith); buf_after = c.loop-i.invariant.3 ∙ over_all _ _ _ n }

pub returns-then-buf-i : goal.returns-then-buf-i
returns-then-buf-i c =
    let s : List ℕ = c.args.s.now in
    let i : ℕ = c.loop-i.i in
    let more : i < length (pairs s) = (pairs_next _ _ c.loop-i.invariant.0 (omega arith) (omega arith)).0 in
    let full : length c.args.buf.now ≤ i = omega arith in
    record { value = sym (in_full _ _ (omega arith)); buf_after = c.loop-i.invariant.3 ∙ over_full _ _ _ full }

pub loop-i-preserved : goal.loop-i-preserved
loop-i-preserved c =
    let s : List ℕ = c.args.s.now in
    let d : List ℕ = c.args.buf.now in
    let i : ℕ = c.loop-i.i in
    let more : (i < length (pairs s)) × (get_or (pairs s) i 0 ≡ _) = pairs_next _ _ c.loop-i.invariant.0 (omega arith) (omega arith) in (
      omega arith,
      search rules,
      search rules,
      ap (λ (l : List ℕ). set l i c.pair-b.result) c.loop-i.invariant.3
          ∙ ap (λ (v : ℕ). set (over (take i (pairs s)) d) i v) (c.pair-b.ensures ∙ sym more.1)
          ∙ over_more _ _ _ more.0,
    )

pub returns-then-s-eq1 : goal.returns-then-s-eq1
returns-then-s-eq1 c =
    let s : List ℕ = c.args.s.now in
    let n : length (pairs s) ≡ c.loop-i.i = pairs_end _ _ c.loop-i.invariant.0 (omega arith) in
    record { value = sym (in_more _ _ λ e. omega arith); buf_after = c.loop-i.invariant.3 ∙ over_all _ _ _ n }

pub returns : goal.returns
returns c =
    let s : List ℕ = c.args.s.now in
    let n : length (pairs s) ≡ c.loop-i.i = pairs_end _ _ c.loop-i.invariant.0 (omega arith) in
    let half : length s / 2 ≡ length (pairs s) = omega arith in
    record { value = ap Some half ∙ sym (in_whole _ _ (omega arith) (omega arith)); buf_after = c.loop-i.invariant.3 ∙ over_all _ _ _ n }
