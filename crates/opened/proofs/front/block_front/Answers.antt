use Rattle.std.proofs.Common.{Option}
use Prim.Native.Nat.{ℕ}
use native.Mathlib.Omega.{arith}
use mathlib.Core.List.{List}
use mathlib.Core.Path.{◌≡◌, ap, subst, sym, ◌∙◌}
use lib.ListN.{drop, length-drop}
use Rattle.comments.proofs.BlockLaws.{Bounded, block_end_le}
use Rattle.comments.specs.Blocks.{block_end}
use Rattle.comments.specs.Gaps.{block_item}
use Rattle.text.proofs.Lists.{tail_part}
use Rattle.opened.specs.Fronts.{by_item}
use Rattle.opened.proofs.front.block_front.Goals as goal

pub overflow_add-taken : goal.overflow_add-taken
overflow_add-taken c =
    let s : List ℕ = c.args.s.now in
    let e : block_end (drop 2 s) ≡ _ = sym (c.block_comment-end.ensures ∙ ap block_end (tail_part s 2)) ∙ c.in-Some.is in
    omega (arith, subst (Bounded 0 _) e (block_end_le _), length-drop 2 s)

pub returns-in-Some : goal.returns-in-Some
returns-in-Some c =
    let s : List ℕ = c.args.s.now in
    ap (λ (x : Option ℕ). by_item (block_item x) s) (sym c.in-Some.is ∙ c.block_comment-end.ensures ∙ ap block_end (tail_part s 2))

pub returns-in-None : goal.returns-in-None
returns-in-None c =
    let s : List ℕ = c.args.s.now in
    ap (λ (x : Option ℕ). by_item (block_item x) s) (sym c.in-None.is ∙ c.block_comment-end.ensures ∙ ap block_end (tail_part s 2))
