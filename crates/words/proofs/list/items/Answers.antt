use Rattle.std.specs.Prelude.{Some, None}
use Prim.Native.Nat.{ℕ, ◌+◌, ◌≤◌, ◌<◌}
use mathlib.Core.Path.{◌≡◌, refl, sym, ap, ◌∙◌}
use mathlib.Core.List.{List, []}
use lib.Seq.{drop-drop}
use lib.ListN.{length, take, drop, set, length-drop}
use native.Mathlib.Omega.{arith}
use Rattle.words.specs.Numbers.{items, numbers_of}
use Rattle.words.specs.Small.{small_of}
use Rattle.lines.specs.Find.{find_of}
use Rattle.lines.specs.Over.{over}
use Rattle.lines.proofs.Laws.{drop_some, drop_none, over_more, over_all, over_full}
use Rattle.words.proofs.Items.{read_at, numbers_bad, numbers_some, numbers_last, numbers_more, count_more, count_full, count_whole}
use borrow.Author.Rules.{rules}
use Rattle.text.proofs.Lists.{tail_part}
use Rattle.words.proofs.list.items.Goals as goal

pub loop-n-init : goal.loop-n-init
unfolding over
loop-n-init c = (search rules, search rules, refl, search rules, search rules, refl, refl)

pub returns-in_err-n : goal.returns-in_err-n
returns-in_err-n c =
    let s : List ℕ = c.args.s.now in
    let read : small_of (take (find_of 44 (drop c.loop-n.at s)) (drop c.loop-n.at s)) ≡ None =
    read_at s c.loop-n.at c.small_of.ensures c.until.ensures c.in_err-n.was in
    let none : (numbers_of (drop c.loop-n.at s) ≡ []) × (0 < length (items (drop c.loop-n.at s))) = numbers_bad (drop c.loop-n.at s) read in
    let n : length (numbers_of s) ≡ c.loop-n.k = drop_none (numbers_of s) c.loop-n.k c.loop-n.invariant.1 (c.loop-n.invariant.2 ∙ none.0) in
    record { value = c.from_residual.ensures ∙ sym (count_more s _ λ e. omega arith); tape_after = c.loop-n.invariant.6 ∙ over_all _ _ _ n }

pub returns-then-tape-k : goal.returns-then-tape-k
returns-then-tape-k c =
    let s : List ℕ = c.args.s.now in
    let rest : List ℕ = drop c.loop-n.at s in
    let read : small_of (take (find_of 44 rest) rest) ≡ Some c.in_ok-n.n =
    read_at s c.loop-n.at c.small_of.ensures c.until.ensures c.in_ok-n.was in
    let more = drop_some (numbers_of s) c.loop-n.k _ _ (c.loop-n.invariant.2 ∙ (numbers_some rest _ read).1) in
    let full : length c.args.tape.now ≤ c.loop-n.k = omega arith in
    record { value = sym (count_full s _ (omega (arith, more.0))); tape_after = c.loop-n.invariant.6 ∙ over_full _ _ _ full }

pub returns-then-rest-e : goal.returns-then-rest-e
returns-then-rest-e c =
    let s : List ℕ = c.args.s.now in
    let d : List ℕ = c.args.tape.now in
    let k : ℕ = c.loop-n.k in
    let rest : List ℕ = drop c.loop-n.at s in
    let n : ℕ = c.in_ok-n.n in
    let read : small_of (take (find_of 44 rest) rest) ≡ Some n = read_at s c.loop-n.at c.small_of.ensures c.until.ensures c.in_ok-n.was in
    let end : c.find-e.result ≡ find_of 44 rest = c.find-e.ensures ∙ ap (find_of 44) (tail_part s c.loop-n.at) in
    let last = numbers_last rest n read (omega (arith, length-drop c.loop-n.at s)) in
    let more = drop_some (numbers_of s) k n [] (c.loop-n.invariant.2 ∙ last.0) in
    let all : length (numbers_of s) ≡ k + 1 = drop_none (numbers_of s) (k + 1) (omega (arith, more.0)) more.2 in record {
      value = ap Some (sym all) ∙ sym (count_whole s _ (omega (arith, last.1)) (omega arith));
      tape_after = ap (λ (l : List ℕ). set l k n) c.loop-n.invariant.6 ∙ ap (λ (v : ℕ). set (over (take k (numbers_of s)) d) k v) (sym more.1)
          ∙ over_more _ _ _ more.0
          ∙ over_all _ _ _ all;
    }

pub loop-n-preserved : goal.loop-n-preserved
loop-n-preserved c =
    let s : List ℕ = c.args.s.now in
    let d : List ℕ = c.args.tape.now in
    let k : ℕ = c.loop-n.k in
    let at : ℕ = c.loop-n.at in
    let rest : List ℕ = drop at s in
    let n : ℕ = c.in_ok-n.n in
    let read : small_of (take (find_of 44 rest) rest) ≡ Some n = read_at s at c.small_of.ensures c.until.ensures c.in_ok-n.was in
    let end : c.find-e.result ≡ find_of 44 rest = c.find-e.ensures ∙ ap (find_of 44) (tail_part s at) in
    let others = numbers_more rest n read (omega (arith, length-drop at s)) in
    let more = drop_some (numbers_of s) k n _ (c.loop-n.invariant.2 ∙ others.0) in
    let place : at + (find_of 44 rest + 1) ≡ at + c.find-e.result + 1 = omega arith in
    let next : drop (find_of 44 rest + 1) rest ≡ drop (at + c.find-e.result + 1) s =
    drop-drop (find_of 44 rest + 1) at s ∙ ap (λ (m : ℕ). drop m s) place in (
      omega (arith, length-drop at s),
      omega (arith, more.0),
      more.2 ∙ ap numbers_of next,
      omega (arith, others.1, ap (λ (l : List ℕ). length (items l)) next),
      omega arith,
      search rules,
      ap (λ (l : List ℕ). set l k n) c.loop-n.invariant.6 ∙ ap (λ (v : ℕ). set (over (take k (numbers_of s)) d) k v) (sym more.1)
          ∙ over_more _ _ _ more.0,
    )
