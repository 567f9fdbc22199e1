use Rattle.std.proofs.Common.{Option}
use Prim.Native.Nat.{◌+◌, ◌-◌, ◌<◌, ℕ}
use native.Mathlib.Omega.{arith}
use mathlib.Core.List.{List}
use mathlib.Core.Path.{◌∙◌, ◌≡◌, ap, subst, sym}
use lib.ListN.{drop, get_or, length, length-drop, length-take, take}
use borrow.Author.Rules.{rules}
use Rattle.comments.proofs.BlockLaws.{Bounded}
use Rattle.comments.proofs.GapLaws.{comment_ended, comment_line, comment_none, comment_other, comment_unexpected}
use Rattle.comments.proofs.LineLaws.{line_end_le}
use Rattle.comments.specs.Gaps.{comment_of, line_item}
use Rattle.comments.specs.Lines.{line_end}
use Rattle.text.proofs.Lists.{tail_part}
use Rattle.text.proofs.Utf8Agree.{char_len_le}
use Rattle.text.specs.Utf8.{char_len}
use Rattle.gaps.proofs.StepLaws.{block_step, step_rest}
use Rattle.gaps.specs.inner.Steps.{step_by}
use Rattle.gaps.specs.declared.step.Step.TheVariants as step
use Rattle.gaps.proofs.step.comment_step.Goals as goal

pub returns-then-s-eq0 : goal.returns-then-s-eq0
returns-then-s-eq0 c = ap (step_by c.args.s.now) (sym (comment_none _ c.if-s-eq0.true))

pub returns-then-s-ne47 : goal.returns-then-s-ne47
returns-then-s-ne47 c = ap (step_by c.args.s.now) (sym (comment_other _ (search rules) c.if-s-ne47.true))

pub returns-then-s-eq1 : goal.returns-then-s-eq1
returns-then-s-eq1 c = ap (step_by c.args.s.now) (sym (comment_ended _ c.if-s-eq1.true c.if-s-ne47.false))

-- a line comment's step, by the end that was found
line_step : (s : List ℕ) (e : Option ℕ) → 1 < length s → get_or s 0 0 ≡ 0x2f → get_or s 1 0 ≡ 0x2f → e ≡ line_end (take (length s - 2) (drop 2 s)) → step_by s (line_item e) ≡ step_by s (comment_of s)
line_step s e p f g h = ap (λ (x : Option ℕ). step_by s (line_item x)) (h ∙ ap line_end (tail_part s 2)) ∙ ap (step_by s) (sym (comment_line s p f g))

pub overflow_add-taken : goal.overflow_add-taken
overflow_add-taken c =
    let end = sym (c.in-Some.ensures ∙ ap line_end (tail_part c.args.s.now 2)) in
    omega (arith, subst (Bounded 0 _) end (line_end_le _), length-drop 2 c.args.s.now)

pub returns-then-b-eq47 : goal.returns-then-b-eq47
returns-then-b-eq47 c = line_step c.args.s.now _ (omega arith) c.if-s-ne47.false c.if-b-eq47.true c.in-Some.ensures

pub returns-in_default : goal.returns-in_default
returns-in_default c = line_step c.args.s.now _ (omega arith) c.if-s-ne47.false c.if-b-eq47.true c.in_default.ensures

pub returns-in-Ok : goal.returns-in-Ok
returns-in-Ok c =
    let two : 1 < length (c.args.s.now) = omega arith in
    let rest_step : step_rest c.block_rest-rest.result ≡ step_by (c.args.s.now) (comment_of (c.args.s.now)) = ap step_rest c.block_rest-rest.ensures ∙ sym (block_step (c.args.s.now) (two) c.if-s-ne47.false c.if-b-eq42.true) in
    sym (ap step_rest c.in-Ok.is) ∙ rest_step

pub returns-in-Err : goal.returns-in-Err
returns-in-Err c =
    let two : 1 < length (c.args.s.now) = omega arith in
    let rest_step : step_rest c.block_rest-rest.result ≡ step_by (c.args.s.now) (comment_of (c.args.s.now)) = ap step_rest c.block_rest-rest.ensures ∙ sym (block_step (c.args.s.now) (two) c.if-s-ne47.false c.if-b-eq42.true) in
    sym (ap step_rest c.in-Err.is) ∙ rest_step

pub overflow_add-taken-2 : goal.overflow_add-taken-2
overflow_add-taken-2 c =
    let s = c.args.s.now in
    omega (arith, c.char_len-taken.ensures, char_len_le (take (length s - 1) (drop 1 s)), length-take (length s - 1) (drop 1 s), length-drop 1 s)

pub returns : goal.returns
returns c =
    let two : 1 < length (c.args.s.now) = omega arith in
    ap (λ (n : ℕ). step.Odd (1 + n)) (c.char_len-taken.ensures ∙ ap char_len (tail_part c.args.s.now 1))
    ∙ ap (step_by c.args.s.now) (sym (comment_unexpected c.args.s.now (two) c.if-s-ne47.false c.if-b-eq47.false c.if-b-eq42.false))
