use Prim.Native.Nat.{◌+◌, ◌≤◌}
use native.Mathlib.Omega.{arith}
use mathlib.Core.Path.{◌∙◌, ◌≡◌, ap, sym}
use lib.ListN.{drop, length, length-drop}
use Rattle.floats.specs.Classes.{float_run}
use Rattle.integers.proofs.Fronts.{sign_le}
use Rattle.integers.specs.declared.front.Sign.{Sign}
use Rattle.numbers.proofs.Laws.{ahead_not, ahead_said}
use Rattle.text.proofs.Lists.{tail_part}
use Rattle.text.proofs.RunLaws.{run_le}
use Rattle.text.specs.Classes.{int_char}
use Rattle.text.specs.Runs.{run}
use Rattle.numbers.proofs.next_bytes_is_float.Goals as goal

pub slice_bounds-run_len-count : goal.slice_bounds-run_len-count
slice_bounds-run_len-count c = omega (arith, ap (λ (g : Sign). g.end) c.sign_of-sign.ensures, sign_le c.args.s.now)

pub slice_bounds-run_len-start : goal.slice_bounds-run_len-start
slice_bounds-run_len-start c = omega (arith, ap (λ (g : Sign). g.end) c.sign_of-sign.ensures, sign_le c.args.s.now)

pub overflow_add-behind : goal.overflow_add-behind
overflow_add-behind c =
    let ran : c.run_len-valid_int_len.result ≡ run int_char (drop c.sign_of-sign.result.end c.args.s.now) = c.run_len-valid_int_len.ensures ∙ ap (run int_char) (tail_part c.args.s.now c.sign_of-sign.result.end) in
    let within : c.sign_of-sign.result.end + c.run_len-valid_int_len.result ≤ length c.args.s.now = let s = c.args.s.now in
    let e = c.sign_of-sign.result.end in
    omega (arith, ran, run_le int_char (drop e s), length-drop e s, ap (λ (g : Sign). g.end) c.sign_of-sign.ensures, sign_le s) in
    omega (arith, within)

pub slice_bounds-goes_on-count : goal.slice_bounds-goes_on-count
slice_bounds-goes_on-count c =
    let ran : c.run_len-valid_int_len.result ≡ run int_char (drop c.sign_of-sign.result.end c.args.s.now) = c.run_len-valid_int_len.ensures ∙ ap (run int_char) (tail_part c.args.s.now c.sign_of-sign.result.end) in
    let within : c.sign_of-sign.result.end + c.run_len-valid_int_len.result ≤ length c.args.s.now = let s = c.args.s.now in
    let e = c.sign_of-sign.result.end in
    omega (arith, ran, run_le int_char (drop e s), length-drop e s, ap (λ (g : Sign). g.end) c.sign_of-sign.ensures, sign_le s) in
    omega (arith, within)

pub slice_bounds-goes_on-start : goal.slice_bounds-goes_on-start
slice_bounds-goes_on-start c =
    let ran : c.run_len-valid_int_len.result ≡ run int_char (drop c.sign_of-sign.result.end c.args.s.now) = c.run_len-valid_int_len.ensures ∙ ap (run int_char) (tail_part c.args.s.now c.sign_of-sign.result.end) in
    let within : c.sign_of-sign.result.end + c.run_len-valid_int_len.result ≤ length c.args.s.now = let s = c.args.s.now in
    let e = c.sign_of-sign.result.end in
    omega (arith, ran, run_le int_char (drop e s), length-drop e s, ap (λ (g : Sign). g.end) c.sign_of-sign.ensures, sign_le s) in
    omega (arith, within)

pub returns-then-not-goes_on : goal.returns-then-not-goes_on
returns-then-not-goes_on c =
    let ran : c.run_len-valid_int_len.result ≡ run int_char (drop c.sign_of-sign.result.end c.args.s.now) = c.run_len-valid_int_len.ensures ∙ ap (run int_char) (tail_part c.args.s.now c.sign_of-sign.result.end) in
    let s = c.args.s.now in
    ahead_not s c.sign_of-sign.result c.run_len-valid_int_len.result c.sign_of-sign.ensures (ran) (rw (tail_part s (c.sign_of-sign.result.end + c.run_len-valid_int_len.result)) at (sym c.goes_on.ensures ∙ c.if-not-goes_on.true))

pub slice_bounds-float_run-count : goal.slice_bounds-float_run-count
slice_bounds-float_run-count c = omega (arith, ap (λ (g : Sign). g.end) c.sign_of-sign.ensures, sign_le c.args.s.now)

pub slice_bounds-float_run-start : goal.slice_bounds-float_run-start
slice_bounds-float_run-start c = omega (arith, ap (λ (g : Sign). g.end) c.sign_of-sign.ensures, sign_le c.args.s.now)

pub returns : goal.returns
returns c =
    let ran : c.run_len-valid_int_len.result ≡ run int_char (drop c.sign_of-sign.result.end c.args.s.now) = c.run_len-valid_int_len.ensures ∙ ap (run int_char) (tail_part c.args.s.now c.sign_of-sign.result.end) in
    let s = c.args.s.now in
    ahead_said s c.sign_of-sign.result c.run_len-valid_int_len.result c.float_run-valid_float_len.result c.sign_of-sign.ensures (ran) (c.float_run-valid_float_len.ensures ∙ ap float_run (tail_part s c.sign_of-sign.result.end))
