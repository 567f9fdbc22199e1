use Prim.Native.Nat.{ℕ}
use mathlib.Core.Bool.{true}
use mathlib.Core.Path.{◌∙◌, ◌≡◌, ap, sym}
use lib.IntN.{nat_abs}
use borrow.Author.Rules.{rules}
use Rattle.digits.proofs.Neg.{nat_abs_neg}
use Rattle.digits.specs.Digits.{digits_of}
use Rattle.integers.proofs.Runs.{digits_run, empty_run, underscore_run}
use Rattle.integers.specs.Width.{limit_at}
use mir.Syntax.{w64}
use mir.Val.{to_z, of_z}
use Rattle.integers.proofs.integer.parse_integer.Goals as goal

pub returns-then-run-eq0 : goal.returns-then-run-eq0
returns-then-run-eq0 c = empty_run (limit_at c.args.code c.args.minus) c.args.base c.args.run.now c.if-run-eq0.true

pub returns-then-run-eq95 : goal.returns-then-run-eq95
returns-then-run-eq95 c = underscore_run (limit_at c.args.code c.args.minus) c.args.base c.args.run.now c.if-run-eq0.false c.if-run-eq95.true

pub returns-then-minus : goal.returns-then-minus
returns-then-minus c =
    let a = c.args in
    let h : to_z w64 (of_z w64 c.lowest.result) ≡ c.lowest.result = search rules in
    let l : nat_abs (to_z w64 (of_z w64 c.lowest.result)) ≡ limit_at a.code a.minus = ap nat_abs (h ∙ c.lowest.ensures) ∙ nat_abs_neg (limit_at a.code true) ∙ ap (limit_at a.code) (sym c.if-minus.true) in
    c.digits_down.ensures ∙ ap (λ (limit : ℕ). digits_of limit a.base a.run.now) l ∙ digits_run (limit_at a.code a.minus) a.base a.run.now c.if-run-eq0.false c.if-run-eq95.false

pub returns : goal.returns
returns c =
    let a = c.args in
    let l : c.highest.result ≡ limit_at a.code a.minus = c.highest.ensures ∙ ap (limit_at a.code) (sym c.if-minus.false) in
    c.digits.ensures ∙ ap (λ (limit : ℕ). digits_of limit a.base a.run.now) l ∙ digits_run (limit_at a.code a.minus) a.base a.run.now c.if-run-eq0.false c.if-run-eq95.false
