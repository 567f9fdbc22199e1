use native.Mathlib.Omega.{arith}
use mathlib.Core.Bool.{true}
use mathlib.Core.List.{[]}
use mathlib.Core.Path.{◌≡◌, sym, ◌∙◌}
use Rattle.text.specs.Classes.{within}
use Rattle.words.specs.Digit.{is_digit}
use Rattle.words.proofs.Decimals.{decimal_digit, decimal_other, decimal_sum, decimal_large}
use Rattle.words.proofs.number.with_digit.Goals as goal

pub returns-then-not-is_ascii_digit : goal.returns-then-not-is_ascii_digit
unfolding within
returns-then-not-is_ascii_digit c = sym (decimal_other _ _ _ (sym c.is_ascii_digit.ensures.value ∙ c.if-not-is_ascii_digit.true))

pub returns-in_err-checked_mul : goal.returns-in_err-checked_mul
unfolding within
returns-in_err-checked_mul c =
    let digit : is_digit c.args.b ≡ true = sym c.is_ascii_digit.ensures.value ∙ c.if-not-is_ascii_digit.false in
    c.from_residual.ensures ∙ sym (decimal_digit _ _ _ digit ∙ decimal_large [] _ (omega (arith, c.in_err-checked_mul.ensures)))

pub returns : goal.returns
unfolding within
returns c =
    let digit : is_digit c.args.b ≡ true = sym c.is_ascii_digit.ensures.value ∙ c.if-not-is_ascii_digit.false in
    decimal_sum _ _ _ digit c.checked_add.result (omega (arith, c.in_ok-checked_mul.ensures)) c.checked_add.ensures
