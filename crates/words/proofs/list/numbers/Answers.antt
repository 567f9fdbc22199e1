use Rattle.words.proofs.Items.{numbers_dash}
use Rattle.words.specs.Numbers.{numbers_in}
use Rattle.words.specs.Dash.{is_dash}
use Rattle.lines.specs.Over.{over}
use mathlib.Core.Path.{◌≡◌, sym, ap, ◌∙◌}
use mathlib.Core.List.{List}
use mathlib.Core.Bool.{true, false}
use Prim.Native.Nat.{ℕ}
use Rattle.words.proofs.list.numbers.Goals as goal

pub returns-then-is_dash : goal.returns-then-is_dash
unfolding numbers_in over
returns-then-is_dash c =
    let dash : is_dash c.args.s.now ≡ true = sym c.is_dash.ensures ∙ c.if-is_dash.true in
    record { value = rw dash; tape_after = ap (λ (l : List ℕ). over l c.args.tape.now) (sym (numbers_dash _ dash)) }

pub returns : goal.returns
unfolding numbers_in
returns c =
    let other : is_dash c.args.s.now ≡ false = sym c.is_dash.ensures ∙ c.if-is_dash.false in
    record { value = rw other c.items.ensures.value; tape_after = c.items.ensures.tape_after }
