use Rattle.std.specs.Prelude.{Some, Result, Ok, Err}
use Rattle.std.specs.Result.{OkIff, result_ok}
use Prim.Native.Nat.{ℕ, ◌^◌, ◌<◌}
use native.Mathlib.Omega.{arith}
use mathlib.Core.Path.{◌≡◌, sym, ap, ◌∙◌}
use borrow.Author.Tests.{lt-ltb, le-ltb}
use Rattle.words.specs.Small.{small, small_of}
use Rattle.words.proofs.small.small_of.Goals as goal

narrowed : {E : Type 0} (n : ℕ) (r : Result ℕ E) → OkIff r (n < 2 ^ 32) n → result_ok r ≡ small (Some n)
narrowed n (Ok x) h = rw (lt-ltb n (2 ^ 32) h.0) (ap Some h.1)
narrowed n (Err e) h = rw (le-ltb n (2 ^ 32) (omega (arith, h)))

pub returns-in_err-decimal_of : goal.returns-in_err-decimal_of
unfolding small_of
returns-in_err-decimal_of c = c.from_residual.ensures ∙ sym (ap small (sym c.decimal_of.ensures ∙ c.in_err-decimal_of.was))

pub returns : goal.returns
unfolding small_of
returns c = c.ok.ensures.value ∙ narrowed _ _ c.try_from.ensures ∙ ap small c.in_ok-decimal_of.ensures
