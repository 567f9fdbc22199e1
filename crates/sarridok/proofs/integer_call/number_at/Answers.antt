use Prim.Native.Nat.{ℕ}
use mathlib.Core.Bool.{false}
use mathlib.Core.Path.{◌∙◌, ap, sym}
use Rattle.integers.specs.Width.{limit_at}
use Rattle.sarridok.proofs.ShortReads.{short_read}
use Rattle.sarridok.proofs.integer_call.number_at.Goals as goal

pub returns-in-Value : goal.returns-in-Value
returns-in-Value c = sym (short_read c.args.width c.code_of.result (ap (λ (code : ℕ). limit_at code false) (sym c.code_of.ensures)) c.args.s.now _ _ (sym c.short_integer-short.ensures ∙ c.in-Value.is))
