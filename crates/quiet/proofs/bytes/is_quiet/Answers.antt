use Prim.Native.Nat.{ℕ, ◌<◌, ◌≤◌}
use native.Mathlib.Omega.{arith}
use mathlib.Core.List.{[], ◌∷◌}
use mathlib.Core.Path.{◌∙◌, ◌≡◌, sym}
use borrow.Author.Rules.{rules}
use borrow.Author.Tests.{ne_eqb}
use Rattle.reading.specs.Owed.{quiet_byte}
use Rattle.text.specs.Classes.{one_of}
use Rattle.quiet.proofs.bytes.is_quiet.Goals as goal

-- below 0x3b no square or curly bracket stands
low : (b : ℕ) → b < 0x3b → quiet_byte b ≡ one_of (0x20 ∷ 0x09 ∷ 0x0a ∷ 0x0d ∷ 0x2c ∷ 0x3a ∷ 0x28 ∷ 0x29 ∷ []) b
unfolding quiet_byte
low b h = simp (ne_eqb b 0x5b (λ e. omega arith), ne_eqb b 0x5d (λ e. omega arith), ne_eqb b 0x7b (λ e. omega arith), ne_eqb b 0x7d (λ e. omega arith))

-- and from there on nothing else that is quiet
high : (b : ℕ) → 0x3b ≤ b → quiet_byte b ≡ one_of (0x5b ∷ 0x5d ∷ 0x7b ∷ 0x7d ∷ []) b
unfolding quiet_byte
high b h =
    simp (
      ne_eqb b 0x20 (λ e. omega arith),
      ne_eqb b 0x09 (λ e. omega arith),
      ne_eqb b 0x0a (λ e. omega arith),
      ne_eqb b 0x0d (λ e. omega arith),
      ne_eqb b 0x2c (λ e. omega arith),
      ne_eqb b 0x3a (λ e. omega arith),
      ne_eqb b 0x28 (λ e. omega arith),
      ne_eqb b 0x29 (λ e. omega arith),
    )

pub returns-then-byte-lt59 : goal.returns-then-byte-lt59
returns-then-byte-lt59 c = c.is_low.ensures ∙ sym (low c.args.byte c.if-byte-lt59.true)

pub returns : goal.returns
returns c = c.is_high.ensures ∙ sym (high c.args.byte c.if-byte-lt59.false)
