use Prim.Native.Nat.{◌*◌, ◌+◌, ◌-◌, ℕ}
use native.Mathlib.Nat.{add-zero}
use native.Mathlib.Omega.{arith}
use mathlib.Core.List.{[], ◌++◌, ◌∷◌}
use mathlib.Core.Path.{◌∙◌, ap, refl, sym}
use lib.ListN.{drop, length-append, length-drop}
use Rattle.escapes.proofs.EscapeLaws.{buffer_char, buffer_code, buffer_is, more_done, more_moved, more_part, more_refused, more_utf8, more_whole, next_ascii}
use Rattle.escapes.specs.Escapes.{more_bytes}
use Rattle.escapes.specs.declared.answers.EscapeAnswer.TheVariants.{Refused, Utf8}
use Rattle.text.proofs.Lists.{tail_part}
use Rattle.text.specs.Refusals.{invalid_escape}
use Rattle.text.specs.declared.reason.EscapeReason.TheVariants.{NotByteEscaped}
use Rattle.escapes.proofs.hex.more_bytes.Goals as goal

pub loop-n-init : goal.loop-n-init
loop-n-init c = (c.args.b ∷ [], refl, refl, omega arith, rw add-zero)

pub returns-then-char_len-ne0 : goal.returns-then-char_len-ne0
returns-then-char_len-ne0 c = sym
    (c.loop-n.invariant.4
    ∙ more_whole (4 - c.loop-n.n) c.loop-n.invariant.0 (c.args.at + (c.loop-n.n - 1) * 4) (drop ((c.loop-n.n - 1) * 4) c.args.t.now) c.in-Ascii.h c.in-Ascii.p (omega arith) (simp tail_part at (sym c.in-Ascii.is ∙ c.next_byte.ensures)) (λ z. c.if-char_len-ne0.true (c.char_len.ensures ∙ buffer_char c.loop-n.bytes c.loop-n.invariant.0 c.loop-n.n c.in-Ascii.h c.loop-n.invariant.2 c.loop-n.invariant.1 c.loop-n-test.true ∙ z))
    ∙ ap (λ (v : ℕ). Utf8 v c.in-Ascii.p) (sym (c.code_point.ensures ∙ buffer_code c.loop-n.bytes c.loop-n.invariant.0 c.loop-n.n c.in-Ascii.h c.loop-n.invariant.2 c.loop-n.invariant.1 c.loop-n-test.true)))

pub loop-n-preserved : goal.loop-n-preserved
loop-n-preserved c = let bs = c.loop-n.invariant.0 in
    let i = (c.loop-n.n - 1) * 4 in
    let e = simp tail_part at (sym c.in-Ascii.is ∙ c.next_byte.ensures) in
    let q = next_ascii (c.args.at + i) (drop i c.args.t.now) c.in-Ascii.h c.in-Ascii.p e in
    let d = length-drop i c.args.t.now in (
      bs ++ c.in-Ascii.h ∷ [],
      omega (arith, length-append bs (c.in-Ascii.h ∷ []), c.loop-n.invariant.1),
      buffer_is c.loop-n.bytes bs c.loop-n.n c.in-Ascii.h c.loop-n.invariant.2 c.loop-n.invariant.1 c.loop-n-test.true,
      omega (arith, q.1, d, c.loop-n.invariant.3),
      c.loop-n.invariant.4
          ∙ more_part (4 - c.loop-n.n) bs (c.args.at + i) (drop i c.args.t.now) c.in-Ascii.h c.in-Ascii.p (omega arith) e (sym (buffer_char c.loop-n.bytes bs c.loop-n.n c.in-Ascii.h c.loop-n.invariant.2 c.loop-n.invariant.1 c.loop-n-test.true) ∙ sym c.char_len.ensures ∙ c.if-char_len-ne0.false)
          ∙ more_moved (bs ++ c.in-Ascii.h ∷ []) _ _ _ _ i ((c.loop-n.n + 1 - 1) * 4) c.args.t.now (omega arith) (omega (arith, q.0)) (omega arith),
    )

pub returns-in-Utf8 : goal.returns-in-Utf8
returns-in-Utf8 c = sym (c.loop-n.invariant.4 ∙ more_utf8 (4 - c.loop-n.n) c.loop-n.invariant.0 (c.args.at + (c.loop-n.n - 1) * 4) (drop ((c.loop-n.n - 1) * 4) c.args.t.now) c.in-Utf8.v c.in-Utf8.p (omega arith) (simp tail_part at (sym c.in-Utf8.is ∙ c.next_byte.ensures)))

pub returns-in-Refused : goal.returns-in-Refused
returns-in-Refused c = sym (c.loop-n.invariant.4 ∙ more_refused (4 - c.loop-n.n) c.loop-n.invariant.0 (c.args.at + (c.loop-n.n - 1) * 4) (drop ((c.loop-n.n - 1) * 4) c.args.t.now) c.in-Refused.r (omega arith) (simp tail_part at (sym c.in-Refused.is ∙ c.next_byte.ensures)))

pub returns : goal.returns
returns c = c.invalid.ensures
    ∙ sym
    (c.loop-n.invariant.4
    ∙ ap (λ (k : ℕ). more_bytes k c.loop-n.invariant.0 (c.args.at + (c.loop-n.n - 1) * 4) (drop ((c.loop-n.n - 1) * 4) c.args.t.now)) (omega arith)
    ∙ more_done c.loop-n.invariant.0 (c.args.at + (c.loop-n.n - 1) * 4) (drop ((c.loop-n.n - 1) * 4) c.args.t.now)
    ∙ ap (λ (k : ℕ). Refused (invalid_escape NotByteEscaped k)) (omega arith))
