use Prim.Native.Nat.{ℕ, ◌-◌}
use native.Mathlib.Omega.{arith}
use mathlib.Core.List.{List}
use mathlib.Core.Path.{◌≡◌, sym, ap, ◌∙◌}
use lib.ListN.{take}
use Rattle.lines.specs.Out.{put}
use Rattle.places.specs.Shown.{shown}
use Rattle.explain.proofs.ExcerptLaws.{character_shown, character_none, character_hidden, replacement}
use Rattle.explain.proofs.excerpt.character.Goals as goal
use Rattle.explain.proofs.excerpt.character.Goals.{then-n-gt0+else-is_shown, else-n-gt0}

pub returns-then-is_shown : goal.returns-then-is_shown
returns-then-is_shown c =
    let out : List ℕ × ℕ = (c.args.o.now, c.args.at) in
    let s : List ℕ = c.args.s.now in
    let all : c.args.n - 0 ≡ c.args.n = omega arith in
    c.bytes.ensures ∙ ap (put out) (c.part.ensures ∙ ap (λ (k : ℕ). take k s) all ∙ character_shown c.args.n s c.if-n-gt0.true
    (sym (c.is_shown.ensures ∙ ap shown c.code_point.ensures) ∙ c.if-is_shown.true))

pub returns : goal.returns
returns c =
    let out : List ℕ × ℕ = (c.args.o.now, c.args.at) in
    let s : List ℕ = c.args.s.now in
    c.bytes-2.ensures ∙ ap (put out) (replacement ∙ elim c.if-n-gt0.branch [
      | then-n-gt0+else-is_shown w ↦ character_hidden c.args.n s (sym (w.is_shown.ensures ∙ ap shown w.code_point.ensures) ∙ w.if-is_shown.false)
      | else-n-gt0 w ↦ character_none c.args.n s w.if-n-gt0.false
    ])
