use Prim.Native.Nat.{ℕ}
use mathlib.Core.List.{List}
use mathlib.Core.Path.{sym, ap, ◌∙◌}
use Rattle.lines.proofs.OutLaws.{put-byte}
use Rattle.lines.specs.Out.{put}
use Rattle.explain.proofs.ExcerptLaws.{under_tab, under_first, under_later}
use Rattle.explain.proofs.excerpt.under.Goals as goal

pub returns-then-b-eq9 : goal.returns-then-b-eq9
returns-then-b-eq9 c =
    let out : List ℕ × ℕ = (c.args.o.now, c.args.at) in
    c.byte.ensures ∙ sym (put-byte out 9) ∙ ap (put out) (under_tab c.args.b c.if-b-eq9.true)

pub returns-then-starts_char : goal.returns-then-starts_char
returns-then-starts_char c =
    let out : List ℕ × ℕ = (c.args.o.now, c.args.at) in
    c.byte-then-starts_char.ensures ∙ sym (put-byte out 32) ∙ ap (put out) (under_first c.args.b c.if-b-eq9.false (sym c.starts_char.ensures ∙ c.if-starts_char.true))

pub returns : goal.returns
unfolding put
returns c =
    let out : List ℕ × ℕ = (c.args.o.now, c.args.at) in
    ap (put out) (under_later c.args.b c.if-b-eq9.false (sym c.starts_char.ensures ∙ c.if-starts_char.false))
