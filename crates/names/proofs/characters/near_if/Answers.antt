use mathlib.Core.Bool.{Bool, cond}
use mathlib.Core.Path.{◌∙◌, ap, sym}
use borrow.Author.Rules.{rules}
use Rattle.names.proofs.NearLaws.{near_below, pair_char}
use Rattle.names.specs.Characters.{ident_char, near}
use Rattle.text.proofs.AheadLaws.{char_ascii, char_nil}
use Rattle.names.proofs.characters.near_if.Goals as goal

pub returns-then-s-eq0 : goal.returns-then-s-eq0
returns-then-s-eq0 c = sym (char_nil (near (ident_char c.args.class)) c.args.s.now c.if-s-eq0.true)

pub returns-then-is_ascii_char : goal.returns-then-is_ascii_char
returns-then-is_ascii_char c = sym (char_ascii (near (ident_char c.args.class)) c.args.s.now (search rules) c.if-a-lt128.true ∙ ap (λ (t : Bool). cond t 1 0) (near_below c.args.class _ c.if-a-lt128.true ∙ sym c.is_ascii_char.ensures ∙ c.if-is_ascii_char.true))

pub returns-then-a-lt128 : goal.returns-then-a-lt128
returns-then-a-lt128 c = sym (char_ascii (near (ident_char c.args.class)) c.args.s.now (search rules) c.if-a-lt128.true ∙ ap (λ (t : Bool). cond t 1 0) (near_below c.args.class _ c.if-a-lt128.true ∙ sym c.is_ascii_char.ensures ∙ c.if-is_ascii_char.false))

pub returns-then-is_usual_pair : goal.returns-then-is_usual_pair
returns-then-is_usual_pair c = sym (pair_char c.args.class c.args.s.now c.if-s-ge2.true (sym c.is_usual_pair.ensures ∙ c.if-is_usual_pair.true))
