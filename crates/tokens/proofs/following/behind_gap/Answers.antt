use native.Mathlib.Omega.{arith}
use mathlib.Core.Path.{◌∙◌, ap, subst, sym}
use lib.ListN.{drop, length, length-drop}
use Rattle.reading.specs.Tokens.Answer.{refuse}
use Rattle.tokens.proofs.RonLaws.{behind_said}
use Rattle.tokens.proofs.TokenLaws.{Lexed, token_bounded}
use Rattle.tokens.specs.Ron.{lexeme_behind}
use Rattle.tokens.proofs.following.behind_gap.Goals as goal

pub placed_behind-requires : goal.placed_behind-requires
placed_behind-requires c =
    let s = c.args.s.now in
    let g = c.args.g in
    let w = subst (Lexed (length (drop g s))) (behind_said s g _ _ _ c.token_at.ensures c.lexeme_of-found.ensures c.in-Err.is) (token_bounded (drop g s) (omega (arith, c.requires, length-drop g s))) in
    omega (arith, w, length-drop g s, c.requires)

pub returns-in-Ok : goal.returns-in-Ok
returns-in-Ok c = sym (ap (lexeme_behind c.args.g) (behind_said c.args.s.now c.args.g _ _ _ c.token_at.ensures c.lexeme_of-found.ensures c.in-Ok.is))

pub returns-in-Err : goal.returns-in-Err
returns-in-Err c =
    ap refuse c.placed_behind.ensures ∙ sym (ap (lexeme_behind c.args.g) (behind_said c.args.s.now c.args.g _ _ _ c.token_at.ensures c.lexeme_of-found.ensures c.in-Err.is))
