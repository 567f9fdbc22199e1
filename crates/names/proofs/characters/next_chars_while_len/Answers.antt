use Prim.Native.Nat.{ℕ, ◌+◌}
use native.Mathlib.Omega.{arith}
use mathlib.Core.Path.{◌∙◌, ap, ap₂, refl, sym}
use lib.ListN.{drop, length-drop}
use Rattle.names.proofs.CharLaws.{chars_le}
use Rattle.names.proofs.NearLaws.{near_run, run_done}
use Rattle.names.specs.Characters.{char_if, chars, ident_char, near}
use Rattle.text.proofs.Lists.{on_part, tail_part}
use Rattle.names.proofs.characters.next_chars_while_len.Goals as goal

pub slice_bounds-far_len-count : goal.slice_bounds-far_len-count
slice_bounds-far_len-count c = omega (arith, c.near_len-n.ensures, chars_le (near (ident_char c.args.class)) c.args.s.now)

pub slice_bounds-far_len-start : goal.slice_bounds-far_len-start
slice_bounds-far_len-start c = omega (arith, c.near_len-n.ensures, chars_le (near (ident_char c.args.class)) c.args.s.now)

pub far_len-more-requires : goal.far_len-more-requires
far_len-more-requires c = ap (char_if (near (ident_char c.args.class))) (tail_part c.args.s.now c.near_len-n.result) ∙ ap (λ (n : ℕ). char_if (near (ident_char c.args.class)) (drop n c.args.s.now)) c.near_len-n.ensures ∙ run_done (near (ident_char c.args.class)) c.args.s.now

pub overflow_add-result : goal.overflow_add-result
overflow_add-result c = omega (arith, c.near_len-n.ensures, chars_le (near (ident_char c.args.class)) c.args.s.now, on_part (chars (ident_char c.args.class)) c.args.s.now c.near_len-n.result c.far_len-more.result _ c.far_len-more.ensures refl, chars_le (ident_char c.args.class) (drop c.near_len-n.result c.args.s.now), length-drop c.near_len-n.result c.args.s.now)

pub returns : goal.returns
returns c = ap₂ (λ (a b : ℕ). a + b) c.near_len-n.ensures (sym (on_part (chars (ident_char c.args.class)) c.args.s.now c.near_len-n.result c.far_len-more.result _ c.far_len-more.ensures refl) ∙ ap (λ (n : ℕ). chars (ident_char c.args.class) (drop n c.args.s.now)) c.near_len-n.ensures) ∙ sym (near_run (ident_char c.args.class) c.args.s.now)
