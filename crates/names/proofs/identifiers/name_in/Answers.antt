use Prim.Native.Nat.{◌-◌, ◌≤◌, ℕ}
use native.Mathlib.Omega.{arith}
use mathlib.Core.List.{List}
use mathlib.Core.Path.{◌∙◌, ◌≡◌, refl, sym}
use lib.ListN.{drop, length, length-drop, take}
use borrow.Author.Tests.{eq-eqb, ne_eqb}
use Rattle.names.proofs.CharLaws.{chars_le}
use Rattle.text.proofs.AheadLaws.{char_le}
use Rattle.names.specs.Characters.{chars}
use Rattle.names.specs.Identifiers.{name_len}
use Rattle.text.specs.Classes.{ident_first, ident_next}
use Rattle.text.proofs.Lists.{on_part}
use Rattle.names.proofs.identifiers.name_in.Goals as goal

more : (s : List ℕ) (i n : ℕ) → n ≡ chars ident_next (take (length s - i) (drop i s)) → n ≤ length s - i
more s i n e = omega (arith, on_part (chars ident_next) s i n n e refl, chars_le ident_next (drop i s), length-drop i s)

pub returns-then-n-eq0 : goal.returns-then-n-eq0
unfolding name_len
returns-then-n-eq0 c = simp (eq-eqb _ _ (sym c.char_if-n.ensures ∙ c.if-n-eq0.true))

pub slice_bounds-chars_len-count : goal.slice_bounds-chars_len-count
slice_bounds-chars_len-count c = omega (arith, c.char_if-n.ensures, char_le ident_first c.args.s.now)

pub slice_bounds-chars_len-start : goal.slice_bounds-chars_len-start
slice_bounds-chars_len-start c = omega (arith, c.char_if-n.ensures, char_le ident_first c.args.s.now)

pub overflow_add-result : goal.overflow_add-result
overflow_add-result c = omega (arith, c.char_if-n.ensures, char_le ident_first c.args.s.now, more c.args.s.now c.char_if-n.result _ c.chars_len-more.ensures)

pub returns : goal.returns
unfolding name_len
returns c = simp (sym c.char_if-n.ensures, ne_eqb _ _ c.if-n-eq0.false, on_part (chars ident_next) c.args.s.now c.char_if-n.result c.chars_len-more.result _ c.chars_len-more.ensures refl)
