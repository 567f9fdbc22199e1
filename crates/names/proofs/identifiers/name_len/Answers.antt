use Prim.Native.Nat.{◌-◌, ◌≤◌, ℕ}
use native.Mathlib.Omega.{arith}
use mathlib.Core.List.{List}
use mathlib.Core.Path.{◌≡◌, refl, sym}
use lib.ListN.{drop, length, length-drop, take}
use Rattle.names.proofs.CharLaws.{chars_le}
use Rattle.names.proofs.NearLaws.{near_name}
use Rattle.names.specs.Characters.{chars, near}
use Rattle.text.proofs.AheadLaws.{char_le}
use Rattle.text.proofs.Lists.{on_part}
use Rattle.text.specs.Classes.{ident_first, ident_next}
use Rattle.names.proofs.identifiers.name_len.Goals as goal

more : (s : List ℕ) (i n : ℕ) → n ≡ chars ident_next (take (length s - i) (drop i s)) → n ≤ length s - i
more s i n e = omega (arith, on_part (chars ident_next) s i n n e refl, chars_le ident_next (drop i s), length-drop i s)

pub slice_bounds-next_chars_while_len-count : goal.slice_bounds-next_chars_while_len-count
slice_bounds-next_chars_while_len-count c = omega (arith, c.near_if-n.ensures, char_le (near ident_first) c.args.s.now)

pub slice_bounds-next_chars_while_len-start : goal.slice_bounds-next_chars_while_len-start
slice_bounds-next_chars_while_len-start c = omega (arith, c.near_if-n.ensures, char_le (near ident_first) c.args.s.now)

pub overflow_add-result : goal.overflow_add-result
overflow_add-result c = omega (arith, c.near_if-n.ensures, char_le (near ident_first) c.args.s.now, more c.args.s.now c.near_if-n.result _ c.next_chars_while_len-more.ensures)

pub returns : goal.returns
returns c = rw (← on_part (chars ident_next) c.args.s.now c.near_if-n.result c.next_chars_while_len-more.result _ c.next_chars_while_len-more.ensures refl) (sym (near_name c.args.s.now c.near_if-n.result (sym c.near_if-n.ensures) c.if-n-eq0.false))
