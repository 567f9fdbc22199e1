use Prim.Native.Nat.{◌+◌}
use native.Mathlib.Omega.{arith}
use mathlib.Core.Path.{◌∙◌, sym}
use Rattle.plain_names.proofs.PartLaws.{from_first, none_behind, not_first, run_behind}
use Rattle.text.proofs.RunLaws.{run_le}
use Rattle.text.specs.Classes.{ascii_next}
use Rattle.plain_names.proofs.plain.plain_name.Goals as goal

pub returns-then-not-begins_name : goal.returns-then-not-begins_name
returns-then-not-begins_name c = sym (not_first c.args.s.now (sym c.begins_name.ensures ∙ c.if-not-begins_name.true))

pub overflow_add-len : goal.overflow_add-len
overflow_add-len c = omega (arith, run_behind c.args.s.now c.name_len-len.result c.requires (sym c.begins_name.ensures ∙ c.if-not-begins_name.false) c.name_len-len.ensures, run_le ascii_next c.args.s.now)

pub returns-then-s-len : goal.returns-then-s-len
returns-then-s-len c = rw (from_first c.args.s.now c.name_len-len.result c.requires (sym c.begins_name.ensures ∙ c.if-not-begins_name.false) c.name_len-len.ensures, none_behind c.args.s.now (1 + c.name_len-len.result) c.if-s-len.true)

pub returns-then-not-is_quiet : goal.returns-then-not-is_quiet
returns-then-not-is_quiet c = rw (from_first c.args.s.now c.name_len-len.result c.requires (sym c.begins_name.ensures ∙ c.if-not-begins_name.false) c.name_len-len.ensures, sym c.is_quiet.ensures ∙ c.if-not-is_quiet.true)

pub returns-then-begins_float : goal.returns-then-begins_float
returns-then-begins_float c = rw (from_first c.args.s.now c.name_len-len.result c.requires (sym c.begins_name.ensures ∙ c.if-not-begins_name.false) c.name_len-len.ensures, sym c.is_quiet.ensures ∙ c.if-not-is_quiet.false, sym c.begins_float.ensures ∙ c.if-begins_float.true)

pub returns : goal.returns
returns c = rw (from_first c.args.s.now c.name_len-len.result c.requires (sym c.begins_name.ensures ∙ c.if-not-begins_name.false) c.name_len-len.ensures, sym c.is_quiet.ensures ∙ c.if-not-is_quiet.false, sym c.begins_float.ensures ∙ c.if-begins_float.false)
