-- Struct kinds with the scan left open: `struct_type_of` is this with the scan by bytes, and the crate's `check_struct_type` is this with the scan by characters.
use Rattle.std.specs.Prelude.{Ok, ℕ, ◌+◌, cond, List, eqb, get_or, drop}
use Rattle.text.specs.Refusals.{Told}
use Rattle.structs.specs.declared.kinds.StructType.{StructType}
use Rattle.names.specs.Identifiers.{skip_identifier_of}
use Rattle.names.specs.declared.Identifier.{Identifier}
use Rattle.names.specs.declared.Identifier.TheVariants as name
use Rattle.structs.specs.Kinds.{placed_kind}
use Rattle.structs.specs.Passes.{past_gap}
use Rattle.structs.specs.Scan.{after_comma}
use Rattle.scanned.specs.Characters.{scan_chars_of}
use Rattle.structs.specs.Structs.{reached}
use Rattle.structs.specs.declared.kinds.NewtypeMode.{NewtypeMode}
use Rattle.structs.specs.declared.kinds.NewtypeMode.TheVariants.{NoParensMeanUnit, InsideNewtype}
use Rattle.structs.specs.declared.kinds.TupleMode.{TupleMode}
use Rattle.structs.specs.declared.kinds.TupleMode.TheVariants.{ImpreciseTupleOrNewtype, DifferentiateNewtype}
use Rattle.structs.specs.declared.kinds.StructType.TheVariants as kind

module _ (scan : List ℕ → ℕ → Told StructType) (tuple : TupleMode) (s : List ℕ) where
  -- Neither named nor empty: only the scan tells more.
  abbrev pub undecided_by : TupleMode → ℕ → Told StructType
  undecided_by ImpreciseTupleOrNewtype at = Ok kind.AnyTuple
  undecided_by DifferentiateNewtype at = scan s at

  -- What the byte behind a name decides.
  abbrev pub decided_by : ℕ → Told StructType
  decided_by i =
      cond (eqb (get_or s i 0) 0x3A) (Ok kind.Named)
      (cond (eqb (get_or s i 0) 0x2C) (placed_kind (i + 1) (after_comma (drop (i + 1) s)))
      (cond (eqb (get_or s i 0) 0x29) (Ok kind.NewtypeTuple) (undecided_by tuple i)))

  -- What a name, raw or not, or its absence comes to.
  abbrev pub name_by : Identifier → ℕ → Told StructType
  name_by name.Missing at = undecided_by tuple at
  name_by (name.Name n) at = reached (past_gap s (Ok (at + n))) decided_by
  name_by (name.RawName n) at = reached (past_gap s (Ok (at + n))) decided_by

  -- The contents, which begin at `at`.
  abbrev pub contents_by : ℕ → Told StructType
  contents_by at = name_by (skip_identifier_of (drop at s)) at

  -- Contents in brackets: none are an empty tuple.
  abbrev pub unless_empty_by : ℕ → Told StructType
  unless_empty_by i = cond (eqb (get_or s i 0) 0x29) (Ok kind.EmptyTuple) (contents_by i)

  -- The whole answer.
  abbrev pub struct_type_by : NewtypeMode → Told StructType
  struct_type_by NoParensMeanUnit = cond (eqb (get_or s 0 0) 0x28) (reached (past_gap s (Ok 1)) unless_empty_by) (Ok kind.Unit)
  struct_type_by InsideNewtype = reached (past_gap s (Ok 0)) contents_by

-- The struct kind that stands at the front of s, found character by character.
unfoldable pub struct_type_chars : List ℕ → NewtypeMode → TupleMode → Told StructType
struct_type_chars s newtype tuple = struct_type_by scan_chars_of tuple s newtype
