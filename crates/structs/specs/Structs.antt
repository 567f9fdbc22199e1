-- Struct kinds (document 01, module 8): `check_struct_type` of the crate, line by line. "Success reports no movement; a refusal has the crate's cursor."
-- s is the part of the text that begins at the place; `at` is the crate's cursor, counted from its front.
use Rattle.std.specs.Prelude.{Ok, Err}
use Rattle.text.specs.Refusals.{Told}
use Rattle.structs.specs.declared.kinds.StructType.{StructType}
use Rattle.std.specs.Prelude.{ℕ, ◌+◌, cond, List, eqb, get_or, drop}
use Rattle.names.specs.Identifiers.{skip_identifier_of}
use Rattle.names.specs.declared.Identifier.{Identifier}
use Rattle.names.specs.declared.Identifier.TheVariants as name
use Rattle.structs.specs.Kinds.{placed_kind}
use Rattle.structs.specs.Passes.{past_gap}
use Rattle.structs.specs.Scan.{after_comma, scan_of}
use Rattle.structs.specs.declared.kinds.NewtypeMode.{NewtypeMode}
use Rattle.structs.specs.declared.kinds.NewtypeMode.TheVariants.{NoParensMeanUnit, InsideNewtype}
use Rattle.structs.specs.declared.kinds.TupleMode.{TupleMode}
use Rattle.structs.specs.declared.kinds.TupleMode.TheVariants.{ImpreciseTupleOrNewtype, DifferentiateNewtype}
use Rattle.structs.specs.declared.kinds.StructType.TheVariants as kind

-- From a place that was reached; a refusal is the answer.
abbrev pub reached : Told ℕ → (ℕ → Told StructType) → Told StructType
reached (Ok i) on = on i
reached (Err r) on = Err r

-- Neither named nor empty: only the scan over the value tells more.
abbrev pub undecided_of : TupleMode → List ℕ → ℕ → Told StructType
undecided_of ImpreciseTupleOrNewtype s at = Ok kind.AnyTuple
undecided_of DifferentiateNewtype s at = scan_of s at

-- What the byte behind a name decides: `:` named fields, `,` a tuple, `)` a newtype; else nothing.
unfoldable pub decided : TupleMode → List ℕ → ℕ → Told StructType
decided tuple s i =
    cond (eqb (get_or s i 0) 0x3A) (Ok kind.Named)
    (cond (eqb (get_or s i 0) 0x2C) (placed_kind (i + 1) (after_comma (drop (i + 1) s)))
    (cond (eqb (get_or s i 0) 0x29) (Ok kind.NewtypeTuple) (undecided_of tuple s i)))

-- Behind a name.
unfoldable pub after_name : TupleMode → List ℕ → ℕ → Told StructType
after_name tuple s at = reached (past_gap s (Ok at)) (decided tuple s)

-- What a name, raw or not, or its absence comes to.
abbrev pub by_name : Identifier → TupleMode → List ℕ → ℕ → Told StructType
by_name name.Missing tuple s at = undecided_of tuple s at
by_name (name.Name n) tuple s at = after_name tuple s (at + n)
by_name (name.RawName n) tuple s at = after_name tuple s (at + n)

-- The contents, which begin at `at`.
unfoldable pub inside_brackets : TupleMode → List ℕ → ℕ → Told StructType
inside_brackets tuple s at = by_name (skip_identifier_of (drop at s)) tuple s at

-- Contents in brackets: none are an empty tuple.
unfoldable pub unless_empty : TupleMode → List ℕ → ℕ → Told StructType
unless_empty tuple s i = cond (eqb (get_or s i 0) 0x29) (Ok kind.EmptyTuple) (inside_brackets tuple s i)

-- Behind a `(` at the front.
unfoldable pub parenthesized : TupleMode → List ℕ → Told StructType
parenthesized tuple s = reached (past_gap s (Ok 1)) (unless_empty tuple s)

-- Behind a bracket that was passed already.
unfoldable pub inside_newtype : TupleMode → List ℕ → Told StructType
inside_newtype tuple s = reached (past_gap s (Ok 0)) (inside_brackets tuple s)

-- The whole answer: without a bracket in front a unit struct.
unfoldable pub struct_type_of : List ℕ → NewtypeMode → TupleMode → Told StructType
struct_type_of s NoParensMeanUnit tuple = cond (eqb (get_or s 0 0) 0x28) (parenthesized tuple s) (Ok kind.Unit)
struct_type_of s InsideNewtype tuple = inside_newtype tuple s
