-- The refusals of struct kinds are inner. Assumes nothing.
use Rattle.std.proofs.Common.{Ok, Err}
use Rattle.text.specs.Refusals.{Told}
use Rattle.structs.specs.declared.kinds.StructType.{StructType}
use Prim.Native.Nat.{ℕ, ◌+◌}
use mathlib.Core.List.{List}
use lib.Dec.{eqb}
use lib.ListN.{drop, get_or}
use Rattle.names.specs.Identifiers.{skip_identifier_of}
use Rattle.names.specs.declared.Identifier.{Identifier}
use Rattle.names.specs.declared.Identifier.TheVariants as name
use Rattle.structs.specs.Passes.{past_gap}
use Rattle.structs.specs.Scan.{after_comma, scan_of}
use Rattle.structs.specs.Structs.{reached, undecided_of, decided, after_name, by_name, inside_brackets, unless_empty, parenthesized, inside_newtype, struct_type_of}
use Rattle.structs.specs.declared.kinds.NewtypeMode.{NewtypeMode}
use Rattle.structs.specs.declared.kinds.NewtypeMode.TheVariants.{NoParensMeanUnit, InsideNewtype}
use Rattle.structs.specs.declared.kinds.TupleMode.{TupleMode}
use Rattle.structs.specs.declared.kinds.TupleMode.TheVariants.{ImpreciseTupleOrNewtype, DifferentiateNewtype}
use Rattle.given.proofs.Both.{both}
use Rattle.given.proofs.Scans.{Inner-passed, past-gap, Inner-struct, after-comma, placed, scan_inner}

reach : (p : Told ℕ) (go : ℕ → Told StructType) → Inner-passed p → ((i : ℕ) → Inner-struct (go i)) → Inner-struct (reached p go)
reach (Ok i) go h k = k i
reach (Err r) go h k = h

undecided : (tuple : TupleMode) (s : List ℕ) (at : ℕ) → Inner-struct (undecided_of tuple s at)
unfolding scan_of
undecided ImpreciseTupleOrNewtype s at = tt
undecided DifferentiateNewtype s at = scan_inner (drop at s) 0 1 at

decide : (tuple : TupleMode) (s : List ℕ) (i : ℕ) → Inner-struct (decided tuple s i)
unfolding decided
decide tuple s i =
    both Inner-struct (eqb (get_or s i 0) 0x3A) tt
    (both Inner-struct (eqb (get_or s i 0) 0x2C) (placed (i + 1) (after_comma (drop (i + 1) s)) (after-comma (drop (i + 1) s)))
    (both Inner-struct (eqb (get_or s i 0) 0x29) tt (undecided tuple s i)))

after-name : (tuple : TupleMode) (s : List ℕ) (at : ℕ) → Inner-struct (after_name tuple s at)
unfolding after_name
after-name tuple s at = reach (past_gap s (Ok at)) (decided tuple s) (past-gap s (Ok at) tt) (decide tuple s)

by-name : (x : Identifier) (tuple : TupleMode) (s : List ℕ) (at : ℕ) → Inner-struct (by_name x tuple s at)
by-name name.Missing tuple s at = undecided tuple s at
by-name (name.Name n) tuple s at = after-name tuple s (at + n)
by-name (name.RawName n) tuple s at = after-name tuple s (at + n)

contents : (tuple : TupleMode) (s : List ℕ) (at : ℕ) → Inner-struct (inside_brackets tuple s at)
unfolding inside_brackets
contents tuple s at = by-name (skip_identifier_of (drop at s)) tuple s at

unless-empty : (tuple : TupleMode) (s : List ℕ) (i : ℕ) → Inner-struct (unless_empty tuple s i)
unfolding unless_empty
unless-empty tuple s i = both Inner-struct (eqb (get_or s i 0) 0x29) tt (contents tuple s i)

pub struct_type_inner : (s : List ℕ) (newtype : NewtypeMode) (tuple : TupleMode) → Inner-struct (struct_type_of s newtype tuple)
unfolding struct_type_of parenthesized inside_newtype
struct_type_inner s NoParensMeanUnit tuple =
    both Inner-struct (eqb (get_or s 0 0) 0x28) (reach (past_gap s (Ok 1)) (unless_empty tuple s) (past-gap s (Ok 1) tt) (unless-empty tuple s)) tt
struct_type_inner s InsideNewtype tuple = reach (past_gap s (Ok 0)) (inside_brackets tuple s) (past-gap s (Ok 0) tt) (contents tuple s)
