-- A struct kind is the same, whether the scan takes a byte a step or a character (`struct-characters`): the scan begins between two characters. Assumes
-- nothing.
use Rattle.std.proofs.Common.{Ok, Err}
use Rattle.text.specs.Refusals.{Told}
use Rattle.structs.specs.declared.kinds.StructType.{StructType}
use Prim.Native.Nat.{ℕ, ◌+◌}
use native.Mathlib.Omega.{arith}
use mathlib.Core.Bool.{Bool, cond, false, true}
use mathlib.Core.List.{List}
use mathlib.Core.Path.{◌≡◌, ap, refl, subst}
use lib.Dec.{eqb}
use lib.ListN.{drop, get_or}
use lib.Seq.{drop-drop}
use borrow.Author.Tests.{eqb-true}
use Rattle.text.specs.Utf8.{Encoded}
use Rattle.names.specs.Identifiers.{skip_identifier_of}
use Rattle.names.specs.declared.Identifier.{Identifier}
use Rattle.names.specs.declared.Identifier.TheVariants as name
use Rattle.strings.proofs.Wholes.{none_here}
use Rattle.scanned.proofs.Boundaries.{cut_behind}
use Rattle.scanned.proofs.NameBoundaries.{Rest, name_cut}
use Rattle.scanned.proofs.ScanCharacters.{scan_characters}
use Rattle.scanned.proofs.Spurious.{Cut, past_gap_cut}
use Rattle.scanned.specs.ByCharacters.{contents_by, decided_by, name_by, struct_type_chars, undecided_by, unless_empty_by}
use Rattle.scanned.specs.Characters.{scan_chars_of}
use Rattle.structs.specs.Kinds.{placed_kind}
use Rattle.structs.specs.Passes.{past_gap}
use Rattle.structs.specs.Scan.{after_comma}
use Rattle.structs.specs.Structs.{after_name, by_name, inside_brackets, decided, inside_newtype, parenthesized, reached, struct_type_of, undecided_of, unless_empty}
use Rattle.structs.specs.declared.kinds.NewtypeMode.{NewtypeMode}
use Rattle.structs.specs.declared.kinds.NewtypeMode.TheVariants.{InsideNewtype, NoParensMeanUnit}
use Rattle.structs.specs.declared.kinds.StructType.TheVariants as kind
use Rattle.structs.specs.declared.kinds.TupleMode.{TupleMode}
use Rattle.structs.specs.declared.kinds.TupleMode.TheVariants.{DifferentiateNewtype, ImpreciseTupleOrNewtype}

-- from a place that was reached between two characters
reached_same : (s : List ℕ) (p : Told ℕ) (f g : ℕ → Told StructType) → Cut s p → ((i : ℕ) → Encoded (drop i s) → f i ≡ g i) → reached p f ≡ reached p g
reached_same s (Ok i) f g c h = h i c
reached_same s (Err r) f g c h = refl

module _ (s : List ℕ) (tuple : TupleMode) where
  undecided_same : (mode : TupleMode) (at : ℕ) → Encoded (drop at s) → undecided_of mode s at ≡ undecided_by scan_chars_of tuple s mode at
  undecided_same ImpreciseTupleOrNewtype at e = refl
  undecided_same DifferentiateNewtype at e = scan_characters s at e

  decided_same : (i : ℕ) → Encoded (drop i s) → decided tuple s i ≡ decided_by scan_chars_of tuple s i
  unfolding decided
  decided_same i e =
      ap (λ (x : Told StructType). cond (eqb (get_or s i 0) 0x3A) (Ok kind.Named)
      (cond (eqb (get_or s i 0) 0x2C) (placed_kind (i + 1) (after_comma (drop (i + 1) s))) (cond (eqb (get_or s i 0) 0x29) (Ok kind.NewtypeTuple) x))) (undecided_same tuple i e)

  after_same : (at : ℕ) → Encoded (drop at s) → after_name tuple s at ≡ reached (past_gap s (Ok at)) (decided_by scan_chars_of tuple s)
  unfolding after_name
  after_same at e = reached_same s (past_gap s (Ok at)) (decided tuple s) (decided_by scan_chars_of tuple s) (past_gap_cut s (Ok at) e) decided_same

  name_same : (x : Identifier) (at : ℕ) → Encoded (drop at s) → Rest (drop at s) x → by_name x tuple s at ≡ name_by scan_chars_of tuple s x at
  name_same name.Missing at e r = undecided_same tuple at e
  name_same (name.Name n) at e r = after_same (at + n) (subst Encoded (drop-drop n at s) r)
  name_same (name.RawName n) at e r = after_same (at + n) (subst Encoded (drop-drop n at s) r)

  contents_same : (at : ℕ) → Encoded (drop at s) → inside_brackets tuple s at ≡ contents_by scan_chars_of tuple s at
  unfolding inside_brackets
  contents_same at e = name_same (skip_identifier_of (drop at s)) at e (name_cut (drop at s) e)

  empty_same : (i : ℕ) → Encoded (drop i s) → unless_empty tuple s i ≡ unless_empty_by scan_chars_of tuple s i
  unfolding unless_empty
  empty_same i e = ap (cond (eqb (get_or s i 0) 0x29) (Ok kind.EmptyTuple)) (contents_same i e)

  -- the whole answer
  pub struct_characters : (newtype : NewtypeMode) → Encoded s → struct_type_of s newtype tuple ≡ struct_type_chars s newtype tuple
  unfolding struct_type_of struct_type_chars parenthesized inside_newtype
  struct_characters NoParensMeanUnit e = go (eqb (get_or s 0 0) 0x28) refl
    where
      go : (t : Bool) → eqb (get_or s 0 0) 0x28 ≡ t → cond t (reached (past_gap s (Ok 1)) (unless_empty tuple s)) (Ok kind.Unit) ≡ cond t (reached (past_gap s (Ok 1)) (unless_empty_by scan_chars_of tuple s)) (Ok kind.Unit)
      go true q =
          reached_same s (past_gap s (Ok 1)) (unless_empty tuple s) (unless_empty_by scan_chars_of tuple s)
          (past_gap_cut s (Ok 1) (cut_behind s 0 e (none_here s 0 0x28 (omega arith) q) (omega (arith, eqb-true (get_or s 0 0) 0x28 q)))) empty_same
      go false q = refl
  struct_characters InsideNewtype e =
      reached_same s (past_gap s (Ok 0)) (inside_brackets tuple s) (contents_by scan_chars_of tuple s) (past_gap_cut s (Ok 0) e) contents_same
