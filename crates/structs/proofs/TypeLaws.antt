-- Laws of struct types: a refusal's place lies within the part (`struct-bounded`). Assumes nothing.
use Rattle.std.proofs.Common.{Ok, Err}
use Rattle.text.specs.Refusals.{Told}
use Rattle.structs.specs.declared.kinds.StructType.{StructType}
use Prim.Native.Nat.{◌+◌, ◌≤◌, ℕ}
use native.Mathlib.Omega.{arith}
use mathlib.Core.List.{List}
use mathlib.Core.Path.{◌≡◌, refl, subst}
use lib.Dec.{eqb}
use lib.ListN.{drop, get_or, length, length-drop}
use Rattle.text.proofs.Choices.{cond_cases}
use Rattle.names.proofs.IdentifierLaws.{Within as Named-within, skip_within}
use Rattle.names.specs.Identifiers.{skip_identifier_of}
use Rattle.names.specs.declared.Identifier.{Identifier}
use Rattle.names.specs.declared.Identifier.TheVariants as name
use Rattle.strings.proofs.Wholes.{none_here}
use Rattle.structs.proofs.PassLaws.{gap_fits}
use Rattle.structs.proofs.ScanLaws.{Within, comma_within, placed_within, scan_within}
use Rattle.structs.specs.Passes.{Fits, past_gap}
use Rattle.structs.specs.Scan.{after_comma}
use Rattle.structs.specs.Structs.{after_name, by_name, inside_brackets, decided, inside_newtype, parenthesized, reached, struct_type_of, undecided_of, unless_empty}
use Rattle.structs.specs.declared.kinds.NewtypeMode.{NewtypeMode}
use Rattle.structs.specs.declared.kinds.NewtypeMode.TheVariants.{InsideNewtype, NoParensMeanUnit}
use Rattle.structs.specs.declared.kinds.TupleMode.{TupleMode}
use Rattle.structs.specs.declared.kinds.TupleMode.TheVariants.{DifferentiateNewtype, ImpreciseTupleOrNewtype}

-- ---- the name at a place

abbrev pub NameFits : ℕ → ℕ → Identifier → Type 0
NameFits size at name.Missing = Unit {0}
NameFits size at (name.Name n) = at + n ≤ size
NameFits size at (name.RawName n) = at + n ≤ size

name_by : (size at : ℕ) (s : List ℕ) (x : Identifier) → at + length s ≤ size → Named-within s x → NameFits size at x
name_by size at s name.Missing h w = tt
name_by size at s (name.Name n) h w = omega (arith, w.1)
name_by size at s (name.RawName n) h w = omega (arith, w.1)

pub name_at : (s : List ℕ) (at : ℕ) (x : Identifier) → at ≤ length s → skip_identifier_of (drop at s) ≡ x → NameFits (length s) at x
name_at s at x h e = name_by (length s) at (drop at s) x (omega (arith, length-drop at s)) (subst (Named-within (drop at s)) e (skip_within (drop at s)))

-- ---- refusals

reached_within : (m : ℕ) (p : Told ℕ) (on : ℕ → Told StructType) → Fits m p → ((i : ℕ) → i ≤ m → Within m (on i)) → Within m (reached p on)
reached_within m (Ok i) on f h = h i f
reached_within m (Err r) on f h = f

module _ (s : List ℕ) where
  undecided_within : (tuple : TupleMode) (at : ℕ) → at ≤ length s → Within (length s) (undecided_of tuple s at)
  undecided_within ImpreciseTupleOrNewtype at h = tt
  undecided_within DifferentiateNewtype at h = scan_within s at h

  decided_within : (tuple : TupleMode) (i : ℕ) → i ≤ length s → Within (length s) (decided tuple s i)
  unfolding decided
  decided_within tuple i h =
      cond_cases (Within (length s)) (eqb (get_or s i 0) 0x3A) _ _ (λ e. tt)
      (λ e. cond_cases (Within (length s)) (eqb (get_or s i 0) 0x2C) _ _
      (λ f. placed_within (length s) (length (drop (i + 1) s)) (i + 1) (after_comma (drop (i + 1) s)) (comma_within (drop (i + 1) s))
      (omega (arith, length-drop (i + 1) s, none_here s i 0x2C (omega arith) f)))
      (λ f. cond_cases (Within (length s)) (eqb (get_or s i 0) 0x29) _ _ (λ g. tt) (λ g. undecided_within tuple i h)))

  name_within : (tuple : TupleMode) (at : ℕ) → at ≤ length s → Within (length s) (after_name tuple s at)
  unfolding after_name
  name_within tuple at h =
      reached_within (length s) (past_gap s (Ok at)) (decided tuple s) (gap_fits s (Ok at) h) (λ i l. decided_within tuple i l)

  by-name : (tuple : TupleMode) (at : ℕ) (x : Identifier) → at ≤ length s → NameFits (length s) at x → Within (length s) (by_name x tuple s at)
  by-name tuple at name.Missing h f = undecided_within tuple at h
  by-name tuple at (name.Name n) h f = name_within tuple (at + n) f
  by-name tuple at (name.RawName n) h f = name_within tuple (at + n) f

  contents_within : (tuple : TupleMode) (at : ℕ) → at ≤ length s → Within (length s) (inside_brackets tuple s at)
  unfolding inside_brackets
  contents_within tuple at h = by-name tuple at (skip_identifier_of (drop at s)) h (name_at s at _ h refl)

  unless_within : (tuple : TupleMode) (i : ℕ) → i ≤ length s → Within (length s) (unless_empty tuple s i)
  unfolding unless_empty
  unless_within tuple i h = cond_cases (Within (length s)) (eqb (get_or s i 0) 0x29) _ _ (λ e. tt) (λ e. contents_within tuple i h)

  pub struct_bounded : (newtype : NewtypeMode) (tuple : TupleMode) → Within (length s) (struct_type_of s newtype tuple)
  unfolding struct_type_of parenthesized inside_newtype
  struct_bounded NoParensMeanUnit tuple =
      cond_cases (Within (length s)) (eqb (get_or s 0 0) 0x28) _ _
      (λ e. reached_within (length s) (past_gap s (Ok 1)) (unless_empty tuple s) (gap_fits s (Ok 1) (none_here s 0 0x28 (omega arith) e)) (λ i l. unless_within tuple i l))
      (λ e. tt)
  struct_bounded InsideNewtype tuple =
      reached_within (length s) (past_gap s (Ok 0)) (inside_brackets tuple s) (gap_fits s (Ok 0) (omega arith)) (λ i l. contents_within tuple i l)
