-- What is promised of `struct_kind`. Each line is a theorem's statement; its proof only says where it is proved. There is no plainer definition of the
-- answer itself: the crate's lines are the meaning, held by runs against it. Assumes nothing.
use Rattle.std.proofs.Common.{Err}
use Rattle.structs.specs.declared.kinds.StructType.{StructType}
use Prim.Native.Nat.{ℕ}
use mathlib.Core.Bool.{cond}
use mathlib.Core.List.{List}
use mathlib.Core.Path.{◌≡◌}
use lib.ListN.{drop}
use Rattle.text.specs.Judged.{place_fits}
use Rattle.text.specs.Refusals.{Told, unfit}
use Rattle.text.specs.Utf8.{Encoded}
use Rattle.text.specs.declared.refusal.Refusal.{Refusal}
use Rattle.scanned.specs.ByCharacters.{struct_type_chars}
use Rattle.scanned.specs.Characters.{scan_chars_of}
use Rattle.structs.specs.Kinds.{placed_kind}
use Rattle.structs.specs.Scan.{scan_of}
use Rattle.structs.specs.Structs.{struct_type_of}
use Rattle.structs.specs.declared.kinds.NewtypeMode.{NewtypeMode}
use Rattle.structs.specs.declared.kinds.TupleMode.{TupleMode}
use Rattle.scanned.proofs.ScanCharacters as scans
use Rattle.scanned.proofs.StructCharacters as kinds
use Rattle.sarridok.specs.StructKind.{struct_kind_of}
use Rattle.sarridok.proofs.StructKindDetermined.{struct_kind_determined}
use Rattle.fronts.specs.Fronts.{Boundary, FrontOf, PlacedOf, Sound}
use Rattle.fronts.proofs.Calls as fronts
use Rattle.fronts.proofs.Places as places
use Rattle.given.specs.Given.{Given}
use Rattle.given.proofs.Calls.{struct_given}

-- The scan that takes a byte a step answers as the crate's, which takes a character, and so does the whole of a struct's kind.
pub scan_characters : (s : List ℕ) (at : ℕ) → Encoded (drop at s) → scan_of s at ≡ scan_chars_of s at
scan_characters = scans.scan_characters

pub struct_kind_characters : (s : List ℕ) (tuple : TupleMode) (newtype : NewtypeMode) → Encoded s → struct_type_of s newtype tuple ≡ struct_type_chars s newtype tuple
struct_kind_characters = kinds.struct_characters

module _ (text : List ℕ) (place : ℕ) (newtype : NewtypeMode) (tuple : TupleMode) where
  -- 1 and 2 exactly in their cases, and past both exactly where the text is sound.
  pub struct_kind_front : FrontOf text (struct_kind_of text place newtype tuple) (cond (place_fits text place) (placed_kind place (struct_type_of (drop place text) newtype tuple)) (Err unfit))
  struct_kind_front = fronts.struct_kind_front text place newtype tuple

  -- 28 exactly where the place is no boundary of characters.
  pub struct_kind_placed : Sound text → PlacedOf (Boundary text place) (struct_kind_of text place newtype tuple) (placed_kind place (struct_type_of (drop place text) newtype tuple))
  struct_kind_placed = places.struct_kind_placed text place newtype tuple

  -- A refusal's number is 1, 2 or one of 4 to 29, and its reason 1 to 8 where that is 13, else 0.
  pub struct_kind_numbers : (r : Refusal) → struct_kind_of text place newtype tuple ≡ Err r → Given r
  struct_kind_numbers = struct_given text place newtype tuple

  -- Two answers that meet the promise are equal.
  pub one_struct_kind : (x y : Told StructType) → x ≡ struct_kind_of text place newtype tuple → y ≡ struct_kind_of text place newtype tuple → x ≡ y
  one_struct_kind = struct_kind_determined text place newtype tuple
