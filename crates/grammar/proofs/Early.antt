-- Behind an opening bracket something must come: a tape that ends there ends early. Assumes nothing.
use Rattle.std.proofs.Common.{Err}
use Prim.Native.Nat.{ℕ}
use mathlib.Core.Path.{◌≡◌, refl, subst}
use mathlib.Core.List.{List, []}
use Rattle.text.specs.Refusals.{tape_ends_early}
use Rattle.grammar.specs.Steps.{close_round, close_square, close_pair, close_key, comma, colon, value_of, start_of, item_of, first_of, behind_of, named_of, first_name_of, field_of, field_name_of, step_of}
use Rattle.grammar.specs.Walk.{finish, check}
use Rattle.grammar.specs.declared.kinds.Kind.{Kind}
use Rattle.grammar.specs.declared.kinds.Kind.TheVariants.{OpenRound, CloseRound, OpenSquare, CloseSquare, OpenCurly, CloseCurly, Comma, Colon, Name, Scalar, Attribute}
use Rattle.grammar.specs.declared.states.Frame.{Frame}
use Rattle.grammar.specs.declared.states.Frame.TheVariants.{Top, Square, Tuple, Struct, Key, Pair}
use Rattle.grammar.specs.declared.states.Want.{Want}
use Rattle.grammar.specs.declared.states.Want.TheVariants.{Start, Must, Item, First, FirstName, Named, Behind, Field, FieldName}
use Rattle.grammar.specs.declared.states.Move.{Move}
use Rattle.grammar.specs.declared.states.Move.TheVariants.{Stay, Push, Pop, Bad}

-- behind an opening bracket something must come
abbrev Early : Move → Type 0
Early (Stay w g) = Unit {0}
Early (Push w g) = (j : ℕ) → finish w g j ≡ Err (tape_ends_early j)
Early Pop = Unit {0}
Early Bad = Unit {0}

e_close_round : (f : Frame) → Early (close_round f)
e_close_round Top = tt
e_close_round Square = tt
e_close_round Tuple = tt
e_close_round Struct = tt
e_close_round Key = tt
e_close_round Pair = tt

e_close_square : (f : Frame) → Early (close_square f)
e_close_square Top = tt
e_close_square Square = tt
e_close_square Tuple = tt
e_close_square Struct = tt
e_close_square Key = tt
e_close_square Pair = tt

e_close_pair : (f : Frame) → Early (close_pair f)
e_close_pair Top = tt
e_close_pair Square = tt
e_close_pair Tuple = tt
e_close_pair Struct = tt
e_close_pair Key = tt
e_close_pair Pair = tt

e_close_key : (f : Frame) → Early (close_key f)
e_close_key Top = tt
e_close_key Square = tt
e_close_key Tuple = tt
e_close_key Struct = tt
e_close_key Key = tt
e_close_key Pair = tt

e_comma : (f : Frame) → Early (comma f)
e_comma Top = tt
e_comma Square = tt
e_comma Tuple = tt
e_comma Struct = tt
e_comma Key = tt
e_comma Pair = tt

e_colon : (f : Frame) → Early (colon f)
e_colon Top = tt
e_colon Square = tt
e_colon Tuple = tt
e_colon Struct = tt
e_colon Key = tt
e_colon Pair = tt

e_value_of : (k : Kind) (f : Frame) → Early (value_of k f)
e_value_of OpenRound f = λ j. refl
e_value_of CloseRound f = tt
e_value_of OpenSquare f = λ j. refl
e_value_of CloseSquare f = tt
e_value_of OpenCurly f = λ j. refl
e_value_of CloseCurly f = tt
e_value_of Comma f = tt
e_value_of Colon f = tt
e_value_of Name f = tt
e_value_of Scalar f = tt
e_value_of Attribute f = tt

e_start_of : (k : Kind) (f : Frame) → Early (start_of k f)
e_start_of OpenRound f = e_value_of OpenRound f
e_start_of CloseRound f = e_value_of CloseRound f
e_start_of OpenSquare f = e_value_of OpenSquare f
e_start_of CloseSquare f = e_value_of CloseSquare f
e_start_of OpenCurly f = e_value_of OpenCurly f
e_start_of CloseCurly f = e_value_of CloseCurly f
e_start_of Comma f = e_value_of Comma f
e_start_of Colon f = e_value_of Colon f
e_start_of Name f = e_value_of Name f
e_start_of Scalar f = e_value_of Scalar f
e_start_of Attribute f = tt

e_item_of : (k : Kind) (f : Frame) → Early (item_of k f)
e_item_of OpenRound f = e_value_of OpenRound f
e_item_of CloseRound f = e_close_round f
e_item_of OpenSquare f = e_value_of OpenSquare f
e_item_of CloseSquare f = e_close_square f
e_item_of OpenCurly f = e_value_of OpenCurly f
e_item_of CloseCurly f = e_close_key f
e_item_of Comma f = e_value_of Comma f
e_item_of Colon f = e_value_of Colon f
e_item_of Name f = e_value_of Name f
e_item_of Scalar f = e_value_of Scalar f
e_item_of Attribute f = e_value_of Attribute f

e_first_of : (k : Kind) (f : Frame) → Early (first_of k f)
e_first_of OpenRound f = e_value_of OpenRound f
e_first_of CloseRound f = e_close_round f
e_first_of OpenSquare f = e_value_of OpenSquare f
e_first_of CloseSquare f = e_value_of CloseSquare f
e_first_of OpenCurly f = e_value_of OpenCurly f
e_first_of CloseCurly f = e_value_of CloseCurly f
e_first_of Comma f = e_value_of Comma f
e_first_of Colon f = e_value_of Colon f
e_first_of Name f = tt
e_first_of Scalar f = e_value_of Scalar f
e_first_of Attribute f = e_value_of Attribute f

e_behind_of : (k : Kind) (f : Frame) → Early (behind_of k f)
e_behind_of OpenRound f = tt
e_behind_of CloseRound f = e_close_round f
e_behind_of OpenSquare f = tt
e_behind_of CloseSquare f = e_close_square f
e_behind_of OpenCurly f = tt
e_behind_of CloseCurly f = e_close_pair f
e_behind_of Comma f = e_comma f
e_behind_of Colon f = e_colon f
e_behind_of Name f = tt
e_behind_of Scalar f = tt
e_behind_of Attribute f = tt

e_named_of : (k : Kind) (f : Frame) → Early (named_of k f)
e_named_of OpenRound f = λ j. refl
e_named_of CloseRound f = e_behind_of CloseRound f
e_named_of OpenSquare f = e_behind_of OpenSquare f
e_named_of CloseSquare f = e_behind_of CloseSquare f
e_named_of OpenCurly f = e_behind_of OpenCurly f
e_named_of CloseCurly f = e_behind_of CloseCurly f
e_named_of Comma f = e_behind_of Comma f
e_named_of Colon f = e_behind_of Colon f
e_named_of Name f = e_behind_of Name f
e_named_of Scalar f = e_behind_of Scalar f
e_named_of Attribute f = e_behind_of Attribute f

e_first_name_of : (k : Kind) (f : Frame) → Early (first_name_of k f)
e_first_name_of OpenRound f = e_named_of OpenRound f
e_first_name_of CloseRound f = e_named_of CloseRound f
e_first_name_of OpenSquare f = e_named_of OpenSquare f
e_first_name_of CloseSquare f = e_named_of CloseSquare f
e_first_name_of OpenCurly f = e_named_of OpenCurly f
e_first_name_of CloseCurly f = e_named_of CloseCurly f
e_first_name_of Comma f = e_named_of Comma f
e_first_name_of Colon f = tt
e_first_name_of Name f = e_named_of Name f
e_first_name_of Scalar f = e_named_of Scalar f
e_first_name_of Attribute f = e_named_of Attribute f

e_field_of : (k : Kind) (f : Frame) → Early (field_of k f)
e_field_of OpenRound f = tt
e_field_of CloseRound f = e_close_round f
e_field_of OpenSquare f = tt
e_field_of CloseSquare f = tt
e_field_of OpenCurly f = tt
e_field_of CloseCurly f = tt
e_field_of Comma f = tt
e_field_of Colon f = tt
e_field_of Name f = tt
e_field_of Scalar f = tt
e_field_of Attribute f = tt

e_field_name_of : (k : Kind) (f : Frame) → Early (field_name_of k f)
e_field_name_of OpenRound f = tt
e_field_name_of CloseRound f = tt
e_field_name_of OpenSquare f = tt
e_field_name_of CloseSquare f = tt
e_field_name_of OpenCurly f = tt
e_field_name_of CloseCurly f = tt
e_field_name_of Comma f = tt
e_field_name_of Colon f = tt
e_field_name_of Name f = tt
e_field_name_of Scalar f = tt
e_field_name_of Attribute f = tt

early_step : (w : Want) (k : Kind) (f : Frame) → Early (step_of w k f)
early_step Start k f = e_start_of k f
early_step Must k f = e_value_of k f
early_step Item k f = e_item_of k f
early_step First k f = e_first_of k f
early_step FirstName k f = e_first_name_of k f
early_step Named k f = e_named_of k f
early_step Behind k f = e_behind_of k f
early_step Field k f = e_field_of k f
early_step FieldName k f = e_field_name_of k f

pub opened : (w : Want) (k : Kind) (f : Frame) (w' : Want) (g : Frame) → step_of w k f ≡ Push w' g → (L : ℕ) (τ : List Frame) (j : ℕ) → check [] L w' g τ j ≡ Err (tape_ends_early j)
unfolding check
opened w k f w' g e L τ j = subst (λ (m : Move). Early m) e (early_step w k f) j
