-- Only an opening bracket opens, and only a closing one closes: what a step does agrees with the kind. Assumes nothing.
use Prim.Native.Nat.{ℕ, ◌<◌}
use native.Mathlib.Omega.{arith}
use mathlib.Core.Bool.{Bool, true, false, cond}
use mathlib.Core.Path.{◌≡◌, refl}
use lib.Dec.{eqb, ltb}
use borrow.Author.Tests.{ne_eqb}
use Rattle.grammar.specs.Kinds.{side_of, kind_of}
use Rattle.grammar.specs.Steps.{close_round, close_square, close_pair, close_key, comma, colon, value_of, start_of, item_of, first_of, behind_of, named_of, first_name_of, field_of, field_name_of, step_of}
use Rattle.grammar.specs.declared.kinds.Kind.{Kind}
use Rattle.grammar.specs.declared.kinds.Kind.TheVariants.{OpenRound, CloseRound, OpenSquare, CloseSquare, OpenCurly, CloseCurly, Comma, Colon, Name, Scalar, Attribute}
use Rattle.grammar.specs.declared.kinds.Side.{Side}
use Rattle.grammar.specs.declared.kinds.Side.TheVariants.{Opens, Closes, Neither}
use Rattle.grammar.specs.declared.states.Frame.{Frame}
use Rattle.grammar.specs.declared.states.Frame.TheVariants.{Top, Square, Tuple, Struct, Key, Pair}
use Rattle.grammar.specs.declared.states.Want.{Want}
use Rattle.grammar.specs.declared.states.Want.TheVariants.{Start, Must, Item, First, FirstName, Named, Behind, Field, FieldName}
use Rattle.grammar.specs.declared.states.Move.{Move}
use Rattle.grammar.specs.declared.states.Move.TheVariants.{Stay, Push, Pop, Bad}

-- no number above 6 stands for a bracket
pub no_bracket : (k : ℕ) → 6 < k → Neither ≡ side_of (kind_of k)
unfolding kind_of
no_bracket k h =
    simp (ne_eqb k 1 (λ e. absurd (omega arith)), ne_eqb k 2 (λ e. absurd (omega arith)), ne_eqb k 3 (λ e. absurd (omega arith)), ne_eqb k 4 (λ e. absurd (omega arith)), ne_eqb k 5 (λ e. absurd (omega arith)), ne_eqb k 6 (λ e. absurd (omega arith)))
    (go (eqb k 7) (eqb k 8) (ltb k 11) (ltb k 16))
  where
    go : (a b c d : Bool) → Neither ≡ side_of (cond a Comma (cond b Colon (cond c Name (cond d Scalar Attribute))))
    go true b c d = refl
    go false true c d = refl
    go false false true d = refl
    go false false false true = refl
    go false false false false = refl

-- a side and what its entry does
abbrev pub Agrees : Side → Move → Type 0
Agrees Opens (Stay w f) = ⊥
Agrees Opens (Push w f) = Unit {0}
Agrees Opens Pop = ⊥
Agrees Opens Bad = Unit {0}
Agrees Closes (Stay w f) = ⊥
Agrees Closes (Push w f) = ⊥
Agrees Closes Pop = Unit {0}
Agrees Closes Bad = Unit {0}
Agrees Neither (Stay w f) = Unit {0}
Agrees Neither (Push w f) = ⊥
Agrees Neither Pop = ⊥
Agrees Neither Bad = Unit {0}

a_close_round : (f : Frame) → Agrees Closes (close_round f)
a_close_round Top = tt
a_close_round Square = tt
a_close_round Tuple = tt
a_close_round Struct = tt
a_close_round Key = tt
a_close_round Pair = tt

a_close_square : (f : Frame) → Agrees Closes (close_square f)
a_close_square Top = tt
a_close_square Square = tt
a_close_square Tuple = tt
a_close_square Struct = tt
a_close_square Key = tt
a_close_square Pair = tt

a_close_pair : (f : Frame) → Agrees Closes (close_pair f)
a_close_pair Top = tt
a_close_pair Square = tt
a_close_pair Tuple = tt
a_close_pair Struct = tt
a_close_pair Key = tt
a_close_pair Pair = tt

a_close_key : (f : Frame) → Agrees Closes (close_key f)
a_close_key Top = tt
a_close_key Square = tt
a_close_key Tuple = tt
a_close_key Struct = tt
a_close_key Key = tt
a_close_key Pair = tt

a_comma : (f : Frame) → Agrees Neither (comma f)
a_comma Top = tt
a_comma Square = tt
a_comma Tuple = tt
a_comma Struct = tt
a_comma Key = tt
a_comma Pair = tt

a_colon : (f : Frame) → Agrees Neither (colon f)
a_colon Top = tt
a_colon Square = tt
a_colon Tuple = tt
a_colon Struct = tt
a_colon Key = tt
a_colon Pair = tt

a_value_of : (k : Kind) (f : Frame) → Agrees (side_of k) (value_of k f)
a_value_of OpenRound f = tt
a_value_of CloseRound f = tt
a_value_of OpenSquare f = tt
a_value_of CloseSquare f = tt
a_value_of OpenCurly f = tt
a_value_of CloseCurly f = tt
a_value_of Comma f = tt
a_value_of Colon f = tt
a_value_of Name f = tt
a_value_of Scalar f = tt
a_value_of Attribute f = tt

a_start_of : (k : Kind) (f : Frame) → Agrees (side_of k) (start_of k f)
a_start_of OpenRound f = a_value_of OpenRound f
a_start_of CloseRound f = a_value_of CloseRound f
a_start_of OpenSquare f = a_value_of OpenSquare f
a_start_of CloseSquare f = a_value_of CloseSquare f
a_start_of OpenCurly f = a_value_of OpenCurly f
a_start_of CloseCurly f = a_value_of CloseCurly f
a_start_of Comma f = a_value_of Comma f
a_start_of Colon f = a_value_of Colon f
a_start_of Name f = a_value_of Name f
a_start_of Scalar f = a_value_of Scalar f
a_start_of Attribute f = tt

a_item_of : (k : Kind) (f : Frame) → Agrees (side_of k) (item_of k f)
a_item_of OpenRound f = a_value_of OpenRound f
a_item_of CloseRound f = a_close_round f
a_item_of OpenSquare f = a_value_of OpenSquare f
a_item_of CloseSquare f = a_close_square f
a_item_of OpenCurly f = a_value_of OpenCurly f
a_item_of CloseCurly f = a_close_key f
a_item_of Comma f = a_value_of Comma f
a_item_of Colon f = a_value_of Colon f
a_item_of Name f = a_value_of Name f
a_item_of Scalar f = a_value_of Scalar f
a_item_of Attribute f = a_value_of Attribute f

a_first_of : (k : Kind) (f : Frame) → Agrees (side_of k) (first_of k f)
a_first_of OpenRound f = a_value_of OpenRound f
a_first_of CloseRound f = a_close_round f
a_first_of OpenSquare f = a_value_of OpenSquare f
a_first_of CloseSquare f = a_value_of CloseSquare f
a_first_of OpenCurly f = a_value_of OpenCurly f
a_first_of CloseCurly f = a_value_of CloseCurly f
a_first_of Comma f = a_value_of Comma f
a_first_of Colon f = a_value_of Colon f
a_first_of Name f = tt
a_first_of Scalar f = a_value_of Scalar f
a_first_of Attribute f = a_value_of Attribute f

a_behind_of : (k : Kind) (f : Frame) → Agrees (side_of k) (behind_of k f)
a_behind_of OpenRound f = tt
a_behind_of CloseRound f = a_close_round f
a_behind_of OpenSquare f = tt
a_behind_of CloseSquare f = a_close_square f
a_behind_of OpenCurly f = tt
a_behind_of CloseCurly f = a_close_pair f
a_behind_of Comma f = a_comma f
a_behind_of Colon f = a_colon f
a_behind_of Name f = tt
a_behind_of Scalar f = tt
a_behind_of Attribute f = tt

a_named_of : (k : Kind) (f : Frame) → Agrees (side_of k) (named_of k f)
a_named_of OpenRound f = tt
a_named_of CloseRound f = a_behind_of CloseRound f
a_named_of OpenSquare f = a_behind_of OpenSquare f
a_named_of CloseSquare f = a_behind_of CloseSquare f
a_named_of OpenCurly f = a_behind_of OpenCurly f
a_named_of CloseCurly f = a_behind_of CloseCurly f
a_named_of Comma f = a_behind_of Comma f
a_named_of Colon f = a_behind_of Colon f
a_named_of Name f = a_behind_of Name f
a_named_of Scalar f = a_behind_of Scalar f
a_named_of Attribute f = a_behind_of Attribute f

a_first_name_of : (k : Kind) (f : Frame) → Agrees (side_of k) (first_name_of k f)
a_first_name_of OpenRound f = a_named_of OpenRound f
a_first_name_of CloseRound f = a_named_of CloseRound f
a_first_name_of OpenSquare f = a_named_of OpenSquare f
a_first_name_of CloseSquare f = a_named_of CloseSquare f
a_first_name_of OpenCurly f = a_named_of OpenCurly f
a_first_name_of CloseCurly f = a_named_of CloseCurly f
a_first_name_of Comma f = a_named_of Comma f
a_first_name_of Colon f = tt
a_first_name_of Name f = a_named_of Name f
a_first_name_of Scalar f = a_named_of Scalar f
a_first_name_of Attribute f = a_named_of Attribute f

a_field_of : (k : Kind) (f : Frame) → Agrees (side_of k) (field_of k f)
a_field_of OpenRound f = tt
a_field_of CloseRound f = a_close_round f
a_field_of OpenSquare f = tt
a_field_of CloseSquare f = tt
a_field_of OpenCurly f = tt
a_field_of CloseCurly f = tt
a_field_of Comma f = tt
a_field_of Colon f = tt
a_field_of Name f = tt
a_field_of Scalar f = tt
a_field_of Attribute f = tt

a_field_name_of : (k : Kind) (f : Frame) → Agrees (side_of k) (field_name_of k f)
a_field_name_of OpenRound f = tt
a_field_name_of CloseRound f = tt
a_field_name_of OpenSquare f = tt
a_field_name_of CloseSquare f = tt
a_field_name_of OpenCurly f = tt
a_field_name_of CloseCurly f = tt
a_field_name_of Comma f = tt
a_field_name_of Colon f = tt
a_field_name_of Name f = tt
a_field_name_of Scalar f = tt
a_field_name_of Attribute f = tt

pub agrees : (w : Want) (k : Kind) (f : Frame) → Agrees (side_of k) (step_of w k f)
agrees Start k f = a_start_of k f
agrees Must k f = a_value_of k f
agrees Item k f = a_item_of k f
agrees First k f = a_first_of k f
agrees FirstName k f = a_first_name_of k f
agrees Named k f = a_named_of k f
agrees Behind k f = a_behind_of k f
agrees Field k f = a_field_of k f
agrees FieldName k f = a_field_name_of k f
