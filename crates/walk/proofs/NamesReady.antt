-- A field is named only where one may begin: behind the opening round bracket, or behind a comma of fields. Assumes nothing.
use Prim.Native.Nat.{ℕ, ◌≤◌}
use native.Mathlib.Omega.{arith}
use mathlib.Core.Bool.{Bool, true, false}
use mathlib.Core.Path.{◌≡◌, ◌∙◌, refl, sym}
use Rattle.grammar.specs.Steps.{close_round, close_square, close_pair, close_key, comma, colon, value_of, start_of, item_of, behind_of, named_of, first_name_of, field_name_of, step_of}
use Rattle.grammar.specs.declared.kinds.Kind.{Kind}
use Rattle.grammar.specs.declared.kinds.Kind.TheVariants.{OpenRound, CloseRound, OpenSquare, CloseSquare, OpenCurly, CloseCurly, Comma, Colon, Name, Scalar, Attribute}
use Rattle.grammar.specs.declared.states.Frame.{Frame}
use Rattle.grammar.specs.declared.states.Frame.TheVariants.{Top, Square, Tuple, Struct, Key, Pair}
use Rattle.grammar.specs.declared.states.Want.{Want}
use Rattle.grammar.specs.declared.states.Want.TheVariants.{Start, Must, Item, First, FirstName, Named, Behind, Field, FieldName}
use Rattle.grammar.specs.declared.states.Move.{Move}
use Rattle.grammar.specs.declared.states.Move.TheVariants.{Stay, Push, Pop, Bad}
use Rattle.fields.specs.Fields.{names_field}

-- what is done names a field
abbrev pub names : Move → Bool
names (Stay w g) = names_field w
names (Push w g) = false
names Pop = false
names Bad = false

n_close_round : (f : Frame) → names (close_round f) ≡ false
n_close_round Top = refl
n_close_round Square = refl
n_close_round Tuple = refl
n_close_round Struct = refl
n_close_round Key = refl
n_close_round Pair = refl

n_close_square : (f : Frame) → names (close_square f) ≡ false
n_close_square Top = refl
n_close_square Square = refl
n_close_square Tuple = refl
n_close_square Struct = refl
n_close_square Key = refl
n_close_square Pair = refl

n_close_pair : (f : Frame) → names (close_pair f) ≡ false
n_close_pair Top = refl
n_close_pair Square = refl
n_close_pair Tuple = refl
n_close_pair Struct = refl
n_close_pair Key = refl
n_close_pair Pair = refl

n_close_key : (f : Frame) → names (close_key f) ≡ false
n_close_key Top = refl
n_close_key Square = refl
n_close_key Tuple = refl
n_close_key Struct = refl
n_close_key Key = refl
n_close_key Pair = refl

n_comma : (f : Frame) → names (comma f) ≡ false
n_comma Top = refl
n_comma Square = refl
n_comma Tuple = refl
n_comma Struct = refl
n_comma Key = refl
n_comma Pair = refl

n_colon : (f : Frame) → names (colon f) ≡ false
n_colon Top = refl
n_colon Square = refl
n_colon Tuple = refl
n_colon Struct = refl
n_colon Key = refl
n_colon Pair = refl

n_value : (k : Kind) (f : Frame) → names (value_of k f) ≡ false
n_value OpenRound f = refl
n_value CloseRound f = refl
n_value OpenSquare f = refl
n_value CloseSquare f = refl
n_value OpenCurly f = refl
n_value CloseCurly f = refl
n_value Comma f = refl
n_value Colon f = refl
n_value Name f = refl
n_value Scalar f = refl
n_value Attribute f = refl

n_start : (k : Kind) (f : Frame) → names (start_of k f) ≡ false
n_start OpenRound f = refl
n_start CloseRound f = refl
n_start OpenSquare f = refl
n_start CloseSquare f = refl
n_start OpenCurly f = refl
n_start CloseCurly f = refl
n_start Comma f = refl
n_start Colon f = refl
n_start Name f = refl
n_start Scalar f = refl
n_start Attribute f = refl

n_item : (k : Kind) (f : Frame) → names (item_of k f) ≡ false
n_item OpenRound f = refl
n_item CloseRound f = n_close_round f
n_item OpenSquare f = refl
n_item CloseSquare f = n_close_square f
n_item OpenCurly f = refl
n_item CloseCurly f = n_close_key f
n_item Comma f = refl
n_item Colon f = refl
n_item Name f = refl
n_item Scalar f = refl
n_item Attribute f = refl

n_behind : (k : Kind) (f : Frame) → names (behind_of k f) ≡ false
n_behind OpenRound f = refl
n_behind CloseRound f = n_close_round f
n_behind OpenSquare f = refl
n_behind CloseSquare f = n_close_square f
n_behind OpenCurly f = refl
n_behind CloseCurly f = n_close_pair f
n_behind Comma f = n_comma f
n_behind Colon f = n_colon f
n_behind Name f = refl
n_behind Scalar f = refl
n_behind Attribute f = refl

n_named : (k : Kind) (f : Frame) → names (named_of k f) ≡ false
n_named OpenRound f = refl
n_named CloseRound f = n_behind CloseRound f
n_named OpenSquare f = n_behind OpenSquare f
n_named CloseSquare f = n_behind CloseSquare f
n_named OpenCurly f = n_behind OpenCurly f
n_named CloseCurly f = n_behind CloseCurly f
n_named Comma f = n_behind Comma f
n_named Colon f = n_behind Colon f
n_named Name f = n_behind Name f
n_named Scalar f = n_behind Scalar f
n_named Attribute f = n_behind Attribute f

n_first_name : (k : Kind) (f : Frame) → names (first_name_of k f) ≡ false
n_first_name OpenRound f = n_named OpenRound f
n_first_name CloseRound f = n_named CloseRound f
n_first_name OpenSquare f = n_named OpenSquare f
n_first_name CloseSquare f = n_named CloseSquare f
n_first_name OpenCurly f = n_named OpenCurly f
n_first_name CloseCurly f = n_named CloseCurly f
n_first_name Comma f = n_named Comma f
n_first_name Colon f = refl
n_first_name Name f = n_named Name f
n_first_name Scalar f = n_named Scalar f
n_first_name Attribute f = n_named Attribute f

n_field_name : (k : Kind) (f : Frame) → names (field_name_of k f) ≡ false
n_field_name OpenRound f = refl
n_field_name CloseRound f = refl
n_field_name OpenSquare f = refl
n_field_name CloseSquare f = refl
n_field_name OpenCurly f = refl
n_field_name CloseCurly f = refl
n_field_name Comma f = refl
n_field_name Colon f = refl
n_field_name Name f = refl
n_field_name Scalar f = refl
n_field_name Attribute f = refl

never : {A : Type 0} → false ≡ true → A
never e = let z : ◌≡◌ {A = ℕ} 0 1 = cc in absurd (omega arith)

clash : {A : Type 0} {b : Bool} → b ≡ false → b ≡ true → A
clash p q = never (sym p ∙ q)

-- how many names a place is ready for
abbrev pub ready : Want → ℕ
ready Start = 0
ready Must = 0
ready Item = 0
ready First = 1
ready FirstName = 0
ready Named = 0
ready Behind = 0
ready Field = 1
ready FieldName = 0

pub names_ready : (w : Want) (k : Kind) (f : Frame) → names (step_of w k f) ≡ true → ready w ≡ 1
names_ready Start k f e = clash (n_start k f) e
names_ready Must k f e = clash (n_value k f) e
names_ready Item k f e = clash (n_item k f) e
names_ready First k f e = refl
names_ready FirstName k f e = clash (n_first_name k f) e
names_ready Named k f e = clash (n_named k f) e
names_ready Behind k f e = clash (n_behind k f) e
names_ready Field k f e = refl
names_ready FieldName k f e = clash (n_field_name k f) e

-- behind a field's name no other may stand
pub named_ready : (w : Want) → names_field w ≡ true → ready w ≡ 0
named_ready Start e = refl
named_ready Must e = refl
named_ready Item e = refl
named_ready First e = never e
named_ready FirstName e = refl
named_ready Named e = refl
named_ready Behind e = refl
named_ready Field e = never e
named_ready FieldName e = refl

pub ready_one : (w : Want) → ready w ≤ 1
ready_one Start = omega arith
ready_one Must = omega arith
ready_one Item = omega arith
ready_one First = omega arith
ready_one FirstName = omega arith
ready_one Named = omega arith
ready_one Behind = omega arith
ready_one Field = omega arith
ready_one FieldName = omega arith
