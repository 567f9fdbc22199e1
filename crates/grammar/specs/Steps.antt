-- One step of the walk (document 01, module 10): what an entry does, by what may stand there and by the innermost open bracket.
-- Neither the limit nor the brackets further out are asked; proofs/ show that the steps together are the grammar.
use Rattle.grammar.specs.declared.kinds.Kind.{Kind}
use Rattle.grammar.specs.declared.kinds.Kind.TheVariants.{OpenRound, CloseRound, OpenSquare, CloseSquare, OpenCurly, CloseCurly, Comma, Colon, Name, Scalar, Attribute}
use Rattle.grammar.specs.declared.states.Frame.{Frame}
use Rattle.grammar.specs.declared.states.Frame.TheVariants.{Top, Square, Tuple, Struct, Key, Pair}
use Rattle.grammar.specs.declared.states.Want.{Want}
use Rattle.grammar.specs.declared.states.Want.TheVariants.{Start, Must, Item, First, FirstName, Named, Behind, Field, FieldName}
use Rattle.grammar.specs.declared.states.Move.{Move}
use Rattle.grammar.specs.declared.states.Move.TheVariants.{Stay, Push, Pop, Bad}

-- A closing round bracket.
abbrev pub close_round : Frame → Move
close_round Top = Bad
close_round Square = Bad
close_round Tuple = Pop
close_round Struct = Pop
close_round Key = Bad
close_round Pair = Bad

-- A closing square bracket.
abbrev pub close_square : Frame → Move
close_square Top = Bad
close_square Square = Pop
close_square Tuple = Bad
close_square Struct = Bad
close_square Key = Bad
close_square Pair = Bad

-- A closing curly bracket behind a value.
abbrev pub close_pair : Frame → Move
close_pair Top = Bad
close_pair Square = Bad
close_pair Tuple = Bad
close_pair Struct = Bad
close_pair Key = Bad
close_pair Pair = Pop

-- A closing curly bracket where a key may stand.
abbrev pub close_key : Frame → Move
close_key Top = Bad
close_key Square = Bad
close_key Tuple = Bad
close_key Struct = Bad
close_key Key = Pop
close_key Pair = Bad

-- A comma behind a value.
abbrev pub comma : Frame → Move
comma Top = Bad
comma Square = Stay Item Square
comma Tuple = Stay Item Tuple
comma Struct = Stay Field Struct
comma Key = Bad
comma Pair = Stay Item Key

-- A colon behind a value.
abbrev pub colon : Frame → Move
colon Top = Bad
colon Square = Bad
colon Tuple = Bad
colon Struct = Bad
colon Key = Stay Must Pair
colon Pair = Bad

-- Where a value begins.
abbrev pub value_of : Kind → Frame → Move
value_of OpenRound f = Push First Tuple
value_of CloseRound f = Bad
value_of OpenSquare f = Push Item Square
value_of CloseSquare f = Bad
value_of OpenCurly f = Push Item Key
value_of CloseCurly f = Bad
value_of Comma f = Bad
value_of Colon f = Bad
value_of Name f = Stay Named f
value_of Scalar f = Stay Behind f
value_of Attribute f = Bad

-- Attributes, then a value.
abbrev pub start_of : Kind → Frame → Move
start_of OpenRound f = value_of OpenRound f
start_of CloseRound f = value_of CloseRound f
start_of OpenSquare f = value_of OpenSquare f
start_of CloseSquare f = value_of CloseSquare f
start_of OpenCurly f = value_of OpenCurly f
start_of CloseCurly f = value_of CloseCurly f
start_of Comma f = value_of Comma f
start_of Colon f = value_of Colon f
start_of Name f = value_of Name f
start_of Scalar f = value_of Scalar f
start_of Attribute f = Stay Start f

-- A value, or the end of the bracket.
abbrev pub item_of : Kind → Frame → Move
item_of OpenRound f = value_of OpenRound f
item_of CloseRound f = close_round f
item_of OpenSquare f = value_of OpenSquare f
item_of CloseSquare f = close_square f
item_of OpenCurly f = value_of OpenCurly f
item_of CloseCurly f = close_key f
item_of Comma f = value_of Comma f
item_of Colon f = value_of Colon f
item_of Name f = value_of Name f
item_of Scalar f = value_of Scalar f
item_of Attribute f = value_of Attribute f

-- Behind an opening round bracket.
abbrev pub first_of : Kind → Frame → Move
first_of OpenRound f = value_of OpenRound f
first_of CloseRound f = close_round f
first_of OpenSquare f = value_of OpenSquare f
first_of CloseSquare f = value_of CloseSquare f
first_of OpenCurly f = value_of OpenCurly f
first_of CloseCurly f = value_of CloseCurly f
first_of Comma f = value_of Comma f
first_of Colon f = value_of Colon f
first_of Name f = Stay FirstName f
first_of Scalar f = value_of Scalar f
first_of Attribute f = value_of Attribute f

-- Behind a value.
abbrev pub behind_of : Kind → Frame → Move
behind_of OpenRound f = Bad
behind_of CloseRound f = close_round f
behind_of OpenSquare f = Bad
behind_of CloseSquare f = close_square f
behind_of OpenCurly f = Bad
behind_of CloseCurly f = close_pair f
behind_of Comma f = comma f
behind_of Colon f = colon f
behind_of Name f = Bad
behind_of Scalar f = Bad
behind_of Attribute f = Bad

-- Behind a name.
abbrev pub named_of : Kind → Frame → Move
named_of OpenRound f = Push First Tuple
named_of CloseRound f = behind_of CloseRound f
named_of OpenSquare f = behind_of OpenSquare f
named_of CloseSquare f = behind_of CloseSquare f
named_of OpenCurly f = behind_of OpenCurly f
named_of CloseCurly f = behind_of CloseCurly f
named_of Comma f = behind_of Comma f
named_of Colon f = behind_of Colon f
named_of Name f = behind_of Name f
named_of Scalar f = behind_of Scalar f
named_of Attribute f = behind_of Attribute f

-- Behind a name at the front of a round bracket.
abbrev pub first_name_of : Kind → Frame → Move
first_name_of OpenRound f = named_of OpenRound f
first_name_of CloseRound f = named_of CloseRound f
first_name_of OpenSquare f = named_of OpenSquare f
first_name_of CloseSquare f = named_of CloseSquare f
first_name_of OpenCurly f = named_of OpenCurly f
first_name_of CloseCurly f = named_of CloseCurly f
first_name_of Comma f = named_of Comma f
first_name_of Colon f = Stay Must Struct
first_name_of Name f = named_of Name f
first_name_of Scalar f = named_of Scalar f
first_name_of Attribute f = named_of Attribute f

-- Where a field may begin.
abbrev pub field_of : Kind → Frame → Move
field_of OpenRound f = Bad
field_of CloseRound f = close_round f
field_of OpenSquare f = Bad
field_of CloseSquare f = Bad
field_of OpenCurly f = Bad
field_of CloseCurly f = Bad
field_of Comma f = Bad
field_of Colon f = Bad
field_of Name f = Stay FieldName f
field_of Scalar f = Bad
field_of Attribute f = Bad

-- Behind the name of a field.
abbrev pub field_name_of : Kind → Frame → Move
field_name_of OpenRound f = Bad
field_name_of CloseRound f = Bad
field_name_of OpenSquare f = Bad
field_name_of CloseSquare f = Bad
field_name_of OpenCurly f = Bad
field_name_of CloseCurly f = Bad
field_name_of Comma f = Bad
field_name_of Colon f = Stay Must f
field_name_of Name f = Bad
field_name_of Scalar f = Bad
field_name_of Attribute f = Bad

-- What an entry does.
abbrev pub step_of : Want → Kind → Frame → Move
step_of Start k f = start_of k f
step_of Must k f = value_of k f
step_of Item k f = item_of k f
step_of First k f = first_of k f
step_of FirstName k f = first_name_of k f
step_of Named k f = named_of k f
step_of Behind k f = behind_of k f
step_of Field k f = field_of k f
step_of FieldName k f = field_name_of k f
