-- Kinds (document 01, module 9): "1 `(` 2 `)` 3 `[` 4 `]` 5 `{` 6 `}` 7 `,` 8 `:` 9 name, 10 raw name, 11 integer, 12 float, 13 char, 14 string,
-- 15 byte string, 16 attribute", as module 10 tells them apart.
use Rattle.std.specs.Prelude.{ℕ, cond, List, [], ◌∷◌, ltb, eqb}
use Rattle.rows.specs.declared.Entry.{Entry}
use Rattle.grammar.specs.declared.kinds.Kind.{Kind}
use Rattle.grammar.specs.declared.kinds.Kind.TheVariants.{OpenRound, CloseRound, OpenSquare, CloseSquare, OpenCurly, CloseCurly, Comma, Colon, Name, Scalar, Attribute}
use Rattle.grammar.specs.declared.kinds.Side.{Side}
use Rattle.grammar.specs.declared.kinds.Side.TheVariants.{Opens, Closes, Neither}

-- The kind that a number stands for; numbers outside 1 to 16 are refused before any is asked for.
unfoldable pub kind_of : ℕ → Kind
kind_of k =
    cond (eqb k 1) OpenRound (cond (eqb k 2) CloseRound (cond (eqb k 3) OpenSquare (cond (eqb k 4) CloseSquare
    (cond (eqb k 5) OpenCurly (cond (eqb k 6) CloseCurly (cond (eqb k 7) Comma (cond (eqb k 8) Colon
    (cond (ltb k 11) Name (cond (ltb k 16) Scalar Attribute)))))))))

-- The kinds of entries.
unfoldable pub kinds_of : List Entry → List Kind
kinds_of [] = []
kinds_of (e ∷ es) = kind_of e.kind ∷ kinds_of es

-- An opening bracket, a closing one, or neither.
abbrev pub side_of : Kind → Side
side_of OpenRound = Opens
side_of CloseRound = Closes
side_of OpenSquare = Opens
side_of CloseSquare = Closes
side_of OpenCurly = Opens
side_of CloseCurly = Closes
side_of Comma = Neither
side_of Colon = Neither
side_of Name = Neither
side_of Scalar = Neither
side_of Attribute = Neither
