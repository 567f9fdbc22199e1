-- Which token is read (document 01, module 9): "Kinds: 1 `(` 2 `)` 3 `[` 4 `]` 5 `{` 6 `}` 7 `,` 8 `:`. By first characters: `#`; `\"`; `'`; `b'` integer;
-- `b\"` `br\"` `br#` byte string; `r\"` `r#\"` `r##` string; `r#` raw name, or 16 two bytes on; a digit, `+`, `-`, `.` number; else name."
use Rattle.std.specs.Prelude.{ℕ, Bool, true, false, cond, eqb, ltb}
use Rattle.tokens.specs.declared.shape.Shape.{Shape}
use Rattle.tokens.specs.declared.shape.Shape.TheVariants.{Mark, Attribute, Str, Char, Byte, ByteStr, Number, Word}

-- The kind of a mark, and 0 for any other byte.
unfoldable pub mark_kind : ℕ → ℕ
mark_kind a =
    cond (eqb a 0x28) 1
    (cond (eqb a 0x29) 2
    (cond (eqb a 0x5b) 3
    (cond (eqb a 0x5d) 4
    (cond (eqb a 0x7b) 5
    (cond (eqb a 0x7d) 6
    (cond (eqb a 0x2c) 7
    (cond (eqb a 0x3a) 8
    0)))))))

-- A number begins with a digit, `+`, `-` or `.`.
unfoldable pub starts_number : ℕ → Bool
starts_number a = cond (eqb a 0x2b) true (cond (eqb a 0x2d) true (cond (eqb a 0x2e) true (cond (ltb a 0x30) false (cond (ltb 0x39 a) false true))))

-- Behind a first `b`: `'` a byte literal; `\"`, `r\"` or `r#` a byte string.
unfoldable pub behind_b : ℕ → ℕ → Shape
behind_b b c = cond (eqb b 0x27) Byte (cond (eqb b 0x22) ByteStr (cond (eqb b 0x72) (cond (eqb c 0x22) ByteStr (cond (eqb c 0x23) ByteStr Word)) Word))

-- Behind a first `r`: `\"`, `#\"` or `##` a string.
unfoldable pub behind_r : ℕ → ℕ → Shape
behind_r b c = cond (eqb b 0x22) Str (cond (eqb b 0x23) (cond (eqb c 0x22) Str (cond (eqb c 0x23) Str Word)) Word)

-- A token by its first three bytes; past the end stands 0.
unfoldable pub shape_of : ℕ → ℕ → ℕ → Shape
shape_of a b c =
    cond (ltb 0 (mark_kind a)) (Mark (mark_kind a))
    (cond (eqb a 0x23) Attribute
    (cond (eqb a 0x22) Str
    (cond (eqb a 0x27) Char
    (cond (eqb a 0x62) (behind_b b c)
    (cond (eqb a 0x72) (behind_r b c)
    (cond (starts_number a) Number
    Word))))))
