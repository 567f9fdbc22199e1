-- The number written, computed for some texts. Assumes nothing.
use Prim.Native.Nat.{ℕ}
use mathlib.Core.List.{List, [], ◌∷◌}
use mathlib.Core.Path.{◌≡◌, refl}
use lib.IntN.{pos, neg_ℤ}
use Rattle.text.specs.Ahead.{char_if, next_ahead}
use Rattle.text.specs.Utf8.{char_len, code_of, code_of4, width_of}
use Rattle.text.specs.Classes.{ascii_next, digit, hex_digit, ident_next, int_char, letter, within}
use Rattle.text.specs.Runs.{run}
use Rattle.text.specs.Words.{starts_with}
use Rattle.digits.specs.Digits.{hex_of}
use Rattle.digits.specs.Value.{value_from}
use Rattle.integers.specs.Front.{front_of, prefix_of, sign_of}
use Rattle.integers.specs.Width.{suffix_of, suffix_word, width_at}
use Rattle.integers.specs.Words.{first_of, ident_of}
use Rattle.written.specs.Written.{written, written_len}

-- `-0x1_0i16 `
hex : List ℕ
hex = 0x2d ∷ 0x30 ∷ 0x78 ∷ 0x31 ∷ 0x5f ∷ 0x30 ∷ 0x69 ∷ 0x31 ∷ 0x36 ∷ 0x20 ∷ []

-- `0b101,`
binary : List ℕ
binary = 0x30 ∷ 0x62 ∷ 0x31 ∷ 0x30 ∷ 0x31 ∷ 0x2c ∷ []

-- `+1_000`
decimal : List ℕ
decimal = 0x2b ∷ 0x31 ∷ 0x5f ∷ 0x30 ∷ 0x30 ∷ 0x30 ∷ []

hex_worked : (written hex ≡ neg_ℤ (pos 16)) × (written_len hex ≡ 9)
unfolding hex within digit letter hex_digit ascii_next ident_next next_ahead char_if char_len code_of code_of4 width_of int_char run hex_of value_from sign_of prefix_of front_of starts_with ident_of first_of suffix_word suffix_of width_at
hex_worked = (refl, refl)

binary_worked : (written binary ≡ pos 5) × (written_len binary ≡ 5)
unfolding binary within digit letter hex_digit ascii_next ident_next next_ahead char_if char_len code_of code_of4 width_of int_char run hex_of value_from sign_of prefix_of front_of starts_with ident_of first_of suffix_word suffix_of width_at
binary_worked = (refl, refl)

decimal_worked : (written decimal ≡ pos 1000) × (written_len decimal ≡ 6)
unfolding decimal within digit letter hex_digit ascii_next ident_next next_ahead char_if char_len code_of code_of4 width_of int_char run hex_of value_from sign_of prefix_of front_of starts_with ident_of first_of suffix_word suffix_of width_at
decimal_worked = (refl, refl)
