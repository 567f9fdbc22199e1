-- A mark is read as the token of its kind. Assumes nothing.
use Prim.Native.Nat.{ℕ}
use native.Mathlib.Omega.{arith}
use mathlib.Core.Bool.{true}
use mathlib.Core.List.{List, ◌∷◌}
use mathlib.Core.Path.{◌≡◌, refl}
use Rattle.text.specs.Classes.{blank1, within}
use Rattle.comments.proofs.GapFronts.{clear_front, clear_byte}
use Rattle.reading.specs.Tokens.{token}
use Rattle.tokens.proofs.RonLaws.{is_token}
use Rattle.tokens.specs.Lexemes.{lexeme, lexeme_of}
use Rattle.tokens.specs.Ron.{ron_token}
use Rattle.tokens.specs.Shapes.{mark_kind, shape_of}
use Rattle.tokens.specs.Token.{token_of}
use Rattle.tiled.specs.Forms.{Mark}
use Rattle.tiled.specs.Forms.Mark.{round, round_end, square, square_end, curly, curly_end, comma, colon}

-- no gap stands in front of a mark, and it is a token of one byte
marked : {a k : ℕ} → Mark a k → (s : List ℕ) → (clear_byte a ≡ true) × (lexeme_of (token_of (a ∷ s)) ≡ lexeme 1 k 0)
unfolding blank1 within token_of shape_of mark_kind
marked round s = (refl, refl)
marked round_end s = (refl, refl)
marked square s = (refl, refl)
marked square_end s = (refl, refl)
marked curly s = (refl, refl)
marked curly_end s = (refl, refl)
marked comma s = (refl, refl)
marked colon s = (refl, refl)

pub mark_token : {a k : ℕ} → Mark a k → (s : List ℕ) → ron_token (a ∷ s) ≡ token (record { gap = 0; len = 1; kind = k; detail = 0 })
mark_token {a} {k} m s =
    is_token (a ∷ s) (record { gap = 0; len = 1; kind = k; detail = 0 })
    record { gap_is = clear_front (a ∷ s) (omega arith) (marked m s).0; inside = omega arith; lexeme_is = (marked m s).1 }
