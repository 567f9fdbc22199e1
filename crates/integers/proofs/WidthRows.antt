-- A width is that of its number; the row of a number that names none of the first seven widths, the last one's; and what the widths without a sign hold below 0. Assumes nothing.
use Prim.Native.Nat.{ℕ, suc, zero}
use native.Mathlib.Omega.{arith}
use mathlib.Core.Bool.{false, true}
use mathlib.Core.List.{[], ◌∷◌}
use mathlib.Core.Path.{◌≡◌, ap, refl}
use lib.ListN.{length}
use Rattle.integers.specs.Width.{code_of, limit_at, limit_of, row, suffix_word, width_at}
use Rattle.integers.specs.declared.width.Width.{Width}
use Rattle.integers.specs.declared.width.Width.TheVariants.{I8, I16, I32, I64, U8, U16, U32, U64}

-- a width by its number
pub width_of : (w : Width) → width_at (code_of w) ≡ w
unfolding width_at
width_of I8 = refl
width_of I16 = refl
width_of I32 = refl
width_of I64 = refl
width_of U8 = refl
width_of U16 = refl
width_of U32 = refl
width_of U64 = refl

-- none of the first seven
pub last_row : (code : ℕ) → (code ≡ 1 → ⊥) → (code ≡ 2 → ⊥) → (code ≡ 3 → ⊥) → (code ≡ 4 → ⊥) → (code ≡ 5 → ⊥) → (code ≡ 6 → ⊥) → (code ≡ 7 → ⊥) → width_at code ≡ U64
unfolding width_at
last_row zero a b c d e f g = refl
last_row (suc zero) a b c d e f g = absurd (a refl)
last_row (suc (suc zero)) a b c d e f g = absurd (b refl)
last_row (suc (suc (suc zero))) a b c d e f g = absurd (c refl)
last_row (suc (suc (suc (suc zero)))) a b c d e f g = absurd (d refl)
last_row (suc (suc (suc (suc (suc zero))))) a b c d e f g = absurd (e refl)
last_row (suc (suc (suc (suc (suc (suc zero)))))) a b c d e f g = absurd (f refl)
last_row (suc (suc (suc (suc (suc (suc (suc zero))))))) a b c d e f g = absurd (g refl)
last_row (suc (suc (suc (suc (suc (suc (suc (suc zero)))))))) a b c d e f g = refl
last_row (suc (suc (suc (suc (suc (suc (suc (suc (suc code))))))))) a b c d e f g = refl

-- its suffix
pub last_word : (code : ℕ) → (code ≡ 1 → ⊥) → (code ≡ 2 → ⊥) → (code ≡ 3 → ⊥) → (code ≡ 4 → ⊥) → (code ≡ 5 → ⊥) → (code ≡ 6 → ⊥) → (code ≡ 7 → ⊥)
    → suffix_word code ≡ 0x75 ∷ 0x36 ∷ 0x34 ∷ []
unfolding suffix_word
last_word code a b c d e f g = ap (λ (w : Width). (row w).letters) (last_row code a b c d e f g)

-- its largest number
pub last_limit : (code : ℕ) → (code ≡ 1 → ⊥) → (code ≡ 2 → ⊥) → (code ≡ 3 → ⊥) → (code ≡ 4 → ⊥) → (code ≡ 5 → ⊥) → (code ≡ 6 → ⊥) → (code ≡ 7 → ⊥) → limit_at code false ≡ 18446744073709551615
unfolding limit_at
last_limit code a b c d e f g = ap (λ (w : Width). limit_of (row w).signed (row w).bits false) (last_row code a b c d e f g)

-- behind a minus the widths without a sign hold 0 alone
pub none_below : (code : ℕ) → (code ≡ 1 → ⊥) → (code ≡ 2 → ⊥) → (code ≡ 3 → ⊥) → (code ≡ 4 → ⊥) → limit_at code true ≡ 0
unfolding limit_at width_at
none_below zero a b c d = refl
none_below (suc zero) a b c d = absurd (a refl)
none_below (suc (suc zero)) a b c d = absurd (b refl)
none_below (suc (suc (suc zero))) a b c d = absurd (c refl)
none_below (suc (suc (suc (suc zero)))) a b c d = absurd (d refl)
none_below (suc (suc (suc (suc (suc zero))))) a b c d = refl
none_below (suc (suc (suc (suc (suc (suc zero)))))) a b c d = refl
none_below (suc (suc (suc (suc (suc (suc (suc zero))))))) a b c d = refl
none_below (suc (suc (suc (suc (suc (suc (suc (suc zero)))))))) a b c d = refl
none_below (suc (suc (suc (suc (suc (suc (suc (suc (suc code))))))))) a b c d = refl

-- ---- the letters of a suffix

pub three_letters : (code : ℕ) → (code ≡ 1 → ⊥) → (code ≡ 5 → ⊥) → length (suffix_word code) ≡ 3
unfolding suffix_word width_at
three_letters zero a b = refl
three_letters (suc zero) a b = absurd (a refl)
three_letters (suc (suc zero)) a b = refl
three_letters (suc (suc (suc zero))) a b = refl
three_letters (suc (suc (suc (suc zero)))) a b = refl
three_letters (suc (suc (suc (suc (suc zero))))) a b = absurd (b refl)
three_letters (suc (suc (suc (suc (suc (suc zero)))))) a b = refl
three_letters (suc (suc (suc (suc (suc (suc (suc zero))))))) a b = refl
three_letters (suc (suc (suc (suc (suc (suc (suc (suc zero)))))))) a b = refl
three_letters (suc (suc (suc (suc (suc (suc (suc (suc (suc code))))))))) a b = refl

pub some_letters : (code : ℕ) → length (suffix_word code) ≡ 0 → ⊥
unfolding suffix_word width_at
some_letters zero h = omega arith
some_letters (suc zero) h = omega arith
some_letters (suc (suc zero)) h = omega arith
some_letters (suc (suc (suc zero))) h = omega arith
some_letters (suc (suc (suc (suc zero)))) h = omega arith
some_letters (suc (suc (suc (suc (suc zero))))) h = omega arith
some_letters (suc (suc (suc (suc (suc (suc zero)))))) h = omega arith
some_letters (suc (suc (suc (suc (suc (suc (suc zero))))))) h = omega arith
some_letters (suc (suc (suc (suc (suc (suc (suc (suc zero)))))))) h = omega arith
some_letters (suc (suc (suc (suc (suc (suc (suc (suc (suc code))))))))) h = omega arith
