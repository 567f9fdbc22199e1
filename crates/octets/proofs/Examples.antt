-- Texts as they arrive, computed. Assumes nothing.
use mathlib.Core.List.{[], ◌∷◌}
use mathlib.Core.Path.{◌≡◌, refl}
use Rattle.text.specs.Classes.{within}
use Rattle.text.specs.Utf8.{behind_four, behind_three, char_len, second_byte, utf8_from, utf8_of, width_of}
use Rattle.octets.specs.Octets.{allowed_of, bad_of, begun3, begun_of}
use Rattle.octets.specs.declared.answer.Allowed.TheVariants.{All, Bad}

-- nothing; `x€`; `x` and two bytes of a sign that has not come whole; three of a letter of four
pub whole : (allowed_of [] ≡ All 0) × (allowed_of (0x78 ∷ 0xE2 ∷ 0x82 ∷ 0xAC ∷ []) ≡ All 0) × (allowed_of (0x78 ∷ 0xE2 ∷ 0x82 ∷ []) ≡ All 2) × (allowed_of (0xF0 ∷ 0x9F ∷ 0x9A ∷ []) ≡ All 3)
unfolding allowed_of bad_of begun3 begun_of utf8_of utf8_from char_len width_of behind_three behind_four second_byte within
whole = (refl, refl, refl, refl)

-- `x`, C3, a space and `y`: the space may not be taken, and the sequence begins at 1; `x` and 80: the 80 may not
pub broken : (allowed_of (0x78 ∷ 0xC3 ∷ 0x20 ∷ 0x79 ∷ []) ≡ Bad 2 1) × (allowed_of (0x78 ∷ 0x80 ∷ []) ≡ Bad 1 1)
unfolding allowed_of bad_of begun3 begun_of utf8_of utf8_from char_len width_of behind_three behind_four second_byte within
broken = (refl, refl)

-- no character begins with C0, with F5, with E0 80 (overlong), with ED A0 (a surrogate) or with F4 90 (above U+10FFFF)
pub never : (allowed_of (0xC0 ∷ []) ≡ Bad 0 0) × (allowed_of (0xF5 ∷ []) ≡ Bad 0 0) × (allowed_of (0xE0 ∷ 0x80 ∷ []) ≡ Bad 1 0) × (allowed_of (0xED ∷ 0xA0 ∷ []) ≡ Bad 1 0) × (allowed_of (0xF4 ∷ 0x90 ∷ []) ≡ Bad 1 0)
unfolding allowed_of bad_of begun3 begun_of utf8_of utf8_from char_len width_of behind_three behind_four second_byte within
never = (refl, refl, refl, refl, refl)
