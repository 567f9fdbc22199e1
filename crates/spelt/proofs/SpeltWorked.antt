-- A spelt text, and what a read makes of it: `_1 ( 7 "a" ) `. Assumes nothing.
use Rattle.std.proofs.Common.{Ok}
use Prim.Native.Nat.{ℕ}
use native.Mathlib.Omega.{arith}
use mathlib.Core.Bool.{true}
use mathlib.Core.List.{List, [], ◌∷◌}
use mathlib.Core.Logic.{◌⊎◌, inl, inr}
use mathlib.Core.Path.{◌≡◌, refl, sym}
use lib.ListN.{get_or, length}
use Rattle.text.proofs.Choices.{either}
use Rattle.text.proofs.NameClasses.{ident-next}
use Rattle.text.specs.Classes.{ascii_next, digit, ident_next, letter, within}
use Rattle.text.specs.Utf8 as utf8
use Rattle.text.specs.Utf8.{encode}
use Rattle.digits.specs.Digits.{hex_of}
use Rattle.digits.specs.Value.{value_from}
use Rattle.integers.specs.Width.{first_fit}
use Rattle.names.specs.Names as names
use Rattle.rows.specs.Rows.{entries_of}
use Rattle.rows.specs.declared.Entry.{Entry}
use Rattle.read.specs.Read.{read_answer, read_tape}
use Rattle.tiled.specs.Forms as form
use Rattle.tiled.specs.Forms.{FloatName}
use Rattle.xid.specs.Xid.{xid_continue}
use Rattle.spelt.specs.Spelt as spelt
use Rattle.spelt.specs.Spelt.{Plain, Spelt}
use Rattle.spelt.proofs.SpeltRead.{spelt_read}

-- ---- each token

-- a word that is a float begins with `i` or `N`
first_letter : {d : ℕ} {s : List ℕ} → FloatName d s → (get_or s 0 0 ≡ 0x69) ⊎ (get_or s 0 0 ≡ 0x4E)
first_letter (form.FloatName.named w form.Special.inf x) = inl refl
first_letter (form.FloatName.named w form.Special.nan x) = inr refl

one_goes_on : xid_continue 0x31 ≡ true
unfolding ident_next ascii_next letter digit within
one_goes_on = sym (ident-next 0x31)

name : Plain 9 0 (0x5F ∷ 0x31 ∷ [])
unfolding encode
name =
    spelt.Plain.name {c = 0x5F} (omega arith, inl (omega arith)) refl (names.Run.more 0x31 (omega arith, inl (omega arith)) one_goes_on names.Run.none)
    (λ d f. either (first_letter f) (λ e. omega arith) (λ e. omega arith))

seven : Plain 11 5 (0x37 ∷ [])
unfolding digit within value_from hex_of first_fit
seven = spelt.Plain.integer (spelt.Decimal.one {a = 0x37} refl) (omega arith)

letter_a : Plain 14 1 (0x22 ∷ 0x61 ∷ 0x22 ∷ [])
unfolding encode
letter_a = spelt.Plain.string (utf8.Encoded.next 0x61 (omega arith, inl (omega arith)) utf8.Encoded.ends) (spelt.Unescaped.more {b = 0x61} (λ e. omega arith) (λ e. omega arith) spelt.Unescaped.none)

-- ---- the text

abbrev text : List ℕ
text = 0x5F ∷ 0x31 ∷ 0x20 ∷ 0x28 ∷ 0x20 ∷ 0x37 ∷ 0x20 ∷ 0x22 ∷ 0x61 ∷ 0x22 ∷ 0x20 ∷ 0x29 ∷ 0x20 ∷ []

abbrev told : List Entry
told =
    record { kind = 9; start = 0; end = 2; detail = 0; gap = 0 }
    ∷ record { kind = 1; start = 3; end = 4; detail = 0; gap = 1 }
    ∷ record { kind = 11; start = 5; end = 6; detail = 5; gap = 1 }
    ∷ record { kind = 14; start = 7; end = 10; detail = 1; gap = 1 }
    ∷ record { kind = 2; start = 11; end = 12; detail = 0; gap = 1 }
    ∷ []

is_spelt : Spelt 0 text told
is_spelt =
    spelt.Spelt.more name (spelt.Spelt.more (spelt.Plain.mark form.Mark.round) (spelt.Spelt.more seven (spelt.Spelt.more letter_a (spelt.Spelt.more (spelt.Plain.mark form.Mark.round_end) spelt.Spelt.none))))

-- a tape of twenty-five numbers holds it
pub worked_spelt : (tape : List ℕ) → length tape ≡ 25 → (read_answer text (length tape) ≡ Ok 5) × (entries_of 5 (read_tape text tape) ≡ told)
worked_spelt tape e = spelt_read text tape told is_spelt (omega arith) (omega arith)
