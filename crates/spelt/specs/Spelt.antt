-- Plain tokens written with a blank behind each: marks, names, decimal integers that fit, strings without quote or backslash (document 01, module 9;
-- demand 2 "shuts out a reader that refuses everything, one that gives one tape to all texts, and one that accepts and writes nothing").
use Rattle.std.specs.Prelude.{ℕ, ◌+◌, ◌<◌, min, true, false, List, [], ◌∷◌, ◌++◌, ◌≡◌, length}
use Rattle.text.specs.Classes.{digit}
use Rattle.text.specs.Utf8.{Encoded, Scalar, encode}
use Rattle.xid.specs.Xid.{xid_continue}
use Rattle.names.specs.Names.{Run, starts_name}
use Rattle.digits.specs.Value.{value_of}
use Rattle.integers.specs.Width.{code_of, first_fit}
use Rattle.rows.specs.declared.Entry.{Entry}
use Rattle.tiled.specs.Forms.{FloatName, Mark}

-- Each byte is a decimal digit.
pub data Decimal : List ℕ → Type 0 where
  one : {a : ℕ} → digit a ≡ true → Decimal (a ∷ [])
  more : {a : ℕ} {s : List ℕ} → digit a ≡ true → Decimal s → Decimal (a ∷ s)

-- Bytes that stand for themselves: no quote, no backslash.
pub data Unescaped : List ℕ → Type 0 where
  none : Unescaped []
  more : {b : ℕ} {s : List ℕ} → (b ≡ 0x22 → ⊥) → (b ≡ 0x5C → ⊥) → Unescaped s → Unescaped (b ∷ s)

-- `Plain kind detail w`: the bytes w are a plain token of this kind and with this detail.
pub data Plain : ℕ → ℕ → List ℕ → Type 0 where
  mark : {a k : ℕ} → Mark a k → Plain k 0 (a ∷ [])
  name : {c : ℕ} {w : List ℕ} → Scalar c → starts_name c ≡ true → Run xid_continue w → ((d : ℕ) → FloatName d (encode c ++ w) → ⊥) → Plain 9 0 (encode c ++ w)
  integer : {ds : List ℕ} → Decimal ds → value_of 10 ds < 18446744073709551616 → Plain 11 (code_of (first_fit false (value_of 10 ds))) ds
  string : {w : List ℕ} → Encoded w → Unescaped w → Plain 14 (length w) (0x22 ∷ (w ++ 0x22 ∷ []))

-- `Spelt at s es`: from the place `at` on s is plain tokens with a blank behind each, and es are their entries; in front of each stands one blank, and nothing
-- where the text starts.
pub data Spelt : ℕ → List ℕ → List Entry → Type 0 where
  none : {at : ℕ} → Spelt at [] []
  more : {at k d : ℕ} {w s : List ℕ} {es : List Entry} → Plain k d w → Spelt (at + length w + 1) s es
      → Spelt at (w ++ 0x20 ∷ s) (record { kind = k; start = at; end = at + length w; detail = d; gap = min 1 at } ∷ es)
