-- Words at the front of a part (document 01, module 9): "`b'` integer; `b"` `br"` `br#` byte string; `r"` `r#"` `r##` string; `r#` raw name".
use Rattle.std.specs.Prelude.{ℕ, Bool, false, ◌||◌, List, [], ◌∷◌}
use Rattle.text.specs.Words.{starts_with}

-- The part begins with one of the words.
abbrev pub starts_with_one : List (List ℕ) → List ℕ → Bool
starts_with_one [] s = false
starts_with_one (w ∷ []) s = starts_with w s
starts_with_one (w ∷ v ∷ ws) s = starts_with w s || starts_with_one (v ∷ ws) s

-- `b"`, `b'`, `br#`, `br"`, `r"`, `r#"` and `r##`.
abbrev pub string_starts : List (List ℕ)
string_starts =
    (0x62 ∷ 0x22 ∷ []) ∷ (0x62 ∷ 0x27 ∷ []) ∷ (0x62 ∷ 0x72 ∷ 0x23 ∷ []) ∷ (0x62 ∷ 0x72 ∷ 0x22 ∷ [])
    ∷ (0x72 ∷ 0x22 ∷ []) ∷ (0x72 ∷ 0x23 ∷ 0x22 ∷ []) ∷ (0x72 ∷ 0x23 ∷ 0x23 ∷ []) ∷ []

-- A string, a byte string or a byte literal begins at the front.
unfoldable pub begins_string : List ℕ → Bool
begins_string s = starts_with_one string_starts s

-- `r#` stands at the front.
unfoldable pub begins_raw : List ℕ → Bool
begins_raw s = starts_with (0x72 ∷ 0x23 ∷ []) s
