-- The name that an entry stands for (document 02, CR 2): "`r#width` and `width` are one name." 23: "an entry that ends past the text, or a raw name entry
-- that isn't `r#` with more behind it".
use Rattle.std.specs.Prelude.{ℕ, ◌+◌, ◌-◌, ◌<◌, ◌≤◌, Bool, true, cond, ◌&&◌, List, [], ◌∷◌, eqb, ltb, length, take, drop}
use Rattle.text.specs.Words.{starts_with}
use Rattle.rows.specs.Rows.{room_of, entry_at}
use Rattle.rows.specs.declared.Entry.{Entry}

-- Where the name begins: behind the `r#` of a raw one.
abbrev pub name_from : Entry → ℕ
name_from e = e.start + cond (eqb e.kind 10) 2 0

-- Its bytes.
abbrev pub name_of : List ℕ → Entry → List ℕ
name_of text e = take (e.end - name_from e) (drop (name_from e) text)

-- The name of entry i.
abbrev pub name_at : List ℕ → List ℕ → ℕ → List ℕ
name_at text tape i = name_of text (entry_at tape i)

-- A raw name is `r#` with more behind it.
unfoldable pub raw_fits : List ℕ → Entry → Bool
raw_fits text e = cond (eqb e.kind 10) (starts_with (0x72 ∷ 0x23 ∷ []) (drop e.start text) && ltb (e.start + 2) e.end) true

-- All raw names of the entries are.
unfoldable pub raws_fit : List ℕ → List Entry → Bool
raws_fit text [] = true
raws_fit text (e ∷ es) = raw_fits text e && raws_fit text es

-- Entry i stands on the tape, and its name, of one byte at least, in the text: what is asked before names are compared.
pub record HasName (text tape : List ℕ) (i : ℕ) : Type 0 where
  pub on_tape : i < room_of (length tape)
  pub some : name_from (entry_at tape i) < (entry_at tape i).end
  pub in_text : (entry_at tape i).end ≤ length text
