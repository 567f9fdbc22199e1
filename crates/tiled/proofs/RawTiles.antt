-- The raw names of entries that tile a text are `r#` with more behind it, so that `walk` never answers 23 of them (document 02, CR 2). Assumes nothing.
use Rattle.std.proofs.Common.{Ok}
use Prim.Native.Nat.{ℕ, ◌+◌, ◌<◌, ◌≤◌}
use native.Mathlib.Omega.{arith}
use mathlib.Core.Bool.{true, cond, ◌&&◌}
use mathlib.Core.List.{List, [], ◌∷◌, ◌++◌}
use mathlib.Core.Path.{◌≡◌, ap, refl}
use lib.Dec.{eqb, ltb}
use lib.ListN.{drop, length, length-append, length-drop}
use borrow.Author.Tests.{eqb-true, lt-ltb}
use Rattle.text.proofs.Choices.{bool_cases, either}
use Rattle.text.specs.Words.{starts_with}
use Rattle.rows.specs.Rows.{entries_of}
use Rattle.rows.specs.declared.Entry.{Entry}
use Rattle.names.specs.Names.{IsRawName}
use Rattle.read.specs.Read.{read_answer, read_tape}
use Rattle.fields.specs.Names.{raw_fits, raws_fit}
use Rattle.tiled.specs.Forms.{Form, Mark, round, round_end, square, square_end, curly, curly_end, comma, colon, mark, name, raw_name, integer, byte, float, char, string, byte_string, attribute}
use Rattle.tiled.specs.Tiles.{Tile, Tiles, ends, tile}
use Rattle.tiled.proofs.ReadTiles.{read_tiles}

-- the bytes of a raw name
pub record RawForm (s t : List ℕ) : Type 0 where
  pub len : ℕ
  pub is_raw : IsRawName s len
  pub rest : t ≡ drop len s

mark_low : (a k : ℕ) → Mark a k → k < 9
mark_low a k round = omega arith
mark_low a k round_end = omega arith
mark_low a k square = omega arith
mark_low a k square_end = omega arith
mark_low a k curly = omega arith
mark_low a k curly_end = omega arith
mark_low a k comma = omega arith
mark_low a k colon = omega arith

raw_form : (k d : ℕ) (s t : List ℕ) → Form k d s t → k ≡ 10 → RawForm s t
raw_form k d s t (mark {a = a} m) e = absurd (omega (arith, mark_low a k m))
raw_form k d s t (name i f) e = absurd (omega arith)
raw_form k d s t (raw_name {n = n} i) e = record { len = n; is_raw = i; rest = refl }
raw_form k d s t (integer w x) e = absurd (omega arith)
raw_form k d s t (byte b) e = absurd (omega arith)
raw_form k d s t (float f) e = absurd (omega arith)
raw_form k d s t (char c) e = absurd (omega arith)
raw_form k d s t (string x) e = absurd (omega arith)
raw_form k d s t (byte_string x) e = absurd (omega arith)
raw_form k d s t (attribute w) e = absurd (omega arith)

begins : (s : List ℕ) (n : ℕ) → IsRawName s n → starts_with (0x72 ∷ 0x23 ∷ []) s ≡ true
unfolding starts_with
begins s n i = ap (starts_with (0x72 ∷ 0x23 ∷ [])) i.split

long : (s : List ℕ) (n : ℕ) → IsRawName s n → (2 < n) × (n ≤ length s)
long s n i =
    let a = i.some in
    let b = i.size in
    let c : length s ≡ length (0x72 ∷ 0x23 ∷ (i.next ++ i.rest)) = ap length i.split in
    let d = length-append i.next i.rest in
    (omega arith, omega arith)

tile_raw : (text : List ℕ) (at : ℕ) (e : Entry) → Tile text at e → raw_fits text e ≡ true
unfolding raw_fits
tile_raw text at e t = either (bool_cases (eqb e.kind 10)) raw (λ n. rw n refl)
  where
    raw : eqb e.kind 10 ≡ true → cond (eqb e.kind 10) (starts_with (0x72 ∷ 0x23 ∷ []) (drop e.start text) && ltb (e.start + 2) e.end) true ≡ true
    raw k =
        let f = raw_form e.kind e.detail (drop e.start text) (drop e.end text) t.form (eqb-true e.kind 10 k) in
        let l = long (drop e.start text) f.len f.is_raw in
        let a = l.0 in
        let b = l.1 in
        let c = length-drop e.start text in
        let d = length-drop e.end text in
        let g : length (drop e.end text) ≡ length (drop f.len (drop e.start text)) = ap length f.rest in
        let h = length-drop f.len (drop e.start text) in
        let i = t.some in
        let j = t.within in
        rw k (rw (begins (drop e.start text) f.len f.is_raw) (lt-ltb (e.start + 2) e.end (omega arith)))

pub tiles_raws : (text : List ℕ) (at : ℕ) (es : List Entry) → Tiles text at es → raws_fit text es ≡ true
unfolding raws_fit
tiles_raws text at [] (ends g) = refl
tiles_raws text at (e ∷ es) (tile t ts) = rw (tile_raw text at e t) (tiles_raws text e.end es ts)

pub read_raws : (text tape : List ℕ) (n : ℕ) → read_answer text (length tape) ≡ Ok n → raws_fit text (entries_of n (read_tape text tape)) ≡ true
read_raws text tape n h = tiles_raws text 0 (entries_of n (read_tape text tape)) (read_tiles text tape n h)
