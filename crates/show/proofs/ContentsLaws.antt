-- A length and the bytes behind it, put out. Assumes nothing.
use Prim.Native.Nat.{ℕ}
use mathlib.Core.Bool.{cond}
use mathlib.Core.List.{List, [], ◌∷◌, ◌++◌}
use mathlib.Core.Path.{◌≡◌, refl, sym}
use lib.Dec.{eqb}
use lib.ListN.{length}
use borrow.Author.Tests.{eq-eqb, ne_eqb}
use Rattle.lines.specs.Ascii.{ascii}
use Rattle.lines.specs.Decimal.{word_of}
use Rattle.lines.specs.Out.{put, put_byte}
use Rattle.lines.proofs.OutLaws.{put_behind, then}
use Rattle.show.specs.Contents.{bytes_text}
use Rattle.show.specs.Hexes.{hex_text}

module _ (s : List ℕ) (out said counted : List ℕ × ℕ) (e : said ≡ put out (ascii "ok")) (f : counted ≡ put said (word_of (length s))) where
  abbrev behind : List ℕ
  behind = cond (eqb (length s) 0) [] (32 ∷ hex_text s)

  bytes_end : (end : List ℕ × ℕ) → end ≡ put counted behind → end ≡ put out (bytes_text s)
  unfolding bytes_text
  bytes_end end g = then out said end (ascii "ok") (word_of (length s) ++ behind) e (then said counted end (word_of (length s)) behind f g)

  pub bytes_none : length s ≡ 0 → counted ≡ put out (bytes_text s)
  unfolding put
  bytes_none h = bytes_end counted (sym (rw (eq-eqb (length s) 0 h) refl))

  pub bytes_some : (length s ≡ 0 → ⊥) → (mid end : List ℕ × ℕ) → mid ≡ put_byte counted 32 → end ≡ put mid (hex_text s) → end ≡ put out (bytes_text s)
  bytes_some h mid end g i = bytes_end end (rw (ne_eqb (length s) 0 h) (put_behind counted mid end 32 (hex_text s) g i))
