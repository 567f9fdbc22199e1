-- 5 in a text that is UTF-8: what stands behind the `/` is a character, and the place is behind it. Assumes nothing.
use Prim.Native.Nat.{ℕ, ◌+◌, ◌-◌, ◌<◌, ◌≤◌}
use native.Mathlib.Omega.{arith}
use mathlib.Core.Bool.{true}
use mathlib.Core.List.{List, [], ◌∷◌, ◌++◌}
use mathlib.Core.Path.{◌≡◌, ◌∙◌, ap, refl, subst, sym}
use lib.Dec.{lit<}
use lib.ListN.{drop, get_or, length, length-append, length-drop}
use lib.Seq.{drop-drop}
use borrow.Author.Tests.{le-leb}
use Rattle.cursor.proofs.SkipLaws.{fits_places}
use Rattle.cursor.specs.declared.ParserCursor.{ParserCursor}
use Rattle.gapped.proofs.Passing.{gap_passed}
use Rattle.gapped.specs.Gap.{Behind, Gap, StraySlash}
use Rattle.skipping.specs.Skips.{Fits, StrayChar, ahead}
use Rattle.text.proofs.CharFronts.{code_ascii}
use Rattle.text.proofs.Cuts.{part_encoded}
use Rattle.text.proofs.Lists.{head_at}
use Rattle.text.proofs.Utf8Agree.{char_encode, char_pos, char_len_char, decode_encode}
use Rattle.text.specs.Classes.{within}
use Rattle.text.specs.Judged.{place_fits}
use Rattle.text.specs.Utf8.{Encoded, Scalar, char_len, code_of, encode}
use Rattle.text.specs.Utf8.Encoded.{ends, next}

-- ---- the character at the front

-- an encoding that begins with an ASCII byte is that byte's
ascii_front : (k b : ℕ) (s u : List ℕ) → Scalar k → b < 0x80 → encode k ++ s ≡ b ∷ u → k ≡ b
ascii_front k b s u sc h q = sym (decode_encode k s sc) ∙ ap code_of q ∙ code_ascii (b ∷ u) h

-- behind a `/` stands text again
behind_slash : {s : List ℕ} → Encoded s → (u : List ℕ) → s ≡ 0x2F ∷ u → Encoded u
unfolding encode
behind_slash ends u q = let z : ◌≡◌ {A = ℕ} 0 1 = cc in absurd (omega arith)
behind_slash (next k {s} sc e) u q =
    let i : k ≡ 0x2F = ascii_front k 0x2F s u sc (lit< tt) q in
    let r : 0x2F ∷ s ≡ 0x2F ∷ u = sym (ap (λ (x : ℕ). encode x ++ s) i) ∙ q in
    let v : s ≡ u = cc in
    subst Encoded v e

-- text that is not at its end begins with a character
pub record FrontChar (s : List ℕ) : Type 0 where
  pub char : ℕ
  pub rest : List ℕ
  pub scalar : Scalar char
  pub split : s ≡ encode char ++ rest

front_char : {s : List ℕ} → Encoded s → (b : ℕ) (w : List ℕ) → s ≡ b ∷ w → FrontChar s
front_char ends b w q = let z : ◌≡◌ {A = ℕ} 0 1 = cc in absurd (omega arith)
front_char (next k {s} sc e) b w q = record { char = k; rest = s; scalar = sc; split = refl }

-- ---- the place

-- a `/` is inside no character
slash_fits : (text : List ℕ) (p : ℕ) → p ≤ length text → get_or text p 0 ≡ 0x2F → place_fits text p ≡ true
unfolding place_fits within
slash_fits text p h e = rw (le-leb p (length text) h, e)

module _ (text : List ℕ) (c : ParserCursor) (f : Fits text c) where
  -- what stands behind a `/` that a gap runs into is text
  encoded_ahead : (u : List ℕ) → Gap (ahead text c) (0x2F ∷ u) → Encoded u
  encoded_ahead u g =
      let at = c.cursor in
      let p = gap_passed g in
      let h = fits_places text c f.cursor_fit in
      let q : drop (at + p.by) text ≡ 0x2F ∷ u = sym (drop-drop p.by at text) ∙ sym p.rest in
      let byte : get_or text (at + p.by) 0 ≡ 0x2F = sym (head_at text (at + p.by)) ∙ ap (λ (t : List ℕ). get_or t 0 0) q in
      let l : at + p.by ≤ length text = omega (arith, p.whole, length-drop at text, h.0) in
      behind_slash (part_encoded text (at + p.by) f.text_fit (slash_fits text (at + p.by) l byte)) u q

  -- the bytes behind the `/` are a character's
  pub stray_char : (b : ℕ) (w : List ℕ) (q p : ℕ) → StraySlash (ahead text c) b w → Behind (ahead text c) b w q → p ≡ c.cursor + q → StrayChar text c p
  unfolding encode
  stray_char b w q p (g, n, m) h e =
      let r = front_char (encoded_ahead (b ∷ w) g) b w refl in
      let k = r.char in
      let width : char_len (b ∷ w) ≡ length (encode k) = ap char_len r.split ∙ char_len_char (encode k) r.rest (char_encode k r.scalar) in
      let l : length (b ∷ w) ≡ length (encode k) + length r.rest = ap length r.split ∙ length-append (encode k) r.rest in
      let byte : (x : ℕ) → encode x ≡ x ∷ [] → k ≡ x → b ≡ x = λ x y i. (let z : b ∷ w ≡ x ∷ r.rest = r.split ∙ ap (λ (j : ℕ). encode j ++ r.rest) i ∙ ap (λ (u : List ℕ). u ++ r.rest) y in cc) in
      let places = fits_places text c f.cursor_fit in
      record {
        char = k;
        rest = r.rest;
        scalar = r.scalar;
        no_slash = λ i. n (byte 0x2F refl i);
        no_star = λ i. m (byte 0x2A refl i);
        gap = subst (λ (u : List ℕ). Gap (ahead text c) (0x2F ∷ u)) r.split g;
        behind = omega (arith, h, width, l, e, length-drop c.cursor text, places.0);
      }

-- ---- the other way round

-- what a part that is not empty begins with
record Bytes (s : List ℕ) : Type 0 where
  first : ℕ
  others : List ℕ
  split : s ≡ first ∷ others

bytes : (s : List ℕ) → 0 < length s → Bytes s
bytes [] h = absurd (omega arith)
bytes (b ∷ w) h = record { first = b; others = w; split = refl }

-- such a character is a byte that is neither `/` nor `*`, and the place is behind it
pub record Stands (text : List ℕ) (c : ParserCursor) (p : ℕ) : Type 0 where
  pub first : ℕ
  pub others : List ℕ
  pub at : ℕ
  pub slash : StraySlash (ahead text c) first others
  pub behind : Behind (ahead text c) first others at
  pub place : p ≡ c.cursor + at

pub char_stands : (text : List ℕ) (c : ParserCursor) (p : ℕ) → c.cursor ≤ length text → StrayChar text c p → Stands text c p
char_stands text c p h x =
    let k = x.char in
    let e = char_encode k x.scalar in
    let l : length (encode k ++ x.rest) ≡ length (encode k) + length x.rest = length-append (encode k) x.rest in
    let y = bytes (encode k ++ x.rest) (omega (arith, char_pos e)) in
    let b = y.first in
    let w = y.others in
    let width : char_len (b ∷ w) ≡ length (encode k) = ap char_len (sym y.split) ∙ char_len_char (encode k) x.rest e in
    let m : length (b ∷ w) ≡ length (encode k ++ x.rest) = ap length (sym y.split) in
    let g : Gap (ahead text c) (0x2F ∷ b ∷ w) = subst (λ (u : List ℕ). Gap (ahead text c) (0x2F ∷ u)) y.split x.gap in
    let whole = (gap_passed g).whole in
    let part = length-drop c.cursor text in
    let behind = x.behind in
    let byte : (z : ℕ) → z < 0x80 → b ≡ z → k ≡ z = λ z low i. ascii_front k z x.rest w x.scalar low (y.split ∙ ap (λ (j : ℕ). j ∷ w) i) in
    record {
      first = b;
      others = w;
      at = p - c.cursor;
      slash = (g, λ i. x.no_slash (byte 0x2F (lit< tt) i), λ i. x.no_star (byte 0x2A (lit< tt) i));
      behind = omega arith;
      place = omega arith;
    }
