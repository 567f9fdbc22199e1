-- A state, shown. Assumes nothing.
use Prim.Native.Nat.{ℕ, ◌-◌}
use native.Mathlib.Omega.{arith}
use mathlib.Core.Bool.{Bool, cond}
use mathlib.Core.List.{List, ◌∷◌, ◌++◌}
use mathlib.Core.Path.{◌≡◌, sym, ap, ◌∙◌}
use lib.ListN.{length, take}
use borrow.Author.Tests.{eq-eqb, ne_eqb}
use Rattle.lines.specs.Ascii.{ascii}
use Rattle.lines.specs.Out.{put, put_byte}
use Rattle.lines.proofs.OutLaws.{put_behind, put-byte, then}
use Rattle.pieces.specs.declared.state.Arrival.{Arrival}
use Rattle.show.specs.Hexes.{hex_text}
use Rattle.arrivals.specs.States.{state_text, bytes_text, stands_text}

-- ---- bytes in hex, or `-`

module _ (s : List ℕ) (out end : List ℕ × ℕ) where
  pub bytes_none : length s ≡ 0 → end ≡ put_byte out 45 → end ≡ put out (bytes_text s)
  unfolding bytes_text
  bytes_none h e = e ∙ sym (put-byte out 45) ∙ sym (ap (λ (b : Bool). put out (cond b (ascii "-") (hex_text s))) (eq-eqb (length s) 0 h))

  pub bytes_some : (length s ≡ 0 → ⊥) → end ≡ put out (hex_text s) → end ≡ put out (bytes_text s)
  unfolding bytes_text
  bytes_some h e = e ∙ sym (ap (λ (b : Bool). put out (cond b (ascii "-") (hex_text s))) (ne_eqb (length s) 0 h))

-- ---- ` -> STATE KEPT`

module _ (a : Arrival) (buffer : List ℕ) (out arrow stood space end : List ℕ × ℕ) where
  pub stands_said : arrow ≡ put out (ascii " -> ") → stood ≡ put arrow (state_text a) → space ≡ put_byte stood 32
      → (kept : List ℕ) → kept ≡ take (a.kept - 0) buffer → end ≡ put space (bytes_text kept) → end ≡ put out (stands_text a buffer)
  unfolding stands_text
  stands_said e f g kept k h =
      let all : a.kept - 0 ≡ a.kept = omega arith in
      let same : kept ≡ take a.kept buffer = k ∙ ap (λ (n : ℕ). take n buffer) all in
      then out stood end (ascii " -> " ++ state_text a) (32 ∷ bytes_text (take a.kept buffer)) (then out arrow stood (ascii " -> ") (state_text a) e f)
      (put_behind stood space end 32 (bytes_text (take a.kept buffer)) g (h ∙ ap (λ (s : List ℕ). put space (bytes_text s)) same))
