-- Bytes put out in hex: what is left of them gives the whole. Assumes nothing.
use Prim.Native.Nat.{ℕ, ◌+◌, ◌/◌, ◌<◌, ◌≤◌}
use mathlib.Core.List.{List}
use mathlib.Core.Path.{◌≡◌, sym, ap, ◌∙◌}
use lib.ListN.{length, get_or, drop, drop_of_length-le}
use Rattle.lines.specs.Out.{put, put_byte}
use Rattle.show.specs.Hexes.{digit_of, hex_text}
use Rattle.text.proofs.Lists.{front}

module _ (s : List ℕ) (i : ℕ) (whole out : List ℕ × ℕ) where
  pub hex_on : i < length s → (mid next : List ℕ × ℕ) (a b : ℕ) → a ≡ digit_of (get_or s i 0 / 16) → b ≡ digit_of (get_or s i 0)
      → mid ≡ put_byte out a → next ≡ put_byte mid b → put out (hex_text (drop i s)) ≡ whole → put next (hex_text (drop (i + 1) s)) ≡ whole
  unfolding put hex_text
  hex_on h mid next a b high low e f inv =
      let rest : List ℕ = hex_text (drop (i + 1) s) in
      let first : mid ≡ put_byte out (digit_of (get_or s i 0 / 16)) = e ∙ ap (put_byte out) high in
      let both : next ≡ put_byte (put_byte out (digit_of (get_or s i 0 / 16))) (digit_of (get_or s i 0)) =
      f ∙ ap (put_byte mid) low ∙ ap (λ (x : List ℕ × ℕ). put_byte x (digit_of (get_or s i 0))) first in
      ap (λ (x : List ℕ × ℕ). put x rest) both ∙ sym (ap (λ (t : List ℕ). put out (hex_text t)) (front s i h)) ∙ inv

  pub hex_ends : length s ≤ i → put out (hex_text (drop i s)) ≡ whole → out ≡ whole
  unfolding put hex_text
  hex_ends h inv = sym (ap (λ (t : List ℕ). put out (hex_text t)) (drop_of_length-le s h)) ∙ inv
