-- Two answers that meet the promise of `contents` are equal, and so are two parts and two decodings, the buffer afterwards included. Assumes nothing.
use Prim.Native.Nat.{ℕ}
use mathlib.Core.List.{List}
use mathlib.Core.Path.{◌∙◌, ◌≡◌, sym}
use lib.ListN.{length}
use Rattle.text.specs.Refusals.{Told}
use Rattle.entries.specs.declared.view.Span.{Span}
use Rattle.sarridok.specs.Contents.{contents_of, part_of, decoded_answer, decoded_out}

module _ (text tape : List ℕ) (count entry : ℕ) where
  pub contents_determined : (a b : Told Span) → a ≡ contents_of text tape count entry → b ≡ contents_of text tape count entry → a ≡ b
  contents_determined a b p q = p ∙ sym q

  pub part_determined : (a b : List ℕ) → a ≡ part_of text (contents_of text tape count entry) → b ≡ part_of text (contents_of text tape count entry) → a ≡ b
  part_determined a b p q = p ∙ sym q

  -- an answer and the buffer afterwards
  abbrev Meets : List ℕ → Told ℕ → List ℕ → Type 0
  Meets out a exit = (a ≡ decoded_answer text tape count entry (length out)) × (exit ≡ decoded_out text tape count entry out)

  pub decoded_determined : (out : List ℕ) (a b : Told ℕ) (x y : List ℕ) → Meets out a x → Meets out b y → (a ≡ b) × (x ≡ y)
  decoded_determined out a b x y p q = (p.0 ∙ sym q.0, p.1 ∙ sym q.1)
