-- The calls `contents` and `decoded` by their cases, and the part within the text. Assumes nothing.
use Rattle.std.proofs.Common.{Ok, Err}
use Prim.Native.Nat.{ℕ}
use mathlib.Core.Path.{◌≡◌, refl, subst, sym}
use mathlib.Core.Bool.{Bool}
use mathlib.Core.List.{List}
use lib.ListN.{length, drop}
use Rattle.text.specs.Refusals.{Told}
use Rattle.text.specs.Judged.{judged_of, behind_judged}
use Rattle.text.specs.declared.refusal.Refusal.{Refusal}
use Rattle.entries.specs.Named.{named_of, literal_of, literal_decoded}
use Rattle.entries.specs.declared.view.Span.{Span}
use Rattle.entries.specs.Contents.{contents_in, decoded_in, written_by}
use Rattle.entries.proofs.NamedLaws.{Inside, contents_inside, named_within}
use Rattle.sarridok.specs.Contents.{contents_of, decoded_answer, decoded_out}

judged_inside : (text : List ℕ) (j : Told Unit) (own : Told Span) → Inside text own → Inside text (behind_judged j own)
judged_inside text (Ok tt) own h = h
judged_inside text (Err r) own h = tt

module _ (text tape : List ℕ) (count entry : ℕ) where
  -- ---- 1 and 2

  module _ (r : Refusal) (e : judged_of text ≡ Err r) where
    pub contents_unjudged : contents_of text tape count entry ≡ Err r
    unfolding contents_of
    contents_unjudged = rw e

    pub decoded_unjudged : (room : ℕ) → decoded_answer text tape count entry room ≡ Err r
    unfolding decoded_answer
    decoded_unjudged room = rw e

  -- ---- 28, 23 and 27

  module _ (r : Refusal) (e : judged_of text ≡ Ok tt) (n : named_of text tape count entry ≡ Err r) where
    pub contents_unnamed : contents_of text tape count entry ≡ Err r
    unfolding contents_of
    contents_unnamed = rw (e, n)

    pub decoded_unnamed : (room : ℕ) → decoded_answer text tape count entry room ≡ Err r
    unfolding decoded_answer
    decoded_unnamed room = rw (e, n)

  -- ---- a string

  module _ (bytes : Bool) (place : ℕ) (e : judged_of text ≡ Ok tt) (n : named_of text tape count entry ≡ Ok (bytes, place)) where
    pub contents_named : contents_of text tape count entry ≡ contents_in place (literal_of bytes (drop place text))
    unfolding contents_of
    contents_named = rw (e, n)

    pub decoded_named : (room : ℕ) → decoded_answer text tape count entry room ≡ decoded_in place room (literal_of bytes (drop place text))
    unfolding decoded_answer
    decoded_named room = rw (e, n)

    -- the buffer, where the answer is known
    pub out_named : (out : List ℕ) (t : Told ℕ) → t ≡ decoded_in place (length out) (literal_of bytes (drop place text))
        → decoded_out text tape count entry out ≡ written_by t (literal_decoded bytes (drop place text)) out
    unfolding decoded_out
    out_named out t a = rw (decoded_named (length out), sym a, n)

  -- a refused decoding writes nothing
  pub out_refused : (out : List ℕ) (r : Refusal) → decoded_answer text tape count entry (length out) ≡ Err r → decoded_out text tape count entry out ≡ out
  unfolding decoded_out
  out_refused out r e = rw e

  -- ---- the part

  pub part_inside : (t : Told Span) → t ≡ contents_of text tape count entry → Inside text t
  unfolding contents_of
  part_inside t e =
      subst (Inside text) (sym e)
      (judged_inside text (judged_of text) _ (contents_inside text (named_of text tape count entry) (named_within text tape count entry _ refl)))
