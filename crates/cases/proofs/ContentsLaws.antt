-- Contents and decoded of an entry, and the buffer lent to them. Assumes nothing.
use Prim.Native.Nat.{ℕ, ◌-◌, ◌≤◌}
use mathlib.Core.List.{List, ◌++◌}
use mathlib.Core.Path.{◌≡◌, ap, ◌∙◌}
use lib.ListN.{length, take, drop}
use borrow.Rule.Slice.PartMut.{put_mid}
use Rattle.lines.specs.Ascii.{ascii}
use Rattle.lines.specs.Out.{put}
use Rattle.lines.proofs.LineLaws.{lent_front, lent_whole}
use Rattle.lines.proofs.OutLaws.{then}
use Rattle.entries.specs.declared.view.Span.{Span}
use Rattle.sarridok.specs.Contents.{contents_of, decoded_answer}
use Rattle.show.specs.Answers.{answer_text, clean_text}
use Rattle.show.specs.Contents.{span_text, wrote_text}
use Rattle.lent.specs.Marks.{byte_mark_at, kept_from}
use Rattle.text.specs.Refusals.{Told}
use mathlib.Core.Bool.{Bool}
use Rattle.cases.specs.Contents.{wrote_of, view_text, decoding_text, both_text, buffer_after, room_for, contents_in}
use Rattle.cases.specs.declared.contents.Asked.{Asked}

-- ---- what is said

module _ (text tape : List ℕ) (q : Asked) (out mid end : List ℕ × ℕ) where
  pub view_said : (a : Told Span) → a ≡ contents_of text tape q.count q.entry → mid ≡ put out (answer_text span_text a) → end ≡ put mid (ascii " | ")
      → end ≡ put out (view_text text tape q)
  unfolding view_text
  view_said a r e f =
      then out mid end (answer_text span_text (contents_of text tape q.count q.entry)) (ascii " | ")
      (e ∙ ap (λ (x : Told Span). put out (answer_text span_text x)) r) f

  pub both_said : (buffer left : List ℕ) (a : Told ℕ) → mid ≡ put out (view_text text tape q)
      → a ≡ decoded_answer text tape q.count q.entry (length buffer) → left ≡ buffer_after text tape q buffer
      → end ≡ put mid (decoding_text left a) → end ≡ put out (both_text text tape q buffer)
  unfolding both_text
  both_said buffer left a e r l f =
      then out mid end (view_text text tape q) (decoding_text (buffer_after text tape q buffer) (decoded_answer text tape q.count q.entry (length buffer))) e
      (f ∙ ap (λ (b : List ℕ). put mid (decoding_text b a)) l ∙ ap (λ (x : Told ℕ). put mid (decoding_text (buffer_after text tape q buffer) x)) r)

pub decoding_said : (out mid end : List ℕ × ℕ) (left : List ℕ) (a : Told ℕ) (n : ℕ) (clean : Bool) → mid ≡ put out (answer_text (wrote_text left) a)
    → n ≡ wrote_of a → clean ≡ kept_from byte_mark_at (drop n left) n → end ≡ put mid (clean_text clean) → end ≡ put out (decoding_text left a)
unfolding decoding_text
decoding_said out mid end left a n clean e w k f =
    then out mid end (answer_text (wrote_text left) a) (clean_text (kept_from byte_mark_at (drop (wrote_of a) left) (wrote_of a))) e
    (f ∙ ap (λ (b : Bool). put mid (clean_text b)) (k ∙ ap (λ (m : ℕ). kept_from byte_mark_at (drop m left) m) w))

-- ---- the buffer

module _ (text tape : List ℕ) (q : Asked) (spare : List ℕ) (n : ℕ) (r : n ≡ room_for q.buffer (length text)) (out end : List ℕ × ℕ) where
  -- what is said with so many of the spare bytes
  roomed : (left : List ℕ) → (end ≡ put out (both_text text tape q (take n spare))) × (left ≡ buffer_after text tape q (take n spare) ++ drop n spare)
      → (end ≡ put out (contents_in text tape q spare).0) × (left ≡ (contents_in text tape q spare).1)
  unfolding contents_in
  roomed left e = (
    e.0 ∙ ap (λ (m : ℕ). put out (both_text text tape q (take m spare))) r,
    e.1 ∙ ap (λ (m : ℕ). buffer_after text tape q (take m spare) ++ drop m spare) r,
  )

  module _ (last : List ℕ) where
    -- a part of them
    pub lent_part : end ≡ put out (both_text text tape q (take (n - 0) spare)) → last ≡ buffer_after text tape q (take (n - 0) spare)
        → (end ≡ put out (contents_in text tape q spare).0) × (put_mid 0 (n - 0) spare last ≡ (contents_in text tape q spare).1)
    lent_part e f =
        roomed (put_mid 0 (n - 0) spare last) (lent_front (both_text text tape q) (buffer_after text tape q) n spare out end last (e, f))

    -- all of them
    pub lent_all : length spare ≤ n → end ≡ put out (both_text text tape q spare) → last ≡ buffer_after text tape q spare
        → (end ≡ put out (contents_in text tape q spare).0) × (last ≡ (contents_in text tape q spare).1)
    lent_all h e f = roomed last (lent_whole (both_text text tape q) (buffer_after text tape q) n spare out end last h (e, f))
