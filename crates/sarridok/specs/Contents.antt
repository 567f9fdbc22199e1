-- The calls `contents` and `decoded` (document 01): "Contents of a string or byte string entry: the bytes inside as a part of the caller's text where
-- nothing was escaped; decoded into a lent buffer in every case." Order of refusals: 1, 2, 28, 23, 27, then those of reading, then 29 (contents only), and
-- 22 last (decoded only).
use Rattle.std.specs.Prelude.{Ok, Err, Bool, ℕ, ◌-◌, List, [], length, take, drop}
use Rattle.text.specs.Refusals.{Told}
use Rattle.text.specs.Judged.{judged_of, behind_judged}
use Rattle.entries.specs.Named.{named_of, literal_of, literal_decoded}
use Rattle.entries.specs.declared.view.Span.{Span}
use Rattle.entries.specs.Contents.{by_named, contents_in, decoded_in, written_by}

-- The whole answer of `contents`.
unfoldable pub contents_of : List ℕ → List ℕ → ℕ → ℕ → Told Span
contents_of text tape count entry =
    behind_judged (judged_of text) (by_named (named_of text tape count entry) (λ bytes place. contents_in place (literal_of bytes (drop place text))))

-- Those bytes of the text; none on a refusal.
abbrev pub part_of : List ℕ → Told Span → List ℕ
part_of text (Ok s) = take (s.end - s.start) (drop s.start text)
part_of text (Err r) = []

-- The whole answer of `decoded`, over a buffer of so many bytes.
unfoldable pub decoded_answer : List ℕ → List ℕ → ℕ → ℕ → ℕ → Told ℕ
decoded_answer text tape count entry room =
    behind_judged (judged_of text) (by_named (named_of text tape count entry) (λ bytes place. decoded_in place room (literal_of bytes (drop place text))))

-- The bytes that the string which an entry names decodes to.
abbrev pub named_bytes : List ℕ → Told (Bool × ℕ) → List ℕ
named_bytes text (Ok (bytes, place)) = literal_decoded bytes (drop place text)
named_bytes text (Err r) = []

-- The buffer afterwards.
unfoldable pub decoded_out : List ℕ → List ℕ → ℕ → ℕ → List ℕ → List ℕ
decoded_out text tape count entry out =
    written_by (decoded_answer text tape count entry (length out)) (named_bytes text (named_of text tape count entry)) out
