-- The calls agree: contents that are handed out are what a decoding writes; a decoding writes the measured length; a decoded string is UTF-8. Assumes nothing.
use Rattle.std.proofs.Common.{Ok, Err}
use Prim.Native.Nat.{ℕ, ◌+◌, ◌-◌}
use native.Mathlib.Omega.{arith}
use mathlib.Core.Path.{◌≡◌, ◌∙◌, ap, refl, sym}
use mathlib.Core.Bool.{Bool, true, false}
use mathlib.Core.List.{List}
use lib.Dec.{ltb}
use lib.ListN.{length, take, drop}
use lib.Seq.{drop-drop}
use Rattle.text.specs.Refusals.{Told}
use Rattle.text.specs.Judged.{judged_of, behind_judged, place_fits}
use Rattle.text.specs.Utf8.{Encoded}
use Rattle.text.proofs.Choices.{cond_cases}
use Rattle.strings.specs.declared.literal.Literal.{Literal}
use Rattle.strings.specs.Strings.{string_of, string_decoded}
use Rattle.strings.proofs.Encodes.{string_encoded}
use Rattle.strings.proofs.Wholes.{string_whole, byte_string_whole}
use Rattle.entries.specs.Named.{named_of, literal_of, literal_decoded}
use Rattle.entries.specs.declared.view.Span.{Span}
use Rattle.entries.specs.Contents.{by_named, contents_in, decoded_in}
use Rattle.entries.proofs.NamedLaws.{named_fits}
use Rattle.text.proofs.Cuts.{part_encoded}
use Rattle.sarridok.specs.Contents.{contents_of, part_of, named_bytes, decoded_answer}

literal_count : (bytes : Bool) (s : List ℕ) (l : Literal) → literal_of bytes s ≡ Ok l → length (literal_decoded bytes s) ≡ l.decoded
literal_count false s l e = (string_whole s l e).count
literal_count true s l e = (byte_string_whole s l e).count

literal_same : (bytes : Bool) (s : List ℕ) (l : Literal) → literal_of bytes s ≡ Ok l → l.escaped ≡ false
    → literal_decoded bytes s ≡ take (l.end - l.start) (drop l.start s)
literal_same false s l e = (string_whole s l e).same
literal_same true s l e = (byte_string_whole s l e).same

module _ (text : List ℕ) where
  -- a part of a part
  further : (place start end : ℕ) → take (place + end - (place + start)) (drop (place + start) text) ≡ take (end - start) (drop start (drop place text))
  further place start end =
      let k : place + end - (place + start) ≡ end - start = omega arith in
      ap (λ (n : ℕ). take n (drop (place + start) text)) k ∙ ap (take (end - start)) (sym (drop-drop start place text))

  part_read : (bytes : Bool) (place : ℕ) (a : Told Literal) (s : Span) → literal_of bytes (drop place text) ≡ a → contents_in place a ≡ Ok s
      → part_of text (Ok s) ≡ literal_decoded bytes (drop place text)
  part_read bytes place (Ok l) s e =
      cond_cases (λ (t : Told Span). t ≡ Ok s → part_of text (Ok s) ≡ literal_decoded bytes (drop place text)) l.escaped _ _
      (λ x q. let z : ◌≡◌ {A = ℕ} 0 1 = cc in absurd (omega arith))
      (λ x q. sym (ap (part_of text) q) ∙ further place l.start l.end ∙ sym (literal_same bytes (drop place text) l e x))
  part_read bytes place (Err r) s e = λ q. let z : ◌≡◌ {A = ℕ} 0 1 = cc in absurd (omega arith)

  part_by : (j : Told Unit) (n : Told (Bool × ℕ)) (s : Span) → behind_judged j (by_named n (λ bytes place. contents_in place (literal_of bytes (drop place text)))) ≡ Ok s
      → part_of text (Ok s) ≡ named_bytes text n
  part_by (Ok tt) (Ok (bytes, place)) s q = part_read bytes place (literal_of bytes (drop place text)) s refl q
  part_by (Ok tt) (Err r) s q = let z : ◌≡◌ {A = ℕ} 0 1 = cc in absurd (omega arith)
  part_by (Err r) n s q = let z : ◌≡◌ {A = ℕ} 0 1 = cc in absurd (omega arith)

  count_read : (bytes : Bool) (place room : ℕ) (a : Told Literal) (n : ℕ) → literal_of bytes (drop place text) ≡ a → decoded_in place room a ≡ Ok n
      → length (literal_decoded bytes (drop place text)) ≡ n
  count_read bytes place room (Ok l) n e =
      cond_cases (λ (t : Told ℕ). t ≡ Ok n → length (literal_decoded bytes (drop place text)) ≡ n) (ltb room l.decoded) _ _
      (λ x q. let z : ◌≡◌ {A = ℕ} 0 1 = cc in absurd (omega arith))
      (λ x q. let k : l.decoded ≡ n = cc in literal_count bytes (drop place text) l e ∙ k)
  count_read bytes place room (Err r) n e = λ q. let z : ◌≡◌ {A = ℕ} 0 1 = cc in absurd (omega arith)

  count_by : (j : Told Unit) (m : Told (Bool × ℕ)) (room n : ℕ) → behind_judged j (by_named m (λ bytes place. decoded_in place room (literal_of bytes (drop place text)))) ≡ Ok n
      → length (named_bytes text m) ≡ n
  count_by (Ok tt) (Ok (bytes, place)) room n q = count_read bytes place room (literal_of bytes (drop place text)) n refl q
  count_by (Ok tt) (Err r) room n q = let z : ◌≡◌ {A = ℕ} 0 1 = cc in absurd (omega arith)
  count_by (Err r) m room n q = let z : ◌≡◌ {A = ℕ} 0 1 = cc in absurd (omega arith)

  encoded_read : (place room : ℕ) (a : Told Literal) (n : ℕ) → Encoded (drop place text) → string_of (drop place text) ≡ a → decoded_in place room a ≡ Ok n
      → Encoded (string_decoded (drop place text))
  encoded_read place room (Ok l) n h e q = string_encoded (drop place text) l h e
  encoded_read place room (Err r) n h e q = let z : ◌≡◌ {A = ℕ} 0 1 = cc in absurd (omega arith)

  encoded_by : (j : Told Unit) (place room n : ℕ) → judged_of text ≡ j → place_fits text place ≡ true → behind_judged j (decoded_in place room (string_of (drop place text))) ≡ Ok n
      → Encoded (string_decoded (drop place text))
  encoded_by (Ok tt) place room n e f q = encoded_read place room (string_of (drop place text)) n (part_encoded text place e f) refl q
  encoded_by (Err r) place room n e f q = let z : ◌≡◌ {A = ℕ} 0 1 = cc in absurd (omega arith)

module _ (text tape : List ℕ) (count entry : ℕ) where
  -- contents that are accepted are the bytes that the string decodes to
  pub part_decoded : (s : Span) → contents_of text tape count entry ≡ Ok s → part_of text (contents_of text tape count entry) ≡ named_bytes text (named_of text tape count entry)
  unfolding contents_of
  part_decoded s e = ap (part_of text) e ∙ part_by text (judged_of text) (named_of text tape count entry) s e

  -- so many bytes as the answer says are written
  pub decoded_length : (room n : ℕ) → decoded_answer text tape count entry room ≡ Ok n → length (named_bytes text (named_of text tape count entry)) ≡ n
  unfolding decoded_answer
  decoded_length room n e = count_by text (judged_of text) (named_of text tape count entry) room n e

  -- a string that is decoded is UTF-8; false says that it is no byte string
  pub decoded_encoded : (place room n : ℕ) → named_of text tape count entry ≡ Ok (false, place) → decoded_answer text tape count entry room ≡ Ok n
      → Encoded (named_bytes text (named_of text tape count entry))
  unfolding decoded_answer
  decoded_encoded place room n m q =
      rw m (encoded_by text (judged_of text) place room n refl (named_fits text tape count entry (Ok (false, place)) m) (rw m at q))
