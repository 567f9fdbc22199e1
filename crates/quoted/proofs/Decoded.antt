-- The call `decoded` accepts exactly the entries at whose start a string or byte string stands that the buffer has room for, and writes exactly the bytes
-- that it decodes to. Assumes nothing.
use Rattle.std.proofs.Common.{Ok, Err}
use Prim.Native.Nat.{ℕ}
use native.Mathlib.Omega.{arith}
use mathlib.Core.Bool.{Bool, cond, false, true}
use mathlib.Core.List.{List, ◌++◌}
use mathlib.Core.Logic.{◌↔◌}
use mathlib.Core.Path.{◌≡◌, ◌∙◌, ap, refl, sym}
use lib.Dec.{ltb}
use lib.ListN.{drop, length}
use borrow.Author.Tests.{le-ltb, ltb-false}
use Rattle.entries.specs.Contents.{by_named, decoded_in, written_by}
use Rattle.entries.specs.Named.{literal_decoded, literal_of, named_of}
use Rattle.quoted.proofs.Exactly.{byte_string_exactly, byte_string_length, string_exactly, string_length}
use Rattle.quoted.specs.Decoding.{Decodes}
use Rattle.quoted.specs.Literals.{LiteralAt}
use Rattle.sarridok.specs.Contents.{decoded_answer, decoded_out, named_bytes}
use Rattle.strings.proofs.Wholes.{byte_string_whole, string_whole}
use Rattle.strings.specs.Strings.{byte_string_decoded, string_decoded}
use Rattle.strings.specs.declared.literal.Literal.{Literal}
use Rattle.text.proofs.Choices.{cond_cases}
use Rattle.text.specs.Judged.{behind_judged, judged_of}
use Rattle.text.specs.Refusals.{Told, no_room}

-- ---- a string or byte string

-- what is read stands there
pub literal_stands : (bytes : Bool) (s : List ℕ) (l : Literal) → literal_of bytes s ≡ Ok l → LiteralAt bytes s (literal_decoded bytes s) (drop l.len s) × (length (literal_decoded bytes s) ≡ l.decoded)
literal_stands false s l e = ((string_exactly s (string_decoded s) (drop l.len s)).1 (l, e, refl, refl, (string_whole s l e).fits), string_length s l e)
literal_stands true s l e = ((byte_string_exactly s (byte_string_decoded s) (drop l.len s)).1 (l, e, refl, refl, (byte_string_whole s l e).fits), byte_string_length s l e)

-- and what stands there is read
pub literal_reads : (bytes : Bool) (s d t : List ℕ) → LiteralAt bytes s d t → (l : Literal) × (literal_of bytes s ≡ Ok l) × (literal_decoded bytes s ≡ d) × (l.decoded ≡ length d)
literal_reads false s d t x = let r = (string_exactly s d t).0 x in (r.0, r.1, r.2, sym (string_length s r.0 r.1) ∙ ap length r.2)
literal_reads true s d t x = let r = (byte_string_exactly s d t).0 x in (r.0, r.1, r.2, sym (byte_string_length s r.0 r.1) ∙ ap length r.2)

-- ---- the call

module _ (text tape : List ℕ) (count entry room n : ℕ) where
  -- what is said of the string at a place
  abbrev own : Bool → ℕ → Told ℕ
  own bytes place = decoded_in place room (literal_of bytes (drop place text))

  -- by what is read at the place
  from_read : (bytes : Bool) (place : ℕ) (a : Told Literal) → judged_of text ≡ Ok tt → named_of text tape count entry ≡ Ok (bytes, place) → literal_of bytes (drop place text) ≡ a
      → decoded_in place room a ≡ Ok n → Decodes text tape count entry room n
  from_read bytes place (Ok l) j m e =
      cond_cases (λ (a : Told ℕ). a ≡ Ok n → Decodes text tape count entry room n) (ltb room l.decoded) _ _
      (λ h f. let z : ◌≡◌ {A = ℕ} 0 1 = cc in absurd (omega arith))
      (λ h f. let r = literal_stands bytes (drop place text) l e in
      let q : l.decoded ≡ n = cc in
      record {
        fit = j;
        bytes = bytes;
        place = place;
        named = m;
        decoded = literal_decoded bytes (drop place text);
        behind = drop l.len (drop place text);
        stands = r.0;
        long = r.1 ∙ q;
        roomy = omega (arith, ltb-false room l.decoded h);
      })
  from_read bytes place (Err r) j m e = λ f. let z : ◌≡◌ {A = ℕ} 0 1 = cc in absurd (omega arith)

  -- by the judgement and the name
  from_answer : (j : Told Unit) (m : Told (Bool × ℕ)) → judged_of text ≡ j → named_of text tape count entry ≡ m → behind_judged j (by_named m own) ≡ Ok n → Decodes text tape count entry room n
  from_answer (Ok tt) (Ok (bytes, place)) e f g = from_read bytes place (literal_of bytes (drop place text)) e f refl g
  from_answer (Ok tt) (Err r) e f g = let z : ◌≡◌ {A = ℕ} 0 1 = cc in absurd (omega arith)
  from_answer (Err r) m e f g = let z : ◌≡◌ {A = ℕ} 0 1 = cc in absurd (omega arith)

  -- what is accepted is decoded
  pub decodes : decoded_answer text tape count entry room ≡ Ok n → Decodes text tape count entry room n
  unfolding decoded_answer
  decodes e = from_answer (judged_of text) (named_of text tape count entry) refl refl e

  -- and what is decoded is accepted
  pub accepts : Decodes text tape count entry room n → decoded_answer text tape count entry room ≡ Ok n
  unfolding decoded_answer
  accepts x =
      let r = literal_reads x.bytes (drop x.place text) x.decoded x.behind x.stands in
      ap (λ (j : Told Unit). behind_judged j (by_named (named_of text tape count entry) own)) x.fit
      ∙ ap (λ (m : Told (Bool × ℕ)). by_named m own) x.named
      ∙ ap (decoded_in x.place room) r.1
      ∙ ap (λ (t : Bool). cond t (Err no_room) (Ok r.0.decoded)) (le-ltb room r.0.decoded (omega (arith, r.3, x.long, x.roomy)))
      ∙ ap Ok (r.3 ∙ x.long)

-- `decoded` accepts with n bytes exactly where a string or byte string stands that decodes to n bytes
pub decoded_exactly : (text tape : List ℕ) (count entry : ℕ) (out : List ℕ) (n : ℕ) → (decoded_answer text tape count entry (length out) ≡ Ok n) ↔ Decodes text tape count entry (length out) n
decoded_exactly text tape count entry out n = (decodes text tape count entry (length out) n, accepts text tape count entry (length out) n)

-- and writes exactly the bytes that it decodes to, before what stood in the buffer
pub decoded_writes : (text tape : List ℕ) (count entry : ℕ) (out : List ℕ) (n : ℕ) (bytes : Bool) (place : ℕ) (d t : List ℕ) → decoded_answer text tape count entry (length out) ≡ Ok n
    → named_of text tape count entry ≡ Ok (bytes, place) → LiteralAt bytes (drop place text) d t → decoded_out text tape count entry out ≡ d ++ drop n out
unfolding decoded_out
decoded_writes text tape count entry out n bytes place d t e m x =
    ap (λ (a : Told ℕ). written_by a (named_bytes text (named_of text tape count entry)) out) e
    ∙ ap (λ (i : Told (Bool × ℕ)). named_bytes text i ++ drop n out) m
    ∙ ap (λ (i : List ℕ). i ++ drop n out) (literal_reads bytes (drop place text) d t x).2
