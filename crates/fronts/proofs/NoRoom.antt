-- `decoded` gives 22 exactly where a string stands that decodes to more bytes than the buffer has. Assumes nothing.
use Rattle.std.proofs.Common.{Ok, Err}
use Rattle.strings.specs.declared.literal.Literal.{Literal}
use Prim.Native.Nat.{ℕ, ◌<◌}
use native.Mathlib.Omega.{arith}
use mathlib.Core.Bool.{Bool, cond}
use mathlib.Core.List.{List}
use mathlib.Core.Logic.{◌↔◌}
use mathlib.Core.Path.{◌≡◌, ◌∙◌, ap, refl, sym}
use lib.Dec.{ltb}
use lib.ListN.{drop}
use borrow.Author.Tests.{lt-ltb, ltb-true}
use Rattle.text.specs.Judged.{behind_judged, judged_of}
use Rattle.text.specs.Refusals.{Told, no_room}
use Rattle.text.proofs.Choices.{cond_cases}
use Rattle.entries.specs.Contents.{by_named, decoded_in}
use Rattle.entries.specs.Named.{literal_decoded, literal_of, named_of}
use Rattle.sarridok.specs.Contents.{decoded_answer}
use Rattle.quoted.specs.Decoding.{Decodes}
use Rattle.quoted.proofs.Decoded.{literal_reads, literal_stands}
use Rattle.given.proofs.Front.{number-in}
use Rattle.given.proofs.Entries.{Own-named, literal_inner, named_own}
use Rattle.given.proofs.Strings.{Inner-literal}
use Rattle.fronts.proofs.Calls.{decoded_front}
use Rattle.fronts.proofs.Texts.{fit_exactly}
use Rattle.fronts.proofs.Numbers.{number_in}

module _ (text tape : List ℕ) (count entry room : ℕ) where
  -- more is decoded than there is room for
  abbrev TooLong : Type 0
  TooLong = (n : ℕ) × (room < n) × Decodes text tape count entry n n

  by_literal : (bytes : Bool) (place : ℕ) (a : Told Literal) → judged_of text ≡ Ok tt → named_of text tape count entry ≡ Ok (bytes, place) → literal_of bytes (drop place text) ≡ a → Inner-literal a
      → decoded_in place room a ≡ Err no_room → TooLong
  by_literal bytes place (Ok l) j m e i =
      cond_cases (λ (x : Told ℕ). x ≡ Err no_room → TooLong) (ltb room l.decoded) _ _
      (λ h f. let r = literal_stands bytes (drop place text) l e in (
        l.decoded,
        ltb-true room l.decoded h,
        record {
          fit = j;
          bytes = bytes;
          place = place;
          named = m;
          decoded = literal_decoded bytes (drop place text);
          behind = drop l.len (drop place text);
          stands = r.0;
          long = r.1;
          roomy = omega arith;
        },
      ))
      (λ h f. let z : ◌≡◌ {A = ℕ} 0 22 = ap number_in f in absurd (omega arith))
  by_literal bytes place (Err r) j m e i = λ f. let z : r.number ≡ 22 = ap number_in f in absurd (omega (arith, (number-in 4 21 r i).1))

  by-named : (x : Told (Bool × ℕ)) → judged_of text ≡ Ok tt → named_of text tape count entry ≡ x → Own-named x
      → by_named x (λ bytes place. decoded_in place room (literal_of bytes (drop place text))) ≡ Err no_room → TooLong
  by-named (Ok (bytes, place)) j m o f = by_literal bytes place (literal_of bytes (drop place text)) j m refl (literal_inner bytes (drop place text)) f
  by-named (Err r) j m o f = let z : r.number ≡ 22 = ap number_in f in absurd (omega (arith, (number-in 23 28 r o).0))

  gives : decoded_answer text tape count entry room ≡ Err no_room → TooLong
  gives e =
      let front = decoded_front text tape count entry room in
      let sound = (front.refuses no_room e).0 (omega arith) in
      by-named (named_of text tape count entry) ((fit_exactly text).1 sound) refl (named_own text tape count entry) (sym (front.past sound) ∙ e)

  given : TooLong → decoded_answer text tape count entry room ≡ Err no_room
  unfolding decoded_answer
  given w =
      let x = w.2 in
      let r = literal_reads x.bytes (drop x.place text) x.decoded x.behind x.stands in
      ap (λ (j : Told Unit). behind_judged j (by_named (named_of text tape count entry) (λ bytes place. decoded_in place room (literal_of bytes (drop place text))))) x.fit
      ∙ ap (λ (m : Told (Bool × ℕ)). by_named m (λ bytes place. decoded_in place room (literal_of bytes (drop place text)))) x.named
      ∙ ap (decoded_in x.place room) r.1
      ∙ ap (λ (t : Bool). cond t (Err no_room) (Ok r.0.decoded)) (lt-ltb room r.0.decoded (omega (arith, w.1, r.3, x.long)))

  pub decoded_22 : (decoded_answer text tape count entry room ≡ Err no_room) ↔ ((n : ℕ) × (room < n) × Decodes text tape count entry n n)
  decoded_22 = (gives, given)
