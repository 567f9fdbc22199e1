-- A plain token with a blank behind it is read as the token that it is, and its bytes are UTF-8. Assumes nothing.
use Prim.Native.Nat.{ℕ, suc, ◌+◌, ◌<◌}
use native.Mathlib.Omega.{arith}
use mathlib.Core.List.{List, [], ◌∷◌, ◌++◌, append_assoc}
use mathlib.Core.Logic.{inl}
use mathlib.Core.Path.{◌≡◌, ap, subst, ◌∙◌}
use lib.ListN.{length, length-append}
use Rattle.text.proofs.Utf8Agree.{encode_1}
use Rattle.text.specs.Utf8.{Encoded}
use Rattle.text.specs.Utf8.Encoded.{ends, next}
use Rattle.xid.specs.Xid.{xid_continue}
use Rattle.names.specs.Names.{Run}
use Rattle.names.specs.Names.Run.{none, more}
use Rattle.strings.proofs.More.{encoded_join}
use Rattle.rows.specs.declared.Entry.{Entry}
use Rattle.reading.specs.Tokens.{token}
use Rattle.tokens.specs.Ron.{ron_token}
use Rattle.tiled.specs.Forms.{Mark}
use Rattle.tiled.specs.Forms.Mark.{round, round_end, square, square_end, curly, curly_end, comma, colon}
use Rattle.plain_numbers.proofs.Runs.{digit_in}
use Rattle.spelt.specs.Spelt.{Decimal, Plain, Spelt}
use Rattle.spelt.specs.Spelt as spelt
use Rattle.spelt.proofs.MarkTokens.{mark_token}
use Rattle.spelt.proofs.IntegerTokens.{integer_token}
use Rattle.spelt.proofs.NameTokens.{name_token}
use Rattle.spelt.proofs.StringTokens.{string_token}

-- ---- the token

pub plain_token : {k d : ℕ} {w : List ℕ} → Plain k d w → (s : List ℕ) → ron_token (w ++ 0x20 ∷ s) ≡ token (record { gap = 0; len = length w; kind = k; detail = d })
plain_token (spelt.Plain.mark m) s = mark_token m (0x20 ∷ s)
plain_token (spelt.Plain.name {c} {w} sc starts x fine) s = name_token c w s sc starts x fine
plain_token (spelt.Plain.integer {ds} x small) s = integer_token ds x small s
plain_token (spelt.Plain.string {w} e x) s =
    let n : length w + 2 ≡ suc (length (w ++ 0x22 ∷ [])) = omega (arith, length-append w (0x22 ∷ [])) in
    ap (λ (l : List ℕ). ron_token (0x22 ∷ l)) (append_assoc w (0x22 ∷ []) (0x20 ∷ s))
    ∙ string_token w (0x20 ∷ s) x
    ∙ ap (λ (k : ℕ). token (record { gap = 0; len = k; kind = 14; detail = length w })) n

-- ---- its bytes

-- a byte of ASCII in front
ascii_next : (a : ℕ) {s : List ℕ} → a < 0x80 → Encoded s → Encoded (a ∷ s)
ascii_next a {s} h x = subst (λ (l : List ℕ). Encoded (l ++ s)) (encode_1 a h) (next a (omega arith, inl (omega arith)) x)

mark_ascii : {a k : ℕ} → Mark a k → a < 0x80
mark_ascii round = omega arith
mark_ascii round_end = omega arith
mark_ascii square = omega arith
mark_ascii square_end = omega arith
mark_ascii curly = omega arith
mark_ascii curly_end = omega arith
mark_ascii comma = omega arith
mark_ascii colon = omega arith

run_encoded : {w : List ℕ} → Run xid_continue w → Encoded w
run_encoded none = ends
run_encoded (more c sc e x) = next c sc (run_encoded x)

decimal_encoded : {ds : List ℕ} → Decimal ds → Encoded ds
decimal_encoded (spelt.Decimal.one {a} e) = let i = digit_in a e in ascii_next a (omega arith) ends
decimal_encoded (spelt.Decimal.more {a} e x) = let i = digit_in a e in ascii_next a (omega arith) (decimal_encoded x)

plain_encoded : {k d : ℕ} {w : List ℕ} → Plain k d w → Encoded w
plain_encoded (spelt.Plain.mark {a} m) = ascii_next a (mark_ascii m) ends
plain_encoded (spelt.Plain.name {c} {w} sc starts x fine) = next c sc (run_encoded x)
plain_encoded (spelt.Plain.integer x small) = decimal_encoded x
plain_encoded (spelt.Plain.string e x) = ascii_next 0x22 (omega arith) (encoded_join e (ascii_next 0x22 (omega arith) ends))

-- and so those of the whole
pub spelt_encoded : {at : ℕ} {s : List ℕ} {es : List Entry} → Spelt at s es → Encoded s
spelt_encoded spelt.Spelt.none = ends
spelt_encoded (spelt.Spelt.more p x) = encoded_join (plain_encoded p) (ascii_next 0x20 (omega arith) (spelt_encoded x))
