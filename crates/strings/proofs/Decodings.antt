-- Laws of decoding: what a body decodes to, piece by piece, and the buffer that it is written to. Assumes nothing.
use Prim.Native.Nat.{◌+◌, ◌<◌, ◌≤◌, ℕ, ◌-◌}
use native.Mathlib.Omega.{arith}
use mathlib.Core.Bool.{false}
use mathlib.Core.List.{List, [], ◌++◌, append_assoc, append-nil}
use mathlib.Core.Path.{◌∙◌, ◌≡◌, ap, sym}
use lib.ListN.{drop, length, length-drop, take, drop_of_length-le, length-append}
use lib.Seq.{drop-drop, drop_at, length-take-le, take_at}
use borrow.Rule.Slice.PartMut.{put_mid}
use Rattle.escapes.specs.declared.answers.Mode.{Mode}
use Rattle.strings.proofs.PieceLaws.{body_end, body_step, Fine}
use Rattle.strings.proofs.QuotedLaws.{backslash_size, plain_size}
use Rattle.strings.specs.Pieces.{body_of, by_piece, bytes_of, decoded_of, piece_of}
use Rattle.strings.specs.Strings.{into_out}
use Rattle.strings.specs.declared.pieces.Decoded.{Decoded}
use Rattle.strings.specs.declared.pieces.Piece.{Piece}
use Rattle.strings.specs.declared.pieces.Piece.TheVariants.{Backslash, Plain, Quote, Refused}
use Rattle.text.specs.declared.refusal.Refusal.{Refusal}

-- ---- a body

module _ (m : Mode) (s : List ℕ) (at : ℕ) where
  whole : at < length s → (p : Piece) → p ≡ piece_of m (drop at s)
      → decoded_of (body_of m (drop at s)) ≡ decoded_of (by_piece p (drop at s) (λ n. body_of m (drop n (drop at s))))
  whole h p e = ap decoded_of (body_step m (drop at s) p (omega (arith, length-drop at s)) e)

  pub decoded_quote : at < length s → Quote ≡ piece_of m (drop at s) → decoded_of (body_of m (drop at s)) ≡ []
  unfolding decoded_of
  decoded_quote h e = whole h Quote e

  pub decoded_spoilt : at < length s → (r : Refusal) → Refused r ≡ piece_of m (drop at s) → decoded_of (body_of m (drop at s)) ≡ []
  unfolding decoded_of
  decoded_spoilt h r e = whole h (Refused r) e

  pub decoded_end : length s ≤ at → decoded_of (body_of m (drop at s)) ≡ []
  unfolding decoded_of
  decoded_end h = ap decoded_of (body_end m (drop at s) (omega (arith, length-drop at s)))

  plain_first : at < length s → (k : ℕ) → Plain k ≡ piece_of m (drop at s) → decoded_of (body_of m (drop at s)) ≡ take k (drop at s) ++ decoded_of (body_of m (drop k (drop at s)))
  unfolding decoded_of
  plain_first h k e = whole h (Plain k) e

  pub decoded_plain : at < length s → (k : ℕ) → Plain k ≡ piece_of m (drop at s) → decoded_of (body_of m (drop at s)) ≡ take k (drop at s) ++ decoded_of (body_of m (drop (at + k) s))
  decoded_plain h k e = plain_first h k e ∙ ap (λ (t : List ℕ). take k (drop at s) ++ decoded_of (body_of m t)) (drop-drop k at s)

  backslash_first : at < length s → (k : ℕ) (d : Decoded) → Backslash k d ≡ piece_of m (drop at s) → decoded_of (body_of m (drop at s)) ≡ bytes_of d ++ decoded_of (body_of m (drop k (drop at s)))
  unfolding decoded_of
  backslash_first h k d e = whole h (Backslash k d) e

  pub decoded_backslash : at < length s → (k : ℕ) (d : Decoded) → Backslash k d ≡ piece_of m (drop at s) → decoded_of (body_of m (drop at s)) ≡ bytes_of d ++ decoded_of (body_of m (drop (at + k) s))
  decoded_backslash h k d e = backslash_first h k d e ∙ ap (λ (t : List ℕ). bytes_of d ++ decoded_of (body_of m t)) (drop-drop k at s)

-- ---- a buffer

-- the bytes w were decoded in front of `at`, and stand at the buffer's front
pub record Decoding (m : Mode) (s o out : List ℕ) (at n : ℕ) : Type 0 where
  pub w : List ℕ
  pub long : length w ≡ n
  pub within : at ≤ length s
  pub whole_of : w ++ decoded_of (body_of m (drop at s)) ≡ decoded_of (body_of m s)
  pub wrote : out ≡ into_out w o
  pub roomy : length (decoded_of (body_of m s)) ≤ length o

module _ {m : Mode} {s o out : List ℕ} {at n : ℕ} (d : Decoding m s o out at n) where
  -- what is still to come fits behind what was written
  room_left : n + length (decoded_of (body_of m (drop at s))) ≤ length o
  room_left =
      omega (arith, d.long, length-append d.w (decoded_of (body_of m (drop at s))), ap length d.whole_of, d.roomy)

  pub plain_room : at < length s → (k : ℕ) → Plain k ≡ piece_of m (drop at s) → (1 ≤ k) × (at + k ≤ length s) × (n + k ≤ length o)
  plain_room h k e =
      let z = plain_size m s 0 0 at 0 false h k e in
      let l : length (take k (drop at s)) ≡ k = length-take-le k (drop at s) (omega (arith, z.1, length-drop at s)) in
      (z.0, z.1, omega (arith, room_left, ap length (decoded_plain m s at h k e), length-append (take k (drop at s)) (decoded_of (body_of m (drop (at + k) s))), l))

  pub backslash_room : at < length s → (k : ℕ) (b : Decoded) → Backslash k b ≡ piece_of m (drop at s) → (1 ≤ k) × (at + k ≤ length s) × (n + length (bytes_of b) ≤ length o) × Fine b
  backslash_room h k b e =
      let z = backslash_size m s 0 0 at 0 false h k b e in
      (z.0, z.1, omega (arith, room_left, ap length (decoded_backslash m s at h k b e), length-append (bytes_of b) (decoded_of (body_of m (drop (at + k) s)))), z.3)

  -- bytes written behind those that were
  pub go_on : (bytes last : List ℕ) (k : ℕ) → at + k ≤ length s → decoded_of (body_of m (drop at s)) ≡ bytes ++ decoded_of (body_of m (drop (at + k) s))
      → n + length bytes ≤ length o → last ≡ into_out bytes (drop n out) → Decoding m s o (put_mid n (length out - n) out last) (at + k) (n + length bytes)
  go_on bytes last k h e r l = record {
    w = d.w ++ bytes;
    long = length-append d.w bytes ∙ ap (λ (x : ℕ). x + length bytes) d.long;
    within = h;
    whole_of = append_assoc d.w bytes (decoded_of (body_of m (drop (at + k) s))) ∙ ap (λ (x : List ℕ). d.w ++ x) (sym e) ∙ d.whole_of;
    wrote = written;
    roomy = d.roomy;
  }
    where
      front_is : take n out ≡ d.w
      front_is = ap (take n) d.wrote ∙ take_at d.w (drop (length d.w) o) n d.long

      behind_is : drop n out ≡ drop n o
      behind_is = ap (drop n) d.wrote ∙ drop_at d.w (drop (length d.w) o) n d.long ∙ ap (λ (x : ℕ). drop x o) d.long

      nothing : drop (length out - n) (drop n out) ≡ []
      nothing = drop_of_length-le (drop n out) {i = length out - n} (omega (arith, length-drop n out))

      both : length (d.w ++ bytes) ≡ n + length bytes
      both = length-append d.w bytes ∙ ap (λ (x : ℕ). x + length bytes) d.long

      written : put_mid n (length out - n) out last ≡ into_out (d.w ++ bytes) o
      written =
          ap (λ (x : List ℕ). take n out ++ (last ++ x)) nothing
          ∙ ap (λ (x : List ℕ). take n out ++ x) (append-nil last ∙ l)
          ∙ ap (λ (x : List ℕ). x ++ (bytes ++ drop (length bytes) (drop n out))) front_is
          ∙ ap (λ (x : List ℕ). d.w ++ (bytes ++ drop (length bytes) x)) behind_is
          ∙ ap (λ (x : List ℕ). d.w ++ (bytes ++ x)) (drop-drop (length bytes) n o ∙ ap (λ (x : ℕ). drop x o) (sym both))
          ∙ sym (append_assoc d.w bytes (drop (length (d.w ++ bytes)) o))

  -- nothing is left to decode
  pub all_written : decoded_of (body_of m (drop at s)) ≡ [] → out ≡ into_out (decoded_of (body_of m s)) o
  all_written e =
      let all : d.w ≡ decoded_of (body_of m s) = sym (append-nil d.w) ∙ ap (λ (x : List ℕ). d.w ++ x) (sym e) ∙ d.whole_of in
      d.wrote ∙ ap (λ (x : List ℕ). into_out x o) all
