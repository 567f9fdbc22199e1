-- Plain tokens written with a blank behind each are read, all of them and nothing else (document 01, demand 2). Assumes nothing.
use Rattle.std.proofs.Common.{Ok}
use Prim.Native.Nat.{ℕ, ◌+◌, ◌*◌, ◌≤◌, min}
use native.Mathlib.Nat.{add-zero, zero-add}
use native.Mathlib.Omega.{arith}
use mathlib.Core.List.{List, ◌∷◌}
use mathlib.Core.Path.{◌≡◌, refl, ap, ap₂, sym, ◌∙◌}
use lib.ListN.{drop, length}
use lib.Seq.{drop-append_seam, drop-drop}
use borrow.Author.Tests.{le-ltb}
use Rattle.text.proofs.Utf8Agree.{encoded_good}
use Rattle.text.specs.Classes.{blank1, within}
use Rattle.text.specs.Judged.{by_utf8, judged_of}
use Rattle.rows.proofs.RowLaws.{entries_flat}
use Rattle.rows.specs.Rows.{entries_of, laid, room_of, width}
use Rattle.rows.specs.declared.Entry.{Entry}
use Rattle.reading.proofs.Entries.{counted_complete, entries_complete}
use Rattle.reading.proofs.Steps.{from_stop, from_token}
use Rattle.reading.specs.Owed.{quiet_byte}
use Rattle.reading.specs.Readings.{Reading, ◌▸◌, complete, counted, entries, entry, read_from, read_part}
use Rattle.reading.specs.Tokens.{Token}
use Rattle.tokens.proofs.RonLaws.{laws}
use Rattle.tokens.specs.Ron.{ron_token}
use Rattle.plain.proofs.PlainBlanks.{one_blank, widened, widened_none}
use Rattle.read.proofs.ReadLaws.{fitted_fits, read_fit, tape-by}
use Rattle.read.specs.Read.{read_answer, read_tape, reading_of}
use Rattle.spelt.specs.Spelt.{Spelt}
use Rattle.spelt.specs.Spelt.Spelt.{none, more}
use Rattle.spelt.proofs.SpeltTokens.{plain_token, spelt_encoded}

-- ---- the reading

-- a blank is passed over, and widens the next entry's gap
past_blank : (text : List ℕ) (at : ℕ) (s : List ℕ) → drop at text ≡ 0x20 ∷ s → read_from ron_token text at ≡ widened 1 (read_from ron_token text (at + 1))
unfolding blank1 within
past_blank text at s e =
    let next : drop (at + 1) text ≡ s = sym (drop-drop 1 at text) ∙ ap (drop 1) e in
    ap (read_part ron_token at) e ∙ one_blank 0x20 s at refl ∙ ap (λ (l : List ℕ). widened 1 (read_part ron_token (at + 1) l)) (sym next)

spelt_from : (text : List ℕ) {at : ℕ} {s : List ℕ} {es : List Entry} → Spelt at s es → drop at text ≡ s → widened (min 1 at) (read_from ron_token text at) ≡ es ▸ complete
spelt_from text (none {at}) e = ap (widened (min 1 at)) (from_stop ron_token quiet_byte laws text at (ap ron_token e ∙ laws.nil))
spelt_from text (more {at} {k} {d} {w} {s} {es} p x) e =
    let n : ℕ = length w in
    let t : Token = record { gap = 0; len = n; kind = k; detail = d } in
    let to : at + (0 + n) ≡ at + n = omega arith in
    let behind : drop (at + n) text ≡ 0x20 ∷ s = sym (drop-drop n at text) ∙ ap (drop n) e ∙ drop-append_seam w (0x20 ∷ s) in
    let next : drop (at + n + 1) text ≡ s = sym (drop-drop 1 (at + n) text) ∙ ap (drop 1) behind in
    let one : 1 ≡ min 1 (at + n + 1) = omega arith in
    let rest = past_blank text (at + n) s behind ∙ ap (λ (g : ℕ). widened g (read_from ron_token text (at + n + 1))) one ∙ spelt_from text x next in
    ap (widened (min 1 at)) (from_token ron_token quiet_byte laws text at t (ap ron_token e ∙ plain_token p s))
    ∙ ap₂ (λ (from end : ℕ). entry (record { kind = k; start = from; end = end; detail = d; gap = min 1 at + 0 }) (read_from ron_token text end)) (add-zero at) to
    ∙ ap₂ (λ (g : ℕ) (r : Reading). entry (record { kind = k; start = at; end = at + n; detail = d; gap = g }) r) (add-zero (min 1 at)) rest

-- the reading of the whole is its entries
pub spelt_reading : (text : List ℕ) (es : List Entry) → Spelt 0 text es → reading_of text ≡ es ▸ complete
spelt_reading text es x = widened_none (reading_of text) ∙ spelt_from text x refl

-- ---- the call

pub spelt_fit : (text : List ℕ) (es : List Entry) → Spelt 0 text es → length text ≤ 65536 → judged_of text ≡ Ok tt
unfolding judged_of
spelt_fit text es x h = rw (le-ltb 65536 (length text) h) (ap by_utf8 (encoded_good text (spelt_encoded x)))

module _ (text tape : List ℕ) (es : List Entry) (x : Spelt 0 text es) (short : length text ≤ 65536) (room : length es ≤ room_of (length tape)) where
  -- they are accepted, as many as they are
  pub spelt_answer : read_answer text (length tape) ≡ Ok (length es)
  spelt_answer =
      let count : counted 0 (reading_of text) ≡ Ok (length es) = ap (counted 0) (spelt_reading text es x) ∙ counted_complete es 0 ∙ ap Ok (zero-add (length es)) in
      read_fit text (length tape) (spelt_fit text es x short) ∙ fitted_fits (room_of (length tape)) (reading_of text) (length es) count room

  -- and laid on the tape as they are
  pub spelt_tape : read_tape text tape ≡ laid es tape
  spelt_tape =
      tape-by text tape (Ok (length es)) (sym spelt_answer) ∙ ap (λ (l : List Entry). laid l tape) (ap entries (spelt_reading text es x) ∙ entries_complete es)

-- document 01, demand 2: plain tokens are read, all of them and nothing else
pub spelt_read : (text tape : List ℕ) (es : List Entry) → Spelt 0 text es → length text ≤ 65536 → length es ≤ room_of (length tape)
    → (read_answer text (length tape) ≡ Ok (length es)) × (entries_of (length es) (read_tape text tape) ≡ es)
unfolding laid
spelt_read text tape es x short room = (
  spelt_answer text tape es x short room,
  ap (entries_of (length es)) (spelt_tape text tape es x short room) ∙ entries_flat es (drop (width * length es) tape),
)
