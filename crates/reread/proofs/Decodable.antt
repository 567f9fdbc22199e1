-- Every string of an accepted read can be decoded: its entry is found, lies where a character begins, and reads again as it was read. Assumes nothing.
use Rattle.std.proofs.Common.{Ok, Err}
use Prim.Native.Nat.{ℕ, ◌+◌, ◌<◌, ◌≤◌}
use native.Mathlib.Omega.{arith}
use mathlib.Core.Bool.{Bool, true, false}
use mathlib.Core.List.{List}
use mathlib.Core.Logic.{inl, inr}
use mathlib.Core.Path.{◌≡◌, ap, subst, sym, ◌∙◌}
use lib.ListN.{length, drop}
use borrow.Author.Tests.{le-ltb, lt-leb, lt-ltb}
use Rattle.text.proofs.Choices.{bool_cases, either}
use Rattle.text.specs.Judged.{judged_of}
use Rattle.text.specs.Refusals.{Told, no_room}
use Rattle.rows.specs.Rows.{entry_at, room_of}
use Rattle.rows.specs.declared.Entry.{Entry}
use Rattle.strings.specs.declared.literal.Literal.{Literal}
use Rattle.entries.specs.declared.view.Span.{Span}
use Rattle.entries.specs.Contents.{contents_in, decoded_in}
use Rattle.entries.specs.Named.{by_kind, inside_of, named_of}
use Rattle.read.specs.Read.{read_answer, read_tape, room_for}
use Rattle.repair.specs.Repair.{repair_of, repaired_tape}
use Rattle.repair.specs.declared.repairer.Repaired.{Repaired}
use Rattle.mending.proofs.Again.{Held, after_read, after_repair}
use Rattle.mending.proofs.Demand3.{demand3_call}
use Rattle.mending.specs.Fresh.{OldText, fresh_call, with_kept}
use Rattle.sarridok.proofs.ContentsAgree.{decoded_length, part_decoded}
use Rattle.sarridok.proofs.ContentsLaws.{contents_named, decoded_named}
use Rattle.sarridok.specs.Contents.{contents_of, decoded_answer, part_of}
use Rattle.reread.specs.Strings.{Handed, IsString}
use Rattle.reread.proofs.EntryTokens.{accepted_fit, row_token}
use Rattle.reread.proofs.TokenKinds.{Reads, entry_fits, entry_string, kind_of, reread}

by-kind : (bytes : Bool) (kind place : ℕ) → kind ≡ kind_of bytes → by_kind kind place ≡ Ok (bytes, place)
unfolding by_kind
by-kind false kind place e = rw e
by-kind true kind place e = rw e

string_reread : (bytes : Bool) (kind : ℕ) → kind ≡ kind_of bytes → reread kind ≡ true
string_reread false kind e = ap reread e
string_reread true kind e = ap reread e

-- ---- over a tape that holds the reading of a text, as `read` and `repair` leave it

module _ (text tape : List ℕ) (count k : ℕ) (fit : judged_of text ≡ Ok tt) (held : Held text tape count) (i : k < count) where
  module _ (bytes : Bool) (kind : (entry_at tape k).kind ≡ kind_of bytes) where
    here : Reads bytes (drop (entry_at tape k).start text) (entry_at tape k).detail
    here = entry_string text (entry_at tape k) (row_token text tape count k held i) bytes kind

    named : named_of text tape count k ≡ Ok (bytes, (entry_at tape k).start)
    unfolding named_of inside_of
    named =
        let e : Entry = entry_at tape k in
        simp (
          lt-leb count k i,
          lt-ltb k (room_of (length tape)) (omega (arith, held.room)),
          entry_fits text e (row_token text tape count k held i) (string_reread bytes e.kind kind),
          le-ltb (room_of (length tape)) count held.room,
        )
        (by-kind bytes e.kind e.start kind)

    decoding : (room : ℕ) → decoded_answer text tape count k room ≡ room_for room (Ok (entry_at tape k).detail)
    decoding room =
        let e : Entry = entry_at tape k in
        let r = here in
        decoded_named text tape count k bytes e.start fit named room
        ∙ ap (decoded_in e.start room) r.read
        ∙ ap (λ (n : ℕ). room_for room (Ok n)) r.decoded

    part : Handed text tape count k
    part =
        let e : Entry = entry_at tape k in
        let l : Literal = here.this in
        let s : Span = record { start = e.start + l.start; end = e.start + l.end } in
        let q : contents_of text tape count k ≡ contents_in e.start (Ok l) =
        contents_named text tape count k bytes e.start fit named ∙ ap (contents_in e.start) here.read in
        either (bool_cases l.escaped) (λ x. inl (q ∙ rw x)) λ x.
        let a : contents_of text tape count k ≡ Ok s = q ∙ rw x in
        let d : decoded_answer text tape count k e.detail ≡ Ok e.detail = decoding e.detail ∙ rw (le-ltb e.detail e.detail (omega arith)) in
        inr (s, a, ap (λ (t : Told Span). length (part_of text t)) (sym a) ∙ ap length (part_decoded text tape count k s a) ∙ decoded_length text tape count k e.detail e.detail d)

  -- decoding a string takes as many bytes of room as its detail says: with less it is 22, and else it is accepted
  pub held_decoded : IsString (entry_at tape k) → (room : ℕ) → decoded_answer text tape count k room ≡ room_for room (Ok (entry_at tape k).detail)
  held_decoded (inl kind) room = decoding false kind room
  held_decoded (inr kind) room = decoding true kind room

  -- its contents are handed out as a part of the text, or 29
  pub held_contents : IsString (entry_at tape k) → Handed text tape count k
  held_contents (inl kind) = part false kind
  held_contents (inr kind) = part true kind

-- ---- over the tape that an accepted read leaves

module _ (text tape : List ℕ) (count k : ℕ) (e : read_answer text (length tape) ≡ Ok count) (i : k < count) (is : IsString (entry_at (read_tape text tape) k)) where
  decoded_read : (room : ℕ) → decoded_answer text (read_tape text tape) count k room ≡ room_for room (Ok (entry_at (read_tape text tape) k).detail)
  decoded_read room = held_decoded text (read_tape text tape) count k (accepted_fit text (length tape) count e) (after_read text tape count e) i is room

  pub read_decoded : (room : ℕ) → (entry_at (read_tape text tape) k).detail ≤ room
      → decoded_answer text (read_tape text tape) count k room ≡ Ok (entry_at (read_tape text tape) k).detail
  read_decoded room h = decoded_read room ∙ rw (le-ltb room (entry_at (read_tape text tape) k).detail h)

  pub read_too_long : (room : ℕ) → room < (entry_at (read_tape text tape) k).detail → decoded_answer text (read_tape text tape) count k room ≡ Err no_room
  read_too_long room h = decoded_read room ∙ rw (lt-ltb room (entry_at (read_tape text tape) k).detail h)

  pub read_contents : Handed text (read_tape text tape) count k
  read_contents = held_contents text (read_tape text tape) count k (accepted_fit text (length tape) count e) (after_read text tape count e) i is

-- ---- and over the one that an accepted repair leaves

kept_accepted : (before behind : ℕ) (x : Told ℕ) (p : Repaired) → with_kept before behind x ≡ Ok p → x ≡ Ok p.count
kept_accepted before behind (Ok n) p h =
    let q : record { count = n; before = before; behind = behind } ≡ p = cc in
    ap (λ (r : Repaired). Ok r.count) q
kept_accepted before behind (Err r) p h = let z : ◌≡◌ {A = ℕ} 0 1 = cc in absurd (omega arith)

module _ (old tape : List ℕ) (count a b e : ℕ) (new : List ℕ) (O : OldText old tape count a b e new) (p : Repaired) (h : repair_of tape count (length old) a b new ≡ Ok p) where
  as_read : read_answer new (length tape) ≡ Ok p.count
  unfolding fresh_call
  as_read = kept_accepted _ _ (read_answer new (length tape)) p (sym (demand3_call old tape count a b e new O).0 ∙ h)

  repair_held : Held new (repaired_tape tape count (length old) a b new) p.count
  repair_held =
      subst (λ (t : List ℕ). Held new t p.count) (sym (demand3_call old tape count a b e new O).1) (after_repair new tape count p.count O.room as_read)

  pub repair_decoded : (k room : ℕ) → k < p.count → IsString (entry_at (repaired_tape tape count (length old) a b new) k)
      → (entry_at (repaired_tape tape count (length old) a b new) k).detail ≤ room
      → decoded_answer new (repaired_tape tape count (length old) a b new) p.count k room ≡ Ok (entry_at (repaired_tape tape count (length old) a b new) k).detail
  repair_decoded k room i is l =
      let t : List ℕ = repaired_tape tape count (length old) a b new in
      held_decoded new t p.count k (accepted_fit new (length tape) p.count as_read) repair_held i is room
      ∙ rw (le-ltb room (entry_at t k).detail l)
