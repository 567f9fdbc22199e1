-- An entry that names no string is refused with one of 23 to 28; the refusals of its contents are 4 to 29. Assumes nothing.
use Rattle.std.proofs.Common.{Ok, Err}
use Rattle.strings.specs.declared.literal.Literal.{Literal}
use Prim.Native.Nat.{ℕ}
use mathlib.Core.Bool.{Bool, false, true}
use mathlib.Core.List.{List}
use mathlib.Core.Path.{refl}
use native.Mathlib.Omega.{arith}
use lib.Dec.{eqb, leb, ltb}
use lib.ListN.{length}
use Rattle.text.specs.Judged.{place_fits}
use Rattle.text.specs.Refusals.{Told}
use Rattle.rows.specs.Rows.{room_of, entry_at}
use Rattle.rows.specs.declared.Entry.{Entry}
use Rattle.entries.specs.Contents.{by_named, contents_in, decoded_in}
use Rattle.entries.specs.Named.{by_kind, inside_of, named_of, literal_of}
use Rattle.given.specs.Given.{Between, within}
use Rattle.given.proofs.Both.{both}
use Rattle.given.proofs.Front.{Own-told, inner_own, wider}
use Rattle.given.proofs.Strings.{Inner-literal, string_inner, byte_string_inner}

abbrev pub Own-named : Told (Bool × ℕ) → Type 0
Own-named (Ok (bytes, place)) = Unit
Own-named (Err r) = Between 23 28 r

by-kind : (kind place : ℕ) → Own-named (by_kind kind place)
unfolding by_kind within
by-kind kind place = both Own-named (eqb kind 14) tt (both Own-named (eqb kind 15) tt refl)

inside : (text : List ℕ) (room count : ℕ) (e : Entry) → Own-named (inside_of text room count e)
unfolding inside_of within
inside text room count e = both Own-named (place_fits text e.start) (both Own-named (ltb room count) refl (by-kind e.kind e.start)) refl

pub named_own : (text tape : List ℕ) (count entry : ℕ) → Own-named (named_of text tape count entry)
unfolding named_of within
named_own text tape count entry =
    let room = room_of (length tape) in
    both Own-named (leb count entry) refl (both Own-named (ltb entry room) (inside text room count (entry_at tape entry)) refl)

pub by-named : {A : Type 0} (n : Told (Bool × ℕ)) (own : Bool → ℕ → Told A) → Own-named n → ((bytes : Bool) (place : ℕ) → Own-told (own bytes place)) → Own-told (by_named n own)
by-named (Ok (bytes, place)) own h k = k bytes place
by-named (Err r) own h k = wider 23 28 4 29 r (omega arith) (omega arith) h

pub literal_inner : (bytes : Bool) (s : List ℕ) → Inner-literal (literal_of bytes s)
literal_inner false s = string_inner s
literal_inner true s = byte_string_inner s

pub contents-in : (place : ℕ) (a : Told Literal) → Inner-literal a → Own-told (contents_in place a)
unfolding within
contents-in place (Ok l) h = both Own-told l.escaped refl tt
contents-in place (Err r) h = inner_own r h

pub decoded-in : (place room : ℕ) (a : Told Literal) → Inner-literal a → Own-told (decoded_in place room a)
unfolding within
decoded-in place room (Ok l) h = both Own-told (ltb room l.decoded) refl tt
decoded-in place room (Err r) h = inner_own r h
