-- Contents and decoded (document 01): "the bytes inside as a part of the caller's text where nothing was escaped; decoded into a lent buffer in every
-- case." 29: contents hold an escape or a line continuation. 22, no room, is last. "A refused call writes nothing. An accepted decoding leaves the slice
-- behind what it writes as it found it."
use Rattle.std.specs.Prelude.{Ok, Err}
use Rattle.entries.specs.declared.view.Span.{Span}
use Rattle.strings.specs.declared.literal.Literal.{Literal}
use Rattle.std.specs.Prelude.{ℕ, ◌+◌, List, ◌++◌, Bool, cond, drop, ltb}
use Rattle.text.specs.Refusals.{Told, placed_behind, no_room, holds_escape}

-- What is said of the string that an entry names; 28, 23 and 27 come before.
abbrev pub by_named : {A : Type 0} → Told (Bool × ℕ) → (Bool → ℕ → Told A) → Told A
by_named (Ok (bytes, place)) own = own bytes place
by_named (Err r) own = Err r

-- The contents of what was read at a place: 29 where anything was escaped or continued.
abbrev pub contents_in : ℕ → Told Literal → Told Span
contents_in place (Ok l) = cond l.escaped (Err holds_escape) (Ok (record { start = place + l.start; end = place + l.end }))
contents_in place (Err r) = Err (placed_behind place r)

-- How many bytes a decoding of what was read at a place writes: 22 where the buffer has no room for them.
abbrev pub decoded_in : ℕ → ℕ → Told Literal → Told ℕ
decoded_in place room (Ok l) = cond (ltb room l.decoded) (Err no_room) (Ok l.decoded)
decoded_in place room (Err r) = Err (placed_behind place r)

-- A buffer afterwards: so many bytes written at its front and the rest as it was; all as it was on a refusal.
abbrev pub written_by : Told ℕ → List ℕ → List ℕ → List ℕ
written_by (Ok n) bytes out = bytes ++ drop n out
written_by (Err r) bytes out = out
