-- The starred worked texts (document 01): "Those with * are proved of the definitions together, as a single statement over one list."
use Rattle.std.specs.Prelude.{Ok, Err, ℕ, true, false, List, [], ◌∷◌, ◌≡◌, length}
use Rattle.text.specs.Refusals.{Told, refusal, invalid_escape}
use Rattle.text.specs.declared.reason.EscapeReason.TheVariants.{NotByteEscaped}
use Rattle.integers.specs.declared.width.Width.{Width}
use Rattle.integers.specs.declared.width.Width.TheVariants.{I8, U8}
use Rattle.read.specs.Read.{read_answer, read_tape}
use Rattle.structs.specs.declared.kinds.NewtypeMode.{NewtypeMode}
use Rattle.structs.specs.declared.kinds.NewtypeMode.TheVariants.{NoParensMeanUnit}
use Rattle.structs.specs.declared.kinds.TupleMode.{TupleMode}
use Rattle.structs.specs.declared.kinds.TupleMode.TheVariants.{DifferentiateNewtype}
use Rattle.structs.specs.declared.kinds.StructType.{StructType}
use Rattle.structs.specs.declared.kinds.StructType.TheVariants.{NewtypeTuple}
use Rattle.repair.specs.Repair.{repair_of, repaired_tape}
use Rattle.repair.specs.declared.repairer.Repaired.{Repaired}
use Rattle.sarridok.specs.declared.integer_call.Typed.{Typed}
use Rattle.sarridok.specs.Typed.{integer_of}
use Rattle.sarridok.specs.Integers.{done, integers_of, magnitudes_after, codes_after}
use Rattle.sarridok.specs.Contents.{decoded_answer, decoded_out}
use Rattle.sarridok.specs.StructKind.{struct_kind_of}
use Rattle.sarridok.specs.Walked.{walk_of, links_after}

-- What a worked text says of a call: its arguments, its answer, and a lent slice afterwards.
pub data Claim : Type 0 where
  reads : List ℕ → List ℕ → Told ℕ → List ℕ → Claim
  types : List ℕ → Width → Told Typed → Claim
  decodes : List ℕ → List ℕ → List ℕ → Told ℕ → List ℕ → Claim
  repairs : List ℕ → ℕ → ℕ → ℕ → ℕ → List ℕ → Told Repaired → List ℕ → Claim
  walks : List ℕ → List ℕ → ℕ → ℕ → List ℕ → Told Unit → List ℕ → Claim
  struct_is : List ℕ → NewtypeMode → TupleMode → Told StructType → Claim
  lists : List ℕ → List ℕ → ℕ → List ℕ → List ℕ → List ℕ → Told Unit → List ℕ → List ℕ → Claim

-- That it is so: a text read into a tape; typed at its front; the first of a tape's one entry decoded into a buffer; its struct kind at the
-- front; the tape of an old text of so many bytes, of which those from a to b were replaced, repaired; and a text and so many entries of a tape walked with a
-- limit, into links; and a list of so many entries of a tape read, into magnitudes and codes.
abbrev pub Holds : Claim → Type 0
Holds (reads text tape answer after) = (read_answer text (length tape) ≡ answer) × (read_tape text tape ≡ after)
Holds (types text width answer) = integer_of text 0 width ≡ answer
Holds (decodes text tape out answer after) = (decoded_answer text tape 1 0 (length out) ≡ answer) × (decoded_out text tape 1 0 out ≡ after)
Holds (repairs tape count old a b text answer after) = (repair_of tape count old a b text ≡ answer) × (repaired_tape tape count old a b text ≡ after)
Holds (walks text tape count limit links answer after) = (walk_of text tape count limit (length links) ≡ answer) × (links_after text tape count limit links ≡ after)
Holds (struct_is text newtype tuple answer) = struct_kind_of text 0 newtype tuple ≡ answer
Holds (lists text tape count items ms cs answer ms' cs') =
    (done (integers_of text tape count items (length ms) (length cs)) ≡ answer) × (magnitudes_after text tape count items ms cs ≡ ms')
    × (codes_after text tape count items ms cs ≡ cs')

-- That each of a list is so.
abbrev pub AllHold : List Claim → Type 0
AllHold [] = Unit {0}
AllHold (c ∷ cs) = Holds c × AllHold cs

-- A number, and the place behind it.
abbrev pub value : ℕ → ℕ → Told Typed
value n end = Ok (record { number = record { minus = false; magnitude = n }; end = end })

-- The same below zero.
abbrev pub below : ℕ → ℕ → Told Typed
below n end = Ok (record { number = record { minus = true; magnitude = n }; end = end })

-- The list: `Lock(id: 7)`; `300a`; `'\xC3'`; `\"\q`; `/*/*/`; typed u8 `255`, `256`, `99f` and `25f`, typed i8 `-128`; `\"\xC3\xA9\"` decoded; the struct
-- kind of `(\"a\"/*,*/)`; `[7, 8, 9]` with the bytes from 4 to 6 replaced by `/*8,*/`. A tape or buffer has one number more than it needs: what stands
-- behind stays. Entries have five numbers, and the repair keeps 3 and 1 (document 02, CR 6).
abbrev pub texts : List Claim
texts =
    reads (0x4c ∷ 0x6f ∷ 0x63 ∷ 0x6b ∷ 0x28 ∷ 0x69 ∷ 0x64 ∷ 0x3a ∷ 0x20 ∷ 0x37 ∷ 0x29 ∷ [])
    (0 ∷ 0 ∷ 0 ∷ 0 ∷ 0 ∷ 0 ∷ 0 ∷ 0 ∷ 0 ∷ 0 ∷ 0 ∷ 0 ∷ 0 ∷ 0 ∷ 0 ∷ 0 ∷ 0 ∷ 0 ∷ 0 ∷ 0 ∷ 0 ∷ 0 ∷ 0 ∷ 0 ∷ 0 ∷ 0 ∷ 0 ∷ 0 ∷ 0 ∷ 0 ∷ 77 ∷ [])
    (Ok 6)
    (9 ∷ 0 ∷ 4 ∷ 0 ∷ 0 ∷ 1 ∷ 4 ∷ 5 ∷ 0 ∷ 0 ∷ 9 ∷ 5 ∷ 7 ∷ 0 ∷ 0 ∷ 8 ∷ 7 ∷ 8 ∷ 0 ∷ 0 ∷ 11 ∷ 9 ∷ 10 ∷ 5 ∷ 1 ∷ 2 ∷ 10 ∷ 11 ∷ 0 ∷ 0 ∷ 77 ∷ [])
    ∷ reads (0x33 ∷ 0x30 ∷ 0x30 ∷ 0x61 ∷ []) (0 ∷ 0 ∷ 0 ∷ 0 ∷ 0 ∷ 0 ∷ 0 ∷ 0 ∷ 0 ∷ 0 ∷ 77 ∷ []) (Ok 2) (12 ∷ 0 ∷ 3 ∷ 0 ∷ 0 ∷ 9 ∷ 3 ∷ 4 ∷ 0 ∷ 0 ∷ 77 ∷ [])
    ∷ reads (0x27 ∷ 0x5c ∷ 0x78 ∷ 0x43 ∷ 0x33 ∷ 0x27 ∷ []) (77 ∷ []) (Err (invalid_escape NotByteEscaped 5)) (77 ∷ [])
    ∷ reads (0x22 ∷ 0x5c ∷ 0x71 ∷ []) (77 ∷ []) (Err (refusal 17 1)) (77 ∷ [])
    ∷ reads (0x2f ∷ 0x2a ∷ 0x2f ∷ 0x2a ∷ 0x2f ∷ []) (77 ∷ []) (Err (refusal 4 5)) (77 ∷ [])
    ∷ types (0x32 ∷ 0x35 ∷ 0x35 ∷ []) U8 (value 255 3)
    ∷ types (0x32 ∷ 0x35 ∷ 0x36 ∷ []) U8 (Err (refusal 10 3))
    ∷ types (0x39 ∷ 0x39 ∷ 0x66 ∷ []) U8 (Err (refusal 10 3))
    ∷ types (0x32 ∷ 0x35 ∷ 0x66 ∷ []) U8 (Err (refusal 9 2))
    ∷ types (0x2d ∷ 0x31 ∷ 0x32 ∷ 0x38 ∷ []) I8 (below 128 4)
    ∷ decodes (0x22 ∷ 0x5c ∷ 0x78 ∷ 0x43 ∷ 0x33 ∷ 0x5c ∷ 0x78 ∷ 0x41 ∷ 0x39 ∷ 0x22 ∷ []) (14 ∷ 0 ∷ 10 ∷ 2 ∷ 0 ∷ []) (0 ∷ 0 ∷ 77 ∷ []) (Ok 2) (0xc3 ∷ 0xa9 ∷ 77 ∷ [])
    ∷ struct_is (0x28 ∷ 0x22 ∷ 0x61 ∷ 0x22 ∷ 0x2f ∷ 0x2a ∷ 0x2c ∷ 0x2a ∷ 0x2f ∷ 0x29 ∷ []) NoParensMeanUnit DifferentiateNewtype (Ok NewtypeTuple)
    ∷ repairs
    (3 ∷ 0 ∷ 1 ∷ 0 ∷ 0 ∷ 11 ∷ 1 ∷ 2 ∷ 5 ∷ 0 ∷ 7 ∷ 2 ∷ 3 ∷ 0 ∷ 0 ∷ 11 ∷ 4 ∷ 5 ∷ 5 ∷ 1 ∷ 7 ∷ 5 ∷ 6 ∷ 0 ∷ 0 ∷ 11 ∷ 7 ∷ 8 ∷ 5 ∷ 1 ∷ 4 ∷ 8 ∷ 9 ∷ 0 ∷ 0 ∷ 77 ∷ []) 7 9 4 6
    (0x5b ∷ 0x37 ∷ 0x2c ∷ 0x20 ∷ 0x2f ∷ 0x2a ∷ 0x38 ∷ 0x2c ∷ 0x2a ∷ 0x2f ∷ 0x20 ∷ 0x39 ∷ 0x5d ∷ [])
    (Ok (record { count = 5; before = 3; behind = 1 }))
    (3 ∷ 0 ∷ 1 ∷ 0 ∷ 0 ∷ 11 ∷ 1 ∷ 2 ∷ 5 ∷ 0 ∷ 7 ∷ 2 ∷ 3 ∷ 0 ∷ 0 ∷ 11 ∷ 11 ∷ 12 ∷ 5 ∷ 8 ∷ 4 ∷ 12 ∷ 13 ∷ 0 ∷ 0 ∷ 0 ∷ 0 ∷ 0 ∷ 0 ∷ 0 ∷ 0 ∷ 0 ∷ 0 ∷ 0 ∷ 0 ∷ 77 ∷ [])
    ∷ []
