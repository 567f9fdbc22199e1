-- Nothing of an answer is cut off where it is packed: a host that takes the number apart, as bindings/c/sarridok.h says, gets every number of the answer back.
use Rattle.std.specs.Prelude.{Ok, Err, ℕ, ◌/◌, ◌%◌, ◌^◌, ◌≡◌}
use Rattle.text.specs.Refusals.{Told}
use Rattle.text.specs.declared.refusal.Refusal.{Refusal}
use Rattle.cursor.specs.declared.ParserCursor.{ParserCursor}
use Rattle.entries.specs.declared.view.Span.{Span}
use Rattle.repair.specs.declared.repairer.Repaired.{Repaired}
use Rattle.structs.specs.declared.kinds.StructType.{StructType}
use Rattle.sarridok.specs.declared.integer_call.Typed.{Typed}
use Rattle.sarridok_c.specs.Packed.{bit_of, refusal_word}
use Rattle.sarridok_c.specs.Words.{kind_word}

-- The two numbers that an accepted answer goes out with.
pub record Halves : Type 0 where
  pub upper : ℕ
  pub lower : ℕ

abbrev pub halves : ℕ → ℕ → Halves
halves a b = record { upper = a; lower = b }

-- What a host gets out of a number of 64 bits: the top bit, the 31 bits below it, and the 32 below those.
pub record Unpacks (word top upper lower : ℕ) : Type 0 where
  pub first : word / 2 ^ 63 ≡ top
  pub above : word % 2 ^ 63 / 2 ^ 32 ≡ upper
  pub below : word % 2 ^ 32 ≡ lower

-- What a host gets out of a refusal: the top bit, and its number, reason and place.
pub record Refuses (word : ℕ) (r : Refusal) : Type 0 where
  pub first : word / 2 ^ 63 ≡ 1
  pub number : word / 2 ^ 32 % 256 ≡ r.number
  pub reason : word / 2 ^ 40 % 256 ≡ r.reason
  pub place : word % 2 ^ 32 ≡ r.place

-- An answer is got back whole: whether it is a refusal, and its numbers.
abbrev pub Whole : {A : Type 0} → (A → ℕ) → (A → Halves) → Told A → Type 0
Whole word parts (Ok a) = Unpacks (word a) 0 (parts a).upper (parts a).lower
Whole word parts (Err r) = Refuses (refusal_word r) r

-- What a host gets out of the number that a piece or the end of a text answers: 0 where no refusal stands behind the entries, else the refusal.
pub record Tells (word : ℕ) (d : Refusal) : Type 0 where
  pub none : d.number ≡ 0 → word ≡ 0
  pub some : (d.number ≡ 0 → ⊥) → Refuses word d

-- Such an answer is got back whole: the refusal behind its entries, or the one that stands alone.
abbrev pub WholeBehind : {A : Type 0} → (A → ℕ) → (A → Refusal) → Told A → Type 0
WholeBehind word behind (Ok a) = Tells (word a) (behind a)
WholeBehind word behind (Err r) = Refuses (refusal_word r) r

-- The two numbers of each call: how many entries or bytes,
abbrev pub count_parts : ℕ → Halves
count_parts n = halves 0 n

-- nothing,
abbrev pub done_parts : Unit {0} → Halves
done_parts t = halves 0 0

-- how many entries,
abbrev pub repaired_parts : Repaired → Halves
repaired_parts r = halves 0 r.count

-- a minus and the place behind the number,
abbrev pub typed_parts : Typed → Halves
typed_parts t = halves (bit_of t.number.minus) t.end

-- where the contents begin and end,
abbrev pub span_parts : Span → Halves
span_parts s = halves s.start s.end

-- the kind's number,
abbrev pub kind_parts : StructType → Halves
kind_parts k = halves 0 (kind_word k)

-- and the cursor's place.
abbrev pub cursor_parts : ParserCursor → Halves
cursor_parts c = halves 0 c.cursor
