-- The scan over a value (document 01, module 8; "the struct scan leaves from inside at the deciding comma"). The crate's loop has `braces` from 1 on:
-- each turn passes over what may hold spurious brackets, then takes one character. Here it takes one byte: the bytes behind a character's first are plain.
use Rattle.std.specs.Prelude.{Ok, Err}
use Rattle.text.specs.Refusals.{Told}
use Rattle.structs.specs.declared.kinds.StructType.{StructType}
use Rattle.std.specs.Prelude.{ℕ, zero, suc, pred, ◌+◌, ◌-◌, cond, List, [], ◌∷◌, eqb, ltb, length, get_or, drop}
use Rattle.text.specs.Refusals.{eof, placed_behind}
use Rattle.text.specs.Classes.{one_of}
use Rattle.structs.specs.Kinds.{placed_kind}
use Rattle.structs.specs.Passes.{past_gap, past_char, past_string, past_byte_string}
use Rattle.structs.specs.declared.kinds.StructType.TheVariants as kind
use Rattle.structs.specs.declared.steps.Step.{Step}
use Rattle.structs.specs.declared.steps.Step.TheVariants.{Opening, Closing, Comma, Plain, Refused}

-- ---- one step

-- A step of n bytes that ends with the byte c: an opening bracket, a closing one, a comma, or another.
unfoldable pub marked_by : ℕ → ℕ → Step
marked_by c n =
    cond (one_of (0x28 ∷ 0x5B ∷ 0x7B ∷ []) c) (Opening n)
    (cond (one_of (0x29 ∷ 0x5D ∷ 0x7D ∷ []) c) (Closing n)
    (cond (eqb c 0x2C) (Comma n) (Plain n)))

-- Behind what may hold spurious brackets: a gap, a char, a string, a byte string, a gap.
unfoldable pub past_spurious : List ℕ → Told ℕ
past_spurious s = past_gap s (past_byte_string s (past_string s (past_char s (past_gap s (Ok 0)))))

-- The byte there is taken; 6 where the text ends.
abbrev pub taking : List ℕ → Told ℕ → Step
taking s (Ok n) = cond (ltb n (length s)) (marked_by (get_or s n 0) (n + 1)) (Refused (eof n))
taking s (Err r) = Refused r

-- The step at the front of s.
unfoldable pub step_of : List ℕ → Step
step_of s = taking s (past_spurious s)

-- ---- step by step

-- At the place behind the whitespace there, `)` ends a tuple of one element.
abbrev pub comma_then : List ℕ → Told ℕ → Told StructType
comma_then s (Ok i) = Ok (cond (eqb (get_or s i 0) 0x29) kind.NewtypeTuple kind.NonNewtypeTuple)
comma_then s (Err r) = Err r

-- Behind a comma that decides.
unfoldable pub after_comma : List ℕ → Told StructType
after_comma s = comma_then s (past_gap s (Ok 0))

-- What a step comes to, by the number of open brackets: the scan goes on behind n bytes with as many as then are open, or ends.
abbrev pub by_step : Step → ℕ → (ℕ → ℕ → Told StructType) → (ℕ → Told StructType) → ℕ → Told StructType
by_step (Opening n) braces on comma at = on n (braces + 1)
by_step (Closing n) braces on comma at = cond (eqb (braces - 1) 0) (Ok kind.NewtypeTuple) (on n (braces - 1))
by_step (Comma n) braces on comma at = cond (eqb braces 1) (comma n) (on n braces)
by_step (Plain n) braces on comma at = on n braces
by_step (Refused r) braces on comma at = Err (placed_behind at r)

-- From the place `at`, with the bytes s in front, of which the first `left` belong to a step already judged.
unfoldable pub scan_from : List ℕ → ℕ → ℕ → ℕ → Told StructType
scan_from [] left braces at = Err (eof at)
scan_from (a ∷ s) (suc left) braces at = scan_from s left braces (at + 1)
scan_from (a ∷ s) zero braces at =
    by_step (step_of (a ∷ s)) braces (λ n level. scan_from s (pred n) level (at + 1)) (λ n. placed_kind (at + n) (after_comma (drop n (a ∷ s)))) at

-- From a place inside one bracket.
unfoldable pub scan_of : List ℕ → ℕ → Told StructType
scan_of s at = scan_from (drop at s) 0 1 at
