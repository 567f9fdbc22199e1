-- The scan as the crate has it, a whole character a step: what `scan_of` says is the same wherever the text is UTF-8 (proofs/ScanCharacters.antt).
use Rattle.std.specs.Prelude.{Ok, Err, ℕ, zero, suc, pred, ◌+◌, cond, List, [], ◌∷◌, ltb, length, drop}
use Rattle.text.specs.Refusals.{Told, eof}
use Rattle.structs.specs.declared.kinds.StructType.{StructType}
use Rattle.text.specs.Utf8.{char_len, code_of}
use Rattle.structs.specs.Kinds.{placed_kind}
use Rattle.structs.specs.Scan.{after_comma, by_step, marked_by, past_spurious}
use Rattle.structs.specs.declared.steps.Step.{Step}
use Rattle.structs.specs.declared.steps.Step.TheVariants.{Refused}

-- The character there is taken, with all its bytes; 6 where the text ends.
abbrev pub taking_char : List ℕ → Told ℕ → Step
taking_char s (Ok n) = cond (ltb n (length s)) (marked_by (code_of (drop n s)) (n + char_len (drop n s))) (Refused (eof n))
taking_char s (Err r) = Refused r

-- The step at the front of s.
unfoldable pub step_chars : List ℕ → Step
step_chars s = taking_char s (past_spurious s)

-- From the place `at`, with the bytes s in front, of which the first `left` belong to a step already judged.
unfoldable pub scan_chars_from : List ℕ → ℕ → ℕ → ℕ → Told StructType
scan_chars_from [] left braces at = Err (eof at)
scan_chars_from (a ∷ s) (suc left) braces at = scan_chars_from s left braces (at + 1)
scan_chars_from (a ∷ s) zero braces at =
    by_step (step_chars (a ∷ s)) braces (λ n level. scan_chars_from s (pred n) level (at + 1)) (λ n. placed_kind (at + n) (after_comma (drop n (a ∷ s)))) at

-- From a place inside one bracket.
unfoldable pub scan_chars_of : List ℕ → ℕ → Told StructType
scan_chars_of s at = scan_chars_from (drop at s) 0 1 at
