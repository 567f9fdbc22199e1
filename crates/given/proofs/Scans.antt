-- The refusals of the scan over a struct's value are inner. Assumes nothing.
use Rattle.std.proofs.Common.{Ok, Err}
use Rattle.text.specs.Refusals.{Told}
use Rattle.strings.specs.declared.literal.Literal.{Literal}
use Rattle.structs.specs.declared.kinds.StructType.{StructType}
use Prim.Native.Nat.{ℕ, ◌+◌, ◌-◌, zero, suc, pred}
use mathlib.Core.List.{List, [], ◌∷◌}
use mathlib.Core.Path.{refl}
use lib.Dec.{eqb, ltb}
use lib.ListN.{drop, get_or, length}
use Rattle.text.specs.Classes.{one_of}
use Rattle.comments.specs.Gaps.{gap_of}
use Rattle.comments.specs.declared.gap.Gap.{Gap}
use Rattle.comments.specs.declared.gap.Gap.TheVariants as gap
use Rattle.strings.specs.Chars.{char_of}
use Rattle.strings.specs.Strings.{string_of, byte_string_of}
use Rattle.structs.specs.Kinds.{placed_kind}
use Rattle.structs.specs.Passes.{onward, behind_gap, behind_char, behind_literal, past_gap, past_char, past_string, past_byte_string}
use Rattle.structs.specs.Scan.{marked_by, past_spurious, taking, step_of, comma_then, after_comma, by_step, scan_from}
use Rattle.structs.specs.declared.steps.Step.{Step}
use Rattle.structs.specs.declared.steps.Step.TheVariants as step
use Rattle.given.specs.Given.{Inner, within}
use Rattle.given.proofs.Both.{both}
use Rattle.given.proofs.Gaps.{Inner-gap, gap_inner}
use Rattle.given.proofs.Strings.{Inner-literal, string_inner, byte_string_inner}

-- ---- what the scan passes over

abbrev pub Inner-passed : Told ℕ → Type 0
Inner-passed (Ok at) = Unit
Inner-passed (Err r) = Inner r

on : (p : Told ℕ) (f : ℕ → Told ℕ) → Inner-passed p → ((at : ℕ) → Inner-passed (f at)) → Inner-passed (onward p f)
on (Ok at) f h k = k at
on (Err r) f h k = h

behind-gap : (at : ℕ) (g : Gap) → Inner-gap g → Inner-passed (behind_gap at g)
behind-gap at (gap.Clear n) h = tt
behind-gap at (gap.InLine n) h = tt
behind-gap at (gap.Refused r) h = h

behind-char : (at : ℕ) (a : Told (ℕ × ℕ)) → Inner-passed (behind_char at a)
behind-char at (Ok (n, code)) = tt
behind-char at (Err r) = tt

behind-literal : (none at : ℕ) (a : Told Literal) → Inner-literal a → Inner-passed (behind_literal none at a)
behind-literal none at (Ok l) h = tt
behind-literal none at (Err r) h = both Inner-passed (eqb r.number none) tt h

module _ (s : List ℕ) (p : Told ℕ) (h : Inner-passed p) where
  pub past-gap : Inner-passed (past_gap s p)
  unfolding past_gap
  past-gap = on p _ h (λ at. behind-gap at (gap_of (drop at s)) (gap_inner (drop at s)))

  past-char : Inner-passed (past_char s p)
  unfolding past_char
  past-char = on p _ h (λ at. behind-char at (char_of (drop at s)))

  past-string : Inner-passed (past_string s p)
  unfolding past_string
  past-string = on p _ h (λ at. behind-literal 16 at (string_of (drop at s)) (string_inner (drop at s)))

  past-byte-string : Inner-passed (past_byte_string s p)
  unfolding past_byte_string
  past-byte-string = on p _ h (λ at. behind-literal 18 at (byte_string_of (drop at s)) (byte_string_inner (drop at s)))

-- ---- the scan

abbrev pub Inner-struct : Told StructType → Type 0
Inner-struct (Ok k) = Unit
Inner-struct (Err r) = Inner r

abbrev Inner-step : Step → Type 0
Inner-step (step.Opening n) = Unit
Inner-step (step.Closing n) = Unit
Inner-step (step.Comma n) = Unit
Inner-step (step.Plain n) = Unit
Inner-step (step.Refused r) = Inner r

marked : (c n : ℕ) → Inner-step (marked_by c n)
unfolding marked_by
marked c n =
    both Inner-step (one_of (0x28 ∷ 0x5B ∷ 0x7B ∷ []) c) tt
    (both Inner-step (one_of (0x29 ∷ 0x5D ∷ 0x7D ∷ []) c) tt (both Inner-step (eqb c 0x2C) tt tt))

take_byte : (s : List ℕ) (p : Told ℕ) → Inner-passed p → Inner-step (taking s p)
unfolding within
take_byte s (Ok n) h = both Inner-step (ltb n (length s)) (marked (get_or s n 0) (n + 1)) refl
take_byte s (Err r) h = h

one_step : (s : List ℕ) → Inner-step (step_of s)
unfolding step_of past_spurious
one_step s =
    let a = past_gap s (Ok 0) in
    let b = past_char s a in
    let c = past_string s b in
    let d = past_byte_string s c in
    take_byte s (past_gap s d) (past-gap s d (past-byte-string s c (past-string s b (past-char s a (past-gap s (Ok 0) tt)))))

comma-then : (s : List ℕ) (p : Told ℕ) → Inner-passed p → Inner-struct (comma_then s p)
comma-then s (Ok i) h = tt
comma-then s (Err r) h = h

pub after-comma : (s : List ℕ) → Inner-struct (after_comma s)
unfolding after_comma
after-comma s = comma-then s (past_gap s (Ok 0)) (past-gap s (Ok 0) tt)

pub placed : (place : ℕ) (a : Told StructType) → Inner-struct a → Inner-struct (placed_kind place a)
placed place (Ok k) h = h
placed place (Err r) h = h

by-step : (x : Step) (braces : ℕ) (go : ℕ → ℕ → Told StructType) (comma : ℕ → Told StructType) (at : ℕ) → Inner-step x
    → ((n level : ℕ) → Inner-struct (go n level)) → ((n : ℕ) → Inner-struct (comma n)) → Inner-struct (by_step x braces go comma at)
by-step (step.Opening n) braces go comma at h k l = k n (braces + 1)
by-step (step.Closing n) braces go comma at h k l = both Inner-struct (eqb (braces - 1) 0) tt (k n (braces - 1))
by-step (step.Comma n) braces go comma at h k l = both Inner-struct (eqb braces 1) (l n) (k n braces)
by-step (step.Plain n) braces go comma at h k l = k n braces
by-step (step.Refused r) braces go comma at h k l = h

pub scan_inner : (s : List ℕ) (left braces at : ℕ) → Inner-struct (scan_from s left braces at)
unfolding scan_from within
scan_inner [] left braces at = refl
scan_inner (a ∷ s) (suc left) braces at = scan_inner s left braces (at + 1)
scan_inner (a ∷ s) zero braces at =
    by-step (step_of (a ∷ s)) braces _ _ at (one_step (a ∷ s)) (λ n level. scan_inner s (pred n) level (at + 1))
    (λ n. placed (at + n) (after_comma (drop n (a ∷ s))) (after-comma (drop n (a ∷ s))))
