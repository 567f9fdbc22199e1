-- What is read of a name lies within its part. Assumes nothing.
use Prim.Native.Nat.{◌<◌, ◌≤◌, ℕ}
use native.Mathlib.Omega.{arith}
use mathlib.Core.Bool.{cond}
use mathlib.Core.List.{List, [], ◌∷◌}
use lib.Dec.{eqb, lit≤}
use lib.ListN.{drop, length}
use Rattle.names.proofs.IdentifierLaws.{Within, raw_long, skip_within}
use Rattle.names.specs.Classify.{begins_float, by_identifier, missing, named, suffixed, word_of}
use Rattle.names.specs.Identifiers.{skip_identifier_of}
use Rattle.names.specs.Starts.{begins_raw}
use Rattle.names.specs.declared.Identifier.{Identifier}
use Rattle.names.specs.declared.Identifier.TheVariants.{Missing, Name, RawName}
use Rattle.names.specs.declared.Word.{Word}
use Rattle.names.specs.declared.Word.TheVariants.{Float, Plain, Raw, Refused as NotName}
use Rattle.text.proofs.Choices.{cond_cases}
use Rattle.text.specs.Refusals.{expected_string, unexpected_char}
use Rattle.text.specs.declared.refusal.Refusal.{Refusal}
use Rattle.text.specs.Words.{starts_with}

abbrev pub Bounded : List ℕ → Word → Type 0
Bounded s (Plain n) = (0 < n) × (n ≤ length s)
Bounded s (Raw n) = (0 < n) × (n ≤ length s)
Bounded s (Float n suffix) = (0 < n) × (n ≤ length s) × (suffix ≤ 64)
Bounded s (NotName r) = r.place ≤ length s

suffixed_bounded : (s t : List ℕ) (n : ℕ) → 0 < n → n ≤ length s → Bounded s (suffixed t n)
unfolding suffixed
suffixed_bounded s t n p l =
    cond_cases (Bounded s) (starts_with (0x66 ∷ 0x33 ∷ 0x32 ∷ []) t) (Float n 32) (cond (starts_with (0x66 ∷ 0x36 ∷ 0x34 ∷ []) t) (Float n 64) (Plain n)) (λ e. (p, l, lit≤ tt))
    (λ e. cond_cases (Bounded s) (starts_with (0x66 ∷ 0x36 ∷ 0x34 ∷ []) t) (Float n 64) (Plain n) (λ f. (p, l, lit≤ tt)) (λ f. (p, l)))

named_bounded : (s : List ℕ) (n : ℕ) → 0 < n → n ≤ length s → Bounded s (named s n)
unfolding named
named_bounded s n p l =
    cond_cases (Bounded s) (begins_float s) _ (Plain n)
    (λ e. cond_cases (Bounded s) (eqb n 3) (Float n 0) (cond (eqb n 6) (suffixed (drop 3 s) n) (Plain n)) (λ f. (p, l, lit≤ tt))
    (λ f. cond_cases (Bounded s) (eqb n 6) (suffixed (drop 3 s) n) (Plain n) (λ g. suffixed_bounded s (drop 3 s) n p l) (λ g. (p, l))))
    (λ e. (p, l))

missing_bounded : (s : List ℕ) → (missing s).place ≤ length s
unfolding missing
missing_bounded s = cond_cases (λ (r : Refusal). r.place ≤ length s) (begins_raw s) (expected_string 2) (unexpected_char 0) (λ e. raw_long s e) (λ e. omega arith)

by_bounded : (s : List ℕ) (i : Identifier) → Within s i → Bounded s (by_identifier s i)
by_bounded s Missing w = missing_bounded s
by_bounded s (Name n) w = named_bounded s n w.0 w.1
by_bounded s (RawName n) w = (omega (arith, w.0), w.1)

pub bounded : (s : List ℕ) → Bounded s (word_of s)
unfolding word_of
bounded s = by_bounded s (skip_identifier_of s) (skip_within s)
