-- Laws of names and raw names: how far they reach. Assumes nothing.
use Prim.Native.Nat.{◌+◌, ◌≤◌, ℕ, ◌<◌}
use native.Mathlib.Omega.{arith}
use mathlib.Core.Bool.{true, cond, false}
use mathlib.Core.List.{List, [], ◌∷◌}
use mathlib.Core.Path.{◌≡◌}
use lib.Dec.{eqb, ltb}
use lib.ListN.{drop, length, length-drop}
use borrow.Author.Tests.{eqb-false}
use Rattle.names.proofs.CharLaws.{chars_le}
use Rattle.text.proofs.AheadLaws.{char_le}
use Rattle.names.specs.Characters.{char_if, chars}
use Rattle.names.specs.Identifiers.{name_len, identifier_of, plain_of, raw_of, skip_identifier_of, strict_of}
use Rattle.names.specs.Starts.{begins_raw, begins_string}
use Rattle.names.specs.declared.Identifier.{Identifier}
use Rattle.names.specs.declared.Identifier.TheVariants.{Missing, Name, RawName}
use Rattle.text.proofs.Choices.{cond_cases}
use Rattle.text.proofs.WordLaws.{starts_le}
use Rattle.text.specs.Classes.{ident_first, ident_next, ident_raw}

pub name_le : (s : List ℕ) → name_len s ≤ length s
unfolding name_len
name_le s =
    let n : ℕ = char_if ident_first s in
    cond_cases (λ (k : ℕ). k ≤ length s) (eqb n 0) 0 (n + chars ident_next (drop n s)) (λ e. omega arith)
    (λ e. omega (arith, char_le ident_first s, chars_le ident_next (drop n s), length-drop n s))

-- ---- a part that begins with `r#` has two bytes

pub raw_long : (s : List ℕ) → begins_raw s ≡ true → 2 ≤ length s
unfolding begins_raw
raw_long s h = starts_le (0x72 ∷ 0x23 ∷ []) s h

-- ---- what is found lies within its part

abbrev pub Within : List ℕ → Identifier → Type 0
Within s Missing = Unit {0}
Within s (Name n) = (0 < n) × (n ≤ length s)
Within s (RawName n) = (2 < n) × (n ≤ length s)

pub plain_within : (s : List ℕ) → Within s (plain_of s)
unfolding plain_of
plain_within s =
    cond_cases (Within s) (eqb (name_len s) 0) Missing (Name (name_len s)) (λ e. tt) (λ e. (positive (name_len s) e, name_le s))
  where
    positive : (n : ℕ) → eqb n 0 ≡ false → 0 < n
    positive n e = let h = eqb-false n 0 e in omega arith

pub raw_within : (s : List ℕ) → 2 ≤ length s → Within s (raw_of s)
unfolding raw_of
raw_within s h =
    let n : ℕ = chars ident_raw (drop 2 s) in
    let l : 2 + n ≤ length s = omega (arith, chars_le ident_raw (drop 2 s), length-drop 2 s) in
    cond_cases (Within s) (eqb n 0) Missing (RawName (2 + n)) (λ e. tt) (λ e. let z = eqb-false n 0 e in (omega arith, l))

pub strict_within : (s : List ℕ) → Within s (strict_of s)
unfolding strict_of
strict_within s =
    let n : ℕ = name_len s in
    let raw : ℕ = chars ident_raw s in
    cond_cases (Within s) (eqb n 0) Missing (cond (ltb n raw) Missing (Name n)) (λ e. tt)
    (λ e. cond_cases (Within s) (ltb n raw) Missing (Name n) (λ f. tt) (λ f. let z = eqb-false n 0 e in (omega arith, name_le s)))

-- a raw name where `r#` stands, and else
raw_or : (s : List ℕ) (i : Identifier) → Within s i → Within s (cond (begins_string s) Missing (cond (begins_raw s) (raw_of s) i))
raw_or s i w =
    cond_cases (Within s) (begins_string s) Missing (cond (begins_raw s) (raw_of s) i) (λ e. tt)
    (λ e. cond_cases (Within s) (begins_raw s) (raw_of s) i (λ r. raw_within s (raw_long s r)) (λ r. w))

pub skip_within : (s : List ℕ) → Within s (skip_identifier_of s)
unfolding skip_identifier_of
skip_within s = raw_or s (plain_of s) (plain_within s)

pub identifier_within : (s : List ℕ) → Within s (identifier_of s)
unfolding identifier_of
identifier_within s = raw_or s (strict_of s) (strict_within s)
