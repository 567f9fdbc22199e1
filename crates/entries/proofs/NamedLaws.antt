-- Where the string that an entry names lies: its place and its contents within the text. Assumes nothing.
use Rattle.std.proofs.Common.{Ok, Err}
use Rattle.strings.specs.declared.literal.Literal.{Literal}
use Prim.Native.Nat.{ℕ, ◌≤◌}
use native.Mathlib.Omega.{arith}
use mathlib.Core.Path.{◌≡◌, refl, subst}
use mathlib.Core.Bool.{Bool, true}
use mathlib.Core.List.{List}
use lib.Dec.{eqb, ltb, leb}
use lib.ListN.{length, drop}
use Rattle.text.specs.Refusals.{Told}
use Rattle.text.specs.Judged.{place_fits}
use Rattle.text.proofs.Choices.{cond_cases}
use Rattle.text.proofs.JudgeLaws.{place_within}
use Rattle.rows.specs.declared.Entry.{Entry}
use Rattle.rows.specs.Rows.{room_of, entry_at}
use Rattle.entries.specs.Named.{by_kind, inside_of, named_of, literal_of}
use Rattle.entries.specs.declared.view.Span.{Span}
use Rattle.entries.specs.Contents.{by_named, contents_in}
use Rattle.entries.proofs.LiteralLaws.{read_inside}

-- the place fits the text
abbrev pub Fits : List ℕ → Told (Bool × ℕ) → Type 0
Fits text (Ok (bytes, place)) = place_fits text place ≡ true
Fits text (Err r) = Unit

-- and lies within it
abbrev pub Within : List ℕ → Told (Bool × ℕ) → Type 0
Within text (Ok (bytes, place)) = place ≤ length text
Within text (Err r) = Unit

kind_fits : (text : List ℕ) (kind place : ℕ) → place_fits text place ≡ true → Fits text (by_kind kind place)
unfolding by_kind
kind_fits text kind place h =
    cond_cases (Fits text) (eqb kind 14) _ _ (λ a. h) (λ a. cond_cases (Fits text) (eqb kind 15) _ _ (λ b. h) (λ b. tt))

inside_fits : (text : List ℕ) (room count : ℕ) (e : Entry) → Fits text (inside_of text room count e)
unfolding inside_of
inside_fits text room count e =
    cond_cases (Fits text) (place_fits text e.start) _ _
    (λ a. cond_cases (Fits text) (ltb room count) _ _ (λ b. tt) (λ b. kind_fits text e.kind e.start a)) (λ a. tt)

module _ (text tape : List ℕ) (count entry : ℕ) where
  named_all : Fits text (named_of text tape count entry)
  unfolding named_of
  named_all =
      cond_cases (Fits text) (leb count entry) _ _ (λ a. tt)
      (λ a. cond_cases (Fits text) (ltb entry (room_of (length tape))) _ _ (λ b. inside_fits text (room_of (length tape)) count (entry_at tape entry)) (λ b. tt))

  pub named_fits : (n : Told (Bool × ℕ)) → named_of text tape count entry ≡ n → Fits text n
  named_fits n e = subst (Fits text) e named_all

  pub named_within : (n : Told (Bool × ℕ)) → named_of text tape count entry ≡ n → Within text n
  named_within (Ok (bytes, place)) e = place_within text place (named_fits (Ok (bytes, place)) e)
  named_within (Err r) e = tt

-- a part of the text
abbrev pub Inside : List ℕ → Told Span → Type 0
Inside text (Ok s) = (s.start ≤ s.end) × (s.end ≤ length text)
Inside text (Err r) = Unit

module _ (text : List ℕ) where
  contents_read : (bytes : Bool) (place : ℕ) (a : Told Literal) → place ≤ length text → literal_of bytes (drop place text) ≡ a → Inside text (contents_in place a)
  contents_read bytes place (Ok l) h e =
      let q = read_inside bytes text place h l e in
      cond_cases (Inside text) l.escaped _ _ (λ p. tt) (λ p. (omega (arith, q.0), q.1))
  contents_read bytes place (Err r) h e = tt

  -- the contents of the string that an entry names are one
  pub contents_inside : (n : Told (Bool × ℕ)) → Within text n → Inside text (by_named n (λ bytes place. contents_in place (literal_of bytes (drop place text))))
  contents_inside (Ok (bytes, place)) h = contents_read bytes place (literal_of bytes (drop place text)) h refl
  contents_inside (Err r) h = tt
