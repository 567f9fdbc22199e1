-- What was read at a place of the text: the answer over a part, and where it lies. Assumes nothing.
use Rattle.std.proofs.Common.{Ok, Err}
use Rattle.text.specs.Refusals.{Told}
use Prim.Native.Nat.{ℕ, ◌+◌, ◌-◌, ◌≤◌}
use native.Mathlib.Omega.{arith}
use mathlib.Core.Path.{◌≡◌, ◌∙◌, ap, subst, sym}
use mathlib.Core.Bool.{Bool, true, false}
use mathlib.Core.List.{List}
use lib.ListN.{length, take, drop, length-drop}
use Rattle.text.specs.declared.refusal.Refusal.{Refusal}
use Rattle.text.proofs.Lists.{tail_part}
use Rattle.strings.specs.declared.literal.Literal.{Literal}
use Rattle.strings.proofs.Bounds.{Bounded-string, string_bounded, byte_string_bounded}
use Rattle.entries.specs.Named.{literal_of}

literal_bounded : (bytes : Bool) (s : List ℕ) → Bounded-string s (literal_of bytes s)
literal_bounded false s = string_bounded s
literal_bounded true s = byte_string_bounded s

module _ (bytes : Bool) (text : List ℕ) (place : ℕ) where
  -- what `&text[place..]` was found to hold
  pub read_found : (a b : Told Literal) → a ≡ literal_of bytes (take (length text - place) (drop place text)) → a ≡ b → literal_of bytes (drop place text) ≡ b
  read_found a b e q = sym (e ∙ ap (literal_of bytes) (tail_part text place)) ∙ q

  at_bounded : (b : Told Literal) → literal_of bytes (drop place text) ≡ b → Bounded-string (drop place text) b
  at_bounded b e = subst (Bounded-string (drop place text)) e (literal_bounded bytes (drop place text))

  module _ (h : place ≤ length text) where
    -- its contents lie within the text
    pub read_inside : (l : Literal) → literal_of bytes (drop place text) ≡ Ok l → (l.start ≤ l.end) × (place + l.end ≤ length text)
    read_inside l e =
        let b = at_bounded (Ok l) e in
        (b.2, omega (arith, b.1, b.3, length-drop place text))

    -- its refusal stands within the text
    pub refused_inside : (r : Refusal) → literal_of bytes (drop place text) ≡ Err r → place + r.place ≤ length text
    refused_inside r e = let b : r.place ≤ length (drop place text) = at_bounded (Err r) e in omega (arith, length-drop place text)
