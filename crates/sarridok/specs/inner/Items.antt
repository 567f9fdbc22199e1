-- The items of `integers` as its inner functions have them: one item with its refusal at the item's number, and the verdict over all.
use Rattle.std.specs.Prelude.{Ok, Err, ℕ, List}
use Rattle.text.specs.Refusals.{Told, at_place, other_kind}
use Rattle.integers.specs.declared.integer.Integer.{Integer}
use Rattle.integers.specs.declared.integer.Integer.TheVariants as integer
use Rattle.sarridok.specs.declared.items.Coded.{Coded}
use Rattle.sarridok.specs.Integers.{code_for}

-- An answer whose refusal stands at the item's number.
abbrev pub at_item : ℕ → Told Coded → Told Coded
at_item k (Ok c) = Ok c
at_item k (Err r) = Err (at_place r k)

-- A typed read over a part of the text, as it is written.
abbrev pub coded_in : ℕ → Integer → Told Coded
coded_in width (integer.Read v end) = Ok (record { magnitude = v.magnitude; code = code_for width v })
coded_in width integer.OtherSuffix = Err other_kind
coded_in width (integer.Refused r) = Err r

-- Whether all items read, or the refusal of the first that does not.
abbrev pub verdict_of : Told (List Coded) → Told Unit
verdict_of (Ok cs) = Ok tt
verdict_of (Err r) = Err r
