-- The list of extensions (document 01, module 7): "`enable` takes one or more of .., commas between, one allowed behind. In the list no name is 21 and a
-- missing comma 20."
use Rattle.std.specs.Prelude.{Ok, Err, Some, None, Option, ℕ, zero, suc, pred, ◌+◌, ◌-◌, Bool, true, cond, List, [], ◌∷◌, drop}
use Rattle.text.specs.Refusals.{Told, placed_behind, eof, no_such_extension, expected_attribute_end}
use Rattle.text.specs.Ahead.{next_ahead}
use Rattle.names.specs.Identifiers.{identifier_of}
use Rattle.names.specs.declared.Identifier.{Identifier}
use Rattle.names.specs.declared.Identifier.TheVariants.{Missing, Name, RawName}
use Rattle.attributes.specs.Steps.{skip_from, all_at, consume_of}
use Rattle.attributes.specs.Extensions.{extension_of, added_to}
use Rattle.attributes.specs.declared.extensions.Extension.{Extension}
use Rattle.attributes.specs.declared.list.OtherChar.{OtherChar}
use Rattle.attributes.specs.declared.list.OtherChar.TheVariants.{Goes, Ends}
use Rattle.attributes.specs.declared.list.Item.{Item}
use Rattle.attributes.specs.declared.list.Item.TheVariants.{More, Last, NoName, NoComma}
use Rattle.attributes.specs.declared.list.Item.TheVariants as items

-- Whether a name's character stands at a place.
unfoldable pub other_char : List ℕ → ℕ → OtherChar
other_char t at = cond (next_ahead (drop at t)) Goes Ends

-- An extension by what stands behind it and its comma, if there is one.
abbrev pub by_other : OtherChar → Extension → Bool → ℕ → Item
by_other Goes e comma at = cond comma (More at e) NoComma
by_other Ends e comma at = Last at e

-- Behind an extension and its comma, if there is one.
unfoldable pub item_end : List ℕ → Extension → Bool → ℕ → Item
item_end t e comma at = by_other (other_char t at) e comma at

-- The answer by the comma.
abbrev pub by_comma : List ℕ → Extension → Told (Bool × ℕ) → Item
by_comma t e (Ok (comma, at)) = item_end t e comma at
by_comma t e (Err r) = items.Refused r

-- Behind the n bytes of an extension's name: whitespace, a comma and whitespace.
unfoldable pub behind_name : List ℕ → Extension → ℕ → Item
behind_name t e n = by_comma t e (consume_of 0x2c t (all_at true (skip_from t n)))

-- A name of n bytes, which may be an extension's.
abbrev pub by_extension_name : List ℕ → ℕ → Option Extension → Item
by_extension_name t n (Some e) = behind_name t e n
by_extension_name t n None = NoName

-- What stands where a name should; a raw name's `r#` is no part of the extension's name.
abbrev pub by_list_name : List ℕ → Identifier → Item
by_list_name t Missing = NoName
by_list_name t (Name n) = by_extension_name t n (extension_of t n)
by_list_name t (RawName n) = by_extension_name t n (extension_of (drop 2 t) (n - 2))

-- The extension that a part begins with, and what stands behind it.
unfoldable pub item_of : List ℕ → Item
item_of t = by_list_name t (identifier_of t)

-- What an item at the place `at` comes to, behind extensions of the sum: behind n bytes the list goes on.
abbrev pub by_item : Item → (ℕ → Extension → Told (ℕ × ℕ)) → ℕ → ℕ → Told (ℕ × ℕ)
by_item (More n e) on at sum = on n e
by_item (Last n e) on at sum = Ok (at + n, added_to e sum)
by_item NoName on at sum = Err (no_such_extension 0)
by_item NoComma on at sum = Err (expected_attribute_end 0)
by_item (items.Refused r) on at sum = Err (placed_behind at r)

-- The list from the place `at`, with the bytes t in front, of which the first `left` belong to an item already judged, behind extensions of the sum.
unfoldable pub list_from : List ℕ → ℕ → ℕ → ℕ → Told (ℕ × ℕ)
list_from [] left at sum = Err (eof at)
list_from (a ∷ t) (suc left) at sum = list_from t left (at + 1) sum
list_from (a ∷ t) zero at sum = by_item (item_of (a ∷ t)) (λ n e. list_from t (pred n) (at + 1) (added_to e sum)) at sum

-- The list that begins at a place.
unfoldable pub list_of : List ℕ → ℕ → Told (ℕ × ℕ)
list_of s at = list_from (drop at s) 0 at 0
