-- The refusals of an attribute's list of extensions are inner. Assumes nothing.
use Rattle.std.proofs.Common.{Ok, Err, Some, None, Option}
use Rattle.text.specs.Refusals.{Told}
use Prim.Native.Nat.{ℕ, ◌+◌, ◌-◌, zero, suc, pred}
use mathlib.Core.Bool.{Bool, true}
use mathlib.Core.List.{List, [], ◌∷◌}
use mathlib.Core.Path.{refl}
use lib.ListN.{drop}
use Rattle.attributes.specs.Extensions.{extension_of, added_to}
use Rattle.attributes.specs.List.{other_char, by_other, item_end, by_comma, behind_name, by_extension_name, by_list_name, item_of, by_item, list_from, list_of}
use Rattle.attributes.specs.Steps.{all_at, consume_of, skip_from}
use Rattle.attributes.specs.declared.extensions.Extension.{Extension}
use Rattle.attributes.specs.declared.list.Item.{Item}
use Rattle.attributes.specs.declared.list.Item.TheVariants.{More, Last, NoName, NoComma}
use Rattle.attributes.specs.declared.list.Item.TheVariants as items
use Rattle.attributes.specs.declared.list.OtherChar.{OtherChar}
use Rattle.attributes.specs.declared.list.OtherChar.TheVariants.{Goes, Ends}
use Rattle.names.specs.Identifiers.{identifier_of}
use Rattle.names.specs.declared.Identifier.{Identifier}
use Rattle.names.specs.declared.Identifier.TheVariants.{Missing, Name, RawName}
use Rattle.inner.specs.Inner.{Inner, within}
use Rattle.inner.proofs.Both.{both}
use Rattle.inner.proofs.Steps.{Inner-all, all-at, consume, skip_inner}

abbrev Inner-item : Item → Type 0
Inner-item (More n e) = Unit
Inner-item (Last n e) = Unit
Inner-item NoName = Unit
Inner-item NoComma = Unit
Inner-item (items.Refused r) = Inner r

abbrev pub Inner-listed : Told (ℕ × ℕ) → Type 0
Inner-listed (Ok (at, sum)) = Unit
Inner-listed (Err r) = Inner r

by-other : (o : OtherChar) (e : Extension) (comma : Bool) (at : ℕ) → Inner-item (by_other o e comma at)
by-other Goes e comma at = both Inner-item comma tt tt
by-other Ends e comma at = tt

by-comma : (t : List ℕ) (e : Extension) (a : Told (Bool × ℕ)) → Inner-all a → Inner-item (by_comma t e a)
unfolding item_end
by-comma t e (Ok (comma, at)) h = by-other (other_char t at) e comma at
by-comma t e (Err r) h = h

behind-name : (t : List ℕ) (e : Extension) (n : ℕ) → Inner-item (behind_name t e n)
unfolding behind_name
behind-name t e n =
    let a = all_at true (skip_from t n) in
    by-comma t e (consume_of 0x2c t a) (consume 0x2c t a (all-at true (skip_from t n) (skip_inner t n)))

by-named : (t : List ℕ) (n : ℕ) (x : Option Extension) → Inner-item (by_extension_name t n x)
by-named t n (Some e) = behind-name t e n
by-named t n None = tt

by-identifier : (t : List ℕ) (i : Identifier) → Inner-item (by_list_name t i)
by-identifier t Missing = tt
by-identifier t (Name n) = by-named t n (extension_of t n)
by-identifier t (RawName n) = by-named t n (extension_of (drop 2 t) (n - 2))

item : (t : List ℕ) → Inner-item (item_of t)
unfolding item_of
item t = by-identifier t (identifier_of t)

by-item : (i : Item) (on : ℕ → Extension → Told (ℕ × ℕ)) (at sum : ℕ) → Inner-item i → ((n : ℕ) (e : Extension) → Inner-listed (on n e)) → Inner-listed (by_item i on at sum)
unfolding within
by-item (More n e) on at sum h k = k n e
by-item (Last n e) on at sum h k = tt
by-item NoName on at sum h k = refl
by-item NoComma on at sum h k = refl
by-item (items.Refused r) on at sum h k = h

list-from : (t : List ℕ) (left at sum : ℕ) → Inner-listed (list_from t left at sum)
unfolding list_from within
list-from [] left at sum = refl
list-from (a ∷ t) (suc left) at sum = list-from t left (at + 1) sum
list-from (a ∷ t) zero at sum = by-item (item_of (a ∷ t)) _ at sum (item (a ∷ t)) (λ n e. list-from t (pred n) (at + 1) (added_to e sum))

pub list_inner : (s : List ℕ) (at : ℕ) → Inner-listed (list_of s at)
unfolding list_of
list_inner s at = list-from (drop at s) 0 at 0
