-- Where the reading of an attribute stands when it ends or is refused (document 02, change request 3: "However the text is cut, .. the last answer [is that] of
-- one reading"): what was refused stays refused once a stop byte has come there. It is the crate's cursor, and not the `#`, where document 01 puts 19, 20 and 21.
use Rattle.text.specs.Refusals.{Told}
use Rattle.attributes.specs.declared.extensions.Extension.{Extension}
use Rattle.strings.specs.declared.literal.Literal.{Literal}
use Rattle.std.specs.Prelude.{ℕ, zero, suc, pred, ◌+◌, ◌-◌, Bool, true, cond, List, [], ◌∷◌, eqb, drop, get_or, Ok, Err, Some, None, Option}
use Rattle.names.specs.Identifiers.{identifier_of}
use Rattle.names.specs.declared.Identifier.{Identifier}
use Rattle.names.specs.declared.Identifier.TheVariants.{Missing, Name, RawName}
use Rattle.strings.specs.Strings.{string_of}
use Rattle.attributes.specs.Attributes.{opened_of}
use Rattle.attributes.specs.Extensions.{extension_of}
use Rattle.attributes.specs.List.{item_of, list_of}
use Rattle.attributes.specs.Steps.{skip_from, all_at, consume_from, consume_of, sign_from}
use Rattle.attributes.specs.Words.{keyword_at}
use Rattle.attributes.specs.declared.words.Keyword.{Keyword}
use Rattle.attributes.specs.declared.words.Keyword.TheVariants.{Enable, Text, NoKeyword}
use Rattle.attributes.specs.declared.list.Item.{Item}
use Rattle.attributes.specs.declared.list.Item.TheVariants.{More, Last, NoName, NoComma}
use Rattle.attributes.specs.declared.list.Item.TheVariants as items

-- ---- steps

-- Behind a step, or at its refusal's place.
abbrev pub step_end : Told ℕ → ℕ
step_end (Ok p) = p
step_end (Err r) = r.place

-- The same of signs, all found or not.
abbrev pub all_end : Told (Bool × ℕ) → ℕ
all_end (Ok (all, p)) = p
all_end (Err r) = r.place

-- At a sign that has to stand at a place: behind it and its whitespace, or where it is missing.
unfoldable pub sign_here : ℕ → List ℕ → ℕ → ℕ
sign_here b s p = cond (eqb (get_or s p 0) b) (step_end (skip_from s (p + 1))) p

-- By the whitespace in front of it.
abbrev pub sign_by : ℕ → List ℕ → Told ℕ → ℕ
sign_by b s (Ok p) = sign_here b s p
sign_by b s (Err r) = r.place

-- A sign that has to stand there, between whitespace.
unfoldable pub sign_stood : ℕ → List ℕ → ℕ → ℕ
sign_stood b s at = sign_by b s (skip_from s at)

-- ---- the list of extensions

-- Behind a name of n bytes, and behind its comma if it is an extension's.
abbrev pub named_stood : List ℕ → ℕ → Option Extension → ℕ
named_stood t n (Some e) = all_end (consume_of 0x2c t (all_at true (skip_from t n)))
named_stood t n None = n

-- The same by the name, or where none is found.
abbrev pub name_stood : List ℕ → Identifier → ℕ
name_stood t Missing = 0
name_stood t (Name n) = named_stood t n (extension_of t n)
name_stood t (RawName n) = named_stood t n (extension_of (drop 2 t) (n - 2))

-- In the item that a part begins with.
unfoldable pub item_stood : List ℕ → ℕ
item_stood t = name_stood t (identifier_of t)

-- Where the list goes on behind an item, or `here`, within it.
abbrev pub by_stood_item : Item → (ℕ → ℕ) → ℕ → ℕ
by_stood_item (More n e) on here = on n
by_stood_item (Last n e) on here = here
by_stood_item NoName on here = here
by_stood_item NoComma on here = here
by_stood_item (items.Refused r) on here = here

-- In the list from the place `at`, with the bytes t in front, of which the first `left` belong to an item already judged.
unfoldable pub list_stood : List ℕ → ℕ → ℕ → ℕ
list_stood [] left at = at
list_stood (a ∷ t) (suc left) at = list_stood t left (at + 1)
list_stood (a ∷ t) zero at = by_stood_item (item_of (a ∷ t)) (λ n. list_stood t (pred n) (at + 1)) (at + item_stood (a ∷ t))

-- ---- the end of an attribute

-- At the `]`: behind it, or where it is missing. Where not all before it was found, the whitespace behind it is passed too.
unfoldable pub end_stood : List ℕ → Bool → ℕ → ℕ
end_stood s all p = cond all (cond (eqb (get_or s p 0) 0x5d) (p + 1) p) (sign_here 0x5d s p)

-- By the `)`.
abbrev pub bracket_stood : List ℕ → Told (Bool × ℕ) → ℕ
bracket_stood s (Ok (all, p)) = end_stood s all p
bracket_stood s (Err r) = r.place

-- By the list that begins at p.
abbrev pub listed_stood : List ℕ → ℕ → Told (ℕ × ℕ) → ℕ
listed_stood s p (Ok (q, sum)) = bracket_stood s (consume_from 0x29 s true q)
listed_stood s p (Err r) = list_stood (drop p s) 0 p

-- By the whitespace behind a string.
abbrev pub behind_stood : List ℕ → Told ℕ → ℕ
behind_stood s (Ok p) = end_stood s true p
behind_stood s (Err r) = r.place

-- By the string at p.
abbrev pub string_stood : List ℕ → ℕ → Told Literal → ℕ
string_stood s p (Ok l) = behind_stood s (skip_from s (p + l.len))
string_stood s p (Err r) = p + r.place

-- ---- the whole

-- Behind `enable`, by the `(`.
abbrev pub enable_by : List ℕ → ℕ → Told ℕ → ℕ
enable_by s at (Ok p) = listed_stood s p (list_of s p)
enable_by s at (Err r) = sign_stood 0x28 s at

-- Behind `enable`.
unfoldable pub enable_stood : List ℕ → ℕ → ℕ
enable_stood s at = enable_by s at (sign_from 0x28 s at)

-- Behind `type` or `schema`, by the `=`.
abbrev pub value_by : List ℕ → ℕ → Told ℕ → ℕ
value_by s at (Ok p) = string_stood s p (string_of (drop p s))
value_by s at (Err r) = sign_stood 0x3d s at

-- Behind `type` or `schema`.
unfoldable pub value_stood : List ℕ → ℕ → ℕ
value_stood s at = value_by s at (sign_from 0x3d s at)

-- By the word at a place.
abbrev pub keyword_stood : List ℕ → ℕ → Keyword → ℕ
keyword_stood s at (Enable p) = enable_stood s p
keyword_stood s at (Text p) = value_stood s p
keyword_stood s at NoKeyword = at

-- By the three signs in front.
abbrev pub opened_stood : List ℕ → Told (Bool × ℕ) → ℕ
opened_stood s (Ok (all, at)) = cond all (keyword_stood s at (keyword_at s at)) at
opened_stood s (Err r) = r.place

-- In the attribute that a part begins with.
unfoldable pub attribute_stood : List ℕ → ℕ
attribute_stood s = opened_stood s (opened_of s)
