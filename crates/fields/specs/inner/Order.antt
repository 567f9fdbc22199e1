-- The order of names that a long list of fields is sorted by: byte by byte, and of one name by the entry. Any order would do.
use Rattle.std.specs.Prelude.{ℕ, ◌+◌, ◌-◌, ◌*◌, ◌%◌, Bool, true, false, cond, List, [], ◌∷◌, ◌≡◌, ltb, length, get_or}
use Rattle.std.specs.declared.option.Option.{Option}
use Rattle.std.specs.declared.option.Option.TheVariants.{Some, None}
use Rattle.std.specs.declared.cmp.Ordering.{Ordering}
use Rattle.std.specs.declared.cmp.Ordering.TheVariants.{Less, Equal, Greater}
use Rattle.fields.specs.inner.Again.{earlier, In, FirstIn}
use Rattle.fields.specs.Names.{HasName}

-- The first byte that differs decides; where one list goes on, it stands behind.
unfoldable pub order_of : List ℕ → List ℕ → Ordering
order_of [] [] = Equal
order_of [] (b ∷ t) = Less
order_of (a ∷ s) [] = Greater
order_of (a ∷ s) (b ∷ t) = cond (ltb a b) Less (cond (ltb b a) Greater (order_of s t))

-- Of one name the earlier entry stands first.
abbrev pub by_order : Ordering → ℕ → ℕ → Bool
by_order Less x y = true
by_order Equal x y = ltb x y
by_order Greater x y = false

-- Entry x comes before entry y.
abbrev pub comes_before : (ℕ → List ℕ) → ℕ → ℕ → Bool
comes_before nm x y = by_order (order_of (nm x) (nm y)) x y

-- A number below 128 for a name of one byte at least: the same for the same name.
abbrev pub slot_of : List ℕ → ℕ
slot_of n = (length n - 1 + 8 * get_or n 0 0 + get_or n (length n - 1) 0) % 128

-- Each of the entries has a name in the text.
abbrev pub AllNamed : List ℕ → List ℕ → List ℕ → Type 0
AllNamed text tape es = (x : ℕ) → In x es → HasName text tape x

-- The same entries, in whatever order.
pub record SameEntries (es fs : List ℕ) : Type 0 where
  pub as_many : length fs ≡ length es
  pub none_new : (x : ℕ) → In x fs → In x es
  pub none_lost : (x : ℕ) → In x es → In x fs

-- Two fields of one name, of which the later repeats the other; one and the same field does not.
unfoldable pub paired_of : Option ℕ → ℕ → ℕ → Option ℕ
paired_of found x y = cond (ltb x y) (earlier found (Some y)) (cond (ltb y x) (earlier found (Some x)) found)

-- What a look at neighbours tells is the first that repeats.
pub data Tells (nm : ℕ → List ℕ) (es : List ℕ) : Option (Option ℕ) → Type 0 where
  told : {a : Option ℕ} → FirstIn nm es a → Tells nm es (Some a)
  unsorted : Tells nm es None
