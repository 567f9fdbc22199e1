-- The fields that the walk has gathered: the entries that name the fields of all open brackets lie in one array, those of each bracket from its base on.
use Rattle.std.specs.Prelude.{Err, Some, None, Option, ℕ, zero, suc, ◌+◌, ◌-◌, ◌<◌, ◌≤◌, cond, List, [], ◌∷◌, ◌≡◌, length, get_or}
use Rattle.text.specs.Refusals.{Told, repeated_field}
use Rattle.fields.specs.inner.Again.{earlier}
use Rattle.fields.specs.Fields.{is_named}
use Rattle.fields.specs.Names.{HasName}

-- n entries of an array from place a on, latest first.
unfoldable pub part : List ℕ → ℕ → ℕ → List ℕ
part f a zero = []
part f a (suc n) = get_or f (a + n) 0 ∷ part f a n

-- Where the fields of the innermost of d open brackets begin, and those of no bracket.
unfoldable pub base_of : List ℕ → ℕ → ℕ
base_of bases zero = 0
base_of bases (suc d) = get_or bases d 0

-- The fields of the innermost bracket, `top` being where all end.
abbrev pub inner_of : List ℕ → List ℕ → ℕ → ℕ → List ℕ
inner_of f bases d top = part f (base_of bases d) (top - base_of bases d)

-- Those of the brackets around it.
unfoldable pub outers_of : List ℕ → List ℕ → ℕ → List (List ℕ)
outers_of f bases zero = []
outers_of f bases (suc d) = inner_of f bases d (get_or bases d 0) ∷ outers_of f bases d

-- The bases do not fall.
unfoldable pub Rising : List ℕ → ℕ → ℕ → Type 0
Rising bases zero top = Unit {0}
Rising bases (suc d) top = (get_or bases d 0 ≤ top) × Rising bases d (get_or bases d 0)

-- The first `top` of the array are entries with names, one behind the other.
pub record Fields (text tape f : List ℕ) (top : ℕ) : Type 0 where
  pub room : top ≤ length f
  pub few : top ≤ 32768
  pub named : (p : ℕ) → p < top → HasName text tape (get_or f p 0)
  pub rise : (p q : ℕ) → p < q → q < top → get_or f p 0 < get_or f q 0

-- Two arrays of one length agree below a place.
pub record Alike (f g : List ℕ) (n : ℕ) : Type 0 where
  pub as_long : length g ≡ length f
  pub below : (p : ℕ) → p < n → get_or g p 0 ≡ get_or f p 0

-- The first of these entries, latest first, whose name one before it has.
abbrev pub or_at : Option ℕ → ℕ → Option ℕ
or_at None i = Some i
or_at (Some j) i = Some j

module _ (nm : ℕ → List ℕ) where
  unfoldable pub again_in : List ℕ → Option ℕ
  again_in [] = None
  again_in (e ∷ es) = let before = again_in es in cond (is_named nm e es) (or_at before e) before

  -- The first of those of several brackets.
  unfoldable pub first_of : List (List ℕ) → Option ℕ
  first_of [] = None
  first_of (es ∷ τ) = earlier (again_in es) (first_of τ)

-- What the walk says where it stops with a verdict: a field named again stands before it.
abbrev pub told_by : Option ℕ → Told Unit → Told Unit
told_by None v = v
told_by (Some j) v = Err (repeated_field j)
