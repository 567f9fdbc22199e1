-- What the walk's refusals say (document 01): "24, 25: depth limit passed; entry not allowed here; entry number. 26: tape ends early; entry count.
-- .. Each is given exactly in its case." Told by the grammar alone: by the documents that begin with the entries so far.
use Rattle.std.specs.Prelude.{◌≡◌, List, [], ◌∷◌, ◌++◌, ℕ, ◌+◌, ◌-◌, length}
use Rattle.grammar.specs.declared.kinds.Kind.{Kind}
use Rattle.grammar.specs.declared.kinds.Side.{Side}
use Rattle.grammar.specs.declared.kinds.Side.TheVariants.{Opens, Closes, Neither}
use Rattle.grammar.specs.Kinds.{side_of}
use Rattle.grammar.specs.Grammar.{Document}

-- Some document within the limit begins with these entries.
abbrev pub Begins : ℕ → List Kind → Type 0
Begins limit a = (r : List Kind) × Document limit (a ++ r)

-- The entries split at entry j: those before it, itself, and those behind.
pub record Split (ks : List Kind) (j : ℕ) : Type 0 where
  pub before : List Kind
  pub there : Kind
  pub after : List Kind
  pub split : ks ≡ before ++ there ∷ after
  pub place : j ≡ length before

-- The entries up to and with it.
abbrev pub up_to : {ks : List Kind} {j : ℕ} → Split ks j → List Kind
up_to e = e.before ++ e.there ∷ []

-- 25 at entry j: a document within the limit begins with the entries before it, but none at all with those up to it.
pub record NotAllowed (ks : List Kind) (limit j : ℕ) : Type 0 where
  pub at : Split ks j
  pub begins : Begins limit at.before
  pub none_does : (l : ℕ) → Begins l (up_to at) → ⊥

-- 24 at entry j: a document within the limit begins with the entries before it, none within the limit with those up to it, but one beyond it.
pub record TooDeep (ks : List Kind) (limit j : ℕ) : Type 0 where
  pub at : Split ks j
  pub begins : Begins limit at.before
  pub none_within : Begins limit (up_to at) → ⊥
  pub beyond : (l : ℕ) × Begins l (up_to at)

-- 26 at j: the entries are j, a document within the limit begins with them, but none at all is them.
pub record EndsEarly (ks : List Kind) (limit j : ℕ) : Type 0 where
  pub place : j ≡ length ks
  pub begins : Begins limit ks
  pub none_is : (l : ℕ) → Document l ks → ⊥

-- How many brackets are open behind an entry on such a side, where so many were open before it.
abbrev pub open_behind : Side → ℕ → ℕ
open_behind Opens d = d + 1
open_behind Closes d = d - 1
open_behind Neither d = d

-- How many brackets are open behind entries, where so many were open before them.
unfoldable pub open_after : List Kind → ℕ → ℕ
open_after [] d = d
open_after (k ∷ ks) d = open_after ks (open_behind (side_of k) d)

-- The opening bracket that makes the open ones more than the limit.
pub record OpensOver (ks : List Kind) (limit j : ℕ) : Type 0 where
  pub at : Split ks j
  pub opens : side_of at.there ≡ Opens
  pub full : open_after at.before 0 ≡ limit
