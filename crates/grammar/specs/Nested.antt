-- What it is that links join brackets (document 01, module 10): "Links join opening and closing bracket; any other entry links to itself."
use Rattle.std.specs.Prelude.{◌≡◌, List, ℕ, ◌<◌, length, get_or}
use Rattle.grammar.specs.declared.kinds.Kind.{Kind}
use Rattle.grammar.specs.declared.kinds.Kind.TheVariants.{OpenRound, CloseRound, OpenSquare, CloseSquare, OpenCurly, CloseCurly, Comma}
use Rattle.grammar.specs.declared.kinds.Side.TheVariants.{Neither}
use Rattle.grammar.specs.Kinds.{side_of}

-- An opening bracket and the closing one that belongs to it.
pub data Partner : Kind → Kind → Type 0 where
  rounds : Partner OpenRound CloseRound
  squares : Partner OpenSquare CloseSquare
  curlies : Partner OpenCurly CloseCurly

module _ (ks : List Kind) (links : List ℕ) where
  -- The kind of entry i, and its link.
  abbrev pub kind_at : ℕ → Kind
  kind_at i = get_or ks i Comma

  abbrev pub link_at : ℕ → ℕ
  link_at i = get_or links i 0

  -- What entry i links to: itself where it is no bracket, else its partner behind or before it, which links back.
  pub data Joined (i : ℕ) : Type 0 where
    alone : side_of (kind_at i) ≡ Neither → link_at i ≡ i → Joined i
    opens : i < link_at i → link_at i < length ks → Partner (kind_at i) (kind_at (link_at i)) → link_at (link_at i) ≡ i → Joined i
    closes : link_at i < i → Partner (kind_at (link_at i)) (kind_at i) → link_at (link_at i) ≡ i → Joined i

  -- Links that join brackets: one per entry, each entry joined, and what stands between two partners is joined between them.
  pub record Nested : Type 0 where
    pub one_each : length links ≡ length ks
    pub joined : (i : ℕ) → i < length ks → Joined i
    pub within : (i j : ℕ) → i < length ks → i < j → j < link_at i → (i < link_at j) × (link_at j < link_at i)
