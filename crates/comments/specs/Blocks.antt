-- Block comments (document 01, module 2): "Block comments nest."
-- A part of the text is the list of its bytes; a reader has to believe `mark_of` and `Body`: that the rule, and so `block_end`, finds exactly a body's end
-- is proved in proofs/Nesting.antt.
use Rattle.std.specs.Prelude.{Some, None, Option, ℕ, ◌+◌, ◌-◌, ◌≡◌, List, [], ◌∷◌, cond, ◌&&◌, eqb}
use Rattle.comments.specs.declared.block.Decision.{Decision}
use Rattle.comments.specs.declared.block.Decision.TheVariants.{Open, CloseLast, CloseInner, PassOn}

-- A mark opens a block comment or closes one.
pub data Mark : Type 0 where
  Opens : Mark
  Closes : Mark
  Neither : Mark

-- What two bytes in a row are: `/*`, `*/`, or neither.
unfoldable pub mark_of : ℕ → ℕ → Mark
mark_of a b = cond (eqb a 0x2f) (cond (eqb b 0x2a) Opens Neither) (cond (eqb a 0x2a) (cond (eqb b 0x2f) Closes Neither) Neither)

-- `Body s t`: s is what stands behind an opening mark up to and with the mark that closes its comment, and then t.
pub data Body : List ℕ → List ℕ → Type 0 where
  closes : {a b : ℕ} {t : List ℕ} → mark_of a b ≡ Closes → Body (a ∷ b ∷ t) t
  nests : {a b : ℕ} {s u t : List ℕ} → mark_of a b ≡ Opens → Body s u → Body u t → Body (a ∷ b ∷ s) t
  passes : {a b : ℕ} {s t : List ℕ} → mark_of a b ≡ Neither → Body (b ∷ s) t → Body (a ∷ b ∷ s) t

-- The rule of nesting, row by row as `decide` (src/block.rt) has it: what the bytes a and b do where `level` comments are open; 0x2f is `/`, and 0x2a is `*`.
abbrev pub decision_of : ℕ → ℕ → ℕ → Decision
decision_of a b level =
    cond (eqb a 0x2f && eqb b 0x2a) Open
    (cond (eqb a 0x2a && eqb b 0x2f && eqb level 1) CloseLast
    (cond (eqb a 0x2a && eqb b 0x2f) CloseInner
    PassOn))

-- Where `level` comments are open, at the place `at`, with the bytes s in front: where the outermost ends, as `block_comment` goes on behind each decision.
unfoldable pub block_from : List ℕ → ℕ → ℕ → Option ℕ
block_from [] level at = None
block_from (a ∷ []) level at = None
block_from (a ∷ b ∷ s) level at =
    elim (decision_of a b level) [
      | Open ↦ block_from s (level + 1) (at + 2)
      | CloseLast ↦ Some (at + 2)
      | CloseInner ↦ block_from s (level - 1) (at + 2)
      | PassOn ↦ block_from (b ∷ s) level (at + 1)
    ]

-- s is what stands behind an opening mark: where its comment ends, counted from the front of s.
unfoldable pub block_end : List ℕ → Option ℕ
block_end s = block_from s 1 0
