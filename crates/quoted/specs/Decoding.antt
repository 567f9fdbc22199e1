-- What the call `decoded` accepts (document 01), said plainly: "Contents of a string or byte string entry: [..] decoded into a lent buffer in every case."
use Rattle.std.specs.Prelude.{Ok, ℕ, ◌≤◌, Bool, List, ◌≡◌, drop, length}
use Rattle.text.specs.Judged.{judged_of}
use Rattle.entries.specs.Named.{named_of}
use Rattle.quoted.specs.Literals.{LiteralAt}

-- The text is fit, the entry names a place, a string or byte string stands there that decodes to n bytes, and the buffer has room for them.
pub record Decodes (text tape : List ℕ) (count entry room n : ℕ) : Type 0 where
  pub fit : judged_of text ≡ Ok tt
  pub bytes : Bool
  pub place : ℕ
  pub named : named_of text tape count entry ≡ Ok (bytes, place)
  pub decoded : List ℕ
  pub behind : List ℕ
  pub stands : LiteralAt bytes (drop place text) decoded behind
  pub long : length decoded ≡ n
  pub roomy : n ≤ room
