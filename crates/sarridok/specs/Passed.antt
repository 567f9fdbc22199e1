-- What an accepted walk means (document 01, module 10; document 02, CR 2; refusals 1, 2, 28, 23 and 22): "Links join opening and closing bracket; any other entry links to itself."
use Rattle.std.specs.Prelude.{Ok, ℕ, ◌≤◌, true, List, ◌++◌, ◌≡◌, drop, length}
use Rattle.text.specs.Judged.{judged_of}
use Rattle.rows.specs.Order.{in_order}
use Rattle.rows.specs.Rows.{entries_of, room_of}
use Rattle.grammar.specs.Kinds.{kinds_of}
use Rattle.grammar.specs.Nested.{Nested}
use Rattle.fields.specs.Names.{name_at, raws_fit}
use Rattle.fields.specs.Apart.{Distinct}

-- A walk goes past its front: the text may be read, the limit is at most 128, the count fits the tape, whose entries are in order within the text and whose raw
-- names are raw, and there are links enough.
pub record Passed (text tape : List ℕ) (count limit links : ℕ) : Type 0 where
  pub fit : judged_of text ≡ Ok tt
  pub shallow : limit ≤ 128
  pub fits : count ≤ room_of (length tape)
  pub ordered : in_order (entries_of count tape) (length text) ≡ true
  pub raws : raws_fit text (entries_of count tape) ≡ true
  pub room : count ≤ links

-- The entries are a document within the limit, no field of which is named again, and what is left afterwards are the links that join its brackets, and behind
-- them what stood there.
pub record Links (text tape : List ℕ) (count limit : ℕ) (out after : List ℕ) : Type 0 where
  pub document : Distinct (name_at text tape) limit (kinds_of (entries_of count tape))
  pub links : List ℕ
  pub nested : Nested (kinds_of (entries_of count tape)) links
  pub stored : after ≡ links ++ drop count out
