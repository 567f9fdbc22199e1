-- Where a comment or a string that is not closed begins. Document 01 gives one place for each: "4: block comment not closed, end of text. 17: .. where the
-- crate's cursor stands", which is behind the quote or the last escape. What people look for is the place where it was opened.
use Rattle.std.specs.Prelude.{ℕ, zero, suc, pred, ◌+◌, cond, List, [], ◌∷◌, eqb, drop}
use Rattle.reading.specs.Readings.{read_from, entries, end_of}
use Rattle.tokens.specs.Ron.{ron_token}
use Rattle.opened.specs.declared.front.Front.{Front}
use Rattle.opened.specs.declared.front.Front.TheVariants.{Passes, OpenComment, OpenString}
use Rattle.opened.specs.declared.begun.Begun.{Begun}
use Rattle.opened.specs.declared.begun.Begun.TheVariants.{Nothing, Comment, Quote}
use Rattle.opened.specs.Fronts.{front_of}

-- How far a text is read: the end of the last entry, 0 where there is none.
unfoldable pub reached_of : List ℕ → ℕ
reached_of text = end_of 0 (entries (read_from ron_token text 0))

-- What the front of a part at the place `at` comes to: behind n bytes the search goes on.
abbrev pub by_front : Front → (ℕ → Begun) → ℕ → Begun
by_front (Passes n) on at = on n
by_front OpenComment on at = Comment at
by_front (OpenString n) on at = Quote (at + n)

-- The first thing from the place `at` on that is not closed, with the bytes s in front, of which the first `left` are passed already.
unfoldable pub begun_from : List ℕ → ℕ → ℕ → Begun
begun_from [] left at = Nothing
begun_from (a ∷ s) (suc left) at = begun_from s left (at + 1)
begun_from (a ∷ s) zero at = by_front (front_of (a ∷ s)) (λ n. begun_from s (pred n) (at + 1)) at

-- What began in a text that is refused with this number: for 4 and 17 the first thing behind the last entry that is not closed, and so the outermost.
unfoldable pub read_begun : List ℕ → ℕ → Begun
read_begun text number =
    let found = begun_from (drop (reached_of text) text) 0 (reached_of text) in
    cond (eqb number 4) found (cond (eqb number 17) found Nothing)
