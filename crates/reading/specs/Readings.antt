-- A reading: tokens with their places. Document 01: "kind, start, end, detail"; document 02, CR 6: a "fifth number", the gap; "places are byte offsets"; "the refusals of reading in text order". Room and
-- limits are no part of a reading: what has to do with them stands around it.
use Rattle.std.specs.Prelude.{Ok, Err, ℕ, ◌+◌, List, [], ◌∷◌, drop}
use Rattle.text.specs.declared.refusal.Refusal.{Refusal}
use Rattle.text.specs.Refusals.{Told, placed_behind}
use Rattle.rows.specs.declared.Entry.{Entry}
use Rattle.reading.specs.Tokens.{Answer, Token, reach, Tokens, done, fault, next, tokens}

-- Entries one behind the other, and how the reading ended: complete, or broken off by a refusal.
pub data Reading : Type 0 where
  complete : Reading
  broken : Refusal → Reading
  entry : Entry → Reading → Reading

-- The entry of a token in a part that begins at the place `at`.
abbrev pub placed : ℕ → Token → Entry
placed at t = record { kind = t.kind; start = at + t.gap; end = at + reach t; detail = t.detail; gap = t.gap }

-- Tokens placed from `at` on.
unfoldable pub place : ℕ → Tokens → Reading
place at done = complete
place at (fault r) = broken (placed_behind at r)
place at (next t ts) = entry (placed at t) (place (at + reach t) ts)

-- The reading of a part that begins at the place `at`; of a whole text where that is 0.
abbrev pub read_part : (List ℕ → Answer) → ℕ → List ℕ → Reading
read_part tok at s = place at (tokens tok s)

-- The reading of a text from a place on.
abbrev pub read_from : (List ℕ → Answer) → List ℕ → ℕ → Reading
read_from tok text at = read_part tok at (drop at text)

-- Entries in front of a reading.
infixr 20 ◌▸◌
abbrev pub ◌▸◌ : List Entry → Reading → Reading
[] ▸ r = r
(e ∷ es) ▸ r = entry e (es ▸ r)

-- The entries of a reading.
unfoldable pub entries : Reading → List Entry
entries complete = []
entries (broken r) = []
entries (entry e r) = e ∷ entries r

-- How many entries a complete reading has behind n others, or its refusal.
unfoldable pub counted : ℕ → Reading → Told ℕ
counted n complete = Ok n
counted n (broken r) = Err r
counted n (entry e r) = counted (n + 1) r

-- Where the last of the entries ends, and `at` where there is none.
unfoldable pub end_of : ℕ → List Entry → ℕ
end_of at [] = at
end_of at (e ∷ es) = end_of e.end es
