-- Answers as text: the words of an accepted answer, or `refused` with the paper's number, place and reason.
use Rattle.std.specs.Prelude.{Ok, Err, ℕ, Bool, cond, List, [], ◌++◌}
use Rattle.lines.specs.Ascii.{ascii}
use Rattle.lines.specs.Decimal.{word_of}
use Rattle.text.specs.declared.refusal.Refusal.{Refusal}
use Rattle.text.specs.Refusals.{Told}

-- A refusal as document 01 has it: its number and its place.
unfoldable pub placed_text : Refusal → List ℕ
placed_text r = ascii "refused" ++ word_of r.number ++ word_of r.place

-- And with its reason (CR 1).
unfoldable pub refused_text : Refusal → List ℕ
refused_text r = placed_text r ++ word_of r.reason

-- An answer: what is said of an accepted one, or the refusal.
abbrev pub answer_text : {A : Type 0} → (A → List ℕ) → Told A → List ℕ
answer_text own (Ok a) = own a
answer_text own (Err r) = refused_text r

-- The answer to a line that is no case.
abbrev pub bad_text : List ℕ
bad_text = ascii "bad"

-- Behind an answer: nothing where its call changed only what it may.
abbrev pub clean_text : Bool → List ℕ
clean_text clean = cond clean [] (ascii " DIRTY")
