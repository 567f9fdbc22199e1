-- What is said of a text: how many entries it has and how deep they are nested, or why it is refused, and where.
use Rattle.std.specs.Prelude.{Ok, Err, ℕ, min, cond, List, [], ◌++◌, eqb, length}
use Rattle.depth.specs.Depth.{deepest_of}
use Rattle.grammar.specs.Kinds.{kinds_of}
use Rattle.lines.specs.Ascii.{ascii}
use Rattle.lines.specs.Decimal.{decimal, word_of}
use Rattle.opened.specs.Begun.{read_begun}
use Rattle.opened.specs.Walks.{walk_begun}
use Rattle.opened.specs.declared.begun.Begun.{Begun}
use Rattle.opened.specs.declared.begun.Begun.TheVariants.{Nothing, Comment, Quote, Bracket, Field}
use Rattle.places.specs.Columns.{column_of}
use Rattle.places.specs.Entries.{walk_place}
use Rattle.places.specs.Lines.{between, line_of}
use Rattle.read.specs.Read.{read_answer, read_tape}
use Rattle.rows.specs.Rows.{entries_of}
use Rattle.sarridok.specs.Walked.{walk_of, links_after}
use Rattle.text.specs.Refusals.{Told}
use Rattle.text.specs.declared.refusal.Refusal.{Refusal}
use Rattle.explain.specs.Sentences.{sentence_of, why_of}
use Rattle.explain.specs.Excerpts.{characters_text, excerpt_text}

-- An accepted text: how many entries, and how deep.
unfoldable pub accepted_text : ℕ → ℕ → List ℕ
accepted_text count depth = ascii "ok" ++ word_of count ++ ascii " entries, depth" ++ word_of depth ++ ascii "\n"

-- Line and column of a place.
unfoldable pub position_text : List ℕ → ℕ → List ℕ
position_text s p = ascii "line" ++ word_of (line_of s p) ++ ascii ", column" ++ word_of (column_of s p) ++ ascii ": "

-- A reason's number behind a comma; nothing for 0.
unfoldable pub also_text : ℕ → List ℕ
also_text n = cond (eqb n 0) [] (ascii "," ++ word_of n)

-- The sentence of a refusal with its reason in words, and their numbers.
unfoldable pub reason_text : Refusal → List ℕ
reason_text r = sentence_of r.number ++ why_of r.reason ++ ascii " [" ++ decimal r.number ++ also_text r.reason ++ ascii "]\n"

-- A refusal at a place of the text.
unfoldable pub refused_at : List ℕ → Refusal → ℕ → List ℕ
refused_at s r p = position_text s p ++ reason_text r ++ excerpt_text s p

-- The same; a place behind the end, which no refusal has, would be shown at the end.
unfoldable pub refused_text : List ℕ → Refusal → ℕ → List ℕ
refused_text s r at = refused_at s r (min at (length s))

-- The place where something began: line, column, what it is, and the line.
unfoldable pub began_at : List ℕ → List ℕ → ℕ → List ℕ
began_at s said p = position_text s p ++ said ++ excerpt_text s p

-- The same; a place behind the end would be shown at the end.
unfoldable pub began_text : List ℕ → List ℕ → ℕ → List ℕ
began_text s said at = began_at s said (min at (length s))

-- What is said of the first field of a name, which is shown as a line is.
unfoldable pub named_text : List ℕ → List ℕ
named_text name = ascii "the field " ++ characters_text 120 name ++ ascii " is named here first\n"

-- Where what is not closed began, or where a field of the same name stands, if anything does.
unfoldable pub begun_text : List ℕ → Begun → List ℕ
begun_text s Nothing = []
begun_text s (Comment p) = began_text s (ascii "the comment begins here\n") p
begun_text s (Quote p) = began_text s (ascii "the string begins here\n") p
begun_text s (Bracket p) = began_text s (ascii "this bracket is open\n") p
begun_text s (Field p from end) = began_text s (named_text (between s from end)) p

-- A refusal, and below it the other place, if there is one.
unfoldable pub refusal_text : List ℕ → Refusal → ℕ → Begun → List ℕ
refusal_text s r at b = refused_text s r at ++ begun_text s b

-- What is said of a text with so many entries on its tape, by the walk's answer.
unfoldable pub walked_text : List ℕ → List ℕ → ℕ → Told Unit → List ℕ
walked_text s tape count (Ok t) = accepted_text count (deepest_of (kinds_of (entries_of count tape)))
walked_text s tape count (Err r) = refusal_text s r (walk_place tape count r) (walk_begun s tape count r)

-- The same, walked with room for so many links; up to 128 brackets may be open.
abbrev pub walk_text : List ℕ → List ℕ → ℕ → ℕ → List ℕ
walk_text s tape count links = walked_text s tape count (walk_of s tape count 128 links)

-- What is said of a text, by the read's answer.
unfoldable pub read_text : List ℕ → List ℕ → ℕ → Told ℕ → List ℕ
read_text s tape links (Ok n) = walk_text s tape n links
read_text s tape links (Err r) = refusal_text s r r.place (read_begun s r.number)

-- The links afterwards: a refused text leaves them.
unfoldable pub links_behind : List ℕ → List ℕ → List ℕ → Told ℕ → List ℕ
links_behind s tape links (Ok n) = links_after s tape n 128 links
links_behind s tape links (Err r) = links

-- What is said of a text over such a tape and so many links.
unfoldable pub explained : List ℕ → List ℕ → ℕ → List ℕ
explained s tape links = read_text s (read_tape s tape) links (read_answer s (length tape))
