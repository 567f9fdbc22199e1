-- What is promised: the index, and what all calls share. What the calls promise themselves stands in their contracts, crates/sarridok/src: the answer,
-- told in the paper's words, is what a definition says of the arguments, and so is each lent slice afterwards; none has a `requires`. Beside this file:
--     Skips         skip; gaps and comments; 4, 5 and 6
--     Integers      integer; 6 to 10 and 27; digit runs, byte literals
--     Lists         integers; the single calls that it is, and what refuses it
--     Strings       contents, contents_part, decoded; escapes, strings, chars
--     StructKinds   struct_kind
--     Readings      read; what it reads, what is shut out; names, floats
--     Walks         walk; 24, 25, 26 and 31; links
--     Repairs       repair; the third demand
--     Arrivals      begin, piece, finish: a text that arrives; 30
--     Hosts         the interface for C: nothing of an answer is cut off
-- Demand 1: `refused_read`, `refused_decoded`, `refused_walk`, `refused_repair`, `refused_integers`; the other calls are lent nothing to write, or say what they write in their contract. Demand 2: what is said of each call. Demand 3: `repair_as_read`. In both a
-- refusal is its number, place and reason. Each line is a theorem's statement; its proof only says where it is proved. Assumes nothing.
use Rattle.std.proofs.Common.{Ok, Err, Some, None}
use Prim.Native.Nat.{ℕ, ◌<◌, ◌≤◌}
use mathlib.Core.Bool.{true}
use mathlib.Core.List.{List, ◌++◌}
use mathlib.Core.Logic.{◌↔◌}
use mathlib.Core.Path.{◌≡◌}
use lib.ListN.{drop, length, take}
use Rattle.text.specs.Judged.{judged_of, place_fits}
use Rattle.text.specs.Refusals.{not_utf8, too_long}
use Rattle.text.specs.Utf8.{Encoded, Scalar, char_len, code_of, encode, utf8_of}
use Rattle.text.specs.declared.refusal.Refusal.{Refusal}
use Rattle.text.proofs.Utf8Agree.{bad_means, encoded_good, good_encoded, means_bad}
use Rattle.fronts.specs.Fronts.{Boundary, FirstBad, Sound}
use Rattle.fronts.proofs.Characters as characters
use Rattle.fronts.proofs.Texts as texts-front
use Rattle.given.specs.Given.{Given}
use Rattle.given.proofs.Calls.{never_three}
use Rattle.given.proofs.Calls as calls
use Rattle.worked.specs.Fields.{field_texts}
use Rattle.worked.specs.Gaps.{gap_texts}
use Rattle.worked.specs.Lists.{list_texts}
use Rattle.worked.specs.Reasons.{reason_texts}
use Rattle.worked.specs.Texts.{AllHold, texts}
use Rattle.worked.proofs.Worked.{worked, worked_fields, worked_gaps, worked_lists, worked_reasons}

-- ---- the front of every call with a text

-- A text is UTF-8 exactly when it is a run of encoded scalar values, and refusal 2 stands exactly at the first place where none stands.
pub utf8_good : (s : List ℕ) → (utf8_of s ≡ None) ↔ Encoded s
utf8_good s = (good_encoded s, encoded_good s)

pub utf8_bad : (s : List ℕ) (p : ℕ) → utf8_of s ≡ Some p → (p < length s) × Encoded (take p s) × ((c : ℕ) (t : List ℕ) → Scalar c → drop p s ≡ encode c ++ t → ⊥)
utf8_bad = bad_means

pub utf8_place : (s : List ℕ) (p : ℕ) → p < length s → Encoded (take p s) → ((c : ℕ) (t : List ℕ) → Scalar c → drop p s ≡ encode c ++ t → ⊥) → utf8_of s ≡ Some p
utf8_place = means_bad

-- The character at the front of a part: its code point and width are those of the encoding that stands there, and the width is 0 exactly where none does.
pub char_front : (c : ℕ) (t : List ℕ) → Scalar c → (code_of (encode c ++ t) ≡ c) × (char_len (encode c ++ t) ≡ length (encode c))
char_front = characters.char_front

pub no_char_front : (s : List ℕ) → (char_len s ≡ 0) ↔ ((c : ℕ) (t : List ℕ) → Scalar c → s ≡ encode c ++ t → ⊥)
no_char_front = characters.no_char_front

-- A call goes past its front exactly when its text has at most 65,536 bytes and is UTF-8; 1 and 2 are given exactly in their cases (of each call:
-- `skip_front` and its like).
pub text_fit : (text : List ℕ) → (judged_of text ≡ Ok tt) ↔ Sound text
text_fit = texts-front.fit_exactly

pub text_long : (text : List ℕ) → (judged_of text ≡ Err too_long) ↔ (65536 < length text)
text_long = texts-front.long_exactly

pub text_bad : (text : List ℕ) (p : ℕ) → (judged_of text ≡ Err (not_utf8 p)) ↔ ((length text ≤ 65536) × FirstBad text p)
text_bad = texts-front.bad_exactly

-- A place is fit exactly when it is a boundary of characters.
pub place_fit : (text : List ℕ) (p : ℕ) → Encoded text → (place_fits text p ≡ true) ↔ Boundary text p
place_fit = texts-front.place_exactly

-- ---- the numbers, and the reason of an escape

-- No call gives 3: a refusal's number is 1, 2, one of 4 to 29, or 31 (`Given`), of every call (`skip_numbers` and its like).
pub never_3 : (r : Refusal) → Given r → r.number ≡ 3 → ⊥
never_3 = never_three

-- A refusal with 13 has a reason of 1 to 8, and one with any other number has 0: of every call, since its refusals are `Given`.
pub reason_13 : (r : Refusal) → Given r → r.number ≡ 13 → (1 ≤ r.reason) × (r.reason ≤ 8)
reason_13 = calls.reason_13

pub reason_0 : (r : Refusal) → Given r → (r.number ≡ 13 → ⊥) → r.reason ≡ 0
reason_0 = calls.reason_none

-- ---- the worked texts, as a single statement over one list

pub texts_hold : AllHold texts
texts_hold = worked

-- Those of change request 1: each of the eight reasons is given by a text, and typed integer, decoded, struct kind and repair hand one on.
pub reasons_hold : AllHold reason_texts
reasons_hold = worked_reasons

-- Those of change request 6: gaps as they are read, kept behind where a gap changes, and 23 where one is no distance.
pub gaps_hold : AllHold gap_texts
gaps_hold = worked_gaps

-- Those of change request 2: fields that come again and those that do not, before and behind other refusals, and 23 where a raw name is none or an entry ends past the text.
pub fields_hold : AllHold field_texts
fields_hold = worked_fields

-- Those of change request 7: a list of integers read in one call, and each way in which one is refused.
pub lists_hold : AllHold list_texts
lists_hold = worked_lists
