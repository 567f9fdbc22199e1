-- What every call asks of its text and places first (document 01): "1: text over 65,536 bytes. 2: not UTF-8. 28: a place past the end or inside a character."
use Rattle.std.specs.Prelude.{Ok, Err, Some, None, Option, ℕ, List, Bool, cond, not, ◌&&◌, length, get_or, ltb, leb}
use Rattle.text.specs.Refusals.{Told, too_long, not_utf8, unfit}
use Rattle.text.specs.Classes.{within}
use Rattle.text.specs.Utf8.{utf8_of}

-- 2 for a text that is not UTF-8.
abbrev pub by_utf8 : Option ℕ → Told Unit
by_utf8 None = Ok tt
by_utf8 (Some p) = Err (not_utf8 p)

-- 1 before 2.
unfoldable pub judged_of : List ℕ → Told Unit
judged_of text = let utf8 = by_utf8 (utf8_of text) in cond (ltb 65536 (length text)) (Err too_long) utf8

-- A call's answer over a text: that of the judgement where it refuses, and else the call's own.
abbrev pub behind_judged : {A : Type 0} → Told Unit → Told A → Told A
behind_judged (Ok tt) own = own
behind_judged (Err r) own = Err r

-- The place is neither past the end nor inside a character.
unfoldable pub place_fits : List ℕ → ℕ → Bool
place_fits text p = leb p (length text) && not (within 0x80 0xBF (get_or text p 0))

-- What the calls at a place share: 1 and 2, then 28 where the place or cursor does not fit, then the call's own answer.
unfoldable pub behind_front : {A : Type 0} → List ℕ → Bool → Told A → Told A
behind_front text fits own = behind_judged (judged_of text) (cond fits own (Err unfit))
