-- The first byte that decides something of what has begun.
use Rattle.text.specs.Refusals.{Told}
use Rattle.std.specs.Prelude.{ℕ, ◌+◌, ◌-◌, Bool, true, false, cond, not, ◌&&◌, List, [], ◌∷◌, ◌++◌, eqb, leb, ltb, drop, length, take, Ok, Err}
use Rattle.text.specs.Runs.{run}
use Rattle.reading.specs.Kept.{last_quiet}
use Rattle.reading.specs.Tokens.{Answer, token, stop, refuse, reach}
use Rattle.tokens.specs.Ron.{ron_token}
use Rattle.arriving.specs.Arrivals.{taken}
use Rattle.arriving.specs.Owing.{tells_end}
use Rattle.settled.specs.Bytes.{decides_byte, stops_byte}
use Rattle.settled.specs.Settled.{ron_reader}
use Rattle.pieces.specs.inner.Judges.{judged_of, verdict_of}
use Rattle.pieces.specs.inner.Scans.{scanned_of}
use Rattle.pieces.specs.declared.verdict.Verdict.{Verdict}
use Rattle.pieces.specs.declared.verdict.Verdict.TheVariants.{Nothing, Gives, Shuts}
use Rattle.pieces.specs.declared.stride.Leapt.{Leapt}
use Rattle.pieces.specs.declared.waiting.Waited.{Waited}

-- The first stop byte at a place or behind it.
unfoldable pub next_stop : List ℕ → ℕ → ℕ
next_stop part from = from + run (λ c. not (stops_byte c)) (drop from part)

-- Behind the last byte of a class that stands at a place or behind it; that place where there is none.
unfoldable pub behind_last : (ℕ → Bool) → List ℕ → ℕ → ℕ
behind_last class part from = from + last_quiet class (drop from part)

-- Behind the last stop byte.
abbrev pub behind_stops : List ℕ → ℕ → ℕ
behind_stops part from = behind_last stops_byte part from

-- Where the next byte stands that may decide something, by what the part up to its last stop byte begins with.
abbrev pub beyond_by : Answer → ℕ → ℕ → ℕ
beyond_by (token t) from end = cond (ltb (from + 1) (reach t)) (reach t - 1) from
beyond_by stop from end = from
beyond_by (refuse r) from end = cond (eqb r.number 17) end from

unfoldable pub beyond_of : List ℕ → ℕ → ℕ
beyond_of part from = beyond_by (ron_token (take (behind_stops part from) part)) from (behind_stops part from)

-- Something is decided.
abbrev pub decides : Verdict → Bool
decides Nothing = false
decides (Gives count end) = true
decides (Shuts count end d) = true

-- What the bytes w decide first behind x, byte by byte.
unfoldable pub waited_from : List ℕ → List ℕ → Waited
waited_from x [] = record { bytes = length x; verdict = Nothing }
waited_from x (b ∷ w) =
    let v = verdict_of (taken ron_reader 0 (x ++ b ∷ []) b) in
    let on = waited_from (x ++ b ∷ []) w in
    cond (decides v) (record { bytes = length (x ++ b ∷ []); verdict = v }) on

-- What is decided first of a part by bytes behind the first `seen`.
unfoldable pub waited_of : List ℕ → ℕ → Waited
waited_of part seen = waited_from (take seen part) (drop seen part)

-- ---- many decisions at once

-- Behind the last deciding byte.
abbrev pub behind_deciders : List ℕ → ℕ → ℕ
behind_deciders part from = behind_last decides_byte part from

-- The reading of a part was broken off by its end, or not at all.
abbrev pub opens_end : Told Unit → Bool
opens_end (Ok tt) = true
opens_end (Err d) = tells_end d

-- Nothing is decided, and the last entry before what is refused ends there.
abbrev pub no_leap : ℕ → Leapt
no_leap end = record { bytes = 0; verdict = Nothing; end = end }

-- What the last deciding byte of a part says of all that has come, where no byte before it can have refused anything; else where the last entry ends before that
-- refusal.
abbrev pub leap_by : List ℕ → ℕ → Told Unit → Leapt
leap_by part bytes ending = cond (opens_end ending) (record { bytes = bytes; verdict = judged_of (take bytes part); end = 0 }) (no_leap (scanned_of (take bytes part)).end)

unfoldable pub leap_of : List ℕ → ℕ → Leapt
leap_of part seen =
    let bytes = behind_deciders part seen in
    cond (ltb seen bytes) (leap_by part bytes (scanned_of (take bytes part)).ending) (no_leap 0)

-- What is decided, and behind how many bytes.
abbrev pub leapt : Leapt → Waited
leapt l = record { bytes = l.bytes; verdict = l.verdict }

-- The place from which on anything may be decided; in a short part it is not looked for.
unfoldable pub start_of : List ℕ → ℕ → ℕ
start_of part seen = cond (leb (length part) 64) seen (beyond_of part seen)

-- Many decisions at once, behind the place from which on anything may be decided: up to the last deciding byte, or up to the last before something that is refused; else
-- what is decided first.
unfoldable pub stridden : List ℕ → ℕ → Waited
stridden part seen =
    let from = start_of part seen in
    let far = leap_of part from in
    let near = leap_of (take far.end part) from in
    cond (decides far.verdict) (leapt far) (cond (ltb from far.end && decides near.verdict) (leapt near) (waited_of part seen))
