-- How many bytes of a piece may be taken, in the bytes that are kept with the piece behind them.
use Rattle.std.specs.Prelude.{ℕ, ◌+◌, ◌-◌, cond, List, leb, drop, length, take}
use Rattle.text.specs.Refusals.{not_utf8, too_long}
use Rattle.text.specs.declared.refusal.Refusal.{Refusal}
use Rattle.octets.specs.Octets.{allowed_of}
use Rattle.pieces.specs.Orders.{most_taken}
use Rattle.pieces.specs.Pieces.{bad_at, bad_from, cut_off, may_take}
use Rattle.pieces.specs.declared.limit.Most.{Most}

-- Behind the last byte that is taken.
unfoldable pub limit_end : List ℕ → ℕ → ℕ → ℕ → ℕ
limit_end s taken kept part = kept + may_take taken (bad_at (allowed_of (drop (kept - part) s)) part (length s - kept))

-- What bars the byte that follows.
abbrev pub barring : List ℕ → ℕ → ℕ → ℕ → Refusal
barring s taken kept part =
    let all = allowed_of (drop (kept - part) s) in
    cond (leb (most_taken - taken) (bad_at all part (length s - kept))) too_long (not_utf8 (taken - part + bad_from all))

-- The limit of a piece.
unfoldable pub limit_of : List ℕ → ℕ → ℕ → ℕ → Most
limit_of s taken kept part =
    let end = limit_end s taken kept part in
    let cut = cut_off (allowed_of (drop (kept - part) (take end s))) in
    record { end = end; whole = end - cut; why = barring s taken kept part }
