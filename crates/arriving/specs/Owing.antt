-- What a token reader owes, so that a text can be read while it arrives (document 02, change request 3): "An entry is decided once its end has come and, at or
-- behind that end, a quiet byte or a `/` ..; a comma, a colon, and an entry that ends in a quote or a bracket at once, with all entries before it."
use Rattle.std.specs.Prelude.{ℕ, suc, ◌≡◌, Bool, true, false, List, [], ◌∷◌, ◌++◌, length}
use Rattle.text.specs.Classes.{one_of}
use Rattle.text.specs.declared.refusal.Refusal.{Refusal}
use Rattle.reading.specs.Tokens.{Answer, token, refuse, Token, reach}
use Rattle.reading.specs.Owed.{Laws}

-- A token reader; the bytes behind which no earlier token looks; among them those that decide what ended before them, a quiet byte or a `/`, and the last bytes of
-- entries that are decided at once, a comma, a colon, a bracket or a quote; whether a part ends with a character for which it is refused at once; and whether a part
-- that is refused is refused so however it goes on.
pub record Reader : Type 0 where
  pub tok : List ℕ → Answer
  pub stops : ℕ → Bool
  pub decides : ℕ → Bool
  pub closes : ℕ → Bool
  pub once : List ℕ → Bool
  pub settles : List ℕ → Bool

-- 4, 6 and 17 say that the text has ended: only the end gives them.
unfoldable pub tells_end : Refusal → Bool
tells_end r = one_of (4 ∷ 6 ∷ 17 ∷ []) r.number

-- Behind a byte that stops nothing changes a token that ended before it (`Laws`); a token whose last byte closes it is decided by its own bytes; a settled refusal
-- stays and does not say that the text has ended; and one that is given at once is settled.
pub record Owes (R : Reader) : Type 0 where
  pub laws : Laws R.tok R.stops
  pub deciders : (c : ℕ) → R.decides c ≡ true → R.stops c ≡ true
  pub closers : (c : ℕ) → R.closes c ≡ true → R.stops c ≡ true
  pub closed : (u v v' : List ℕ) (c : ℕ) (t : Token) → R.closes c ≡ true → R.tok (u ++ c ∷ v) ≡ token t → reach t ≡ suc (length u) → R.tok (u ++ c ∷ v') ≡ token t
  pub settled : (s v : List ℕ) (d : Refusal) → R.settles s ≡ true → R.tok s ≡ refuse d → R.tok (s ++ v) ≡ refuse d
  pub open_end : (s : List ℕ) (d : Refusal) → R.settles s ≡ true → R.tok s ≡ refuse d → tells_end d ≡ false
  pub at_once : (s : List ℕ) → R.once s ≡ true → R.settles s ≡ true
