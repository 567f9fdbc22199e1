-- Plain numbers, which a read takes without the general reader: a sign or none, digits, and then either a quiet byte, where the digits are at most nine,
-- or a point, digits and a quiet byte. They are kinds 11 and 12 of document 01, module 9; that the general reader says the same of them is proved in
-- proofs/PlainNumbers.antt.
use Rattle.std.specs.Prelude.{ℕ, suc, ◌+◌, List, Bool, cond, ◌&&◌, take, drop, get_or, eqb, ltb, leb}
use Rattle.text.specs.Classes.{digit}
use Rattle.text.specs.Runs.{run}
use Rattle.digits.specs.Value.{value_of}
use Rattle.integers.specs.Front.{sign_of}
use Rattle.integers.specs.Width.{code_of, first_fit}
use Rattle.integers.specs.declared.front.Sign.{Sign}
use Rattle.reading.specs.Owed.{quiet_byte}
use Rattle.tokens.specs.declared.lexeme.Lexeme.{Lexeme}

-- No plain number stands here.
abbrev pub not_plain : Lexeme
not_plain = record { len = 0; kind = 0; detail = 0 }

-- A float of so many bytes, without a suffix.
abbrev pub plain_float : ℕ → Lexeme
plain_float len = record { len = len; kind = 12; detail = 0 }

-- The number of the first width that fits the n digits at the front of t.
unfoldable pub fit_of : (minus : Bool) (n : ℕ) (t : List ℕ) → ℕ
fit_of minus n t = code_of (first_fit minus (value_of 10 (take n t)))

-- An integer of so many bytes and that width.
abbrev pub plain_integer : (len width : ℕ) → Lexeme
plain_integer len width = record { len = len; kind = 11; detail = width }

-- How many bytes a point and one or more digits before a quiet byte are; 0 where they do not stand at the front of t.
unfoldable pub fraction_of : List ℕ → ℕ
fraction_of t = let n = run digit (drop 1 t) in cond (eqb (get_or t 0 0) 0x2e && (ltb 0 n && quiet_byte (get_or t (suc n) 0))) (suc n) 0

-- Behind a sign and n digits: a float where a fraction of f bytes follows, an integer where a quiet byte does.
abbrev pub behind_digits : Sign → (n f : ℕ) → List ℕ → Lexeme
behind_digits g n f t =
    cond (ltb 0 f) (plain_float (g.end + n + f))
    (cond (leb n 9 && quiet_byte (get_or t n 0)) (plain_integer (g.end + n) (fit_of g.minus n t)) not_plain)

-- Behind a sign: one or more digits, and what follows them.
abbrev pub behind_sign : Sign → List ℕ → Lexeme
behind_sign g t = let n = run digit t in cond (ltb 0 n) (behind_digits g n (fraction_of (drop n t)) t) not_plain

-- The plain number at the front of s; its length is 0 where there is none.
unfoldable pub plain_number : List ℕ → Lexeme
plain_number s = behind_sign (sign_of s) (drop (sign_of s).end s)
