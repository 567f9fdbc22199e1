-- What stands in front of the digits: a sign, then the prefix of a base, 0b, 0o or 0x.
use Rattle.std.specs.Prelude.{ℕ, ◌+◌, List, true, false, cond, get_or, drop, eqb}
use Rattle.integers.specs.declared.front.Sign.{Sign}
use Rattle.integers.specs.declared.front.Prefix.{Prefix}
use Rattle.integers.specs.declared.front.Front.{Front}

-- A sign by its byte.
abbrev pub sign_by : ℕ → Sign
sign_by a =
    cond (eqb a 0x2b) (record { minus = false; end = 1 })
    (cond (eqb a 0x2d) (record { minus = true; end = 1 })
    (record { minus = false; end = 0 }))

-- The sign at the front of a part.
unfoldable pub sign_of : List ℕ → Sign
sign_of s = sign_by (get_or s 0 0)

-- A prefix by its letter.
abbrev pub prefix_by : ℕ → Prefix
prefix_by b =
    cond (eqb b 0x62) (record { base = 2; end = 2 })
    (cond (eqb b 0x6f) (record { base = 8; end = 2 })
    (cond (eqb b 0x78) (record { base = 16; end = 2 })
    (record { base = 10; end = 0 })))

-- The prefix at the front of a part; without one the base is 10.
unfoldable pub prefix_of : List ℕ → Prefix
prefix_of s = cond (eqb (get_or s 0 0) 0x30) (prefix_by (get_or s 1 0)) (record { base = 10; end = 0 })

-- The prefix with the sign before it.
abbrev pub behind_sign : Sign → List ℕ → Front
behind_sign g t = record { minus = g.minus; base = (prefix_of t).base; end = g.end + (prefix_of t).end }

-- Sign and prefix.
unfoldable pub front_of : List ℕ → Front
front_of s = behind_sign (sign_of s) (drop (sign_of s).end s)
