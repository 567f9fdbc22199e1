-- The corners of module 10, computed from the definition. Assumes nothing.
use Rattle.std.proofs.Common.{Ok, Err}
use Rattle.text.specs.Refusals.{Told, depth_limit_passed, not_allowed_here, tape_ends_early}
use Prim.Native.Nat.{ℕ, zero, suc}
use mathlib.Core.Path.{◌≡◌, refl}
use mathlib.Core.List.{List, [], ◌∷◌}
use Rattle.grammar.specs.Walk.{check, link, walk_of, linked_of}
use Rattle.grammar.specs.declared.kinds.Kind.{Kind}
use Rattle.grammar.specs.declared.kinds.Kind.TheVariants.{OpenRound, CloseRound, OpenSquare, CloseSquare, OpenCurly, CloseCurly, Comma, Colon, Name, Scalar, Attribute}

-- the answers, short
abbrev at25 : ℕ → Told Unit
at25 i = Err (not_allowed_here i)

abbrev at24 : ℕ → Told Unit
at24 i = Err (depth_limit_passed i)

abbrev at26 : ℕ → Told Unit
at26 i = Err (tape_ends_early i)

-- nothing, attributes only; an attribute anywhere but in front
-- no entry
-- `#![..]`
-- `#![..] #![..] 1`
-- `1 #![..]`
-- `[#![..]1]`
nothing_there :
    walk_of ([]) 128
    ∷ walk_of (Attribute ∷ []) 128
    ∷ walk_of (Attribute ∷ Attribute ∷ Scalar ∷ []) 128
    ∷ walk_of (Scalar ∷ Attribute ∷ []) 128
    ∷ walk_of (OpenSquare ∷ Attribute ∷ Scalar ∷ CloseSquare ∷ []) 128
    ∷ []
    ≡ at26 0 ∷ at26 1 ∷ Ok tt ∷ at25 1 ∷ at25 1 ∷ []
unfolding check
nothing_there = refl

-- anything behind the value
-- `1 2`
-- `a b`
-- `()()`
-- `a()()`
-- `1,`
-- `a:1`
behind_the_value :
    walk_of (Scalar ∷ Scalar ∷ []) 128
    ∷ walk_of (Name ∷ Name ∷ []) 128
    ∷ walk_of (OpenRound ∷ CloseRound ∷ OpenRound ∷ CloseRound ∷ []) 128
    ∷ walk_of (Name ∷ OpenRound ∷ CloseRound ∷ OpenRound ∷ CloseRound ∷ []) 128
    ∷ walk_of (Scalar ∷ Comma ∷ []) 128
    ∷ walk_of (Name ∷ Colon ∷ Scalar ∷ []) 128
    ∷ []
    ≡ at25 1 ∷ at25 1 ∷ at25 2 ∷ at25 3 ∷ at25 1 ∷ at25 1 ∷ []
unfolding check
behind_the_value = refl

-- only a round bracket may follow a name as its own
-- `a[1]`
-- `a{}`
-- `"s"()`
-- `r#a()`
behind_a_name :
    walk_of (Name ∷ OpenSquare ∷ Scalar ∷ CloseSquare ∷ []) 128
    ∷ walk_of (Name ∷ OpenCurly ∷ CloseCurly ∷ []) 128
    ∷ walk_of (Scalar ∷ OpenRound ∷ CloseRound ∷ []) 128
    ∷ walk_of (Name ∷ OpenRound ∷ CloseRound ∷ []) 128
    ∷ []
    ≡ at25 1 ∷ at25 1 ∷ at25 1 ∷ Ok tt ∷ []
unfolding check
behind_a_name = refl

-- commas between, one allowed behind the last
-- `[]`
-- `()`
-- `{}`
-- `a()`
-- `[1,]`
-- `(a:1,)`
-- `{1:2,}`
-- `[,]`
-- `a(,)`
-- `[1,,]`
-- `[1 2]`
commas :
    walk_of (OpenSquare ∷ CloseSquare ∷ []) 128
    ∷ walk_of (OpenRound ∷ CloseRound ∷ []) 128
    ∷ walk_of (OpenCurly ∷ CloseCurly ∷ []) 128
    ∷ walk_of (Name ∷ OpenRound ∷ CloseRound ∷ []) 128
    ∷ walk_of (OpenSquare ∷ Scalar ∷ Comma ∷ CloseSquare ∷ []) 128
    ∷ walk_of (OpenRound ∷ Name ∷ Colon ∷ Scalar ∷ Comma ∷ CloseRound ∷ []) 128
    ∷ walk_of (OpenCurly ∷ Scalar ∷ Colon ∷ Scalar ∷ Comma ∷ CloseCurly ∷ []) 128
    ∷ walk_of (OpenSquare ∷ Comma ∷ CloseSquare ∷ []) 128
    ∷ walk_of (Name ∷ OpenRound ∷ Comma ∷ CloseRound ∷ []) 128
    ∷ walk_of (OpenSquare ∷ Scalar ∷ Comma ∷ Comma ∷ CloseSquare ∷ []) 128
    ∷ walk_of (OpenSquare ∷ Scalar ∷ Scalar ∷ CloseSquare ∷ []) 128
    ∷ []
    ≡ Ok tt ∷ Ok tt ∷ Ok tt ∷ Ok tt ∷ Ok tt ∷ Ok tt ∷ Ok tt ∷ at25 1 ∷ at25 2 ∷ at25 3 ∷ at25 2 ∷ []
unfolding check
commas = refl

-- ( ) of values, or of fields if the first two entries are a name and a colon
-- `(a)`
-- `(a,b)`
-- `(a(1))`
-- `(a:1,b:2)`
-- `(a:1,b)`
-- `(a:1,2)`
-- `(a:1,b(2))`
-- `(a,b:1)`
-- `(1:2)`
-- `(a(1):2)`
-- `(a:)`
-- `(:1)`
-- `(inf:1)`
-- `(true:1)`
rounds_hold :
    walk_of (OpenRound ∷ Name ∷ CloseRound ∷ []) 128
    ∷ walk_of (OpenRound ∷ Name ∷ Comma ∷ Name ∷ CloseRound ∷ []) 128
    ∷ walk_of (OpenRound ∷ Name ∷ OpenRound ∷ Scalar ∷ CloseRound ∷ CloseRound ∷ []) 128
    ∷ walk_of (OpenRound ∷ Name ∷ Colon ∷ Scalar ∷ Comma ∷ Name ∷ Colon ∷ Scalar ∷ CloseRound ∷ []) 128
    ∷ walk_of (OpenRound ∷ Name ∷ Colon ∷ Scalar ∷ Comma ∷ Name ∷ CloseRound ∷ []) 128
    ∷ walk_of (OpenRound ∷ Name ∷ Colon ∷ Scalar ∷ Comma ∷ Scalar ∷ CloseRound ∷ []) 128
    ∷ walk_of (OpenRound ∷ Name ∷ Colon ∷ Scalar ∷ Comma ∷ Name ∷ OpenRound ∷ Scalar ∷ CloseRound ∷ CloseRound ∷ []) 128
    ∷ walk_of (OpenRound ∷ Name ∷ Comma ∷ Name ∷ Colon ∷ Scalar ∷ CloseRound ∷ []) 128
    ∷ walk_of (OpenRound ∷ Scalar ∷ Colon ∷ Scalar ∷ CloseRound ∷ []) 128
    ∷ walk_of (OpenRound ∷ Name ∷ OpenRound ∷ Scalar ∷ CloseRound ∷ Colon ∷ Scalar ∷ CloseRound ∷ []) 128
    ∷ walk_of (OpenRound ∷ Name ∷ Colon ∷ CloseRound ∷ []) 128
    ∷ walk_of (OpenRound ∷ Colon ∷ Scalar ∷ CloseRound ∷ []) 128
    ∷ walk_of (OpenRound ∷ Scalar ∷ Colon ∷ Scalar ∷ CloseRound ∷ []) 128
    ∷ walk_of (OpenRound ∷ Name ∷ Colon ∷ Scalar ∷ CloseRound ∷ []) 128
    ∷ []
    ≡ Ok tt ∷ Ok tt ∷ Ok tt ∷ Ok tt ∷ at25 6 ∷ at25 5 ∷ at25 6 ∷ at25 4 ∷ at25 2 ∷ at25 5 ∷ at25 3 ∷ at25 1 ∷ at25 2 ∷ Ok tt ∷ []
unfolding check
rounds_hold = refl

-- { } of value : value, any value a key; wrong closing brackets
-- `{a(1):2}`
-- `{[1]:[2]}`
-- `{1}`
-- `{1:}`
-- `{1:2,3}`
-- `[a:1]`
-- `[1)`
-- `(1}`
-- `{1:2]`
curlies_hold :
    walk_of (OpenCurly ∷ Name ∷ OpenRound ∷ Scalar ∷ CloseRound ∷ Colon ∷ Scalar ∷ CloseCurly ∷ []) 128
    ∷ walk_of (OpenCurly ∷ OpenSquare ∷ Scalar ∷ CloseSquare ∷ Colon ∷ OpenSquare ∷ Scalar ∷ CloseSquare ∷ CloseCurly ∷ []) 128
    ∷ walk_of (OpenCurly ∷ Scalar ∷ CloseCurly ∷ []) 128
    ∷ walk_of (OpenCurly ∷ Scalar ∷ Colon ∷ CloseCurly ∷ []) 128
    ∷ walk_of (OpenCurly ∷ Scalar ∷ Colon ∷ Scalar ∷ Comma ∷ Scalar ∷ CloseCurly ∷ []) 128
    ∷ walk_of (OpenSquare ∷ Name ∷ Colon ∷ Scalar ∷ CloseSquare ∷ []) 128
    ∷ walk_of (OpenSquare ∷ Scalar ∷ CloseRound ∷ []) 128
    ∷ walk_of (OpenRound ∷ Scalar ∷ CloseCurly ∷ []) 128
    ∷ walk_of (OpenCurly ∷ Scalar ∷ Colon ∷ Scalar ∷ CloseSquare ∷ []) 128
    ∷ []
    ≡ Ok tt ∷ Ok tt ∷ at25 2 ∷ at25 3 ∷ at25 6 ∷ at25 2 ∷ at25 2 ∷ at25 2 ∷ at25 4 ∷ []
unfolding check
curlies_hold = refl

-- 24 where the bracket is allowed but for the limit
-- `[]`, limit 0
-- `a()`, limit 0
-- `1[]`, limit 0
-- `1`, limit 0
-- `[[1]]`, limit 1
-- `[1[]]`, limit 1
limits :
    walk_of (OpenSquare ∷ CloseSquare ∷ []) 0
    ∷ walk_of (Name ∷ OpenRound ∷ CloseRound ∷ []) 0
    ∷ walk_of (Scalar ∷ OpenSquare ∷ CloseSquare ∷ []) 0
    ∷ walk_of (Scalar ∷ []) 0
    ∷ walk_of (OpenSquare ∷ OpenSquare ∷ Scalar ∷ CloseSquare ∷ CloseSquare ∷ []) 1
    ∷ walk_of (OpenSquare ∷ Scalar ∷ OpenSquare ∷ CloseSquare ∷ CloseSquare ∷ []) 1
    ∷ []
    ≡ at24 0 ∷ at24 1 ∷ at25 1 ∷ Ok tt ∷ at24 1 ∷ at25 2 ∷ []
unfolding check
limits = refl

-- so many of a kind, and others behind them
many : ℕ → Kind → List Kind → List Kind
many zero k ks = ks
many (suc n) k ks = k ∷ many n k ks

-- 128 deep is accepted, 129 is not
deepest : walk_of (many 128 OpenSquare (many 128 CloseSquare [])) 128 ∷ walk_of (many 129 OpenSquare (many 129 CloseSquare [])) 128 ∷ walk_of (many 128 OpenSquare []) 128 ∷ []
    ≡ Ok tt ∷ at24 128 ∷ at26 128 ∷ []
unfolding check many
deepest = refl

-- the links of `#![..] a([1], {2: b})`, and behind them what stood there
linked_there : linked_of (Attribute ∷ Name ∷ OpenRound ∷ OpenSquare ∷ Scalar ∷ CloseSquare ∷ Comma ∷ OpenCurly ∷ Scalar ∷ Colon ∷ Name ∷ CloseCurly ∷ CloseRound ∷ []) (0 ∷ 0 ∷ 0 ∷ 0 ∷ 0 ∷ 0 ∷ 0 ∷ 0 ∷ 0 ∷ 0 ∷ 0 ∷ 0 ∷ 0 ∷ 0 ∷ 0 ∷ [])
    ≡ 0 ∷ 1 ∷ 12 ∷ 5 ∷ 4 ∷ 3 ∷ 6 ∷ 11 ∷ 8 ∷ 9 ∷ 10 ∷ 7 ∷ 2 ∷ 0 ∷ 0 ∷ []
unfolding link
linked_there = refl
