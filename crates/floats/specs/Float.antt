-- Floats (document 01, module 6): a float run with the suffix f32 or f64, or inf or NaN behind a sign.
use Rattle.std.specs.Prelude.{Ok, Err, ℕ, ◌+◌, List, [], ◌∷◌, cond, length, take, drop, get_or, eqb}
use Rattle.text.specs.Refusals.{Told, expected_float, float_underscore, underscore_at_beginning}
use Rattle.floats.specs.declared.float.FloatSpan.{FloatSpan}
use Rattle.integers.specs.Words.{Word, first_of}
use Rattle.integers.specs.Front.{sign_of}
use Rattle.integers.specs.declared.ident.Found.{Found}
use Rattle.floats.specs.Classes.{float_run}
use Rattle.floats.specs.Judged.{float_judged}
use Rattle.floats.specs.declared.judge.Judged.{Judged}
use Rattle.floats.specs.declared.judge.Judged.TheVariants.{Misplaced, Fine, Unfit}

-- f32 f64.
abbrev pub float_suffixes : List Word
float_suffixes =
    record { letters = 0x66 ∷ 0x33 ∷ 0x32 ∷ []; says = 32 }
    ∷ record { letters = 0x66 ∷ 0x36 ∷ 0x34 ∷ []; says = 64 }
    ∷ []

-- inf inff32 inff64 NaN NaNf32 NaNf64.
abbrev pub specials : List Word
specials =
    record { letters = 0x69 ∷ 0x6e ∷ 0x66 ∷ []; says = 0 }
    ∷ record { letters = 0x69 ∷ 0x6e ∷ 0x66 ∷ 0x66 ∷ 0x33 ∷ 0x32 ∷ []; says = 32 }
    ∷ record { letters = 0x69 ∷ 0x6e ∷ 0x66 ∷ 0x66 ∷ 0x36 ∷ 0x34 ∷ []; says = 64 }
    ∷ record { letters = 0x4e ∷ 0x61 ∷ 0x4e ∷ []; says = 0 }
    ∷ record { letters = 0x4e ∷ 0x61 ∷ 0x4e ∷ 0x66 ∷ 0x33 ∷ 0x32 ∷ []; says = 32 }
    ∷ record { letters = 0x4e ∷ 0x61 ∷ 0x4e ∷ 0x66 ∷ 0x36 ∷ 0x34 ∷ []; says = 64 }
    ∷ []

-- A float that ends at `end`.
abbrev pub float_to : (code end : ℕ) → Told FloatSpan
float_to code end = Ok (record { len = end; suffix = code })

-- A judged run with the suffix behind it: 12 first, then 11 at the front.
abbrev pub behind_float : (code end : ℕ) → Judged → Told FloatSpan
behind_float code end (Misplaced at) = Err (float_underscore at)
behind_float code end Fine = float_to code end
behind_float code end Unfit = Err (expected_float 0)

-- The run and the suffix behind it; 11 where no float character stands.
abbrev pub with_float_suffix : (part : List ℕ) → Found → Told FloatSpan
with_float_suffix part f = cond (eqb (length part) 0) (Err (expected_float 0)) (behind_float f.code (length part + f.end) (float_judged part))

-- The float characters at the front of a part, and what is behind them.
abbrev pub split_float : (n : ℕ) → List ℕ → Told FloatSpan
split_float n s = with_float_suffix (take n s) (first_of float_suffixes (drop n s))

-- A float without inf and NaN.
unfoldable pub run_at : List ℕ → Told FloatSpan
run_at s = split_float (float_run s) s

-- inf or NaN behind a sign, with or without a suffix, else the other.
abbrev pub signed_or : (front : ℕ) → Found → Told FloatSpan → Told FloatSpan
signed_or front l other = cond (eqb front 0) other (cond (eqb l.end 0) other (float_to l.code (front + l.end)))

-- The same behind so many bytes of a sign.
abbrev pub behind_float_sign : (front : ℕ) → (t : List ℕ) → Told FloatSpan → Told FloatSpan
behind_float_sign front t other = signed_or front (first_of specials t) other

-- A float.
unfoldable pub float_of : List ℕ → Told FloatSpan
float_of s = behind_float_sign (sign_of s).end (drop (sign_of s).end s) (run_at s)

-- inf or NaN at the front, with or without a suffix, else the other.
abbrev pub special_or : Found → Told FloatSpan → Told FloatSpan
special_or l other = cond (eqb l.end 0) other (float_to l.code l.end)

-- A float read anew at a place that a caller names, where a token need not begin: 8 for an underscore in front, inf and NaN also without a sign, else a float.
unfoldable pub float_anew : List ℕ → Told FloatSpan
float_anew s = cond (eqb (get_or s 0 0) 0x5f) (Err (underscore_at_beginning 0)) (special_or (first_of specials s) (float_of s))
