-- The grammar of Rust's library documentation for `f64::from_str`, "Float ::= Sign? ( 'inf' | 'infinity' | 'nan' | Number )", "Number ::= ( Digit+ |
-- Digit+ '.' Digit* | Digit* '.' Digit+ ) Exp?", "Exp ::= 'e' Sign? Digit+", "Sign ::= [+-]", "Digit ::= [0-9]", where "all alphabetical values are
-- case-insensitive", for texts of float characters (the words need other letters); and the machine that decides it, which proofs/Decides.antt shows to
-- accept exactly the texts of the grammar.
use Rattle.std.specs.Prelude.{ℕ, List, [], ◌∷◌, ◌++◌, Bool, true, false, cond, ◌≡◌}
use Rattle.text.specs.Classes.{digit}
use Rattle.floats.specs.Classes.{sign, point, scale}
use Rattle.floats.specs.declared.state.State.{State}
use Rattle.floats.specs.declared.state.State.TheVariants.{Start, Signed, Whole, Bare, Fraction, Scale, ScaleSigned, Power, Wrong}

-- Digit*.
pub data Digits : List ℕ → Type 0 where
  none : Digits []
  next : (d : ℕ) (s : List ℕ) → digit d ≡ true → Digits s → Digits (d ∷ s)

-- Digit+.
pub data Some : List ℕ → Type 0 where
  next : (d : ℕ) (s : List ℕ) → digit d ≡ true → Digits s → Some (d ∷ s)

-- Sign? X.
pub data Signable (X : List ℕ → Type 0) : List ℕ → Type 0 where
  plain : (s : List ℕ) → X s → Signable X s
  signed : (a : ℕ) (s : List ℕ) → sign a ≡ true → X s → Signable X (a ∷ s)

-- Exp?, where Exp ::= 'e' Sign? Digit+.
pub data Exponent : List ℕ → Type 0 where
  none : Exponent []
  power : (e : ℕ) (s : List ℕ) → scale e ≡ true → Signable Some s → Exponent (e ∷ s)

-- Number ::= ( Digit+ | Digit+ '.' Digit* | Digit* '.' Digit+ ) Exp?.
pub data Numeral : List ℕ → Type 0 where
  whole : (a x : List ℕ) → Some a → Exponent x → Numeral (a ++ x)
  ended : (a b x : List ℕ) (p : ℕ) → point p ≡ true → Some a → Digits b → Exponent x → Numeral (a ++ p ∷ (b ++ x))
  begun : (a b x : List ℕ) (p : ℕ) → point p ≡ true → Digits a → Some b → Exponent x → Numeral (a ++ p ∷ (b ++ x))

-- Float ::= Sign? Number.
abbrev pub Float : List ℕ → Type 0
Float s = Signable Numeral s

-- Where a digit leads.
abbrev pub on_digit : State → State
on_digit Start = Whole
on_digit Signed = Whole
on_digit Whole = Whole
on_digit Bare = Fraction
on_digit Fraction = Fraction
on_digit Scale = Power
on_digit ScaleSigned = Power
on_digit Power = Power
on_digit Wrong = Wrong

-- Where a point leads.
abbrev pub on_point : State → State
on_point Start = Bare
on_point Signed = Bare
on_point Whole = Fraction
on_point Bare = Wrong
on_point Fraction = Wrong
on_point Scale = Wrong
on_point ScaleSigned = Wrong
on_point Power = Wrong
on_point Wrong = Wrong

-- Where an e leads.
abbrev pub on_scale : State → State
on_scale Start = Wrong
on_scale Signed = Wrong
on_scale Whole = Scale
on_scale Bare = Wrong
on_scale Fraction = Scale
on_scale Scale = Wrong
on_scale ScaleSigned = Wrong
on_scale Power = Wrong
on_scale Wrong = Wrong

-- Where a sign leads.
abbrev pub on_sign : State → State
on_sign Start = Signed
on_sign Signed = Wrong
on_sign Whole = Wrong
on_sign Bare = Wrong
on_sign Fraction = Wrong
on_sign Scale = ScaleSigned
on_sign ScaleSigned = Wrong
on_sign Power = Wrong
on_sign Wrong = Wrong

-- One byte further.
unfoldable pub step_of : State → ℕ → State
step_of st c = cond (digit c) (on_digit st) (cond (point c) (on_point st) (cond (scale c) (on_scale st) (cond (sign c) (on_sign st) Wrong)))

-- A float may end here.
abbrev pub final : State → Bool
final Start = false
final Signed = false
final Whole = true
final Bare = false
final Fraction = true
final Scale = false
final ScaleSigned = false
final Power = true
final Wrong = false

-- The machine accepts the rest from a state.
unfoldable pub accepts : List ℕ → State → Bool
accepts [] st = final st
accepts (c ∷ cs) st = accepts cs (step_of st c)
