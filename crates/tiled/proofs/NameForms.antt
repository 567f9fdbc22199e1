-- A word that is read has the form of a name, of a raw name, or of a float. Assumes nothing.
use Prim.Native.Nat.{ℕ, ◌+◌, ◌<◌, ◌≤◌}
use native.Mathlib.Omega.{arith}
use mathlib.Core.Bool.{true}
use mathlib.Core.List.{List, [], ◌∷◌, ◌++◌, append_assoc}
use mathlib.Core.Path.{◌≡◌, ap, refl, sym, ◌∙◌}
use lib.Dec.{eqb}
use lib.ListN.{drop, length, take, take-append-drop}
use lib.Seq.{drop-drop, length-take-le}
use borrow.Author.Tests.{eqb-false, eqb-true}
use Rattle.text.proofs.Choices.{cond_cases, either, or_cases}
use Rattle.text.specs.Words.{starts_with}
use Rattle.names.proofs.Agree.{name_agrees, raw_agrees}
use Rattle.names.proofs.IdentifierLaws.{name_le}
use Rattle.names.specs.Characters.{chars}
use Rattle.names.specs.Classify.{begins_float, by_identifier, named, suffixed, word_of}
use Rattle.names.specs.Identifiers.{name_len, plain_of, raw_of, skip_identifier_of}
use Rattle.names.specs.Names.{IsName}
use Rattle.names.specs.Starts.{begins_raw, begins_string}
use Rattle.names.specs.declared.Identifier.{Identifier}
use Rattle.names.specs.declared.Identifier.TheVariants.{Missing, Name, RawName}
use Rattle.names.specs.declared.Word.{Word}
use Rattle.names.specs.declared.Word.TheVariants.{Plain, Raw, Float, Refused}
use Rattle.text.specs.Classes.{ident_raw}
use Rattle.tiled.specs.Forms.{FloatName, Form, Special, Suffix}
use Rattle.tiled.specs.Forms.FloatForm.{special}
use Rattle.tiled.specs.Forms.FloatName.{named as float-name}
use Rattle.tiled.specs.Forms.Form.{name, raw_name}
use Rattle.tiled.specs.Forms.Special.{inf, nan}
use Rattle.tiled.specs.Forms.Suffix.{none, f32, f64}
use Rattle.floats.specs.Grammar.Signable.{plain}
use Rattle.tiled.proofs.Floats.{float_form}
use Rattle.tiled.proofs.Found.{starts_split}

abbrev pub WordSays : List ℕ → Word → Type 0
WordSays s (Plain n) = Form 9 0 s (drop n s)
WordSays s (Raw n) = Form 10 0 s (drop n s)
WordSays s (Float n d) = Form 12 d s (drop n s)
WordSays s (Refused r) = Unit {0}

-- ---- which names are floats

-- the six words are told as floats
word_float : {d : ℕ} {w : List ℕ} → FloatName d w → (t : List ℕ) → named (w ++ t) (length w) ≡ Float (length w) d
unfolding named begins_float suffixed starts_with
word_float (float-name _ inf none) t = refl
word_float (float-name _ inf f32) t = refl
word_float (float-name _ inf f64) t = refl
word_float (float-name _ nan none) t = refl
word_float (float-name _ nan f32) t = refl
word_float (float-name _ nan f64) t = refl

-- so a name that is told as one is none of them
plain-name : (s : List ℕ) (n d : ℕ) → n ≤ length s → named s n ≡ Plain n → FloatName d (take n s) → ⊥
plain-name s n d h e f =
    let l : length (take n s) ≡ n = length-take-le n s h in
    let q : named s n ≡ Float n d =
    ap (λ (m : ℕ). named s m) (sym l)
    ∙ ap (λ (x : List ℕ). named x (length (take n s))) (sym (take-append-drop n s))
    ∙ word_float f (drop n s)
    ∙ ap (λ (m : ℕ). Float m d) l in
    let z : ◌≡◌ {A = ℕ} 0 1 = cc in
    omega arith

-- `inf` or `NaN` stands where one was found
begins_special : (s : List ℕ) → begins_float s ≡ true → (w : List ℕ) × Special w × (s ≡ w ++ drop 3 s)
unfolding begins_float
begins_special s e =
    either (or_cases (starts_with (0x69 ∷ 0x6e ∷ 0x66 ∷ []) s) (starts_with (0x4e ∷ 0x61 ∷ 0x4e ∷ []) s) e)
    (λ p. (_, inf, starts_split (0x69 ∷ 0x6e ∷ 0x66 ∷ []) s p))
    (λ p. (_, nan, starts_split (0x4e ∷ 0x61 ∷ 0x4e ∷ []) s p))

alone : {w : List ℕ} → Special w → FloatName 0 w
alone inf = float-name _ inf none
alone nan = float-name _ nan none

-- and a suffix behind it
with_suffix : (s w x : List ℕ) (n d : ℕ) → n ≡ 6 → Special w → Suffix d x → s ≡ w ++ drop 3 s → drop 3 s ≡ x ++ drop 3 (drop 3 s) → Form 12 d s (drop n s)
with_suffix s w x n d six is sx e f =
    float_form d n s (w ++ x)
    (e ∙ ap (λ (y : List ℕ). w ++ y) f ∙ sym (append_assoc w x (drop 3 (drop 3 s))) ∙ ap (λ (y : List ℕ). (w ++ x) ++ y) (drop-drop 3 3 s ∙ ap (λ (k : ℕ). drop k s) (sym six)))
    (special (plain (w ++ x) (float-name w is sx)))

-- ---- a name

module _ (s : List ℕ) (n : ℕ) (within : n ≤ length s) (is : IsName s n) where
  -- what the classification may answer
  abbrev Told : Word → Type 0
  Told a = named s n ≡ a → WordSays s a

  as_name : Told (Plain n)
  as_name e = name is (λ d. plain-name s n d within e)

  suffixed_told : (w : List ℕ) → n ≡ 6 → Special w → s ≡ w ++ drop 3 s → Told (suffixed (drop 3 s) n)
  unfolding suffixed
  suffixed_told w six sp split =
      cond_cases Told (starts_with (0x66 ∷ 0x33 ∷ 0x32 ∷ []) (drop 3 s)) _ _
      (λ p e. with_suffix s w _ n 32 six sp f32 split (starts_split (0x66 ∷ 0x33 ∷ 0x32 ∷ []) (drop 3 s) p))
      (λ p. cond_cases Told (starts_with (0x66 ∷ 0x36 ∷ 0x34 ∷ []) (drop 3 s)) _ _
      (λ q e. with_suffix s w _ n 64 six sp f64 split (starts_split (0x66 ∷ 0x36 ∷ 0x34 ∷ []) (drop 3 s) q))
      (λ q. as_name))

  named_told : Told (named s n)
  unfolding named
  named_told =
      cond_cases Told (begins_float s) _ _
      (λ p. let b = begins_special s p in
      cond_cases Told (eqb n 3) _ _
      (λ q e. let three : n ≡ 3 = eqb-true n 3 q in
      float_form 0 n s b.0 (b.2 ∙ ap (λ (k : ℕ). b.0 ++ drop k s) (sym three)) (special (plain b.0 (alone b.1))))
      (λ q. cond_cases Told (eqb n 6) _ _ (λ r. suffixed_told b.0 (eqb-true n 6 r) b.1 b.2) (λ r. as_name)))
      (λ p. as_name)

  named_says : WordSays s (named s n)
  named_says = named_told refl

-- ---- a word

plain_says : (s : List ℕ) → WordSays s (by_identifier s (plain_of s))
unfolding plain_of
plain_says s =
    let n : ℕ = name_len s in
    cond_cases (λ (i : Identifier). WordSays s (by_identifier s i)) (eqb n 0) Missing (Name n) (λ e. tt)
    (λ e. let z = eqb-false n 0 e in let p : 0 < n = omega arith in named_says s n (name_le s) ((name_agrees s n p).0 refl))

raw_says : (s : List ℕ) → begins_raw s ≡ true → WordSays s (by_identifier s (raw_of s))
unfolding raw_of
raw_says s b =
    let k : ℕ = chars ident_raw (drop 2 s) in
    cond_cases (λ (i : Identifier). WordSays s (by_identifier s i)) (eqb k 0) Missing (RawName (2 + k)) (λ e. tt)
    (λ e. raw_name ((raw_agrees s (2 + k)).0 (b, rw e)))

-- a word that is read has its form
pub word_says : (s : List ℕ) → WordSays s (word_of s)
unfolding word_of skip_identifier_of
word_says s =
    cond_cases (λ (i : Identifier). WordSays s (by_identifier s i)) (begins_string s) Missing _ (λ e. tt)
    (λ e. cond_cases (λ (i : Identifier). WordSays s (by_identifier s i)) (begins_raw s) (raw_of s) (plain_of s) (λ r. raw_says s r) (λ r. plain_says s))
