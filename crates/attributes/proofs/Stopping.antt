-- What a `]` stops: the words and names of an attribute that stand before its `]` don't depend on what stands behind it. Assumes nothing.
use Rattle.std.proofs.Common.{Ok, Err, Some, None, Option}
use Rattle.text.specs.Refusals.{Told}
use Rattle.strings.specs.declared.literal.Literal.{Literal}
use Prim.Native.Nat.{◌+◌, ◌<◌, ℕ}
use native.Mathlib.Omega.{arith}
use mathlib.Core.Bool.{Bool, cond, false, not, true}
use mathlib.Core.List.{List, [], ◌∷◌}
use mathlib.Core.Path.{◌∙◌, ◌≡◌, ap, refl}
use lib.Dec.{eqb, ltb}
use lib.ListN.{drop, get_or, length}
use borrow.Author.Tests.{eqb-true}
use Rattle.attributes.specs.Extensions.{extension_of, extensions, first_named, is_word, name_of}
use Rattle.attributes.specs.Words.{by_word, keywords, keyword_of}
use Rattle.attributes.specs.declared.extensions.Extension.{Extension}
use Rattle.attributes.specs.declared.extensions.Extension.TheVariants.{ExplicitStructNames, ImplicitSome, UnwrapNewtypes, UnwrapVariantNewtypes}
use Rattle.attributes.specs.declared.words.Keyword.TheVariants.{Enable, NoKeyword, Text}
use Rattle.integers.proofs.WordStops.{first_stopped, fit}
use Rattle.integers.specs.Words.{Word, first_of, ident_of}
use Rattle.integers.specs.declared.ident.Found.{Found}
use Rattle.names.proofs.NameStops.{identifier_stopped, name_stop}
use Rattle.names.specs.Characters.{chars}
use Rattle.names.specs.Identifiers.{identifier_of, name_len, raw_of, strict_of}
use Rattle.names.specs.Starts.{begins_raw, begins_string}
use Rattle.names.specs.declared.Identifier.{Identifier}
use Rattle.names.specs.declared.Identifier.TheVariants.{Missing, Name, RawName}
use Rattle.strings.specs.Strings.{string_of}
use Rattle.text.proofs.Choices.{bool_cases, cond_cases, either}
use Rattle.text.proofs.ClassLaws.{all_of}
use Rattle.text.proofs.Stops.{Stopped, always, on, on₂}
use Rattle.text.proofs.WordLaws.{starts_head, starts_stopped}
use Rattle.text.specs.Classes.{ascii_next, ascii_raw, digit, ident_raw, letter, within}
use Rattle.text.specs.Ahead.{next_ahead}
use Rattle.text.proofs.AheadLaws.{ahead_stopped}
use Rattle.text.specs.Words.{starts_with}

-- ---- words

-- the bytes that aren't `]`
abbrev no_bracket : ℕ → Bool
no_bracket a = not (eqb 0x5d a)

name_free : (e : Extension) → all_of no_bracket (name_of e) ≡ true
name_free UnwrapNewtypes = refl
name_free ImplicitSome = refl
name_free UnwrapVariantNewtypes = refl
name_free ExplicitStructNames = refl

is_stopped : (e : Extension) (n : ℕ) → Stopped 0x5d (λ t. is_word (name_of e) t n)
unfolding is_word
is_stopped e n = on (λ (b : Bool). cond (eqb n (length (name_of e))) b false) (starts_stopped no_bracket 0x5d refl (name_of e) (name_free e))

named_stopped : (es : List Extension) (n : ℕ) → Stopped 0x5d (λ t. first_named es t n)
unfolding first_named
named_stopped [] n = always None
named_stopped (e ∷ es) n = on₂ (λ (b : Bool) (r : Option Extension). cond b (Some e) r) (is_stopped e n) (named_stopped es n)

pub extension_stopped : (n : ℕ) → Stopped 0x5d (λ t. extension_of t n)
unfolding extension_of
extension_stopped n = named_stopped extensions n

-- ---- names

pub name_stopped : Stopped 0x5d identifier_of
unfolding name_stop ascii_raw ascii_next letter digit within
name_stopped = identifier_stopped 0x5d refl

no_next : ascii_next 0x5d ≡ false
unfolding ascii_next letter digit within
no_next = refl

pub bracket_stopped : Stopped 0x5d next_ahead
bracket_stopped = ahead_stopped 0x5d (omega arith) no_next

-- ---- the word of an attribute

bracket_out : letter 0x5d ≡ false
unfolding letter within
bracket_out = refl

words_fit : fit letter keywords ≡ true
unfolding letter within
words_fit = refl

pub keyword_stopped : (at : ℕ) → Stopped 0x5d (λ t. by_word at (keyword_of t))
unfolding by_word keyword_of
keyword_stopped at =
    on (λ (f : Found). cond (eqb f.end 0) NoKeyword (cond (eqb f.code 1) (Enable (at + f.end)) (Text (at + f.end))))
    (first_stopped letter 0x5d (omega arith) no_next bracket_out keywords words_fit)

-- ---- the byte that they begin with

-- a byte up to 0x7F, and no `/`: a gap before it depends on nothing behind it
abbrev pub Good : ℕ → Type 0
Good b = (b < 0x80) × (eqb b 0x2f ≡ false)

pub good_by : (a b : ℕ) → a ≡ b → b < 0x80 → eqb b 0x2f ≡ false → Good a
good_by a b e h i = (omega arith, ap (λ (x : ℕ). eqb x 0x2f) e ∙ i)

-- a word that begins with a good byte
abbrev Begins : List ℕ → Type 0
Begins [] = ⊥
Begins (a ∷ w) = Good a

word_good : (w t : List ℕ) → Begins w → starts_with w t ≡ true → Good (get_or t 0 0)
word_good [] t b e = absurd b
word_good (a ∷ w) t b e = good_by (get_or t 0 0) a (starts_head a w t e) b.0 b.1

name_begins : (e : Extension) → Begins (name_of e)
name_begins UnwrapNewtypes = (omega arith, refl)
name_begins ImplicitSome = (omega arith, refl)
name_begins UnwrapVariantNewtypes = (omega arith, refl)
name_begins ExplicitStructNames = (omega arith, refl)

abbrev pub GoodName : List ℕ → Option Extension → Type 0
GoodName t (Some e) = Good (get_or t 0 0)
GoodName t None = Unit {0}

is_good : (e : Extension) (t : List ℕ) (n : ℕ) → is_word (name_of e) t n ≡ true → Good (get_or t 0 0)
unfolding is_word
is_good e t n =
    cond_cases (λ (b : Bool). b ≡ true → Good (get_or t 0 0)) (eqb n (length (name_of e))) (starts_with (name_of e) t) false
    (λ q. word_good (name_of e) t (name_begins e)) (λ q h. let z : ◌≡◌ {A = ℕ} 0 1 = cc in absurd (omega arith))

first_good : (es : List Extension) (t : List ℕ) (n : ℕ) → GoodName t (first_named es t n)
unfolding first_named
first_good [] t n = tt
first_good (e ∷ es) t n = cond_cases (GoodName t) (is_word (name_of e) t n) (Some e) (first_named es t n) (λ q. is_good e t n q) (λ q. first_good es t n)

pub extension_good : (t : List ℕ) (n : ℕ) → GoodName t (extension_of t n)
unfolding extension_of
extension_good t n = first_good extensions t n

-- a raw name begins with `r`
abbrev pub GoodRaw : List ℕ → Identifier → Type 0
GoodRaw t Missing = Unit {0}
GoodRaw t (Name n) = Unit {0}
GoodRaw t (RawName n) = Good (get_or t 0 0)

raw_good : (t : List ℕ) → begins_raw t ≡ true → Good (get_or t 0 0)
unfolding begins_raw
raw_good t e = good_by (get_or t 0 0) 0x72 (starts_head 0x72 (0x23 ∷ []) t e) (omega arith) refl

any_good : (t : List ℕ) (i : Identifier) → Good (get_or t 0 0) → GoodRaw t i
any_good t Missing g = tt
any_good t (Name n) g = tt
any_good t (RawName n) g = g

strict_good : (t : List ℕ) → GoodRaw t (strict_of t)
unfolding strict_of
strict_good t =
    cond_cases (GoodRaw t) (eqb (name_len t) 0) _ _ (λ g. tt) (λ g. cond_cases (GoodRaw t) (ltb (name_len t) (chars ident_raw t)) _ _ (λ h. tt) (λ h. tt))

pub identifier_good : (t : List ℕ) → GoodRaw t (identifier_of t)
unfolding identifier_of
identifier_good t =
    cond_cases (GoodRaw t) (begins_string t) _ _ (λ f. tt)
    (λ f. cond_cases (GoodRaw t) (begins_raw t) _ _ (λ g. any_good t (raw_of t) (raw_good t g)) (λ g. strict_good t))

-- the words of an attribute begin with letters
abbrev LettersFirst : List Word → Type 0
LettersFirst [] = Unit {0}
LettersFirst (w ∷ ws) = Begins w.letters × LettersFirst ws

ident_good : (w t : List ℕ) → Begins w → eqb (ident_of w t) 0 ≡ false → Good (get_or t 0 0)
unfolding ident_of
ident_good w t b =
    cond_cases (λ (n : ℕ). eqb n 0 ≡ false → Good (get_or t 0 0)) (starts_with w t) (cond (next_ahead (drop (length w) t)) 0 (length w)) 0
    (λ e h. word_good w t b e) (λ e h. let z : ◌≡◌ {A = ℕ} 0 1 = cc in absurd (omega arith))

table_good : (ws : List Word) (t : List ℕ) → LettersFirst ws → eqb (first_of ws t).end 0 ≡ false → Good (get_or t 0 0)
unfolding first_of
table_good [] t l = λ h. let z : ◌≡◌ {A = ℕ} 0 1 = cc in absurd (omega arith)
table_good (w ∷ ws) t l =
    cond_cases (λ (f : Found). eqb f.end 0 ≡ false → Good (get_or t 0 0)) (eqb (ident_of w.letters t) 0) (first_of ws t) (record { code = w.says; end = ident_of w.letters t })
    (λ e h. table_good ws t l.1 h) (λ e h. ident_good w.letters t l.0 e)

pub keyword_good : (t : List ℕ) → eqb (keyword_of t).end 0 ≡ false → Good (get_or t 0 0)
unfolding keyword_of
keyword_good t h = table_good keywords t ((omega arith, refl), ((omega arith, refl), ((omega arith, refl), tt))) h

-- a string begins with a quote or `r`
abbrev pub GoodString : List ℕ → Told Literal → Type 0
GoodString t (Ok l) = Good (get_or t 0 0)
GoodString t (Err r) = Unit {0}

pub string_good : (t : List ℕ) → GoodString t (string_of t)
unfolding string_of
string_good t =
    either (bool_cases (eqb (get_or t 0 0) 0x22)) (λ e. either_way (string_of t) (good_by (get_or t 0 0) 0x22 (eqb-true (get_or t 0 0) 0x22 e) (omega arith) refl))
    (λ e. either (bool_cases (eqb (get_or t 0 0) 0x72)) (λ f. either_way (string_of t) (good_by (get_or t 0 0) 0x72 (eqb-true (get_or t 0 0) 0x72 f) (omega arith) refl)) (λ f. rw (e, f) tt))
  where
    either_way : (a : Told Literal) → Good (get_or t 0 0) → GoodString t a
    either_way (Ok l) g = g
    either_way (Err r) g = tt
