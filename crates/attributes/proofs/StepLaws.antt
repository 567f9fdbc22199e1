-- Laws of steps, signs and words, as the functions ask for them. Assumes nothing.
use Rattle.std.proofs.Common.{Ok, Err}
use Rattle.text.specs.Refusals.{Told, expected_attribute, expected_attribute_end, expected_string}
use Rattle.strings.specs.declared.literal.Literal.{Literal}
use Prim.Native.Nat.{◌%◌, ◌+◌, ◌-◌, ◌/◌, ◌<◌, ◌≤◌, ℕ}
use native.Mathlib.Nat.{add-zero}
use native.Mathlib.Omega.{arith}
use mathlib.Core.Bool.{Bool, cond, false, true}
use mathlib.Core.List.{List}
use mathlib.Core.Path.{◌∙◌, ◌≡◌, ap, subst, sym}
use lib.Dec.{eqb}
use lib.ListN.{drop, drop_of_length-le, get_or, length, length-drop, take}
use borrow.Author.Tests.{eq-eqb, eqb-false, ne_eqb}
use Rattle.attributes.specs.Close.{answer_at, by_bracket, by_string, close_list, list_end, no_end, string_end, string_from}
use Rattle.attributes.specs.Extensions.{added_to, adds_of}
use Rattle.attributes.specs.Steps.{all_at, and_then, step_behind, consume_from, sign_at, sign_from, skip_from}
use Rattle.attributes.specs.Words.{by_word, keyword_at, keywords, keyword_of}
use Rattle.attributes.specs.declared.extensions.Extension.{Extension}
use Rattle.attributes.specs.declared.extensions.Extension.TheVariants.{ExplicitStructNames, ImplicitSome, UnwrapNewtypes, UnwrapVariantNewtypes}
use Rattle.attributes.specs.declared.words.Keyword.TheVariants.{Enable, NoKeyword, Text}
use Rattle.comments.proofs.GapLaws.{EndsBy, gap_bounded}
use Rattle.comments.specs.Gaps.{gap_from, gap_of}
use Rattle.comments.specs.declared.gap.Gap.{Gap}
use Rattle.integers.specs.Words.{first_of, ident_of}
use Rattle.integers.specs.declared.ident.Found.{Found}
use Rattle.strings.proofs.Bounds.{Bounded-string, string_bounded}
use Rattle.strings.proofs.Wholes.{none_here}
use Rattle.strings.specs.Strings.{string_of}
use Rattle.text.proofs.Choices.{cond_cases}
use Rattle.text.proofs.Lists.{tail_part}
use Rattle.text.specs.Words.{starts_with}
use Rattle.integers.proofs.Words.{first_le}

-- ---- whitespace

pub skip_out : (s : List ℕ) (at : ℕ) → length s ≤ at → Ok at ≡ skip_from s at
unfolding skip_from gap_of gap_from
skip_out s at h = rw (drop_of_length-le s h) (ap Ok (sym (add-zero at)))

module _ (s : List ℕ) (at : ℕ) (g : Gap) (e : g ≡ gap_of (take (length s - at) (drop at s))) where
  pub skip_by : step_behind at g ≡ skip_from s at
  unfolding skip_from
  skip_by = ap (step_behind at) (e ∙ ap gap_of (tail_part s at))

  pub gap_fits : EndsBy (length s - at) g
  gap_fits =
      subst (EndsBy (length s - at)) (sym (e ∙ ap gap_of (tail_part s at)))
      (subst (λ (n : ℕ). EndsBy n (gap_of (drop at s))) (length-drop at s) (gap_bounded (drop at s)))

-- ---- signs, by the byte x that was looked at

module _ (s : List ℕ) (at b x : ℕ) (e : x ≡ get_or s at 0) where
  absent : (x ≡ b → ⊥) → eqb (get_or s at 0) b ≡ false
  absent n = ne_eqb (get_or s at 0) b (λ q. n (e ∙ q))

  present : x ≡ b → eqb (get_or s at 0) b ≡ true
  present q = eq-eqb (get_or s at 0) b (sym e ∙ q)

  pub stands_fits : 0 < b → x ≡ b → at < length s
  stands_fits p q = none_here s at b p (present q)

  pub consume_out : (all : Bool) → (x ≡ b → ⊥) → Ok (false, at) ≡ consume_from b s all at
  unfolding consume_from
  consume_out all n = rw (absent n)

  pub consume_in : (all : Bool) (r : Told ℕ) → x ≡ b → r ≡ skip_from s (at + 1) → all_at all r ≡ consume_from b s all at
  unfolding consume_from
  consume_in all r q d = rw (present q) (ap (all_at all) d)

  pub sign_out : (x ≡ b → ⊥) → Err (expected_attribute 0) ≡ sign_at b s at
  unfolding sign_at
  sign_out n = rw (absent n)

  pub sign_in : (r : Told ℕ) → x ≡ b → r ≡ skip_from s (at + 1) → r ≡ sign_at b s at
  unfolding sign_at
  sign_in r q d = rw (present q) d

pub sign-by : (b : ℕ) (s : List ℕ) (at : ℕ) (r : Told ℕ) → r ≡ skip_from s at → and_then r (sign_at b s) ≡ sign_from b s at
unfolding sign_from
sign-by b s at r e = ap (λ (x : Told ℕ). and_then x (sign_at b s)) e

-- ---- the `]`

module _ (s : List ℕ) (at sum x : ℕ) (e : x ≡ get_or s at 0) where
  pub end_out : (all : Bool) → (x ≡ 0x5d → ⊥) → Err (expected_attribute_end 0) ≡ list_end s all at sum
  unfolding list_end
  end_out all n = rw (absent s at 0x5d x e n)

  pub end_in : (all : Bool) → x ≡ 0x5d → cond all (Ok (at + 1, sum)) (no_end s (at + 1)) ≡ list_end s all at sum
  unfolding list_end
  end_in all q = rw (present s at 0x5d x e q)

pub no_end_by : (s : List ℕ) (at : ℕ) (r : Told ℕ) → r ≡ skip_from s at → answer_at r (λ p. Err (expected_attribute_end 0)) ≡ no_end s at
unfolding no_end
no_end_by s at r e = ap (λ (x : Told ℕ). answer_at x (λ p. Err (expected_attribute_end 0))) e

pub close_by : (s : List ℕ) (at sum : ℕ) (r : Told (Bool × ℕ)) → r ≡ consume_from 0x29 s true at → by_bracket s sum r ≡ close_list s at sum
unfolding close_list
close_by s at sum r e = ap (by_bracket s sum) e

pub string_end_by : (s : List ℕ) (at : ℕ) (r : Told ℕ) → r ≡ skip_from s at → answer_at r (λ p. list_end s true p 0) ≡ string_end s at
unfolding string_end
string_end_by s at r e = ap (λ (x : Told ℕ). answer_at x (λ p. list_end s true p 0)) e

pub string_out : (s : List ℕ) (at : ℕ) → length s ≤ at → Err (expected_string at) ≡ string_from s at
unfolding string_from string_of
string_out s at h = rw (drop_of_length-le s h) (ap (λ (n : ℕ). Err (expected_string n)) (sym (add-zero at)))

module _ (s : List ℕ) (at : ℕ) (a : Told Literal) (e : a ≡ string_of (take (length s - at) (drop at s))) where
  pub string_by : by_string s at a ≡ string_from s at
  unfolding string_from
  string_by = ap (by_string s at) (e ∙ ap string_of (tail_part s at))

  pub string_fits : Bounded-string (drop at s) a
  string_fits = subst (Bounded-string (drop at s)) (sym (e ∙ ap string_of (tail_part s at))) (string_bounded (drop at s))

-- ---- words

pub keyword_out : (s : List ℕ) (at : ℕ) → length s ≤ at → NoKeyword ≡ keyword_at s at
unfolding keyword_at by_word keyword_of first_of ident_of starts_with
keyword_out s at h = rw (drop_of_length-le s h)

-- a word, by what the two tests say
pub word_by : (at : ℕ) (f : Found) (none first : Bool) → eqb f.end 0 ≡ none → eqb f.code 1 ≡ first
    → by_word at f ≡ cond none NoKeyword (cond first (Enable (at + f.end)) (Text (at + f.end)))
unfolding by_word
word_by at f none first p r =
    ap (λ (x : Bool). cond x NoKeyword (cond (eqb f.code 1) (Enable (at + f.end)) (Text (at + f.end)))) p
    ∙ ap (λ (x : Bool). cond none NoKeyword (cond x (Enable (at + f.end)) (Text (at + f.end)))) r

-- a word lies within its part
pub word_le : (t : List ℕ) → (keyword_of t).end ≤ length t
unfolding keyword_of
word_le t = first_le keywords t

module _ (s : List ℕ) (at : ℕ) (f : Found) (e : f ≡ keyword_of (take (length s - at) (drop at s))) where
  pub word_fits : f.end ≤ length s - at
  word_fits = omega (arith, word_le (drop at s), length-drop at s, ap (λ (x : Found). x.end) (e ∙ ap keyword_of (tail_part s at)))

  pub keyword_by : by_word at f ≡ keyword_at s at
  unfolding keyword_at
  keyword_by = ap (by_word at) (e ∙ ap keyword_of (tail_part s at))

-- ---- extensions

pub value_small : (e : Extension) → (0 < adds_of e) × (adds_of e ≤ 8)
value_small UnwrapNewtypes = (omega arith, omega arith)
value_small ImplicitSome = (omega arith, omega arith)
value_small UnwrapVariantNewtypes = (omega arith, omega arith)
value_small ExplicitStructNames = (omega arith, omega arith)

pub added_small : (e : Extension) (n : ℕ) → n < 16 → added_to e n < 16
unfolding added_to
added_small UnwrapNewtypes n h = cond_cases (λ (x : ℕ). x < 16) (eqb (n / 1 % 2) 1) n (n + 1) (λ t. h) (λ t. let k = eqb-false (n / 1 % 2) 1 t in even n h k)
  where
    even : (n : ℕ) → n < 16 → (n / 1 % 2 ≡ 1 → ⊥) → n + 1 < 16
    even n h k = omega arith
added_small ImplicitSome n h = cond_cases (λ (x : ℕ). x < 16) (eqb (n / 2 % 2) 1) n (n + 2) (λ t. h) (λ t. let k = eqb-false (n / 2 % 2) 1 t in omega arith)
added_small UnwrapVariantNewtypes n h = cond_cases (λ (x : ℕ). x < 16) (eqb (n / 4 % 2) 1) n (n + 4) (λ t. h) (λ t. let k = eqb-false (n / 4 % 2) 1 t in omega arith)
added_small ExplicitStructNames n h = cond_cases (λ (x : ℕ). x < 16) (eqb (n / 8 % 2) 1) n (n + 8) (λ t. h) (λ t. let k = eqb-false (n / 8 % 2) 1 t in omega arith)
