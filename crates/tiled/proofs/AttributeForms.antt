-- An attribute that is read begins with `#` and ends with its `]`. Assumes nothing.
use Rattle.std.proofs.Common.{Ok, Err}
use Rattle.text.specs.Refusals.{Told, expected_attribute}
use Rattle.strings.specs.declared.literal.Literal.{Literal}
use Prim.Native.Nat.{ℕ, zero, suc, ◌+◌, ◌≤◌}
use native.Mathlib.Omega.{arith}
use mathlib.Core.Bool.{Bool, true}
use mathlib.Core.List.{List, [], ◌∷◌, ◌++◌}
use mathlib.Core.Path.{◌≡◌, ap, refl, subst, sym, ◌∙◌}
use lib.Dec.{eqb}
use lib.ListN.{drop, get_or, length, take}
use lib.Seq.{split_at}
use borrow.Author.Tests.{eqb-true}
use Rattle.text.proofs.Choices.{cond_cases}
use Rattle.attributes.proofs.AttributeLaws.{Bounded-attribute, attribute_bounded}
use Rattle.attributes.specs.Attributes.{attribute_of, by_keyword, by_listed, by_opened, enable_from, keyword_from, opened_of, string_value_from}
use Rattle.attributes.specs.Close.{answer_at, by_bracket, by_string, close_list, list_end, no_end, string_end, string_from}
use Rattle.attributes.specs.List.{list_of}
use Rattle.attributes.specs.Steps.{consume_from, sign_from, skip_from}
use Rattle.attributes.specs.Words.{keyword_at}
use Rattle.attributes.specs.declared.words.Keyword.{Keyword}
use Rattle.attributes.specs.declared.words.Keyword.TheVariants.{Enable, Text, NoKeyword}
use Rattle.strings.specs.Strings.{string_of}
use Rattle.tiled.specs.Forms.{Form}
use Rattle.tiled.specs.Forms.Form.{attribute}

module _ (s : List ℕ) where
  -- the last byte of what was read is `]`
  abbrev Ended : Told (ℕ × ℕ) → Type 0
  Ended (Ok (n, sum)) = (p : ℕ) × (n ≡ p + 1) × (get_or s p 0 ≡ 0x5d)
  Ended (Err r) = Unit {0}

  after_step : (r : Told ℕ) (go : ℕ → Told (ℕ × ℕ)) → ((p : ℕ) → Ended (go p)) → Ended (answer_at r go)
  after_step (Ok p) go f = f p
  after_step (Err r) go f = tt

  no-end : (at : ℕ) → Ended (no_end s at)
  unfolding no_end
  no-end at = after_step (skip_from s at) _ (λ p. tt)

  list-end : (all : Bool) (at sum : ℕ) → Ended (list_end s all at sum)
  unfolding list_end
  list-end all at sum =
      cond_cases Ended (eqb (get_or s at 0) 0x5d) _ _
      (λ e. cond_cases Ended all (Ok (at + 1, sum)) (no_end s (at + 1)) (λ a. (at, refl, eqb-true (get_or s at 0) 0x5d e)) (λ a. no-end (at + 1)))
      (λ e. tt)

  by-bracket : (sum : ℕ) (r : Told (Bool × ℕ)) → Ended (by_bracket s sum r)
  by-bracket sum (Ok (all, at)) = list-end all at sum
  by-bracket sum (Err r) = tt

  close-list : (at sum : ℕ) → Ended (close_list s at sum)
  unfolding close_list
  close-list at sum = by-bracket sum (consume_from 0x29 s true at)

  by-listed : (r : Told (ℕ × ℕ)) → Ended (by_listed s r)
  by-listed (Ok (at, sum)) = close-list at sum
  by-listed (Err r) = tt

  string-end : (at : ℕ) → Ended (string_end s at)
  unfolding string_end
  string-end at = after_step (skip_from s at) _ (λ p. list-end true p 0)

  by-string : (at : ℕ) (a : Told Literal) → Ended (by_string s at a)
  by-string at (Ok l) = string-end (at + l.len)
  by-string at (Err r) = tt

  string-from : (at : ℕ) → Ended (string_from s at)
  unfolding string_from
  string-from at = by-string at (string_of (drop at s))

  by-keyword : (k : Keyword) → Ended (by_keyword s k)
  unfolding enable_from string_value_from
  by-keyword (Enable at) = after_step (sign_from 0x28 s at) _ (λ p. by-listed (list_of s p))
  by-keyword (Text at) = after_step (sign_from 0x3d s at) _ string-from
  by-keyword NoKeyword = tt

  by-opened : (r : Told (Bool × ℕ)) → Ended (by_opened s r)
  unfolding keyword_from
  by-opened (Ok (all, at)) = cond_cases Ended all _ (Err (expected_attribute 0)) (λ e. by-keyword (keyword_at s at)) (λ e. tt)
  by-opened (Err r) = tt

  attribute_ended : Ended (attribute_of s)
  unfolding attribute_of
  attribute_ended = by-opened (opened_of s)

-- `#` first and `]` last
attribute_form : (s : List ℕ) (n p x : ℕ) → get_or s 0 0 ≡ 0x23 → n ≡ p + 1 → get_or s p 0 ≡ 0x5d → n ≤ length s → Form 16 x s (drop n s)
attribute_form [] n p x h e c l = absurd (omega arith)
attribute_form (a ∷ t) n zero x h e c l = absurd (omega arith)
attribute_form (a ∷ t) n (suc q) x h e c l =
    let split : t ≡ take q t ++ 0x5D ∷ drop (suc q) t = split_at t q 0 (omega arith) ∙ ap (λ (b : ℕ). take q t ++ b ∷ drop (suc q) t) c in
    let whole : a ∷ t ≡ 0x23 ∷ (take q t ++ 0x5D ∷ drop (suc q) t) = ap (λ (b : ℕ). b ∷ t) h ∙ ap (λ (y : List ℕ). 0x23 ∷ y) split in
    let m : n ≡ suc (suc q) = omega arith in
    subst (λ (k : ℕ). Form 16 x (a ∷ t) (drop k (a ∷ t))) (sym m) (subst (λ (y : List ℕ). Form 16 x y (drop (suc q) t)) (sym whole) (attribute (take q t)))

abbrev pub AttributeSays : List ℕ → Told (ℕ × ℕ) → Type 0
AttributeSays s (Ok (n, sum)) = Form 16 sum s (drop n s)
AttributeSays s (Err r) = Unit {0}

-- an attribute that is read has its form
pub attribute_says : (s : List ℕ) → get_or s 0 0 ≡ 0x23 → AttributeSays s (attribute_of s)
attribute_says s h = go (attribute_of s) (attribute_ended s) (attribute_bounded s)
  where
    go : (a : Told (ℕ × ℕ)) → Ended s a → Bounded-attribute s a → AttributeSays s a
    go (Ok (n, sum)) (p, e, c) b = attribute_form s n p sum h e c b.1
    go (Err r) e b = tt
