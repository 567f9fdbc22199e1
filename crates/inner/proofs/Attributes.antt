-- The refusals of attributes are inner. Assumes nothing.
use Rattle.std.proofs.Common.{Ok, Err}
use Rattle.text.specs.Refusals.{Told}
use Rattle.strings.specs.declared.literal.Literal.{Literal}
use Prim.Native.Nat.{ℕ, ◌+◌}
use mathlib.Core.Bool.{Bool, true}
use mathlib.Core.List.{List}
use mathlib.Core.Path.{refl}
use lib.Dec.{eqb}
use lib.ListN.{drop, get_or}
use Rattle.attributes.specs.Attributes.{by_listed, enable_from, string_value_from, by_keyword, keyword_from, by_opened, opened_of, attribute_of}
use Rattle.attributes.specs.Close.{answer_at, no_end, list_end, by_bracket, close_list, string_end, by_string, string_from}
use Rattle.attributes.specs.List.{list_of}
use Rattle.attributes.specs.Steps.{skip_from, consume_from, consume_of, sign_from}
use Rattle.attributes.specs.Words.{keyword_at}
use Rattle.attributes.specs.declared.words.Keyword.{Keyword}
use Rattle.attributes.specs.declared.words.Keyword.TheVariants.{Enable, Text, NoKeyword}
use Rattle.strings.specs.Strings.{string_of}
use Rattle.inner.specs.Inner.{Inner, within}
use Rattle.inner.proofs.Both.{both}
use Rattle.inner.proofs.Steps.{Inner-step, Inner-all, skip_inner, consume-from, consume, sign_inner}
use Rattle.inner.proofs.Lists.{Inner-listed, list_inner}
use Rattle.inner.proofs.Strings.{Inner-literal, string_inner}

abbrev pub Inner-attribute : Told (ℕ × ℕ) → Type 0
Inner-attribute (Ok (n, extensions)) = Unit
Inner-attribute (Err r) = Inner r

answer-at : (a : Told ℕ) (go : ℕ → Told (ℕ × ℕ)) → Inner-step a → ((p : ℕ) → Inner-attribute (go p)) → Inner-attribute (answer_at a go)
answer-at (Ok p) go h k = k p
answer-at (Err r) go h k = h

-- ---- its end

no-end : (s : List ℕ) (at : ℕ) → Inner-attribute (no_end s at)
unfolding no_end within
no-end s at = answer-at (skip_from s at) _ (skip_inner s at) (λ p. refl)

list-end : (s : List ℕ) (all : Bool) (at sum : ℕ) → Inner-attribute (list_end s all at sum)
unfolding list_end within
list-end s all at sum = both Inner-attribute (eqb (get_or s at 0) 0x5d) (both Inner-attribute all tt (no-end s (at + 1))) refl

by-bracket : (s : List ℕ) (sum : ℕ) (a : Told (Bool × ℕ)) → Inner-all a → Inner-attribute (by_bracket s sum a)
by-bracket s sum (Ok (all, at)) h = list-end s all at sum
by-bracket s sum (Err r) h = h

close-list : (s : List ℕ) (at sum : ℕ) → Inner-attribute (close_list s at sum)
unfolding close_list
close-list s at sum = by-bracket s sum (consume_from 0x29 s true at) (consume-from 0x29 s true at)

string-end : (s : List ℕ) (at : ℕ) → Inner-attribute (string_end s at)
unfolding string_end
string-end s at = answer-at (skip_from s at) _ (skip_inner s at) (λ p. list-end s true p 0)

by-string : (s : List ℕ) (at : ℕ) (a : Told Literal) → Inner-literal a → Inner-attribute (by_string s at a)
by-string s at (Ok l) h = string-end s (at + l.len)
by-string s at (Err r) h = h

string-from : (s : List ℕ) (at : ℕ) → Inner-attribute (string_from s at)
unfolding string_from
string-from s at = by-string s at (string_of (drop at s)) (string_inner (drop at s))

-- ---- the whole

by-listed : (s : List ℕ) (a : Told (ℕ × ℕ)) → Inner-listed a → Inner-attribute (by_listed s a)
by-listed s (Ok (at, sum)) h = close-list s at sum
by-listed s (Err r) h = h

by-keyword : (s : List ℕ) (k : Keyword) → Inner-attribute (by_keyword s k)
unfolding enable_from string_value_from within
by-keyword s (Enable at) = answer-at (sign_from 0x28 s at) _ (sign_inner 0x28 s at) (λ p. by-listed s (list_of s p) (list_inner s p))
by-keyword s (Text at) = answer-at (sign_from 0x3d s at) (string_from s) (sign_inner 0x3d s at) (string-from s)
by-keyword s NoKeyword = refl

by-opened : (s : List ℕ) (a : Told (Bool × ℕ)) → Inner-all a → Inner-attribute (by_opened s a)
unfolding keyword_from within
by-opened s (Ok (all, at)) h = both Inner-attribute all (by-keyword s (keyword_at s at)) refl
by-opened s (Err r) h = h

opened : (s : List ℕ) → Inner-all (opened_of s)
unfolding opened_of
opened s =
    let a = consume_of 0x23 s (Ok (true, 0)) in
    let b = consume_of 0x21 s a in
    consume 0x5b s b (consume 0x21 s a (consume 0x23 s (Ok (true, 0)) tt))

pub attribute_inner : (s : List ℕ) → Inner-attribute (attribute_of s)
unfolding attribute_of
attribute_inner s = by-opened s (opened_of s) (opened s)
