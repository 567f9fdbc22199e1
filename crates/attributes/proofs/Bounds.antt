-- How far an attribute reaches: `attribute-bounded`, and the same of its steps. Assumes nothing.
use Rattle.std.proofs.Common.{Ok, Err, Some, None, Option}
use Rattle.text.specs.Refusals.{Told, expected_attribute, expected_attribute_end}
use Rattle.strings.specs.declared.literal.Literal.{Literal}
use Prim.Native.Nat.{◌+◌, ◌-◌, ◌<◌, ◌≤◌, pred, suc, zero, ℕ}
use native.Mathlib.Omega.{arith}
use mathlib.Core.Bool.{Bool, false, true}
use mathlib.Core.List.{List, [], ◌∷◌}
use mathlib.Core.Path.{◌≡◌, refl}
use lib.Dec.{eqb}
use lib.ListN.{drop, get_or, length, length-drop}
use Rattle.attributes.proofs.StepLaws.{added_small, word_le}
use Rattle.attributes.specs.Attributes.{attribute_of, by_keyword, by_listed, by_opened, enable_from, keyword_from, opened_of, string_value_from}
use Rattle.attributes.specs.Close.{answer_at, by_bracket, by_string, close_list, list_end, no_end, string_end, string_from}
use Rattle.attributes.specs.Extensions.{added_to, extension_of}
use Rattle.attributes.specs.List.{behind_name, by_comma, by_list_name, by_item, by_extension_name, by_other, item_end, item_of, list_from, list_of, other_char}
use Rattle.attributes.specs.Steps.{all_at, and_then, step_behind, consume_from, consume_of, sign_at, sign_from, skip_from}
use Rattle.attributes.specs.Words.{by_word, keyword_at, keyword_of}
use Rattle.attributes.specs.declared.extensions.Extension.{Extension}
use Rattle.attributes.specs.declared.list.Item.{Item}
use Rattle.attributes.specs.declared.list.Item.TheVariants.{Last, More, NoComma, NoName}
use Rattle.attributes.specs.declared.list.Item.TheVariants as items
use Rattle.attributes.specs.declared.list.OtherChar.{OtherChar}
use Rattle.attributes.specs.declared.list.OtherChar.TheVariants.{Ends, Goes}
use Rattle.attributes.specs.declared.words.Keyword.{Keyword}
use Rattle.comments.proofs.GapLaws.{EndsBy, gap_bounded}
use Rattle.comments.specs.Gaps.{gap_of}
use Rattle.comments.specs.declared.gap.Gap.{Gap}
use Rattle.comments.specs.declared.gap.Gap.TheVariants.{Clear, InLine, Refused as NoGap}
use Rattle.names.proofs.IdentifierLaws.{Within, identifier_within}
use Rattle.names.specs.Identifiers.{identifier_of}
use Rattle.names.specs.declared.Identifier.{Identifier}
use Rattle.names.specs.declared.Identifier.TheVariants.{Missing, Name, RawName}
use Rattle.strings.proofs.Bounds.{Bounded-string, string_bounded}
use Rattle.strings.proofs.Wholes.{none_here}
use Rattle.strings.specs.Strings.{string_of}
use Rattle.text.proofs.Choices.{cond_cases}

-- ---- steps

-- a step goes forward within the part
abbrev pub StepIn : List ℕ → ℕ → Told ℕ → Type 0
StepIn s at (Ok p) = (at ≤ p) × (p ≤ length s)
StepIn s at (Err r) = r.place ≤ length s

abbrev pub AllIn : List ℕ → ℕ → Told (Bool × ℕ) → Type 0
AllIn s at (Ok (all, p)) = (at ≤ p) × (p ≤ length s)
AllIn s at (Err r) = r.place ≤ length s

gap-in : (s : List ℕ) (at : ℕ) (g : Gap) → at ≤ length s → EndsBy (length (drop at s)) g → StepIn s at (step_behind at g)
gap-in s at (Clear n) h e = let d = length-drop at s in (omega arith, omega arith)
gap-in s at (InLine n) h e = let d = length-drop at s in (omega arith, omega arith)
gap-in s at (NoGap r) h e = omega (arith, length-drop at s)

pub skip_in : (s : List ℕ) (at : ℕ) → at ≤ length s → StepIn s at (skip_from s at)
unfolding skip_from
skip_in s at h = gap-in s at (gap_of (drop at s)) h (gap_bounded (drop at s))

step_later : (s : List ℕ) (at at' : ℕ) (r : Told ℕ) → at ≤ at' → StepIn s at' r → StepIn s at r
step_later s at at' (Ok p) h i = (omega (arith, i.0), i.1)
step_later s at at' (Err r) h i = i

all_in : (s : List ℕ) (at : ℕ) (all : Bool) (r : Told ℕ) → StepIn s at r → AllIn s at (all_at all r)
all_in s at all (Ok p) i = i
all_in s at all (Err r) i = i

pub consume_from_in : (b : ℕ) (s : List ℕ) (all : Bool) (at : ℕ) → 0 < b → at ≤ length s → AllIn s at (consume_from b s all at)
unfolding consume_from
consume_from_in b s all at p h =
    cond_cases (AllIn s at) (eqb (get_or s at 0) b) (all_at all (skip_from s (at + 1))) (Ok (false, at))
    (λ e. let l = none_here s at b p e in
    all_in s at all (skip_from s (at + 1)) (step_later s at (at + 1) (skip_from s (at + 1)) (omega arith) (skip_in s (at + 1) (omega arith))))
    (λ e. (omega arith, h))

pub consume_within : (b : ℕ) (s : List ℕ) (at : ℕ) (r : Told (Bool × ℕ)) → 0 < b → AllIn s at r → AllIn s at (consume_of b s r)
consume_within b s at (Ok (all, p)) h i = later (consume_from b s all p) (consume_from_in b s all p h i.1)
  where
    later : (r : Told (Bool × ℕ)) → AllIn s p r → AllIn s at r
    later (Ok (all, q)) j = (omega (arith, i.0, j.0), j.1)
    later (Err r) j = j
consume_within b s at (Err r) h i = i

sign_at_in : (b : ℕ) (s : List ℕ) (at : ℕ) → 0 < b → at ≤ length s → StepIn s at (sign_at b s at)
unfolding sign_at
sign_at_in b s at p h =
    cond_cases (StepIn s at) (eqb (get_or s at 0) b) (skip_from s (at + 1)) (Err (expected_attribute 0))
    (λ e. let l = none_here s at b p e in step_later s at (at + 1) (skip_from s (at + 1)) (omega arith) (skip_in s (at + 1) (omega arith)))
    (λ e. omega arith)

pub sign_within : (b : ℕ) (s : List ℕ) (at : ℕ) → 0 < b → at ≤ length s → StepIn s at (sign_from b s at)
unfolding sign_from
sign_within b s at p h = go (skip_from s at) (skip_in s at h)
  where
    go : (r : Told ℕ) → StepIn s at r → StepIn s at (and_then r (sign_at b s))
    go (Ok q) i = step_later s at q (sign_at b s q) i.0 (sign_at_in b s q p i.1)
    go (Err r) i = i

-- ---- items

-- an item has at least one byte, and no more than the part
abbrev pub ItemIn : List ℕ → Item → Type 0
ItemIn t (More n e) = (0 < n) × (n ≤ length t)
ItemIn t (Last n e) = (0 < n) × (n ≤ length t)
ItemIn t NoName = Unit {0}
ItemIn t NoComma = Unit {0}
ItemIn t (items.Refused r) = r.place ≤ length t

other_in : (t : List ℕ) (e : Extension) (comma : Bool) (at : ℕ) (r : OtherChar) → other_char t at ≡ r → 0 < at → at ≤ length t → ItemIn t (by_other r e comma at)
other_in t e true at Goes q p h = (p, h)
other_in t e false at Goes q p h = tt
other_in t e comma at Ends q p h = (p, h)

comma_in : (t : List ℕ) (e : Extension) (n : ℕ) (r : Told (Bool × ℕ)) → 0 < n → AllIn t n r → ItemIn t (by_comma t e r)
unfolding item_end
comma_in t e n (Ok (comma, at)) p i = other_in t e comma at (other_char t at) refl (omega (arith, i.0)) i.1
comma_in t e n (Err r) p i = i

behind_in : (t : List ℕ) (e : Extension) (n : ℕ) → 0 < n → n ≤ length t → ItemIn t (behind_name t e n)
unfolding behind_name
behind_in t e n p h =
    comma_in t e n (consume_of 0x2c t (all_at true (skip_from t n))) p
    (consume_within 0x2c t n (all_at true (skip_from t n)) (omega arith) (all_in t n true (skip_from t n) (skip_in t n h)))

named_in : (t : List ℕ) (n : ℕ) (r : Option Extension) → 0 < n → n ≤ length t → ItemIn t (by_extension_name t n r)
named_in t n (Some e) p h = behind_in t e n p h
named_in t n None p h = tt

identifier_in : (t : List ℕ) (i : Identifier) → Within t i → ItemIn t (by_list_name t i)
identifier_in t Missing w = tt
identifier_in t (Name n) w = named_in t n (extension_of t n) w.0 w.1
identifier_in t (RawName n) w = named_in t n (extension_of (drop 2 t) (n - 2)) (omega (arith, w.0)) w.1

pub item_in : (t : List ℕ) → ItemIn t (item_of t)
unfolding item_of
item_in t = identifier_in t (identifier_of t) (identifier_within t)

-- ---- the list

abbrev pub ListIn : List ℕ → ℕ → Told (ℕ × ℕ) → Type 0
ListIn s at (Ok (p, sum)) = (at ≤ p) × (p ≤ length s) × (sum < 16)
ListIn s at (Err r) = r.place ≤ length s

-- the same from bytes t in front of the place `at` of a text that ends at `end`
abbrev pub EndsIn : ℕ → ℕ → Told (ℕ × ℕ) → Type 0
EndsIn at end (Ok (p, sum)) = (at ≤ p) × (p ≤ end) × (sum < 16)
EndsIn at end (Err r) = r.place ≤ end

by-item : (t : List ℕ) (r : Item) (on : ℕ → Extension → Told (ℕ × ℕ)) (at sum : ℕ) → ItemIn t r → sum < 16 → ((n : ℕ) (e : Extension) → EndsIn at (at + length t) (on n e)) → EndsIn at (at + length t) (by_item r on at sum)
by-item t (More n e) on at sum i h f = f n e
by-item t (Last n e) on at sum i h f = (omega arith, omega (arith, i.1), added_small e sum h)
by-item t NoName on at sum i h f = omega arith
by-item t NoComma on at sum i h f = omega arith
by-item t (items.Refused r) on at sum i h f = omega arith

pub list_ends : (t : List ℕ) (left at sum : ℕ) → sum < 16 → EndsIn at (at + length t) (list_from t left at sum)
unfolding list_from
list_ends [] left at sum h = omega arith
list_ends (a ∷ t) (suc left) at sum h = wider (list_from t left (at + 1) sum) (list_ends t left (at + 1) sum h)
  where
    wider : (r : Told (ℕ × ℕ)) → EndsIn (at + 1) (at + 1 + length t) r → EndsIn at (at + length (a ∷ t)) r
    wider (Ok (p, n)) i = (omega (arith, i.0), omega (arith, i.1), i.2)
    wider (Err r) i = omega arith
list_ends (a ∷ t) zero at sum h =
    by-item (a ∷ t) (item_of (a ∷ t)) (λ n e. list_from t (pred n) (at + 1) (added_to e sum)) at sum (item_in (a ∷ t)) h
    (λ n e. wider (list_from t (pred n) (at + 1) (added_to e sum)) (list_ends t (pred n) (at + 1) (added_to e sum) (added_small e sum h)))
  where
    wider : (r : Told (ℕ × ℕ)) → EndsIn (at + 1) (at + 1 + length t) r → EndsIn at (at + length (a ∷ t)) r
    wider (Ok (p, n)) i = (omega (arith, i.0), omega (arith, i.1), i.2)
    wider (Err r) i = omega arith

pub list_in : (s : List ℕ) (at : ℕ) → at ≤ length s → ListIn s at (list_of s at)
unfolding list_of
list_in s at h = fit (list_from (drop at s) 0 at 0) (list_ends (drop at s) 0 at 0 (omega arith))
  where
    fit : (r : Told (ℕ × ℕ)) → EndsIn at (at + length (drop at s)) r → ListIn s at r
    fit (Ok (p, sum)) i = let d = length-drop at s in (i.0, omega (arith, i.1), i.2)
    fit (Err r) i = omega (arith, length-drop at s)

-- ---- attributes

-- an attribute of 1 or more bytes within s, behind the place `at`, and a sum of extensions below 16; a refusal's place within s
abbrev pub AnswerIn : List ℕ → ℕ → Told (ℕ × ℕ) → Type 0
AnswerIn s at (Ok (n, sum)) = (at < n) × (n ≤ length s) × (sum < 16)
AnswerIn s at (Err r) = r.place ≤ length s

answer_later : (s : List ℕ) (at at' : ℕ) (a : Told (ℕ × ℕ)) → at ≤ at' → AnswerIn s at' a → AnswerIn s at a
answer_later s at at' (Ok (n, sum)) h i = (omega (arith, i.0), i.1, i.2)
answer_later s at at' (Err r) h i = i

-- behind a step
after_step : (s : List ℕ) (at : ℕ) (r : Told ℕ) (go : ℕ → Told (ℕ × ℕ)) → StepIn s at r → ((p : ℕ) → at ≤ p → p ≤ length s → AnswerIn s p (go p)) → AnswerIn s at (answer_at r go)
after_step s at (Ok p) go i f = answer_later s at p (go p) i.0 (f p i.0 i.1)
after_step s at (Err r) go i f = i

end_within : (s : List ℕ) (all : Bool) (at sum : ℕ) → at ≤ length s → sum < 16 → AnswerIn s at (list_end s all at sum)
unfolding list_end no_end
end_within s all at sum h k =
    cond_cases (AnswerIn s at) (eqb (get_or s at 0) 0x5d) _ _
    (λ e. let l = none_here s at 0x5d (omega arith) e in
    cond_cases (AnswerIn s at) all (Ok (at + 1, sum)) (answer_at (skip_from s (at + 1)) (λ p. Err (expected_attribute_end 0)))
    (λ f. (omega arith, omega arith, k))
    (λ f. after_step s at (skip_from s (at + 1)) (λ p. Err (expected_attribute_end 0)) (step_later s at (at + 1) (skip_from s (at + 1)) (omega arith) (skip_in s (at + 1) (omega arith))) (λ p i j. omega arith)))
    (λ e. omega arith)

close_in : (s : List ℕ) (at sum : ℕ) → at ≤ length s → sum < 16 → AnswerIn s at (close_list s at sum)
unfolding close_list
close_in s at sum h k = go (consume_from 0x29 s true at) (consume_from_in 0x29 s true at (omega arith) h)
  where
    go : (r : Told (Bool × ℕ)) → AllIn s at r → AnswerIn s at (by_bracket s sum r)
    go (Ok (all, p)) i = answer_later s at p (list_end s all p sum) i.0 (end_within s all p sum i.1 k)
    go (Err r) i = i

string_in : (s : List ℕ) (at : ℕ) → at ≤ length s → AnswerIn s at (string_from s at)
unfolding string_from string_end
string_in s at h = go (string_of (drop at s)) (string_bounded (drop at s))
  where
    go : (a : Told Literal) → Bounded-string (drop at s) a → AnswerIn s at (by_string s at a)
    go (Ok l) i =
        let d = length-drop at s in
        answer_later s at (at + l.len) (answer_at (skip_from s (at + l.len)) (λ p. list_end s true p 0)) (omega arith)
        (after_step s (at + l.len) (skip_from s (at + l.len)) (λ p. list_end s true p 0) (skip_in s (at + l.len) (omega (arith, i.1))) (λ p j k. end_within s true p 0 k (omega arith)))
    go (Err r) i = omega (arith, length-drop at s)

pub enable_in : (s : List ℕ) (at : ℕ) → at ≤ length s → AnswerIn s at (enable_from s at)
unfolding enable_from
enable_in s at h =
    after_step s at (sign_from 0x28 s at) (λ p. by_listed s (list_of s p)) (sign_within 0x28 s at (omega arith) h)
    (λ p i j. listed p (list_of s p) (list_in s p j))
  where
    listed : (p : ℕ) (r : Told (ℕ × ℕ)) → ListIn s p r → AnswerIn s p (by_listed s r)
    listed p (Ok (q, sum)) i = answer_later s p q (close_list s q sum) i.0 (close_in s q sum i.1 i.2)
    listed p (Err r) i = i

pub value_in : (s : List ℕ) (at : ℕ) → at ≤ length s → AnswerIn s at (string_value_from s at)
unfolding string_value_from
value_in s at h = after_step s at (sign_from 0x3d s at) (string_from s) (sign_within 0x3d s at (omega arith) h) (λ p i j. string_in s p j)

pub keyword_in : (s : List ℕ) (at : ℕ) → at ≤ length s → AnswerIn s at (keyword_from s at)
unfolding keyword_from keyword_at by_word
keyword_in s at h =
    let f = keyword_of (drop at s) in
    let l : at + f.end ≤ length s = omega (arith, word_le (drop at s), length-drop at s) in
    cond_cases (λ (k : Keyword). AnswerIn s at (by_keyword s k)) (eqb f.end 0) _ _ (λ e. omega arith)
    (λ e. cond_cases (λ (k : Keyword). AnswerIn s at (by_keyword s k)) (eqb f.code 1) _ _
    (λ c. answer_later s at (at + f.end) (enable_from s (at + f.end)) (omega arith) (enable_in s (at + f.end) l))
    (λ c. answer_later s at (at + f.end) (string_value_from s (at + f.end)) (omega arith) (value_in s (at + f.end) l)))

pub opened_in : (s : List ℕ) → AllIn s 0 (opened_of s)
unfolding opened_of
opened_in s =
    consume_within 0x5b s 0 (consume_of 0x21 s (consume_of 0x23 s (Ok (true, 0)))) (omega arith)
    (consume_within 0x21 s 0 (consume_of 0x23 s (Ok (true, 0))) (omega arith) (consume_within 0x23 s 0 (Ok (true, 0)) (omega arith) (omega arith, omega arith)))

-- an attribute of 1 or more bytes within s and a sum of extensions below 16; a refusal's place within s
abbrev pub Bounded-attribute : List ℕ → Told (ℕ × ℕ) → Type 0
Bounded-attribute s (Ok (n, sum)) = (0 < n) × (n ≤ length s) × (sum < 16)
Bounded-attribute s (Err r) = r.place ≤ length s

pub attribute_bounded : (s : List ℕ) → Bounded-attribute s (attribute_of s)
unfolding attribute_of
attribute_bounded s = go (opened_of s) (opened_in s)
  where
    fit : (at : ℕ) (a : Told (ℕ × ℕ)) → AnswerIn s at a → Bounded-attribute s a
    fit at (Ok (n, sum)) i = (omega (arith, i.0), i.1, i.2)
    fit at (Err r) i = i

    go : (r : Told (Bool × ℕ)) → AllIn s 0 r → Bounded-attribute s (by_opened s r)
    go (Ok (true, p)) i = fit p (keyword_from s p) (keyword_in s p i.1)
    go (Ok (false, p)) i = omega arith
    go (Err r) i = i
