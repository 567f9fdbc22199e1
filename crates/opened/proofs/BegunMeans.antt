-- What is found begins where it is said to: a comment or a string that is not closed, or an opening bracket. Assumes nothing.
use Rattle.std.proofs.Common.{Ok, Err, Some, None, Option}
use Rattle.text.specs.Refusals.{Told, expected_string, expected_byte_string}
use Rattle.strings.specs.declared.literal.Literal.{Literal}
use Prim.Native.Nat.{ℕ, zero, suc, pred, ◌+◌, ◌<◌}
use native.Mathlib.Omega.{arith}
use mathlib.Core.Bool.{Bool, true, false, not, cond}
use mathlib.Core.List.{List, [], ◌∷◌}
use mathlib.Core.Logic.{◌⊎◌, inl, inr}
use mathlib.Core.Path.{◌≡◌, ap, ap₂, refl, subst, sym, ◌∙◌}
use lib.Dec.{eqb, ltb}
use lib.ListN.{drop, get_or, length}
use lib.Seq.{drop-drop}
use borrow.Author.Tests.{eqb-true, eq-eqb}
use Rattle.comments.proofs.Nesting.{unclosed}
use Rattle.comments.specs.Blocks.{block_end}
use Rattle.comments.specs.Gaps.{behind_slash, block_item, comment_of, item_of, line_item}
use Rattle.comments.specs.Lines.{line_end}
use Rattle.comments.specs.declared.gap.Item.{Item}
use Rattle.comments.specs.declared.gap.Item.TheVariants.{Blank, LineOpen, BlockOpen, Unexpected, Ended, Other}
use Rattle.escapes.specs.declared.answers.Mode.{Mode}
use Rattle.escapes.specs.declared.answers.Mode.TheVariants.{Str, Char, Bytes}
use Rattle.strings.proofs.Wholes.{none_here}
use Rattle.strings.specs.Pieces.{unquoted}
use Rattle.strings.specs.Raw.{hash, missing, raw_of}
use Rattle.strings.specs.Strings.{string_of, byte_string_of}
use Rattle.text.proofs.Choices.{cond_cases}
use Rattle.text.specs.Classes.{blank_width}
use Rattle.text.specs.Runs.{run}
use Rattle.text.specs.declared.refusal.Refusal.{Refusal}
use Rattle.opened.specs.Fronts.{by_item, by_literal, front_of, literal_front}
use Rattle.opened.specs.Begun.{by_front, begun_from, reached_of, read_begun}
use Rattle.opened.specs.Opens.{CommentAt, QuoteAt}
use Rattle.opened.specs.declared.begun.Begun.{Begun}
use Rattle.opened.specs.declared.begun.Begun.TheVariants.{Nothing, Comment, Quote}
use Rattle.opened.specs.declared.front.Front.{Front}
use Rattle.opened.specs.declared.front.Front.TheVariants.{Passes, OpenComment, OpenString}

-- ---- a comment at the front

literal_no_comment : (s : List ℕ) (a : Told Literal) {X : Type 0} → by_literal a s ≡ OpenComment → X
literal_no_comment s (Ok l) {X} = λ h. (let z : ◌≡◌ {A = ℕ} 0 1 = cc in absurd (omega arith))
literal_no_comment s (Err r) {X} =
    cond_cases (λ (f : Front). f ≡ OpenComment → X) (eqb r.number 17) _ _
    (λ e h. (let z : ◌≡◌ {A = ℕ} 0 1 = cc in absurd (omega arith))) (λ e h. (let z : ◌≡◌ {A = ℕ} 0 1 = cc in absurd (omega arith)))

item_opens : (s : List ℕ) (r : Item) → by_item r s ≡ OpenComment → r ≡ BlockOpen
unfolding literal_front
item_opens s (Blank n) h = let z : ◌≡◌ {A = ℕ} 0 1 = cc in absurd (omega arith)
item_opens s LineOpen h = let z : ◌≡◌ {A = ℕ} 0 1 = cc in absurd (omega arith)
item_opens s BlockOpen h = refl
item_opens s (Unexpected n) h = let z : ◌≡◌ {A = ℕ} 0 1 = cc in absurd (omega arith)
item_opens s Ended h = let z : ◌≡◌ {A = ℕ} 0 1 = cc in absurd (omega arith)
item_opens s Other h = literal_no_comment s (cond (eqb (get_or s 0 0) 0x62) (byte_string_of s) (string_of s)) h

comment_opens : (s : List ℕ) → item_of s ≡ BlockOpen → comment_of s ≡ BlockOpen
unfolding item_of
comment_opens s =
    cond_cases (λ (r : Item). r ≡ BlockOpen → comment_of s ≡ BlockOpen) (ltb 0 (blank_width (get_or s 0 0) (get_or s 1 0) (get_or s 2 0)))
    (Blank (blank_width (get_or s 0 0) (get_or s 1 0) (get_or s 2 0))) (comment_of s) (λ e h. (let z : ◌≡◌ {A = ℕ} 0 1 = cc in absurd (omega arith))) (λ e h. h)

line_no_block : (e : Option ℕ) {X : Type 0} → line_item e ≡ BlockOpen → X
line_no_block (Some n) h = let z : ◌≡◌ {A = ℕ} 0 1 = cc in absurd (omega arith)
line_no_block None h = let z : ◌≡◌ {A = ℕ} 0 1 = cc in absurd (omega arith)

block_opens : (e : Option ℕ) → block_item e ≡ BlockOpen → e ≡ None
block_opens (Some n) h = let z : ◌≡◌ {A = ℕ} 0 1 = cc in absurd (omega arith)
block_opens None h = refl

abbrev Opening : List ℕ → Item → Type 0
Opening s r = r ≡ BlockOpen → CommentAt s 0

comment_there : (s : List ℕ) → comment_of s ≡ BlockOpen → CommentAt s 0
unfolding comment_of behind_slash
comment_there [] = λ h. (let z : ◌≡◌ {A = ℕ} 0 1 = cc in absurd (omega arith))
comment_there (a ∷ []) =
    cond_cases (λ (r : Item). r ≡ BlockOpen → CommentAt (a ∷ []) 0) (eqb a 0x2f) _ _
    (λ e h. (let z : ◌≡◌ {A = ℕ} 0 1 = cc in absurd (omega arith))) (λ e h. (let z : ◌≡◌ {A = ℕ} 0 1 = cc in absurd (omega arith)))
comment_there (a ∷ b ∷ t) =
    let P = Opening (a ∷ b ∷ t) in
    cond_cases P (eqb a 0x2f) _ _
    (λ x. cond_cases P (eqb b 0x2f) _ _ (λ y h. line_no_block (line_end t) h)
    (λ y. cond_cases P (eqb b 0x2a) _ _
    (λ z h. record {
      behind = t;
      stands = ap₂ (λ (i j : ℕ). i ∷ j ∷ t) (eqb-true a 0x2f x) (eqb-true b 0x2a z);
      not_closed = λ u w. unclosed (block_opens (block_end t) h) w;
    })
    (λ z h. (let w : ◌≡◌ {A = ℕ} 0 1 = cc in absurd (omega arith)))))
    (λ x h. (let w : ◌≡◌ {A = ℕ} 0 1 = cc in absurd (omega arith)))

front_comment : (s : List ℕ) → front_of s ≡ OpenComment → CommentAt s 0
unfolding front_of
front_comment s h = comment_there s (comment_opens s (item_opens s (item_of s) h))

-- ---- a string at the front

flip : (b : Bool) → not b ≡ false → b ≡ true
flip true h = refl
flip false h = let z : ◌≡◌ {A = ℕ} 0 1 = cc in absurd (omega arith)

-- the first quote of bytes that hold one
first_quote : (s : List ℕ) (k : ℕ) → k < length s → get_or s k 0 ≡ 0x22 → (t : List ℕ) × (drop (run unquoted s) s ≡ 0x22 ∷ t)
unfolding run unquoted
first_quote [] k l e = absurd (omega arith)
first_quote (a ∷ s) zero l e =
    cond_cases (λ (n : ℕ). (t : List ℕ) × (drop n (a ∷ s) ≡ 0x22 ∷ t)) (not (eqb a 0x22)) _ _
    (λ x. (let z : not true ≡ true = sym (ap not (eq-eqb a 0x22 e)) ∙ x in let w : ◌≡◌ {A = ℕ} 0 1 = cc in absurd (omega arith)))
    (λ x. (s, ap (λ (i : ℕ). i ∷ s) e))
first_quote (a ∷ s) (suc k) l e =
    cond_cases (λ (n : ℕ). (t : List ℕ) × (drop n (a ∷ s) ≡ 0x22 ∷ t)) (not (eqb a 0x22)) _ _
    (λ x. first_quote s k (omega arith) e)
    (λ x. (s, ap (λ (i : ℕ). i ∷ s) (eqb-true a 0x22 (flip (eqb a 0x22) x))))

-- a quote stands in a string that is refused with 17
abbrev HasQuote : List ℕ → Type 0
HasQuote s = (k : ℕ) × (k < length s) × (get_or s k 0 ≡ 0x22)

at_quote : (s : List ℕ) (k : ℕ) → eqb (get_or s k 0) 0x22 ≡ true → HasQuote s
at_quote s k q = (k, none_here s k 0x22 (omega arith) q, eqb-true (get_or s k 0) 0x22 q)

missing_number : (m : Mode) (p : ℕ) → (missing m p).number ≡ 17 → ⊥
missing_number Str p h = omega arith
missing_number Char p h = omega arith
missing_number Bytes p h = omega arith

module _ (s : List ℕ) (r : Refusal) (is-17 : r.number ≡ 17) where
  raw_quote : (m : Mode) (start : ℕ) → raw_of m start s ≡ Err r → HasQuote s
  unfolding raw_of
  raw_quote m start =
      cond_cases (λ (a : Told Literal). a ≡ Err r → HasQuote s) (eqb (get_or s (start + run hash (drop start s)) 0) 0x22) _ _
      (λ q e. at_quote s (start + run hash (drop start s)) q)
      (λ q e. (let i : missing m (start + run hash (drop start s)) ≡ r = cc in absurd (missing_number m (start + run hash (drop start s)) (ap (λ (x : Refusal). x.number) i ∙ is-17))))

  string_quote : string_of s ≡ Err r → HasQuote s
  unfolding string_of
  string_quote =
      cond_cases (λ (a : Told Literal). a ≡ Err r → HasQuote s) (eqb (get_or s 0 0) 0x22) _ _ (λ q e. at_quote s 0 q)
      (λ x. cond_cases (λ (a : Told Literal). a ≡ Err r → HasQuote s) (eqb (get_or s 0 0) 0x72) _ _ (λ y e. raw_quote Str 1 e)
      (λ y e. (let i : expected_string 0 ≡ r = cc in absurd (omega (arith, ap (λ (x : Refusal). x.number) i)))))

  byte_string_quote : byte_string_of s ≡ Err r → HasQuote s
  unfolding byte_string_of
  byte_string_quote =
      cond_cases (λ (a : Told Literal). a ≡ Err r → HasQuote s) (eqb (get_or s 0 0) 0x62) _ _
      (λ w. cond_cases (λ (a : Told Literal). a ≡ Err r → HasQuote s) (eqb (get_or s 1 0) 0x22) _ _ (λ q e. at_quote s 1 q)
      (λ x. cond_cases (λ (a : Told Literal). a ≡ Err r → HasQuote s) (eqb (get_or s 1 0) 0x72) _ _ (λ y e. raw_quote Bytes 2 e)
      (λ y e. (let i : expected_byte_string 0 ≡ r = cc in absurd (omega (arith, ap (λ (x : Refusal). x.number) i))))))
      (λ w e. (let i : expected_byte_string 0 ≡ r = cc in absurd (omega (arith, ap (λ (x : Refusal). x.number) i))))

-- the string or the byte string at the front
abbrev Either : List ℕ → Told Literal → Type 0
Either s a = (string_of s ≡ a) ⊎ (byte_string_of s ≡ a)

either_quote : (s : List ℕ) (r : Refusal) → r.number ≡ 17 → Either s (Err r) → HasQuote s
either_quote s r n (inl e) = string_quote s r n e
either_quote s r n (inr e) = byte_string_quote s r n e

quote_there : (s : List ℕ) (n : ℕ) (r : Refusal) → r.number ≡ 17 → Either s (Err r) → run unquoted s ≡ n → QuoteAt s n
quote_there s n r k w e =
    let q = either_quote s r k w in
    let f = first_quote s q.0 q.1 q.2 in
    record {
      behind = f.0;
      stands = subst (λ (j : ℕ). drop j s ≡ 0x22 ∷ f.0) e f.1;
      begins = 0;
      before = omega arith;
      refusal = r;
      number_is = k;
      not_closed = w;
    }

by-answer : (s : List ℕ) (n : ℕ) (a : Told Literal) → Either s a → by_literal a s ≡ OpenString n → QuoteAt s n
by-answer s n (Ok l) w = λ h. (let z : ◌≡◌ {A = ℕ} 0 1 = cc in absurd (omega arith))
by-answer s n (Err r) w =
    cond_cases (λ (f : Front). f ≡ OpenString n → QuoteAt s n) (eqb r.number 17) _ _
    (λ e h. (let z : run unquoted s ≡ n = cc in quote_there s n r (eqb-true r.number 17 e) w z))
    (λ e h. (let z : ◌≡◌ {A = ℕ} 0 1 = cc in absurd (omega arith)))

literal_opens : (s : List ℕ) (n : ℕ) → literal_front s ≡ OpenString n → QuoteAt s n
unfolding literal_front
literal_opens s n =
    cond_cases (λ (a : Told Literal). by_literal a s ≡ OpenString n → QuoteAt s n) (eqb (get_or s 0 0) 0x62) _ _
    (λ e. by-answer s n (byte_string_of s) (inr refl)) (λ e. by-answer s n (string_of s) (inl refl))

item_quote : (s : List ℕ) (n : ℕ) (r : Item) → by_item r s ≡ OpenString n → QuoteAt s n
item_quote s n (Blank m) h = let z : ◌≡◌ {A = ℕ} 0 1 = cc in absurd (omega arith)
item_quote s n LineOpen h = let z : ◌≡◌ {A = ℕ} 0 1 = cc in absurd (omega arith)
item_quote s n BlockOpen h = let z : ◌≡◌ {A = ℕ} 0 1 = cc in absurd (omega arith)
item_quote s n (Unexpected m) h = let z : ◌≡◌ {A = ℕ} 0 1 = cc in absurd (omega arith)
item_quote s n Ended h = let z : ◌≡◌ {A = ℕ} 0 1 = cc in absurd (omega arith)
item_quote s n Other h = literal_opens s n h

front_quote : (s : List ℕ) (n : ℕ) → front_of s ≡ OpenString n → QuoteAt s n
unfolding front_of
front_quote s n h = item_quote s n (item_of s) h

-- ---- further on

comment_on : (a : ℕ) (s : List ℕ) (n : ℕ) → CommentAt s n → CommentAt (a ∷ s) (suc n)
comment_on a s n x = record { behind = x.behind; stands = x.stands; not_closed = x.not_closed }

quote_on : (a : ℕ) (s : List ℕ) (n : ℕ) → QuoteAt s n → QuoteAt (a ∷ s) (suc n)
quote_on a s n x = record {
  behind = x.behind;
  stands = x.stands;
  begins = suc x.begins;
  before = omega (arith, x.before);
  refusal = x.refusal;
  number_is = x.number_is;
  not_closed = x.not_closed;
}

-- it stands n bytes on
abbrev Found : (List ℕ → ℕ → Type 0) → List ℕ → ℕ → ℕ → Type 0
Found At s at p = (n : ℕ) × (p ≡ at + n) × At s n

comment_here : (a : ℕ) (s : List ℕ) (at p : ℕ) (f : Front) → front_of (a ∷ s) ≡ f → ((m : ℕ) → begun_from s (pred m) (at + 1) ≡ Comment p → Found CommentAt s (at + 1) p)
    → by_front f (λ n. begun_from s (pred n) (at + 1)) at ≡ Comment p → Found CommentAt (a ∷ s) at p
comment_here a s at p (Passes n) e rest h = let q = rest n h in (suc q.0, omega (arith, q.1), comment_on a s q.0 q.2)
comment_here a s at p OpenComment e rest h = let z : at ≡ p = cc in (0, omega arith, front_comment (a ∷ s) e)
comment_here a s at p (OpenString n) e rest h = let z : ◌≡◌ {A = ℕ} 0 1 = cc in absurd (omega arith)

comment_found : (s : List ℕ) (left at p : ℕ) → begun_from s left at ≡ Comment p → Found CommentAt s at p
unfolding begun_from
comment_found [] left at p h = let z : ◌≡◌ {A = ℕ} 0 1 = cc in absurd (omega arith)
comment_found (a ∷ s) (suc left) at p h = let q = comment_found s left (at + 1) p h in (suc q.0, omega (arith, q.1), comment_on a s q.0 q.2)
comment_found (a ∷ s) zero at p h = comment_here a s at p (front_of (a ∷ s)) refl (λ m. comment_found s (pred m) (at + 1) p) h

quote_here : (a : ℕ) (s : List ℕ) (at p : ℕ) (f : Front) → front_of (a ∷ s) ≡ f → ((m : ℕ) → begun_from s (pred m) (at + 1) ≡ Quote p → Found QuoteAt s (at + 1) p)
    → by_front f (λ n. begun_from s (pred n) (at + 1)) at ≡ Quote p → Found QuoteAt (a ∷ s) at p
quote_here a s at p (Passes n) e rest h = let q = rest n h in (suc q.0, omega (arith, q.1), quote_on a s q.0 q.2)
quote_here a s at p OpenComment e rest h = let z : ◌≡◌ {A = ℕ} 0 1 = cc in absurd (omega arith)
quote_here a s at p (OpenString n) e rest h = let z : at + n ≡ p = cc in (n, sym z, front_quote (a ∷ s) n e)

quote_found : (s : List ℕ) (left at p : ℕ) → begun_from s left at ≡ Quote p → Found QuoteAt s at p
unfolding begun_from
quote_found [] left at p h = let z : ◌≡◌ {A = ℕ} 0 1 = cc in absurd (omega arith)
quote_found (a ∷ s) (suc left) at p h = let q = quote_found s left (at + 1) p h in (suc q.0, omega (arith, q.1), quote_on a s q.0 q.2)
quote_found (a ∷ s) zero at p h = quote_here a s at p (front_of (a ∷ s)) refl (λ m. quote_found s (pred m) (at + 1) p) h

-- ---- in the whole text

comment_from : (text : List ℕ) (k n : ℕ) → CommentAt (drop k text) n → CommentAt text (k + n)
comment_from text k n x = record { behind = x.behind; stands = sym (drop-drop n k text) ∙ x.stands; not_closed = x.not_closed }

quote_from : (text : List ℕ) (k n : ℕ) → QuoteAt (drop k text) n → QuoteAt text (k + n)
quote_from text k n x = record {
  behind = x.behind;
  stands = sym (drop-drop n k text) ∙ x.stands;
  begins = k + x.begins;
  before = omega (arith, x.before);
  refusal = x.refusal;
  number_is = x.number_is;
  not_closed = subst (λ (s : List ℕ). Either s (Err x.refusal)) (drop-drop x.begins k text) x.not_closed;
}

-- what a search or none finds, it finds from where the text was read
module _ (text : List ℕ) (number : ℕ) (b : Begun) (something : Nothing ≡ b → ⊥) where
  pub searched : read_begun text number ≡ b → begun_from (drop (reached_of text) text) 0 (reached_of text) ≡ b
  unfolding read_begun
  searched =
      cond_cases (λ (x : Begun). x ≡ b → begun_from (drop (reached_of text) text) 0 (reached_of text) ≡ b) (eqb number 4) _ _ (λ e h. h)
      (λ e. cond_cases (λ (x : Begun). x ≡ b → begun_from (drop (reached_of text) text) 0 (reached_of text) ≡ b) (eqb number 17) _ _ (λ f h. h)
      (λ f h. absurd (something h)))

-- a comment that is shown begins there, and is not closed
pub comment_begins : (text : List ℕ) (number p : ℕ) → read_begun text number ≡ Comment p → CommentAt text p
comment_begins text number p h =
    let q = comment_found (drop (reached_of text) text) 0 (reached_of text) p (searched text number (Comment p) (λ e. (let z : ◌≡◌ {A = ℕ} 0 1 = cc in omega arith)) h) in
    subst (CommentAt text) (sym q.1) (comment_from text (reached_of text) q.0 q.2)

-- a string that is shown has its quote there, and is not closed
pub quote_begins : (text : List ℕ) (number p : ℕ) → read_begun text number ≡ Quote p → QuoteAt text p
quote_begins text number p h =
    let q = quote_found (drop (reached_of text) text) 0 (reached_of text) p (searched text number (Quote p) (λ e. (let z : ◌≡◌ {A = ℕ} 0 1 = cc in omega arith)) h) in
    subst (QuoteAt text) (sym q.1) (quote_from text (reached_of text) q.0 q.2)
