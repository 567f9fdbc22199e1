-- Accepted attributes are decided by their own bytes: `attribute-closed` says that nothing behind an attribute's `]` changes the answer. Assumes nothing.
use Rattle.std.proofs.Common.{Ok, Err, Some, None, Option}
use Rattle.text.specs.Refusals.{Told, expected_attribute_end}
use Rattle.strings.specs.declared.literal.Literal.{Literal}
use Prim.Native.Nat.{◌+◌, ◌-◌, ◌<◌, ◌≤◌, pred, suc, zero, ℕ}
use native.Mathlib.DivMod.{small}
use native.Mathlib.Omega.{arith}
use mathlib.Core.Bool.{Bool, cond, false, true}
use mathlib.Core.List.{List, [], ◌++◌, ◌∷◌, append_assoc}
use mathlib.Core.Path.{◌∙◌, ◌≡◌, ap, refl, subst, sym}
use lib.Dec.{eqb}
use lib.ListN.{get_or-append, drop, get_or, length, length-append, length-drop, take}
use lib.Seq.{drop-append-le, get_or-drop}
use borrow.Author.Tests.{eqb-true}
use Rattle.attributes.proofs.Bounds.{AllIn, AnswerIn, EndsIn, ItemIn, StepIn, enable_in, item_in, list_ends, opened_in, sign_within, value_in}
use Rattle.attributes.proofs.ListLaws.{list_more}
use Rattle.attributes.proofs.StepLaws.{added_small, word_le}
use Rattle.attributes.proofs.Stopping.{Good, GoodName, GoodRaw, GoodString, bracket_stopped, extension_good, extension_stopped, good_by, identifier_good, keyword_good, keyword_stopped, name_stopped, string_good}
use Rattle.attributes.specs.Attributes.{attribute_of, by_keyword, by_listed, by_opened, enable_from, keyword_from, opened_of, string_value_from}
use Rattle.attributes.specs.Close.{answer_at, by_bracket, by_string, close_list, list_end, no_end, string_end, string_from}
use Rattle.attributes.specs.Extensions.{added_to, extension_of}
use Rattle.attributes.specs.List.{behind_name, by_comma, by_list_name, by_item, by_extension_name, by_other, item_end, item_of, list_from, list_of, other_char}
use Rattle.attributes.specs.Steps.{all_at, and_then, step_behind, consume_from, consume_of, sign_at, sign_from, skip_from}
use Rattle.attributes.specs.Words.{by_word, keyword_at, keyword_of}
use Rattle.attributes.specs.declared.extensions.Extension.{Extension}
use Rattle.attributes.specs.declared.list.Item.{Item}
use Rattle.attributes.specs.declared.list.Item.TheVariants.{Last, More, NoComma, NoName}
use Rattle.attributes.specs.declared.list.Item.TheVariants as items
use Rattle.attributes.specs.declared.list.OtherChar.{OtherChar}
use Rattle.attributes.specs.declared.list.OtherChar.TheVariants.{Ends, Goes}
use Rattle.attributes.specs.declared.words.Keyword.{Keyword}
use Rattle.attributes.specs.declared.words.Keyword.TheVariants.{Enable, NoKeyword, Text}
use Rattle.comments.proofs.GapWindow.{gap_window}
use Rattle.comments.specs.Gaps.{by_item as byGapItem, gap_from, gap_of, item_of as gapItem}
use Rattle.comments.specs.declared.gap.Gap.{Gap}
use Rattle.comments.specs.declared.gap.Gap.TheVariants.{Clear, InLine, Refused as NoGap}
use Rattle.comments.specs.declared.gap.Item.{Item as GapItem}
use Rattle.comments.specs.declared.gap.Item.TheVariants.{Blank, BlockOpen, Ended as TextEnds, LineOpen, Other, Unexpected}
use Rattle.names.proofs.IdentifierLaws.{Within, identifier_within}
use Rattle.names.specs.Identifiers.{identifier_of}
use Rattle.names.specs.declared.Identifier.{Identifier}
use Rattle.names.specs.declared.Identifier.TheVariants.{Missing, Name, RawName}
use Rattle.strings.proofs.Closes.{Within-string, string_closed}
use Rattle.strings.specs.Strings.{string_of}
use Rattle.text.proofs.Choices.{cond_cases}
use Rattle.text.proofs.Lists.{head_at}
use Rattle.text.proofs.Stops.{Stopped}

-- ---- a `]` within the front

split : (c : ℕ) (u : List ℕ) (q : ℕ) → q < length u → get_or u q 0 ≡ c → u ≡ take q u ++ c ∷ drop (suc q) u
split c [] q h e = absurd (omega arith)
split c (a ∷ u) zero h e = ap (λ (y : ℕ). y ∷ u) e
split c (a ∷ u) (suc q) h e = ap (λ (t : List ℕ). a ∷ t) (split c u q (omega arith) e)

bracket_behind : (u : List ℕ) (q n : ℕ) → n ≤ q → get_or u q 0 ≡ 0x5d → get_or (drop n u) (q - n) 0 ≡ 0x5d
bracket_behind u q n h e = let m : n + (q - n) ≡ q = omega arith in get_or-drop n u (q - n) 0 ∙ ap (λ (i : ℕ). get_or u i 0) m ∙ e

stopped_here : {A : Type 0} {f : List ℕ → A} → Stopped 0x5d f → (u v v' : List ℕ) (q : ℕ) → q < length u → get_or u q 0 ≡ 0x5d → f (u ++ v') ≡ f (u ++ v)
stopped_here {f = f} st u v v' q h e =
    let d = split 0x5d u q h e in
    ap (λ (t : List ℕ). f (t ++ v')) d
    ∙ ap f (append_assoc (take q u) (0x5d ∷ drop (suc q) u) v')
    ∙ st.same (take q u) (drop (suc q) u ++ v') (drop (suc q) u ++ v)
    ∙ sym (ap f (append_assoc (take q u) (0x5d ∷ drop (suc q) u) v))
    ∙ sym (ap (λ (t : List ℕ). f (t ++ v)) d)

-- ---- an open line comment runs to the end

item_line : (r : GapItem) (on : ℕ → Gap) (at end n : ℕ) → ((k : ℕ) → on k ≡ InLine n → n ≡ end) → byGapItem r on at end ≡ InLine n → n ≡ end
item_line (Blank k) on at end n f h = f k h
item_line LineOpen on at end n f h = let q : end ≡ n = cc in sym q
item_line BlockOpen on at end n f h = let z : ◌≡◌ {A = ℕ} 0 1 = cc in absurd (omega arith)
item_line (Unexpected k) on at end n f h = let z : ◌≡◌ {A = ℕ} 0 1 = cc in absurd (omega arith)
item_line TextEnds on at end n f h = let z : ◌≡◌ {A = ℕ} 0 1 = cc in absurd (omega arith)
item_line Other on at end n f h = let z : ◌≡◌ {A = ℕ} 0 1 = cc in absurd (omega arith)

line-from : (t : List ℕ) (left at n : ℕ) → gap_from t left at ≡ InLine n → n ≡ at + length t
unfolding gap_from
line-from [] left at n h = let z : ◌≡◌ {A = ℕ} 0 1 = cc in absurd (omega arith)
line-from (a ∷ t) (suc left) at n h = omega (arith, line-from t left (at + 1) n h)
line-from (a ∷ t) zero at n h =
    item_line (gapItem (a ∷ t)) (λ k. gap_from t (pred k) (at + 1)) at (at + length (a ∷ t)) n (λ k g. omega (arith, line-from t (pred k) (at + 1) n g)) h

line_end : (t : List ℕ) (n : ℕ) → gap_of t ≡ InLine n → n ≡ length t
unfolding gap_of
line_end t n h = omega (arith, line-from t 0 0 n h)

-- ---- what is fine: it stands at a good byte, not behind q

abbrev FineStep : List ℕ → ℕ → Told ℕ → Type 0
FineStep s q (Ok p) = (p ≤ q) × Good (get_or s p 0)
FineStep s q (Err r) = ⊥

abbrev FineAll : List ℕ → ℕ → Told (Bool × ℕ) → Type 0
FineAll s q (Ok (all, p)) = (p ≤ q) × Good (get_or s p 0)
FineAll s q (Err r) = ⊥

abbrev FineItem : List ℕ → ℕ → Item → Type 0
FineItem s q (More n e) = (n ≤ q) × Good (get_or s n 0)
FineItem s q (Last n e) = (n ≤ q) × Good (get_or s n 0)
FineItem s q NoName = ⊥
FineItem s q NoComma = ⊥
FineItem s q (items.Refused r) = ⊥

-- an answer that ends with the `]` at q
abbrev FineAnswer : ℕ → Told (ℕ × ℕ) → Type 0
FineAnswer q (Ok (n, sum)) = n ≡ q + 1
FineAnswer q (Err r) = ⊥

all_fine : (s : List ℕ) (q : ℕ) (all : Bool) (r : Told ℕ) → FineAll s q (all_at all r) → FineStep s q r
all_fine s q all (Ok p) f = f
all_fine s q all (Err r) f = f

gap_before : (s : List ℕ) (q at : ℕ) (g : Gap) → FineStep s q (step_behind at g) → at ≤ q
gap_before s q at (Clear n) f = omega (arith, f.0)
gap_before s q at (InLine n) f = omega (arith, f.0)
gap_before s q at (NoGap r) f = absurd f

skip_before : (s : List ℕ) (q at : ℕ) → FineStep s q (skip_from s at) → at ≤ q
unfolding skip_from
skip_before s q at f = gap_before s q at (gap_of (drop at s)) f

-- a sign that was looked for stands at a good place, and so does what was found instead
sign_fine : (s : List ℕ) (q b : ℕ) (all : Bool) (at : ℕ) → Good b → FineAll s q (consume_from b s all at) → FineStep s q (Ok at)
unfolding consume_from
sign_fine s q b all at g =
    cond_cases (λ (r : Told (Bool × ℕ)). FineAll s q r → FineStep s q (Ok at)) (eqb (get_or s at 0) b) (all_at all (skip_from s (at + 1))) (Ok (false, at))
    (λ e f. (omega (arith, skip_before s q (at + 1) (all_fine s q all (skip_from s (at + 1)) f)), good_by (get_or s at 0) b (eqb-true (get_or s at 0) b e) g.0 g.1))
    (λ e f. f)

other_fine : (s : List ℕ) (q : ℕ) (r : OtherChar) (e : Extension) (comma : Bool) (at : ℕ) → FineItem s q (by_other r e comma at) → (at ≤ q) × Good (get_or s at 0)
other_fine s q Goes e true at f = f
other_fine s q Goes e false at f = absurd f
other_fine s q Ends e comma at f = f

comma_fine : (s : List ℕ) (q : ℕ) (e : Extension) (r : Told (Bool × ℕ)) → FineItem s q (by_comma s e r) → FineAll s q r
unfolding item_end
comma_fine s q e (Ok (comma, at)) f = other_fine s q (other_char s at) e comma at f
comma_fine s q e (Err r) f = f

-- ---- steps, of a front u with a `]` at q

module _ (u v v' : List ℕ) (q : ℕ) (inside : q < length u) (is : get_or u q 0 ≡ 0x5d) where
  same_byte : (p : ℕ) → p ≤ q → get_or (u ++ v') p 0 ≡ get_or (u ++ v) p 0
  same_byte p h = get_or-append u v' 0 p (omega arith) ∙ sym (get_or-append u v 0 p (omega arith))

  long : length u ≤ length (u ++ v)
  long = omega (arith, length-append u v)

  stopped_at : {A : Type 0} {f : List ℕ → A} → Stopped 0x5d f → (at : ℕ) → at ≤ q → f (drop at (u ++ v')) ≡ f (drop at (u ++ v))
  stopped_at {f = f} st at h =
      ap f (drop-append-le at u v' (omega arith))
      ∙ stopped_here st (drop at u) v v' (q - at) (omega (arith, length-drop at u)) (bracket_behind u q at h is)
      ∙ sym (ap f (drop-append-le at u v (omega arith)))

  gap_same : (at : ℕ) (g : Gap) → gap_of (drop at (u ++ v)) ≡ g → FineStep (u ++ v) q (step_behind at g) → gap_of (drop at (u ++ v')) ≡ g
  gap_same at (Clear n) e f =
      let l : at ≤ length u = omega (arith, f.0) in
      let b : get_or (drop at u) n 0 ≡ get_or (u ++ v) (at + n) 0 = get_or-drop at u n 0 ∙ sym (get_or-append u v 0 (at + n) (omega (arith, f.0))) in
      let g = good_by (get_or (drop at u) n 0) (get_or (u ++ v) (at + n) 0) b f.1.0 f.1.1 in
      ap gap_of (drop-append-le at u v' l)
      ∙ gap_window (drop at u) v v' n (sym (ap gap_of (drop-append-le at u v l)) ∙ e) (omega (arith, length-drop at u, f.0)) g.0 g.1
  gap_same at (InLine n) e f = absurd (omega (arith, line_end (drop at (u ++ v)) n e, length-drop at (u ++ v), long, f.0))
  gap_same at (NoGap r) e f = absurd f

  skip_same : (at : ℕ) → FineStep (u ++ v) q (skip_from (u ++ v) at) → skip_from (u ++ v') at ≡ skip_from (u ++ v) at
  unfolding skip_from
  skip_same at f = ap (step_behind at) (gap_same at (gap_of (drop at (u ++ v))) refl f)

  consume_same : (b : ℕ) (all : Bool) (at : ℕ) → Good b → FineAll (u ++ v) q (consume_from b (u ++ v) all at) → consume_from b (u ++ v') all at ≡ consume_from b (u ++ v) all at
  unfolding consume_from
  consume_same b all at g f =
      ap (λ (x : ℕ). cond (eqb x b) (all_at all (skip_from (u ++ v') (at + 1))) (Ok (false, at))) (same_byte at (sign_fine (u ++ v) q b all at g f).0)
      ∙ cond_cases (λ (r : Told (Bool × ℕ)). FineAll (u ++ v) q r → cond (eqb (get_or (u ++ v) at 0) b) (all_at all (skip_from (u ++ v') (at + 1))) (Ok (false, at)) ≡ r) (eqb (get_or (u ++ v) at 0) b) _ _
      (λ e f. rw e (ap (all_at all) (skip_same (at + 1) (all_fine (u ++ v) q all (skip_from (u ++ v) (at + 1)) f))))
      (λ e f. rw e)
      f

  -- one sign more, behind what is the same where it is fine
  consumed_same : (b : ℕ) (r r' : Told (Bool × ℕ)) → Good b → (FineAll (u ++ v) q r → r' ≡ r) → FineAll (u ++ v) q (consume_of b (u ++ v) r) → consume_of b (u ++ v') r' ≡ consume_of b (u ++ v) r
  consumed_same b (Ok (all, at)) r' g h f = ap (consume_of b (u ++ v')) (h (sign_fine (u ++ v) q b all at g f)) ∙ consume_same b all at g f
  consumed_same b (Err r) r' g h f = absurd f

  consumed_fine : (b : ℕ) (r : Told (Bool × ℕ)) → Good b → FineAll (u ++ v) q (consume_of b (u ++ v) r) → FineAll (u ++ v) q r
  consumed_fine b (Ok (all, at)) g f = sign_fine (u ++ v) q b all at g f
  consumed_fine b (Err r) g f = f

  sign_at_before : (b at : ℕ) → Good b → FineStep (u ++ v) q (sign_at b (u ++ v) at) → FineStep (u ++ v) q (Ok at) × (sign_at b (u ++ v') at ≡ sign_at b (u ++ v) at)
  unfolding sign_at
  sign_at_before b at g =
      cond_cases (λ (r : Told ℕ). FineStep (u ++ v) q r → FineStep (u ++ v) q (Ok at) × (sign_at b (u ++ v') at ≡ r)) (eqb (get_or (u ++ v) at 0) b) _ _
      (λ e f. let l = skip_before (u ++ v) q (at + 1) f in
      ((omega arith, good_by (get_or (u ++ v) at 0) b (eqb-true (get_or (u ++ v) at 0) b e) g.0 g.1), rw (same_byte at (omega arith), e) (skip_same (at + 1) f)))
      (λ e f. absurd f)

  sign_same : (b at : ℕ) → Good b → FineStep (u ++ v) q (sign_from b (u ++ v) at) → sign_from b (u ++ v') at ≡ sign_from b (u ++ v) at
  unfolding sign_from
  sign_same b at g = go (skip_from (u ++ v) at) refl
    where
      go : (r : Told ℕ) → skip_from (u ++ v) at ≡ r → FineStep (u ++ v) q (and_then r (sign_at b (u ++ v))) → and_then (skip_from (u ++ v') at) (sign_at b (u ++ v')) ≡ and_then r (sign_at b (u ++ v))
      go (Ok p) e f =
          let h = sign_at_before b p g f in
          ap (λ (x : Told ℕ). and_then x (sign_at b (u ++ v'))) (skip_same at (subst (FineStep (u ++ v) q) (sym e) h.0) ∙ e) ∙ h.1
      go (Err r) e f = absurd f

  -- ---- items
  other_same : (at : ℕ) → at ≤ q → other_char (u ++ v') at ≡ other_char (u ++ v) at
  unfolding other_char
  other_same at h =
      ap (λ (f : Bool). cond f Goes Ends) (stopped_at bracket_stopped at h)

  comma_same : (e : Extension) (r : Told (Bool × ℕ)) → FineAll (u ++ v) q r → by_comma (u ++ v') e r ≡ by_comma (u ++ v) e r
  unfolding item_end
  comma_same e (Ok (comma, at)) f = ap (λ (x : OtherChar). by_other x e comma at) (other_same at f.0)
  comma_same e (Err r) f = absurd f

  behind_same : (e : Extension) (n : ℕ) → FineItem (u ++ v) q (behind_name (u ++ v) e n) → (n ≤ q) × (behind_name (u ++ v') e n ≡ behind_name (u ++ v) e n)
  unfolding behind_name
  behind_same e n f =
      let r : Told (Bool × ℕ) = all_at true (skip_from (u ++ v) n) in
      let a = comma_fine (u ++ v) q e (consume_of 0x2c (u ++ v) r) f in
      let k = all_fine (u ++ v) q true (skip_from (u ++ v) n) (consumed_fine 0x2c r (omega arith, refl) a) in (
        skip_before (u ++ v) q n k,
        ap (by_comma (u ++ v') e) (consumed_same 0x2c r (all_at true (skip_from (u ++ v') n)) (omega arith, refl) (λ h. ap (all_at true) (skip_same n (all_fine (u ++ v) q true (skip_from (u ++ v) n) h))) a)
            ∙ comma_same e (consume_of 0x2c (u ++ v) r) a,
      )

  named_same : (n : ℕ) (r r' : Option Extension) → (n ≤ q → r' ≡ r) → FineItem (u ++ v) q (by_extension_name (u ++ v) n r) → by_extension_name (u ++ v') n r' ≡ by_extension_name (u ++ v) n r
  named_same n (Some e) r' h f = let b = behind_same e n f in ap (by_extension_name (u ++ v') n) (h b.0) ∙ b.1
  named_same n None r' h f = absurd f

  extension_same : (n : ℕ) → extension_of (u ++ v') n ≡ extension_of (u ++ v) n
  extension_same n = stopped_here (extension_stopped n) u v v' q inside is

  by_name_same : (i : Identifier) → Within (u ++ v) i → FineItem (u ++ v) q (by_list_name (u ++ v) i) → by_list_name (u ++ v') i ≡ by_list_name (u ++ v) i
  by_name_same Missing w f = absurd f
  by_name_same (Name n) w f = named_same n (extension_of (u ++ v) n) (extension_of (u ++ v') n) (λ h. extension_same n) f
  by_name_same (RawName n) w f = named_same n (extension_of (drop 2 (u ++ v)) (n - 2)) (extension_of (drop 2 (u ++ v')) (n - 2)) (λ h. stopped_at (extension_stopped (n - 2)) 2 (omega (arith, w.0))) f

  pub item_same : FineItem (u ++ v) q (item_of (u ++ v)) → item_of (u ++ v') ≡ item_of (u ++ v)
  unfolding item_of
  item_same f = ap (by_list_name (u ++ v')) (stopped_here name_stopped u v v' q inside is) ∙ by_name_same (identifier_of (u ++ v)) (identifier_within (u ++ v)) f

-- an item begins with a good byte
abbrev GoodItem : List ℕ → Item → Type 0
GoodItem t (More n e) = Good (get_or t 0 0)
GoodItem t (Last n e) = Good (get_or t 0 0)
GoodItem t NoName = Unit {0}
GoodItem t NoComma = Unit {0}
GoodItem t (items.Refused r) = Unit {0}

other_good : (t : List ℕ) (r : OtherChar) (e : Extension) (comma : Bool) (at : ℕ) → other_char t at ≡ r → Good (get_or t 0 0) → GoodItem t (by_other r e comma at)
other_good t Goes e true at q g = g
other_good t Goes e false at q g = tt
other_good t Ends e comma at q g = g

comma_good : (t : List ℕ) (e : Extension) (r : Told (Bool × ℕ)) → Good (get_or t 0 0) → GoodItem t (by_comma t e r)
unfolding item_end
comma_good t e (Ok (comma, at)) g = other_good t (other_char t at) e comma at refl g
comma_good t e (Err r) g = tt

named_good : (t : List ℕ) (n : ℕ) (r : Option Extension) → Good (get_or t 0 0) → GoodItem t (by_extension_name t n r)
unfolding behind_name
named_good t n (Some e) g = comma_good t e (consume_of 0x2c t (all_at true (skip_from t n))) g
named_good t n None g = tt

known_good : (t : List ℕ) (n : ℕ) (r : Option Extension) → GoodName t r → GoodItem t (by_extension_name t n r)
known_good t n (Some e) g = named_good t n (Some e) g
known_good t n None g = tt

identifier_item : (t : List ℕ) (i : Identifier) → GoodRaw t i → GoodItem t (by_list_name t i)
identifier_item t Missing g = tt
identifier_item t (Name n) g = known_good t n (extension_of t n) (extension_good t n)
identifier_item t (RawName n) g = named_good t n (extension_of (drop 2 t) (n - 2)) g

item_good : (t : List ℕ) → GoodItem t (item_of t)
unfolding item_of
item_good t = identifier_item t (identifier_of t) (identifier_good t)

-- ---- the list

-- the list from the place `at`, whose bytes are s, ends at a good byte of s, not behind q
abbrev FineList : List ℕ → ℕ → ℕ → Told (ℕ × ℕ) → Type 0
FineList s q at (Ok (p, sum)) = (p ≤ at + q) × Good (get_or s (p - at) 0)
FineList s q at (Err r) = ⊥

list_before : (r : Told (ℕ × ℕ)) (s : List ℕ) (q at at' end : ℕ) → EndsIn at' end r → FineList s q at r → at' ≤ at + q
list_before (Ok (p, sum)) s q at at' end i f = omega (arith, i.0, f.0)
list_before (Err r) s q at at' end i f = absurd f

fine_behind : (r : Told (ℕ × ℕ)) (s : List ℕ) (q at n end : ℕ) → n ≤ q → EndsIn (at + n) end r → FineList s q at r → FineList (drop n s) (q - n) (at + n) r
fine_behind (Ok (p, sum)) s q at n end h i f =
    let k : n + (p - (at + n)) ≡ p - at = omega (arith, i.0) in
    let b : get_or (drop n s) (p - (at + n)) 0 ≡ get_or s (p - at) 0 = get_or-drop n s (p - (at + n)) 0 ∙ ap (λ (x : ℕ). get_or s x 0) k in
    (omega (arith, f.0), good_by (get_or (drop n s) (p - (at + n)) 0) (get_or s (p - at) 0) b f.1.0 f.1.1)
fine_behind (Err r) s q at n end h i f = absurd f

list_by : (a : ℕ) (t : List ℕ) (at sum : ℕ) (r : Item) → item_of (a ∷ t) ≡ r → list_from (a ∷ t) 0 at sum ≡ by_item r (λ n e. list_from t (pred n) (at + 1) (added_to e sum)) at sum
unfolding list_from
list_by a t at sum r e = ap (λ (x : Item). by_item x (λ n e. list_from t (pred n) (at + 1) (added_to e sum)) at sum) e

-- by the item in front, the rest being the same behind it
by_item_same : (a : ℕ) (u v v' : List ℕ) (q at sum : ℕ) → q < length (a ∷ u) → get_or (a ∷ u) q 0 ≡ 0x5d
    → ((n : ℕ) (e : Extension) → 0 < n → n ≤ q → FineList (drop n (a ∷ u) ++ v) (q - n) (at + n) (list_from (drop n (a ∷ u) ++ v) 0 (at + n) (added_to e sum)) → Good (get_or (drop n (a ∷ u)) 0 0) × (list_from (drop n (a ∷ u) ++ v') 0 (at + n) (added_to e sum) ≡ list_from (drop n (a ∷ u) ++ v) 0 (at + n) (added_to e sum)))
    → sum < 16 → (r : Item) → item_of (a ∷ u ++ v) ≡ r → ItemIn (a ∷ u ++ v) r → GoodItem (a ∷ u ++ v) r
    → FineList (a ∷ u ++ v) q at (list_from (a ∷ u ++ v) 0 at sum) → Good a × (list_from (a ∷ u ++ v') 0 at sum ≡ list_from (a ∷ u ++ v) 0 at sum)
by_item_same a u v v' q at sum inside is rest small (More n e) i b g f =
    let s : List ℕ = a ∷ u ++ v in
    let m = list_more s at sum n e i b.0 b.1 in
    let f2 : FineList s q at (list_from (drop n s) 0 (at + n) (added_to e sum)) = subst (FineList s q at) m f in
    let ends = list_ends (drop n s) 0 (at + n) (added_to e sum) (added_small e sum small) in
    let h : n ≤ q = omega (arith, list_before (list_from (drop n s) 0 (at + n) (added_to e sum)) s q at (at + n) (at + n + length (drop n s)) ends f2) in
    let l : n ≤ length (a ∷ u) = omega arith in
    let d = drop-append-le n (a ∷ u) v l in
    let d' = drop-append-le n (a ∷ u) v' l in
    let f3 = fine_behind (list_from (drop n s) 0 (at + n) (added_to e sum)) s q at n (at + n + length (drop n s)) h ends f2 in
    let f4 = subst (λ (x : List ℕ). FineList x (q - n) (at + n) (list_from x 0 (at + n) (added_to e sum))) d f3 in
    let w = rest n e b.0 h f4 in
    let y : get_or s n 0 ≡ get_or (drop n (a ∷ u)) 0 0 = get_or-append (a ∷ u) v 0 n (omega arith) ∙ sym (head_at (a ∷ u) n) in
    let next : Good (get_or s n 0) = good_by (get_or s n 0) (get_or (drop n (a ∷ u)) 0 0) y w.0.0 w.0.1 in
    let same : item_of (a ∷ u ++ v') ≡ More n e = item_same (a ∷ u) v v' q inside is (subst (FineItem s q) (sym i) (h, next)) ∙ i in (
      g,
      list_more (a ∷ u ++ v') at sum n e same b.0 (omega (arith, length-append (a ∷ u) v'))
          ∙ ap (λ (x : List ℕ). list_from x 0 (at + n) (added_to e sum)) d'
          ∙ w.1
          ∙ sym (ap (λ (x : List ℕ). list_from x 0 (at + n) (added_to e sum)) d)
          ∙ sym m,
    )
by_item_same a u v v' q at sum inside is rest small (Last n e) i b g f =
    let s : List ℕ = a ∷ u ++ v in
    let m = list_by a (u ++ v) at sum (Last n e) i in
    let f2 : FineList s q at (Ok (at + n, added_to e sum)) = subst (FineList s q at) m f in
    let k : at + n - at ≡ n = omega arith in
    let fine : FineItem s q (Last n e) = (omega (arith, f2.0), subst (λ (x : ℕ). Good (get_or s x 0)) k f2.1) in
    (g, list_by a (u ++ v') at sum (Last n e) (item_same (a ∷ u) v v' q inside is (subst (FineItem s q) (sym i) fine) ∙ i) ∙ sym m)
by_item_same a u v v' q at sum inside is rest small NoName i b g f = absurd (subst (FineList (a ∷ u ++ v) q at) (list_by a (u ++ v) at sum NoName i) f)
by_item_same a u v v' q at sum inside is rest small NoComma i b g f = absurd (subst (FineList (a ∷ u ++ v) q at) (list_by a (u ++ v) at sum NoComma i) f)
by_item_same a u v v' q at sum inside is rest small (items.Refused r) i b g f = absurd (subst (FineList (a ∷ u ++ v) q at) (list_by a (u ++ v) at sum (items.Refused r) i) f)

list_fuel : (fuel : ℕ) (u v v' : List ℕ) (q at sum : ℕ) → length u ≤ fuel → q < length u → get_or u q 0 ≡ 0x5d → sum < 16
    → FineList (u ++ v) q at (list_from (u ++ v) 0 at sum) → Good (get_or u 0 0) × (list_from (u ++ v') 0 at sum ≡ list_from (u ++ v) 0 at sum)
list_fuel zero [] v v' q at sum k inside is small f = absurd (omega arith)
list_fuel (suc fuel) [] v v' q at sum k inside is small f = absurd (omega arith)
list_fuel zero (a ∷ u) v v' q at sum k inside is small f = absurd (omega arith)
list_fuel (suc fuel) (a ∷ u) v v' q at sum k inside is small f =
    by_item_same a u v v' q at sum inside is
    (λ n e p h g. list_fuel fuel (drop n (a ∷ u)) v v' (q - n) (at + n) (added_to e sum) (omega (arith, length-drop n (a ∷ u))) (omega (arith, length-drop n (a ∷ u))) (bracket_behind (a ∷ u) q n h is) (added_small e sum small) g)
    small (item_of (a ∷ u ++ v)) refl (item_in (a ∷ u ++ v)) (item_good (a ∷ u ++ v)) f

-- ---- the rest of an attribute

module _ (u v v' : List ℕ) (q : ℕ) (inside : q < length u) (is : get_or u q 0 ≡ 0x5d) where
  list_same : (at sum : ℕ) → at ≤ q → sum < 16 → FineList (drop at u ++ v) (q - at) at (list_from (drop at u ++ v) 0 at sum)
      → Good (get_or (drop at u) 0 0) × (list_from (drop at u ++ v') 0 at sum ≡ list_from (drop at u ++ v) 0 at sum)
  list_same at sum h small f = list_fuel (length u) (drop at u) v v' (q - at) at sum (omega (arith, length-drop at u)) (omega (arith, length-drop at u)) (bracket_behind u q at h is) small f

  end_same : (all : Bool) (at sum : ℕ) → FineAnswer q (list_end (u ++ v) all at sum) → FineStep (u ++ v) q (Ok at) × (list_end (u ++ v') all at sum ≡ list_end (u ++ v) all at sum)
  unfolding list_end no_end
  end_same true at sum =
      cond_cases (λ (r : Told (ℕ × ℕ)). FineAnswer q r → FineStep (u ++ v) q (Ok at) × (list_end (u ++ v') true at sum ≡ r)) (eqb (get_or (u ++ v) at 0) 0x5d) _ _
      (λ e f. ((omega arith, good_by (get_or (u ++ v) at 0) 0x5d (eqb-true (get_or (u ++ v) at 0) 0x5d e) (omega arith) refl), rw (same_byte u v v' q inside is at (omega arith), e)))
      (λ e f. absurd f)
  end_same false at sum =
      cond_cases (λ (r : Told (ℕ × ℕ)). FineAnswer q r → FineStep (u ++ v) q (Ok at) × (list_end (u ++ v') false at sum ≡ r)) (eqb (get_or (u ++ v) at 0) 0x5d) _ _
      (λ e f. absurd (never (skip_from (u ++ v) (at + 1)) f))
      (λ e f. absurd f)
    where
      never : (r : Told ℕ) → FineAnswer q (answer_at r (λ p. Err (expected_attribute_end 0))) → ⊥
      never (Ok p) f = f
      never (Err r) f = f

  close_same : (at sum : ℕ) → FineAnswer q (close_list (u ++ v) at sum) → FineStep (u ++ v) q (Ok at) × (close_list (u ++ v') at sum ≡ close_list (u ++ v) at sum)
  unfolding close_list
  close_same at sum = go (consume_from 0x29 (u ++ v) true at) refl
    where
      go : (r : Told (Bool × ℕ)) → consume_from 0x29 (u ++ v) true at ≡ r → FineAnswer q (by_bracket (u ++ v) sum r)
          → FineStep (u ++ v) q (Ok at) × (by_bracket (u ++ v') sum (consume_from 0x29 (u ++ v') true at) ≡ by_bracket (u ++ v) sum r)
      go (Ok (all, p)) e f =
          let h = end_same all p sum f in
          let fine : FineAll (u ++ v) q (consume_from 0x29 (u ++ v) true at) = subst (FineAll (u ++ v) q) (sym e) h.0 in (
            sign_fine (u ++ v) q 0x29 true at (omega arith, refl) fine,
            ap (by_bracket (u ++ v') sum) (consume_same u v v' q inside is 0x29 true at (omega arith, refl) fine ∙ e) ∙ h.1,
          )
      go (Err r) e f = absurd f

  string_end_same : (at : ℕ) → FineAnswer q (string_end (u ++ v) at) → (at ≤ q) × (string_end (u ++ v') at ≡ string_end (u ++ v) at)
  unfolding string_end
  string_end_same at = go (skip_from (u ++ v) at) refl
    where
      go : (r : Told ℕ) → skip_from (u ++ v) at ≡ r → FineAnswer q (answer_at r (λ p. list_end (u ++ v) true p 0))
          → (at ≤ q) × (answer_at (skip_from (u ++ v') at) (λ p. list_end (u ++ v') true p 0) ≡ answer_at r (λ p. list_end (u ++ v) true p 0))
      go (Ok p) e f =
          let h = end_same true p 0 f in
          let fine : FineStep (u ++ v) q (skip_from (u ++ v) at) = subst (FineStep (u ++ v) q) (sym e) h.0 in
          (skip_before (u ++ v) q at fine, ap (λ (x : Told ℕ). answer_at x (λ p. list_end (u ++ v') true p 0)) (skip_same u v v' q inside is at fine ∙ e) ∙ h.1)
      go (Err r) e f = absurd f

  string_same : (at : ℕ) → FineAnswer q (string_from (u ++ v) at) → FineStep (u ++ v) q (Ok at) × (string_from (u ++ v') at ≡ string_from (u ++ v) at)
  unfolding string_from
  string_same at = go (string_of (drop at (u ++ v))) refl (string_good (drop at (u ++ v)))
    where
      go : (a : Told Literal) → string_of (drop at (u ++ v)) ≡ a → GoodString (drop at (u ++ v)) a → FineAnswer q (by_string (u ++ v) at a)
          → FineStep (u ++ v) q (Ok at) × (by_string (u ++ v') at (string_of (drop at (u ++ v'))) ≡ by_string (u ++ v) at a)
      go (Ok l) e g f =
          let h = string_end_same (at + l.len) f in
          let k : at ≤ length u = omega (arith, h.0) in
          let d = drop-append-le at u v k in
          let d' = drop-append-le at u v' k in
          let w : Within-string (length (drop at u)) (Ok l) = omega (arith, h.0, length-drop at u) in
          let e2 : string_of (drop at u ++ v) ≡ Ok l = ap string_of (sym d) ∙ e in
          let same : string_of (drop at (u ++ v')) ≡ Ok l = ap string_of d' ∙ string_closed (drop at u) v v' (subst (Within-string (length (drop at u))) (sym e2) w) ∙ e2 in
          let b = head_at (u ++ v) at in
          ((omega (arith, h.0), good_by (get_or (u ++ v) at 0) (get_or (drop at (u ++ v)) 0 0) (sym b) g.0 g.1), ap (by_string (u ++ v') at) same ∙ h.1)
      go (Err r) e g f = absurd f

  listed_same : (at : ℕ) → FineAnswer q (by_listed (u ++ v) (list_of (u ++ v) at)) → at ≤ length (u ++ v)
      → FineStep (u ++ v) q (Ok at) × (by_listed (u ++ v') (list_of (u ++ v') at) ≡ by_listed (u ++ v) (list_of (u ++ v) at))
  unfolding list_of
  listed_same at f k = go (list_from (drop at (u ++ v)) 0 at 0) refl (list_ends (drop at (u ++ v)) 0 at 0 (omega arith)) f
    where
      go : (r : Told (ℕ × ℕ)) → list_from (drop at (u ++ v)) 0 at 0 ≡ r → EndsIn at (at + length (drop at (u ++ v))) r → FineAnswer q (by_listed (u ++ v) r)
          → FineStep (u ++ v) q (Ok at) × (by_listed (u ++ v') (list_from (drop at (u ++ v')) 0 at 0) ≡ by_listed (u ++ v) r)
      go (Ok (p, sum)) e i f =
          let h = close_same p sum f in
          let l : at ≤ q = omega (arith, i.0, h.0.0) in
          let m : at ≤ length u = omega arith in
          let d = drop-append-le at u v m in
          let d' = drop-append-le at u v' m in
          let e2 : list_from (drop at u ++ v) 0 at 0 ≡ Ok (p, sum) = ap (λ (x : List ℕ). list_from x 0 at 0) (sym d) ∙ e in
          let n : at + (p - at) ≡ p = omega (arith, i.0) in
          let b : get_or (drop at u ++ v) (p - at) 0 ≡ get_or (u ++ v) p 0 = ap (λ (x : List ℕ). get_or x (p - at) 0) (sym d) ∙ get_or-drop at (u ++ v) (p - at) 0 ∙ ap (λ (x : ℕ). get_or (u ++ v) x 0) n in
          let fine : FineList (drop at u ++ v) (q - at) at (Ok (p, sum)) = (omega (arith, h.0.0), good_by (get_or (drop at u ++ v) (p - at) 0) (get_or (u ++ v) p 0) b h.0.1.0 h.0.1.1) in
          let s = list_same at 0 l (omega arith) (subst (FineList (drop at u ++ v) (q - at) at) (sym e2) fine) in
          let c : get_or (u ++ v) at 0 ≡ get_or (drop at u) 0 0 = get_or-append u v 0 at (omega arith) ∙ sym (head_at u at) in (
            (l, good_by (get_or (u ++ v) at 0) (get_or (drop at u) 0 0) c s.0.0 s.0.1),
            ap (by_listed (u ++ v')) (ap (λ (x : List ℕ). list_from x 0 at 0) d' ∙ s.1 ∙ e2) ∙ h.1,
          )
      go (Err r) e i f = absurd f

  -- behind a sign
  after_sign : (b at : ℕ) (go go' : ℕ → Told (ℕ × ℕ)) → Good b → at ≤ length (u ++ v) → 0 < b
      → ((p : ℕ) → p ≤ length (u ++ v) → FineAnswer q (go p) → FineStep (u ++ v) q (Ok p) × (go' p ≡ go p))
      → FineAnswer q (answer_at (sign_from b (u ++ v) at) go) → answer_at (sign_from b (u ++ v') at) go' ≡ answer_at (sign_from b (u ++ v) at) go
  after_sign b at go go' g k above same = by-step (sign_from b (u ++ v) at) refl (sign_within b (u ++ v) at above k)
    where
      by-step : (r : Told ℕ) → sign_from b (u ++ v) at ≡ r → StepIn (u ++ v) at r → FineAnswer q (answer_at r go) → answer_at (sign_from b (u ++ v') at) go' ≡ answer_at r go
      by-step (Ok p) e i f =
          let h = same p i.1 f in
          ap (λ (x : Told ℕ). answer_at x go') (sign_same u v v' q inside is b at g (subst (FineStep (u ++ v) q) (sym e) h.0) ∙ e) ∙ h.1
      by-step (Err r) e i f = absurd f

  enable_same : (at : ℕ) → at ≤ length (u ++ v) → FineAnswer q (enable_from (u ++ v) at) → enable_from (u ++ v') at ≡ enable_from (u ++ v) at
  unfolding enable_from
  enable_same at k f = after_sign 0x28 at (λ p. by_listed (u ++ v) (list_of (u ++ v) p)) (λ p. by_listed (u ++ v') (list_of (u ++ v') p)) (omega arith, refl) k (omega arith) (λ p l g. listed_same p g l) f

  value_same : (at : ℕ) → at ≤ length (u ++ v) → FineAnswer q (string_value_from (u ++ v) at) → string_value_from (u ++ v') at ≡ string_value_from (u ++ v) at
  unfolding string_value_from
  value_same at k f = after_sign 0x3d at (string_from (u ++ v)) (string_from (u ++ v')) (omega arith, refl) k (omega arith) (λ p l g. string_same p g) f

  -- the word at a place: its first byte, and the place behind it
  abbrev GoodWord : ℕ → Keyword → Type 0
  GoodWord at (Enable p) = (at ≤ p) × (p ≤ length (u ++ v)) × Good (get_or (u ++ v) at 0)
  GoodWord at (Text p) = (at ≤ p) × (p ≤ length (u ++ v)) × Good (get_or (u ++ v) at 0)
  GoodWord at NoKeyword = Unit {0}

  word_at : (at : ℕ) → at ≤ length (u ++ v) → GoodWord at (keyword_at (u ++ v) at)
  unfolding keyword_at by_word
  word_at at k =
      let t : List ℕ = drop at (u ++ v) in
      let l : at + (keyword_of t).end ≤ length (u ++ v) = omega (arith, word_le t, length-drop at (u ++ v)) in
      cond_cases (GoodWord at) (eqb (keyword_of t).end 0) _ _ (λ e. tt)
      (λ e. let g = keyword_good t e in
      let b = good_by (get_or (u ++ v) at 0) (get_or t 0 0) (sym (head_at (u ++ v) at)) g.0 g.1 in
      cond_cases (GoodWord at) (eqb (keyword_of t).code 1) _ _ (λ c. (omega arith, l, b)) (λ c. (omega arith, l, b)))

  keyword_at_same : (at : ℕ) → at ≤ q → keyword_at (u ++ v') at ≡ keyword_at (u ++ v) at
  unfolding keyword_at
  keyword_at_same at h = stopped_at u v v' q inside is (keyword_stopped at) at h

  keyword_same : (at : ℕ) → at ≤ length (u ++ v) → FineAnswer q (keyword_from (u ++ v) at) → FineStep (u ++ v) q (Ok at) × (keyword_from (u ++ v') at ≡ keyword_from (u ++ v) at)
  unfolding keyword_from
  keyword_same at k = go (keyword_at (u ++ v) at) refl (word_at at k)
    where
      reached : (p : ℕ) (a : Told (ℕ × ℕ)) → AnswerIn (u ++ v) p a → FineAnswer q a → p ≤ q
      reached p (Ok (n, sum)) i f = omega (arith, i.0)
      reached p (Err r) i f = absurd f

      go : (w : Keyword) → keyword_at (u ++ v) at ≡ w → GoodWord at w → FineAnswer q (by_keyword (u ++ v) w)
          → FineStep (u ++ v) q (Ok at) × (by_keyword (u ++ v') (keyword_at (u ++ v') at) ≡ by_keyword (u ++ v) w)
      go (Enable p) e g f =
          let h = reached p (enable_from (u ++ v) p) (enable_in (u ++ v) p g.1) f in
          let l : at ≤ q = omega (arith, g.0) in
          ((l, g.2), ap (by_keyword (u ++ v')) (keyword_at_same at l ∙ e) ∙ enable_same p g.1 f)
      go (Text p) e g f =
          let h = reached p (string_value_from (u ++ v) p) (value_in (u ++ v) p g.1) f in
          let l : at ≤ q = omega (arith, g.0) in
          ((l, g.2), ap (by_keyword (u ++ v')) (keyword_at_same at l ∙ e) ∙ value_same p g.1 f)
      go NoKeyword e g f = absurd f

  opened_same : FineAll (u ++ v) q (opened_of (u ++ v)) → opened_of (u ++ v') ≡ opened_of (u ++ v)
  unfolding opened_of
  opened_same f =
      let r1 : Told (Bool × ℕ) = consume_of 0x23 (u ++ v) (Ok (true, 0)) in
      let r2 : Told (Bool × ℕ) = consume_of 0x21 (u ++ v) r1 in
      consumed_same u v v' q inside is 0x5b r2 (consume_of 0x21 (u ++ v') (consume_of 0x23 (u ++ v') (Ok (true, 0)))) (omega arith, refl)
      (λ f2. consumed_same u v v' q inside is 0x21 r1 (consume_of 0x23 (u ++ v') (Ok (true, 0))) (omega arith, refl)
      (λ f1. consumed_same u v v' q inside is 0x23 (Ok (true, 0)) (Ok (true, 0)) (omega arith, refl) (λ f0. refl) f1) f2) f

  attribute_same : FineAnswer q (attribute_of (u ++ v)) → attribute_of (u ++ v') ≡ attribute_of (u ++ v)
  unfolding attribute_of
  attribute_same = go (opened_of (u ++ v)) refl (opened_in (u ++ v))
    where
      go : (r : Told (Bool × ℕ)) → opened_of (u ++ v) ≡ r → AllIn (u ++ v) 0 r → FineAnswer q (by_opened (u ++ v) r) → by_opened (u ++ v') (opened_of (u ++ v')) ≡ by_opened (u ++ v) r
      go (Ok (true, p)) e i f =
          let h = keyword_same p i.1 f in
          ap (by_opened (u ++ v')) (opened_same (subst (FineAll (u ++ v) q) (sym e) h.0) ∙ e) ∙ h.1
      go (Ok (false, p)) e i f = absurd f
      go (Err r) e i f = absurd f

-- ---- the last byte of an attribute is its `]`

abbrev LastBracket : List ℕ → Told (ℕ × ℕ) → Type 0
LastBracket s (Ok (n, sum)) = (q : ℕ) × (n ≡ q + 1) × (get_or s q 0 ≡ 0x5d)
LastBracket s (Err r) = Unit {0}

end_last : (s : List ℕ) (all : Bool) (at sum : ℕ) → LastBracket s (list_end s all at sum)
unfolding list_end no_end
end_last s all at sum =
    cond_cases (LastBracket s) (eqb (get_or s at 0) 0x5d) _ _
    (λ e. cond_cases (LastBracket s) all (Ok (at + 1, sum)) _ (λ a. (at, refl, eqb-true (get_or s at 0) 0x5d e)) (λ a. none (skip_from s (at + 1))))
    (λ e. tt)
  where
    none : (r : Told ℕ) → LastBracket s (answer_at r (λ p. Err (expected_attribute_end 0)))
    none (Ok p) = tt
    none (Err r) = tt

step_last : (s : List ℕ) (r : Told ℕ) (go : ℕ → Told (ℕ × ℕ)) → ((p : ℕ) → LastBracket s (go p)) → LastBracket s (answer_at r go)
step_last s (Ok p) go f = f p
step_last s (Err r) go f = tt

listed_last : (s : List ℕ) (r : Told (ℕ × ℕ)) → LastBracket s (by_listed s r)
unfolding close_list
listed_last s (Ok (p, sum)) = by-bracket (consume_from 0x29 s true p)
  where
    by-bracket : (r : Told (Bool × ℕ)) → LastBracket s (by_bracket s sum r)
    by-bracket (Ok (all, at)) = end_last s all at sum
    by-bracket (Err r) = tt
listed_last s (Err r) = tt

string_last : (s : List ℕ) (at : ℕ) (a : Told Literal) → LastBracket s (by_string s at a)
unfolding string_end
string_last s at (Ok l) = step_last s (skip_from s (at + l.len)) (λ p. list_end s true p 0) (λ p. end_last s true p 0)
string_last s at (Err r) = tt

keyword_last : (s : List ℕ) (w : Keyword) → LastBracket s (by_keyword s w)
unfolding enable_from string_value_from string_from
keyword_last s (Enable at) = step_last s (sign_from 0x28 s at) (λ p. by_listed s (list_of s p)) (λ p. listed_last s (list_of s p))
keyword_last s (Text at) = step_last s (sign_from 0x3d s at) (λ p. by_string s p (string_of (drop p s))) (λ p. string_last s p (string_of (drop p s)))
keyword_last s NoKeyword = tt

attribute_last : (s : List ℕ) → LastBracket s (attribute_of s)
unfolding attribute_of keyword_from
attribute_last s = by-opened (opened_of s)
  where
    by-opened : (r : Told (Bool × ℕ)) → LastBracket s (by_opened s r)
    by-opened (Ok (true, p)) = keyword_last s (keyword_at s p)
    by-opened (Ok (false, p)) = tt
    by-opened (Err r) = tt

-- ---- accepted attributes

-- accepted, and taken from the first k bytes
abbrev pub Within-attribute : ℕ → Told (ℕ × ℕ) → Type 0
Within-attribute k (Ok (n, sum)) = n ≤ k
Within-attribute k (Err r) = ⊥

pub attribute_closed : (u v v' : List ℕ) → Within-attribute (length u) (attribute_of (u ++ v)) → attribute_of (u ++ v') ≡ attribute_of (u ++ v)
attribute_closed u v v' = go (attribute_of (u ++ v)) refl (attribute_last (u ++ v))
  where
    go : (a : Told (ℕ × ℕ)) → attribute_of (u ++ v) ≡ a → LastBracket (u ++ v) a → Within-attribute (length u) a → attribute_of (u ++ v') ≡ a
    go (Ok (n, sum)) e l w =
        let q : ℕ = l.0 in
        let i : q < length u = omega (arith, l.1) in
        let b : get_or u q 0 ≡ 0x5d = sym (get_or-append u v 0 q i) ∙ l.2 in
        attribute_same u v v' q i b (subst (FineAnswer q) (sym e) l.1) ∙ e
    go (Err r) e l w = absurd w
