-- The list of extensions: what was read or refused of it before a stop byte stays. Assumes nothing.
use Rattle.std.proofs.Common.{Ok, Err, Some, None, Option}
use Rattle.text.specs.Refusals.{Told}
use Prim.Native.Nat.{◌+◌, ◌-◌, ◌≤◌, pred, suc, zero, ℕ}
use native.Mathlib.Omega.{arith}
use mathlib.Core.Bool.{Bool, cond, false, true}
use mathlib.Core.List.{List, [], ◌++◌, ◌∷◌, append_assoc}
use mathlib.Core.Path.{◌∙◌, ◌≡◌, ap, refl, subst, sym}
use lib.Dec.{eqb}
use lib.ListN.{drop, length}
use Rattle.attributes.proofs.Bounds.{ItemIn, item_in}
use Rattle.attributes.specs.Extensions.{added_to, extension_of, extensions, first_named, is_word, name_of}
use Rattle.attributes.specs.List.{behind_name, by_comma, by_extension_name, by_item, by_list_name, by_other, item_end, item_of, list_from, other_char}
use Rattle.attributes.specs.Steps.{all_at, consume_of, skip_from}
use Rattle.attributes.specs.Words.{by_word, keyword_of, keywords}
use Rattle.attributes.specs.declared.extensions.Extension.{Extension}
use Rattle.attributes.specs.declared.extensions.Extension.TheVariants.{ExplicitStructNames, ImplicitSome, UnwrapNewtypes, UnwrapVariantNewtypes}
use Rattle.attributes.specs.declared.list.Item.{Item}
use Rattle.attributes.specs.declared.list.Item.TheVariants.{More, Last, NoName, NoComma, Refused as Spoilt}
use Rattle.attributes.specs.declared.list.OtherChar.{OtherChar}
use Rattle.attributes.specs.declared.list.OtherChar.TheVariants.{Goes, Ends}
use Rattle.integers.proofs.WordStops.{first_stopped, fit}
use Rattle.names.proofs.IdentifierLaws.{Within, identifier_within}
use Rattle.names.specs.Identifiers.{identifier_of}
use Rattle.names.specs.declared.Identifier.{Identifier}
use Rattle.names.specs.declared.Identifier.TheVariants.{Missing, Name, RawName}
use Rattle.text.proofs.Choices.{or_right}
use Rattle.text.proofs.ClassLaws.{all_of}
use Rattle.text.proofs.Stops.{Stopped, always, on, on₂}
use Rattle.text.proofs.AheadLaws.{ahead_stopped}
use Rattle.text.proofs.WordLaws.{starts_stopped}
use Rattle.text.specs.Ahead.{next_ahead}
use Rattle.text.specs.Classes.{ascii_next, ascii_raw, digit, letter, one_of, within}
use Rattle.settled.proofs.StepEnds.{consume_keeps, consume_least, skip_keeps, skip_least, all-end, tail, tail_on}
use Rattle.settled.proofs.WordEnds.{identifier_stopped, kept, kept_out, raw_out, stop_ascii}
use Rattle.settled.specs.Bytes.{stops_byte}
use Rattle.settled.specs.Stood.{all_end, by_stood_item, item_stood, list_stood, name_stood, named_stood}

-- ---- where an item stands that ends

-- it ends at k, whether the list goes on behind it or ends there
abbrev Ends-at : ℕ → Item → Type 0
Ends-at k (More n e) = k ≡ n
Ends-at k (Last n e) = k ≡ n
Ends-at k NoName = Unit {0}
Ends-at k NoComma = Unit {0}
Ends-at k (Spoilt r) = Unit {0}

other_at : (o : OtherChar) (e : Extension) (comma : Bool) (p : ℕ) → Ends-at p (by_other o e comma p)
other_at Goes e true p = refl
other_at Goes e false p = tt
other_at Ends e comma p = refl

comma_at : (t : List ℕ) (e : Extension) (y : Told (Bool × ℕ)) → Ends-at (all_end y) (by_comma t e y)
unfolding item_end
comma_at t e (Ok (comma, p)) = other_at (other_char t p) e comma p
comma_at t e (Err r) = tt

named_at : (t : List ℕ) (n : ℕ) (x : Option Extension) → Ends-at (named_stood t n x) (by_extension_name t n x)
unfolding behind_name
named_at t n (Some e) = comma_at t e (consume_of 0x2c t (all_at true (skip_from t n)))
named_at t n None = tt

name_at : (t : List ℕ) (i : Identifier) → Ends-at (name_stood t i) (by_list_name t i)
name_at t Missing = tt
name_at t (Name n) = named_at t n (extension_of t n)
name_at t (RawName n) = named_at t n (extension_of (drop 2 t) (n - 2))

item_at : (t : List ℕ) → Ends-at (item_stood t) (item_of t)
unfolding item_stood item_of
item_at t = name_at t (identifier_of t)

-- ---- where a list stands

item_least : (i : Item) (on : ℕ → ℕ) (at here : ℕ) → ((n : ℕ) → at ≤ on n) → at ≤ here → at ≤ by_stood_item i on here
item_least (More n e) on at here f h = f n
item_least (Last n e) on at here f h = h
item_least NoName on at here f h = h
item_least NoComma on at here f h = h
item_least (Spoilt r) on at here f h = h

pub list_least : (t : List ℕ) (left at : ℕ) → at ≤ list_stood t left at
unfolding list_stood
list_least [] left at = omega arith
list_least (a ∷ t) (suc left) at = omega (arith, list_least t left (at + 1))
list_least (a ∷ t) zero at = item_least (item_of (a ∷ t)) (λ n. list_stood t (pred n) (at + 1)) at (at + item_stood (a ∷ t)) (λ n. omega (arith, list_least t (pred n) (at + 1))) (omega arith)

-- one that ends stands at its end
pub list_ended : (t : List ℕ) (left at sum q n : ℕ) → list_from t left at sum ≡ Ok (q, n) → list_stood t left at ≡ q
unfolding list_from list_stood
list_ended [] left at sum q n h = let z : ◌≡◌ {A = ℕ} 0 1 = cc in absurd (omega arith)
list_ended (a ∷ t) (suc left) at sum q n h = list_ended t left (at + 1) sum q n h
list_ended (a ∷ t) zero at sum q n h = go (item_of (a ∷ t)) (item_at (a ∷ t)) (λ k m g. list_ended t k (at + 1) m q n g) h
  where
    go : (i : Item) → Ends-at (item_stood (a ∷ t)) i → ((k m : ℕ) → list_from t k (at + 1) m ≡ Ok (q, n) → list_stood t k (at + 1) ≡ q)
        → by_item i (λ k e. list_from t (pred k) (at + 1) (added_to e sum)) at sum ≡ Ok (q, n) → by_stood_item i (λ k. list_stood t (pred k) (at + 1)) (at + item_stood (a ∷ t)) ≡ q
    go (More k e) z rest h = rest (pred k) (added_to e sum) h
    go (Last k e) z rest h = let f : ◌≡◌ {A = ℕ × ℕ} (at + k, added_to e sum) (q, n) = cc in let g = ap (λ (p : ℕ × ℕ). p.0) f in omega arith
    go NoName z rest h = let z : ◌≡◌ {A = ℕ} 0 1 = cc in absurd (omega arith)
    go NoComma z rest h = let z : ◌≡◌ {A = ℕ} 0 1 = cc in absurd (omega arith)
    go (Spoilt r) z rest h = let z : ◌≡◌ {A = ℕ} 0 1 = cc in absurd (omega arith)

words_kept : fit kept keywords ≡ true
unfolding stops_byte ascii_raw ascii_next letter digit within
words_kept = refl

module _ (c : ℕ) (is : stops_byte c ≡ true) where
  -- ---- words
  name_kept : (e : Extension) → all_of kept (name_of e) ≡ true
  unfolding stops_byte ascii_raw ascii_next letter digit within
  name_kept UnwrapNewtypes = refl
  name_kept ImplicitSome = refl
  name_kept UnwrapVariantNewtypes = refl
  name_kept ExplicitStructNames = refl

  is_stopped : (e : Extension) (n : ℕ) → Stopped c (λ t. is_word (name_of e) t n)
  unfolding is_word
  is_stopped e n = on (λ (b : Bool). cond (eqb n (length (name_of e))) b false) (starts_stopped kept c (kept_out c is) (name_of e) (name_kept e))

  named_stopped : (es : List Extension) (n : ℕ) → Stopped c (λ t. first_named es t n)
  unfolding first_named
  named_stopped [] n = always None
  named_stopped (e ∷ es) n = on₂ (λ (b : Bool) (r : Option Extension). cond b (Some e) r) (is_stopped e n) (named_stopped es n)

  extension_stopped : (n : ℕ) → Stopped c (λ t. extension_of t n)
  unfolding extension_of
  extension_stopped n = named_stopped extensions n

  next_out : ascii_next c ≡ false
  unfolding ascii_raw
  next_out = or_right (one_of (0x2e ∷ 0x2b ∷ 0x2d ∷ []) c) (ascii_next c) (raw_out c is)

  pub keyword_stopped : (at : ℕ) → Stopped c (λ t. by_word at (keyword_of t))
  unfolding keyword_of
  keyword_stopped at = on (by_word at) (first_stopped kept c (stop_ascii c is) next_out (kept_out c is) keywords words_kept)

  -- ---- an item
  module _ (u w v : List ℕ) where
    abbrev t : List ℕ
    t = u ++ c ∷ w

    abbrev t' : List ℕ
    t' = (u ++ c ∷ w) ++ v

    later : t' ≡ u ++ c ∷ (w ++ v)
    later = append_assoc u (c ∷ w) v

    other_keeps : (p : ℕ) → p ≤ length u → other_char t' p ≡ other_char t p
    unfolding other_char
    other_keeps p l =
        ap (λ (x : List ℕ). cond (next_ahead x) Goes Ends) (tail_on c (stop_ascii c is) u w v p l)
        ∙ ap (λ (b : Bool). cond b Goes Ends) ((ahead_stopped c (stop_ascii c is) next_out).same (drop p u) (w ++ v) w)
        ∙ ap (λ (x : List ℕ). cond (next_ahead x) Goes Ends) (sym (tail c (stop_ascii c is) u w v p l))

    name_keeps : (e : Extension) (n : ℕ) → all_end (consume_of 0x2c t (all_at true (skip_from t n))) ≤ length u → behind_name t' e n ≡ behind_name t e n
    unfolding behind_name item_end
    name_keeps e n h =
        let x : Told (Bool × ℕ) = all_at true (skip_from t n) in
        let l1 = consume_least 0x2c t x in
        let l2 = all-end true (skip_from t n) in
        let l3 = skip_least t n in
        let skip : skip_from t' n ≡ skip_from t n = skip_keeps c (stop_ascii c is) u w v n (omega arith) (omega arith) in
        let all : consume_of 0x2c t' (all_at true (skip_from t' n)) ≡ consume_of 0x2c t x =
        ap (λ (y : Told ℕ). consume_of 0x2c t' (all_at true y)) skip ∙ consume_keeps c (stop_ascii c is) u w v 0x2c x h in
        ap (by_comma t' e) all ∙ go (consume_of 0x2c t x) h
      where
        go : (y : Told (Bool × ℕ)) → all_end y ≤ length u → by_comma t' e y ≡ by_comma t e y
        go (Ok (comma, p)) l = ap (λ (k : OtherChar). by_other k e comma p) (other_keeps p l)
        go (Err r) l = refl

    named_keeps : (n : ℕ) (x : Option Extension) → named_stood t n x ≤ length u → by_extension_name t' n x ≡ by_extension_name t n x
    named_keeps n (Some e) h = name_keeps e n h
    named_keeps n None h = refl

    named_least : (n : ℕ) (x : Option Extension) → n ≤ named_stood t n x
    named_least n (Some e) = omega (arith, consume_least 0x2c t (all_at true (skip_from t n)), all-end true (skip_from t n), skip_least t n)
    named_least n None = omega arith

    ident_keeps : (i : Identifier) → Within t i → name_stood t i ≤ length u → by_list_name t' i ≡ by_list_name t i
    ident_keeps Missing z h = refl
    ident_keeps (Name n) z h =
        ap (by_extension_name t' n) (ap (λ (x : List ℕ). extension_of x n) later ∙ (extension_stopped n).same u (w ++ v) w) ∙ named_keeps n (extension_of t n) h
    ident_keeps (RawName n) z h =
        let two : 2 ≤ length u = omega (arith, h, named_least n (extension_of (drop 2 t) (n - 2)), z.0) in
        let same : extension_of (drop 2 t') (n - 2) ≡ extension_of (drop 2 t) (n - 2) =
        ap (λ (x : List ℕ). extension_of x (n - 2)) (tail_on c (stop_ascii c is) u w v 2 two)
        ∙ (extension_stopped (n - 2)).same (drop 2 u) (w ++ v) w
        ∙ ap (λ (x : List ℕ). extension_of x (n - 2)) (sym (tail c (stop_ascii c is) u w v 2 two)) in
        ap (by_extension_name t' n) same ∙ named_keeps n (extension_of (drop 2 t) (n - 2)) h

    item_keeps : item_stood t ≤ length u → item_of t' ≡ item_of t
    unfolding item_stood item_of
    item_keeps h =
        ap (by_list_name t') (ap identifier_of later ∙ (identifier_stopped c is).same u (w ++ v) w)
        ∙ ident_keeps (identifier_of t) (identifier_within t) h

  -- ---- the list
  passed_least : (t : List ℕ) (left at : ℕ) → left ≤ length t → at + left ≤ list_stood t left at
  unfolding list_stood
  passed_least t zero at h = omega (arith, list_least t 0 at)
  passed_least [] (suc left) at h = absurd (omega arith)
  passed_least (a ∷ t) (suc left) at h = omega (arith, passed_least t left (at + 1) (omega arith))

  by-item : (a : ℕ) (u w v : List ℕ) (i : Item) (at sum : ℕ) → item_of (a ∷ u ++ c ∷ w) ≡ i → ItemIn (a ∷ u ++ c ∷ w) i
      → ((k sum : ℕ) → list_stood (u ++ c ∷ w) k (at + 1) ≤ at + 1 + length u → list_from ((u ++ c ∷ w) ++ v) k (at + 1) sum ≡ list_from (u ++ c ∷ w) k (at + 1) sum)
      → by_stood_item i (λ n. list_stood (u ++ c ∷ w) (pred n) (at + 1)) (at + item_stood (a ∷ u ++ c ∷ w)) ≤ at + suc (length u)
      → (item_of (a ∷ (u ++ c ∷ w) ++ v) ≡ i) × (by_item i (λ n e. list_from ((u ++ c ∷ w) ++ v) (pred n) (at + 1) (added_to e sum)) at sum ≡ by_item i (λ n e. list_from (u ++ c ∷ w) (pred n) (at + 1) (added_to e sum)) at sum)
  by-item a u w v (More zero e) at sum q z rest h = absurd (omega (arith, z.0))
  by-item a u w v (More (suc n) e) at sum q z rest h =
      let far = passed_least (u ++ c ∷ w) n (at + 1) (omega (arith, z.1)) in
      (item_keeps (a ∷ u) w v (omega (arith, subst (Ends-at (item_stood (a ∷ u ++ c ∷ w))) q (item_at (a ∷ u ++ c ∷ w)), far, h)) ∙ q, rest n (added_to e sum) (omega arith))
  by-item a u w v (Last n e) at sum q z rest h = (item_keeps (a ∷ u) w v (omega arith) ∙ q, refl)
  by-item a u w v NoName at sum q z rest h = (item_keeps (a ∷ u) w v (omega arith) ∙ q, refl)
  by-item a u w v NoComma at sum q z rest h = (item_keeps (a ∷ u) w v (omega arith) ∙ q, refl)
  by-item a u w v (Spoilt r) at sum q z rest h = (item_keeps (a ∷ u) w v (omega arith) ∙ q, refl)

  -- an item that c begins
  by_first : (w v : List ℕ) (i : Item) (at sum : ℕ) → item_of (c ∷ w) ≡ i → ItemIn (c ∷ w) i
      → by_stood_item i (λ n. list_stood w (pred n) (at + 1)) (at + item_stood (c ∷ w)) ≤ at + 0
      → (item_of (c ∷ w ++ v) ≡ i) × (by_item i (λ n e. list_from (w ++ v) (pred n) (at + 1) (added_to e sum)) at sum ≡ by_item i (λ n e. list_from w (pred n) (at + 1) (added_to e sum)) at sum)
  by_first w v (More n e) at sum q z h = absurd (omega (arith, list_least w (pred n) (at + 1)))
  by_first w v (Last n e) at sum q z h = (item_keeps [] w v (omega arith) ∙ q, refl)
  by_first w v NoName at sum q z h = (item_keeps [] w v (omega arith) ∙ q, refl)
  by_first w v NoComma at sum q z h = (item_keeps [] w v (omega arith) ∙ q, refl)
  by_first w v (Spoilt r) at sum q z h = (item_keeps [] w v (omega arith) ∙ q, refl)

  pub list_keeps : (u w v : List ℕ) (left at sum : ℕ) → list_stood (u ++ c ∷ w) left at ≤ at + length u → list_from ((u ++ c ∷ w) ++ v) left at sum ≡ list_from (u ++ c ∷ w) left at sum
  unfolding list_from list_stood
  list_keeps [] w v (suc left) at sum h = absurd (omega (arith, list_least w left (at + 1)))
  list_keeps [] w v zero at sum h =
      let k = by_first w v (item_of (c ∷ w)) at sum refl (item_in (c ∷ w)) h in
      ap (λ (i : Item). by_item i (λ n e. list_from (w ++ v) (pred n) (at + 1) (added_to e sum)) at sum) k.0 ∙ k.1
  list_keeps (a ∷ u) w v (suc left) at sum h = list_keeps u w v left (at + 1) sum (omega arith)
  list_keeps (a ∷ u) w v zero at sum h =
      let k = by-item a u w v (item_of (a ∷ u ++ c ∷ w)) at sum refl (item_in (a ∷ u ++ c ∷ w)) (λ n m l. list_keeps u w v n (at + 1) m l) h in
      ap (λ (i : Item). by_item i (λ n e. list_from ((u ++ c ∷ w) ++ v) (pred n) (at + 1) (added_to e sum)) at sum) k.0 ∙ k.1
