-- Laws of the list of extensions, at an index of the text, as the loop asks for them. Assumes nothing.
use Rattle.std.proofs.Common.{Err}
use Rattle.text.specs.Refusals.{Told, eof}
use Prim.Native.Nat.{◌+◌, ◌-◌, ◌<◌, ◌≤◌, pred, suc, zero, ℕ}
use native.Mathlib.Nat.{add-zero}
use native.Mathlib.Omega.{arith}
use mathlib.Core.Bool.{Bool, true}
use mathlib.Core.List.{List, [], ◌∷◌}
use mathlib.Core.Path.{◌∙◌, ◌≡◌, ap, refl, subst, sym}
use lib.ListN.{drop, drop_of_length-le, get_or, length, take, length-drop}
use lib.Seq.{drop-drop}
use Rattle.attributes.proofs.Bounds.{ItemIn, item_in}
use Rattle.attributes.specs.Extensions.{added_to}
use Rattle.attributes.specs.List.{behind_name, by_comma, by_list_name, by_item, by_other, item_end, item_of, list_from, other_char}
use Rattle.attributes.specs.Steps.{all_at, consume_of, skip_from}
use Rattle.attributes.specs.declared.extensions.Extension.{Extension}
use Rattle.attributes.specs.declared.list.Item.{Item}
use Rattle.attributes.specs.declared.list.Item.TheVariants.{More}
use Rattle.attributes.specs.declared.list.OtherChar.{OtherChar}
use Rattle.attributes.specs.declared.list.OtherChar.TheVariants.{Ends}
use Rattle.names.proofs.IdentifierLaws.{Within, identifier_within}
use Rattle.names.specs.Identifiers.{identifier_of}
use Rattle.names.specs.declared.Identifier.{Identifier}
use Rattle.text.proofs.Lists.{front, tail_part}
use Rattle.text.proofs.AheadLaws.{ahead_nil}

-- ---- whether a name goes on

pub other_out : (t : List ℕ) (at : ℕ) → length t ≤ at → Ends ≡ other_char t at
unfolding other_char
other_out t at h = rw (ahead_nil (drop at t) (omega (arith, length-drop at t)))

module _ (t : List ℕ) (e : Extension) where
  pub other_by : (comma : Bool) (at : ℕ) (r : OtherChar) → r ≡ other_char t at → by_other r e comma at ≡ item_end t e comma at
  unfolding item_end
  other_by comma at r d = ap (λ (x : OtherChar). by_other x e comma at) d

  pub comma_by : (n : ℕ) (r : Told (Bool × ℕ)) → r ≡ consume_of 0x2c t (all_at true (skip_from t n)) → by_comma t e r ≡ behind_name t e n
  unfolding behind_name
  comma_by n r d = ap (by_comma t e) d

-- ---- items

module _ (t : List ℕ) (r : Identifier) (e : r ≡ identifier_of t) where
  pub identifier_by : by_list_name t r ≡ item_of t
  unfolding item_of
  identifier_by = ap (by_list_name t) e

  pub identifier_fits : Within t r
  identifier_fits = subst (Within t) (sym e) (identifier_within t)

-- ---- the list

list_step : (a : ℕ) (t : List ℕ) (at sum : ℕ) → list_from (a ∷ t) 0 at sum ≡ by_item (item_of (a ∷ t)) (λ n e. list_from t (pred n) (at + 1) (added_to e sum)) at sum
unfolding list_from
list_step a t at sum = refl

-- the bytes of an item already judged are passed
pub list_passed : (t : List ℕ) (k at sum : ℕ) → k ≤ length t → list_from t k at sum ≡ list_from (drop k t) 0 (at + k) sum
unfolding list_from
list_passed t zero at sum p = rw (add-zero at)
list_passed [] (suc k) at sum p = absurd (omega arith)
list_passed (a ∷ t) (suc k) at sum p =
    let e : at + 1 + k ≡ at + suc k = omega arith in
    list_passed t k (at + 1) sum (omega arith) ∙ ap (λ (n : ℕ). list_from (drop k t) 0 n sum) e

pub list_more : (t : List ℕ) (at sum n : ℕ) (e : Extension) → item_of t ≡ More n e → 0 < n → n ≤ length t → list_from t 0 at sum ≡ list_from (drop n t) 0 (at + n) (added_to e sum)
list_more [] at sum n e h p q = absurd (omega arith)
list_more (a ∷ t) at sum zero e h p q = absurd (omega arith)
list_more (a ∷ t) at sum (suc m) e h p q =
    let d : at + 1 + m ≡ at + suc m = omega arith in
    list_step a t at sum
    ∙ ap (λ (r : Item). by_item r (λ n e. list_from t (pred n) (at + 1) (added_to e sum)) at sum) h
    ∙ list_passed t m (at + 1) (added_to e sum) (omega arith)
    ∙ ap (λ (n : ℕ). list_from (drop m t) 0 n (added_to e sum)) d

module _ (s : List ℕ) (at sum : ℕ) where
  pub list_on : (n : ℕ) (e : Extension) → item_of (drop at s) ≡ More n e → list_from (drop at s) 0 at sum ≡ list_from (drop (at + n) s) 0 (at + n) (added_to e sum)
  list_on n e h =
      let q = subst (ItemIn (drop at s)) h (item_in (drop at s)) in
      list_more (drop at s) at sum n e h q.0 q.1 ∙ ap (λ (t : List ℕ). list_from t 0 (at + n) (added_to e sum)) (drop-drop n at s)

  -- every other item ends the list
  pub list_last : (r : Item) → at < length s → item_of (drop at s) ≡ r → list_from (drop at s) 0 at sum ≡ by_item r (λ n e. list_from (drop (at + 1) s) (pred n) (at + 1) (added_to e sum)) at sum
  list_last r h e =
      let f = front s at h in
      ap (λ (t : List ℕ). list_from t 0 at sum) f
      ∙ list_step (get_or s at 0) (drop (at + 1) s) at sum
      ∙ ap (λ (x : Item). by_item x (λ n e. list_from (drop (at + 1) s) (pred n) (at + 1) (added_to e sum)) at sum) (ap item_of (sym f) ∙ e)

  pub list_out : length s ≤ at → list_from (drop at s) 0 at sum ≡ Err (eof at)
  unfolding list_from
  list_out h = rw (drop_of_length-le s h)

pub item_fits : (s : List ℕ) (at : ℕ) (r : Item) → r ≡ item_of (take (length s - at) (drop at s)) → ItemIn (drop at s) r
item_fits s at r e = subst (ItemIn (drop at s)) (sym (e ∙ ap item_of (tail_part s at))) (item_in (drop at s))
