-- Laws of where the reading of an attribute stands, as the functions ask for them. Assumes nothing.
use Rattle.std.proofs.Common.{Ok, Err, Some, None, Option}
use Rattle.text.specs.Refusals.{Told}
use Rattle.attributes.specs.declared.extensions.Extension.{Extension}
use Prim.Native.Nat.{◌+◌, ◌-◌, ◌<◌, ◌≤◌, pred, suc, zero, ℕ}
use native.Mathlib.Nat.{add-zero}
use native.Mathlib.Omega.{arith}
use mathlib.Core.Bool.{Bool, false, true}
use mathlib.Core.List.{List, [], ◌∷◌}
use mathlib.Core.Path.{◌∙◌, ◌≡◌, ap, refl, sym}
use lib.ListN.{drop, drop_of_length-le, get_or, length, length-drop}
use lib.Seq.{drop-drop}
use borrow.Author.Tests.{eq-eqb, ne_eqb}
use Rattle.attributes.proofs.Bounds.{AllIn, ItemIn, StepIn, consume_within, item_in, skip_in}
use Rattle.attributes.specs.Extensions.{extension_of}
use Rattle.attributes.specs.List.{item_of}
use Rattle.attributes.specs.Steps.{all_at, consume_of, skip_from}
use Rattle.attributes.specs.declared.list.Item.{Item}
use Rattle.attributes.specs.declared.list.Item.TheVariants.{More, Last, NoName, NoComma, Refused as Spoilt}
use Rattle.names.proofs.IdentifierLaws.{Within, identifier_within}
use Rattle.names.specs.Identifiers.{identifier_of}
use Rattle.names.specs.declared.Identifier.{Identifier}
use Rattle.names.specs.declared.Identifier.TheVariants.{Missing, Name, RawName}
use Rattle.strings.specs.Strings.{string_of}
use Rattle.text.proofs.Lists.{front}
use Rattle.settled.specs.Stood.{all_end, by_stood_item, end_stood, item_stood, list_stood, name_stood, named_stood, sign_by, sign_here, sign_stood, step_end, string_stood}

-- ---- signs, by the byte x that was looked at

module _ (s : List ℕ) (at b x : ℕ) (e : x ≡ get_or s at 0) where
  pub here_out : (x ≡ b → ⊥) → at ≡ sign_here b s at
  unfolding sign_here
  here_out n = rw (ne_eqb (get_or s at 0) b (λ q. n (e ∙ q)))

  pub here_in : (r : Told ℕ) → x ≡ b → r ≡ skip_from s (at + 1) → step_end r ≡ sign_here b s at
  unfolding sign_here
  here_in r q d = rw (eq-eqb (get_or s at 0) b (sym e ∙ q)) (ap step_end d)

pub sign-by : (b : ℕ) (s : List ℕ) (at : ℕ) (r : Told ℕ) → r ≡ skip_from s at → sign_by b s r ≡ sign_stood b s at
unfolding sign_stood
sign-by b s at r e = ap (sign_by b s) e

module _ (s : List ℕ) (all : Bool) (at : ℕ) where
  pub end_out : (x : ℕ) → x ≡ get_or s at 0 → all ≡ true → (x ≡ 0x5d → ⊥) → at ≡ end_stood s all at
  unfolding end_stood
  end_out x e a n = rw (a, ne_eqb (get_or s at 0) 0x5d (λ q. n (e ∙ q)))

  pub end_in : (x : ℕ) → x ≡ get_or s at 0 → all ≡ true → x ≡ 0x5d → at + 1 ≡ end_stood s all at
  unfolding end_stood
  end_in x e a q = rw (a, eq-eqb (get_or s at 0) 0x5d (sym e ∙ q))

  pub end_short : all ≡ false → sign_here 0x5d s at ≡ end_stood s all at
  unfolding end_stood
  end_short a = rw a

-- ---- items

pub name_by : (t : List ℕ) (r : Identifier) → r ≡ identifier_of t → name_stood t r ≡ item_stood t
unfolding item_stood
name_by t r e = ap (name_stood t) e

all_in : (s : List ℕ) (at : ℕ) (r : Told ℕ) → StepIn s at r → AllIn s at (all_at true r)
all_in s at (Ok p) i = i
all_in s at (Err r) i = i

end_in_part : (s : List ℕ) (at : ℕ) (r : Told (Bool × ℕ)) → AllIn s at r → all_end r ≤ length s
end_in_part s at (Ok (all, p)) i = i.1
end_in_part s at (Err r) i = i

named_le : (t : List ℕ) (n : ℕ) (x : Option Extension) → n ≤ length t → named_stood t n x ≤ length t
named_le t n (Some e) h =
    let gap : Told (Bool × ℕ) = all_at true (skip_from t n) in
    end_in_part t n (consume_of 0x2c t gap) (consume_within 0x2c t n gap (omega arith) (all_in t n (skip_from t n) (skip_in t n h)))
named_le t n None h = h

name_le : (t : List ℕ) (i : Identifier) → Within t i → name_stood t i ≤ length t
name_le t Missing w = omega arith
name_le t (Name n) w = named_le t n (extension_of t n) w.1
name_le t (RawName n) w = named_le t n (extension_of (drop 2 t) (n - 2)) w.1

item_le : (t : List ℕ) → item_stood t ≤ length t
unfolding item_stood
item_le t = name_le t (identifier_of t) (identifier_within t)

-- ---- the list, at an index of the text

-- by the bytes to where it goes on
abbrev pub goes : List ℕ → ℕ
goes t = by_stood_item (item_of t) (λ n. n) 0

list_step : (a : ℕ) (t : List ℕ) (at : ℕ) → list_stood (a ∷ t) 0 at ≡ by_stood_item (item_of (a ∷ t)) (λ n. list_stood t (pred n) (at + 1)) (at + item_stood (a ∷ t))
unfolding list_stood
list_step a t at = refl

list_passed : (t : List ℕ) (k at : ℕ) → k ≤ length t → list_stood t k at ≡ list_stood (drop k t) 0 (at + k)
unfolding list_stood
list_passed t zero at p = rw (add-zero at)
list_passed [] (suc k) at p = absurd (omega arith)
list_passed (a ∷ t) (suc k) at p =
    let e : at + 1 + k ≡ at + suc k = omega arith in
    list_passed t k (at + 1) (omega arith) ∙ ap (λ (n : ℕ). list_stood (drop k t) 0 n) e

-- an item with none behind it
stops : (i : Item) (t : List ℕ) (on : ℕ → ℕ) (here : ℕ) → ItemIn t i → by_stood_item i (λ n. n) 0 ≡ 0 → by_stood_item i on here ≡ here
stops (More n e) t on here z h = absurd (omega (arith, z.0))
stops (Last n e) t on here z h = refl
stops NoName t on here z h = refl
stops NoComma t on here z h = refl
stops (Spoilt r) t on here z h = refl

-- one with another behind it
passes : (i : Item) (t : List ℕ) (on : ℕ → ℕ) (here : ℕ) → ItemIn t i → (by_stood_item i (λ n. n) 0 ≡ 0 → ⊥) → (by_stood_item i on here ≡ on (by_stood_item i (λ n. n) 0)) × (by_stood_item i (λ n. n) 0 ≤ length t)
passes (More n e) t on here z h = (refl, z.1)
passes (Last n e) t on here z h = absurd (h refl)
passes NoName t on here z h = absurd (h refl)
passes NoComma t on here z h = absurd (h refl)
passes (Spoilt r) t on here z h = absurd (h refl)

module _ (s : List ℕ) (at : ℕ) (inside : at < length s) where
  step : list_stood (drop at s) 0 at ≡ by_stood_item (item_of (drop at s)) (λ n. list_stood (drop (at + 1) s) (pred n) (at + 1)) (at + item_stood (drop at s))
  step =
      let f = front s at inside in
      ap (λ (t : List ℕ). list_stood t 0 at) f
      ∙ list_step (get_or s at 0) (drop (at + 1) s) at
      ∙ ap (λ (t : List ℕ). by_stood_item (item_of t) (λ n. list_stood (drop (at + 1) s) (pred n) (at + 1)) (at + item_stood t)) (sym f)

  pub list_here : goes (drop at s) ≡ 0 → list_stood (drop at s) 0 at ≡ at + item_stood (drop at s)
  list_here h = step ∙ stops (item_of (drop at s)) (drop at s) (λ n. list_stood (drop (at + 1) s) (pred n) (at + 1)) (at + item_stood (drop at s)) (item_in (drop at s)) h

  pub here_fits : at + item_stood (drop at s) ≤ length s
  here_fits = omega (arith, item_le (drop at s), length-drop at s, inside)

  module _ (some : goes (drop at s) ≡ 0 → ⊥) where
    pub goes_fits : at + goes (drop at s) ≤ length s
    goes_fits = let k = passes (item_of (drop at s)) (drop at s) (λ n. n) 0 (item_in (drop at s)) some in omega (arith, k.1, length-drop at s, inside)

    pub list_on : list_stood (drop at s) 0 at ≡ list_stood (drop (at + goes (drop at s)) s) 0 (at + goes (drop at s))
    list_on =
        let k = passes (item_of (drop at s)) (drop at s) (λ n. list_stood (drop (at + 1) s) (pred n) (at + 1)) (at + item_stood (drop at s)) (item_in (drop at s)) some in
        step ∙ k.0 ∙ skips (goes (drop at s)) some goes_fits
      where
        skips : (n : ℕ) → (n ≡ 0 → ⊥) → at + n ≤ length s → list_stood (drop (at + 1) s) (pred n) (at + 1) ≡ list_stood (drop (at + n) s) 0 (at + n)
        skips zero h l = absurd (h refl)
        skips (suc n) h l =
            let e : at + 1 + n ≡ at + suc n = omega arith in
            list_passed (drop (at + 1) s) n (at + 1) (omega (arith, l, length-drop (at + 1) s))
            ∙ ap (λ (t : List ℕ). list_stood t 0 (at + 1 + n)) (drop-drop n (at + 1) s)
            ∙ ap (λ (k : ℕ). list_stood (drop k s) 0 k) e

pub list_out : (s : List ℕ) (at : ℕ) → length s ≤ at → list_stood (drop at s) 0 at ≡ at
unfolding list_stood
list_out s at h = rw (drop_of_length-le s h)

-- ---- strings

pub string_out : (s : List ℕ) (at : ℕ) → length s ≤ at → at ≡ string_stood s at (string_of (drop at s))
unfolding string_of
string_out s at h = rw (drop_of_length-le s h) (sym (add-zero at))
