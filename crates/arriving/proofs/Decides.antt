-- What a byte decides stays, whatever comes behind it. Assumes nothing.
use Prim.Native.Nat.{◌+◌, ◌-◌, ◌<◌, ◌≤◌, suc, zero, ℕ}
use native.Mathlib.Nat.{sub_self}
use native.Mathlib.Omega.{arith}
use mathlib.Core.Bool.{Bool, ◌&&◌, ◌||◌, cond, false, true}
use mathlib.Core.List.{List, [], ◌++◌, ◌∷◌, append_assoc}
use mathlib.Core.Path.{◌∙◌, ◌≡◌, ap, ap₂, refl, subst, sym}
use lib.Dec.{eqb}
use lib.ListN.{drop, length, length-append, length-drop}
use lib.Seq.{drop-append-le}
use borrow.Author.Tests.{eqb-true}
use Rattle.text.proofs.Choices.{and_true, bool_cases, either, lt_or_le, or_true}
use Rattle.text.specs.declared.refusal.Refusal.{Refusal}
use Rattle.rows.specs.declared.Entry.{Entry}
use Rattle.reading.proofs.Stable.{ends_grow, stable}
use Rattle.reading.proofs.Steps.{first, read_token}
use Rattle.reading.specs.Readings.{Reading, end_of, entries, read_part, ◌▸◌, place}
use Rattle.reading.specs.Readings.Reading.{broken, complete, entry}
use Rattle.reading.specs.Tokens.{Answer, Token, reach, tokens_from}
use Rattle.reading.specs.Tokens.Answer.{token}
use Rattle.arriving.proofs.Fronts.{front_le, front_rest, rest_to, last_of, all_entries}
use Rattle.arriving.specs.Arrivals.{decided, is_refused, spoilt, up_to}
use Rattle.arriving.specs.Owing.{Owes, Reader}

drop_past : (u v : List ℕ) (c : ℕ) → drop (suc (length u)) (u ++ c ∷ v) ≡ v
drop_past [] v c = refl
drop_past (a ∷ u) v c = drop_past u v c

module _ (R : Reader) (O : Owes R) where
  -- ---- an entry that its last byte closes, with all entries before it
  -- no entry is empty
  none_more : (es : List Entry) (a : ℕ) (s : List ℕ) (r : Reading) → read_part R.tok a s ≡ es ▸ r → end_of a es ≡ a → es ≡ []
  unfolding end_of
  none_more [] a s r h e = refl
  none_more (y ∷ es) a s r h e =
      let f = first R.tok R.stops O.laws a s y (es ▸ r) h in
      let t : Token = f.this in
      let p : y.end ≡ a + reach t = ap (λ (z : Entry). z.end) f.entry_is in
      let pos = O.laws.grows s t f.answer in
      let far = ends_grow R.tok R.stops O.laws es (a + reach t) (drop (reach t) s) r (sym f.rest_is) in
      let e' : end_of (a + reach t) es ≡ a = ap (λ (k : ℕ). end_of k es) (sym p) ∙ e in
      absurd (omega arith)

  none_on : (es : List Entry) (a : ℕ) (v : List ℕ) → es ≡ [] → read_part R.tok a v ≡ es ▸ read_part R.tok (end_of a es) v
  unfolding end_of
  none_on es a v e = subst (λ (fs : List Entry). read_part R.tok a v ≡ fs ▸ read_part R.tok (end_of a fs) v) (sym e) refl

  pub closed_stable : (es : List Entry) (at : ℕ) (u w v : List ℕ) (c : ℕ) (r : Reading) → R.closes c ≡ true → read_part R.tok at (u ++ c ∷ w) ≡ es ▸ r
      → end_of at es ≡ at + suc (length u) → read_part R.tok at (u ++ c ∷ v) ≡ es ▸ read_part R.tok (end_of at es) v
  unfolding end_of
  closed_stable [] at u w v c r q h e = absurd (omega arith)
  closed_stable (x ∷ es) at u w v c r q h e =
      let laws = O.laws in
      let f = first R.tok R.stops laws at (u ++ c ∷ w) x (es ▸ r) h in
      let t : Token = f.this in
      let n : ℕ = reach t in
      let p : x.end ≡ at + n = ap (λ (y : Entry). y.end) f.entry_is in
      let e' : end_of (at + n) es ≡ at + suc (length u) = ap (λ (k : ℕ). end_of k es) (sym p) ∙ e in
      let far : at + n ≤ end_of (at + n) es = ends_grow R.tok R.stops laws es (at + n) (drop n (u ++ c ∷ w)) r (sym f.rest_is) in
      let back : (z : Reading) → z ≡ es ▸ read_part R.tok (end_of (at + n) es) v → entry x z ≡ entry x (es ▸ read_part R.tok (end_of x.end es) v) =
      λ z g. ap (entry x) g ∙ ap (λ (k : ℕ). entry x (es ▸ read_part R.tok (end_of k es) v)) (sym p) in
      either (lt_or_le (length u) n)
      (λ big. let m : n ≡ suc (length u) = omega arith in
      let same : R.tok (u ++ c ∷ v) ≡ token t = O.closed u w v c t q f.answer m in
      let gone : drop n (u ++ c ∷ v) ≡ v = ap (λ (k : ℕ). drop k (u ++ c ∷ v)) m ∙ drop_past u v c in
      let none : es ≡ [] = none_more es (at + n) (drop n (u ++ c ∷ w)) r (sym f.rest_is) (omega (arith, e')) in
      read_token R.tok R.stops laws at (u ++ c ∷ v) t same
      ∙ ap₂ entry (sym f.entry_is) (ap (read_part R.tok (at + n)) gone)
      ∙ back (read_part R.tok (at + n) v) (none_on es (at + n) v none))
      (λ near. let same : R.tok (u ++ c ∷ v) ≡ token t = laws.window u w v c t (O.closers c q) f.answer near in
      let split : (y : List ℕ) → drop n (u ++ c ∷ y) ≡ drop n u ++ c ∷ y = λ y. drop-append-le n u (c ∷ y) near in
      let ih = closed_stable es (at + n) (drop n u) w v c r q (ap (read_part R.tok (at + n)) (sym (split w)) ∙ sym f.rest_is) (omega (arith, e', length-drop n u)) in
      read_token R.tok R.stops laws at (u ++ c ∷ v) t same
      ∙ ap₂ entry (sym f.entry_is) (ap (read_part R.tok (at + n)) (split v))
      ∙ back (read_part R.tok (at + n) (drop n u ++ c ∷ v)) ih)

  -- ---- by the byte's test
  abbrev whole : List ℕ → ℕ → List ℕ
  whole u b = u ++ b ∷ []

  -- the rest of s with v behind it
  rest_on : (u v : List ℕ) (b k : ℕ) → k ≤ suc (length u) → drop k (u ++ b ∷ v) ≡ drop k (u ++ b ∷ []) ++ v
  rest_on u v b k h = ap (drop k) (sym (append_assoc u (b ∷ []) v)) ∙ drop-append-le k (u ++ b ∷ []) v (omega (arith, length-append u (b ∷ [])))

  -- what stays where these entries were given
  abbrev Stays : ℕ → List ℕ → List ℕ → ℕ → List Entry → Type 0
  Stays at u v b es = read_part R.tok at (u ++ b ∷ v) ≡ es ▸ read_part R.tok (end_of at es) (drop (end_of at es - at) (u ++ b ∷ []) ++ v)

  stays_closed : (at : ℕ) (u v : List ℕ) (b : ℕ) → (R.closes b && eqb (end_of at (entries (read_part R.tok at (u ++ b ∷ [])))) (at + length (u ++ b ∷ []))) ≡ true
      → Stays at u v b (entries (read_part R.tok at (u ++ b ∷ [])))
  stays_closed at u v b h =
      let r : Reading = read_part R.tok at (u ++ b ∷ []) in
      let es : List Entry = entries r in
      let both = and_true (R.closes b) (eqb (end_of at es) (at + length (u ++ b ∷ []))) h in
      let l : length (u ++ b ∷ []) ≡ suc (length u) = omega (arith, length-append u (b ∷ [])) in
      let e : end_of at es ≡ at + suc (length u) = eqb-true (end_of at es) (at + length (u ++ b ∷ [])) both.1 ∙ ap (λ (k : ℕ). at + k) l in
      let k : end_of at es - at ≡ suc (length u) = omega arith in
      closed_stable es at u [] v b (last_of r) both.0 (all_entries r) e
      ∙ ap (λ (w : List ℕ). es ▸ read_part R.tok (end_of at es) (w ++ v)) (sym (ap (λ (j : ℕ). drop j (u ++ b ∷ [])) k ∙ drop_past u [] b))

  stays_before : (at : ℕ) (u v : List ℕ) (b : ℕ) → R.stops b ≡ true → Stays at u v b (up_to (at + length (u ++ b ∷ []) - 1) (read_part R.tok at (u ++ b ∷ [])))
  stays_before at u v b h =
      let r : Reading = read_part R.tok at (u ++ b ∷ []) in
      let n : ℕ = at + length (u ++ b ∷ []) - 1 in
      let l : n ≡ at + length u = omega (arith, length-append u (b ∷ [])) in
      let es : List Entry = up_to n r in
      let le : end_of at es ≤ n = front_le n at r (omega arith) in
      stable R.tok R.stops O.laws es at u [] v b (rest_to n r) h (front_rest n r) (omega arith)
      ∙ ap (λ (w : List ℕ). es ▸ read_part R.tok (end_of at es) w) (rest_on u v b (end_of at es - at) (omega arith))

  -- nothing of an empty part is refused
  spoilt_some : (s : List ℕ) → spoilt R s ≡ true → 0 < length s
  unfolding spoilt
  spoilt_some [] h = absurd (no (and_true (R.settles []) (is_refused (R.tok [])) h).1)
    where
      no : is_refused (R.tok []) ≡ true → ⊥
      no = subst (λ (a : Answer). is_refused a ≡ true → ⊥) (sym O.laws.nil) (λ e. let z : ◌≡◌ {A = ℕ} 0 1 = cc in omega arith)
  spoilt_some (a ∷ s) h = omega arith

  stays_spoilt : (at : ℕ) (u v : List ℕ) (b : ℕ) → (R.stops b && spoilt R (drop (end_of at (entries (read_part R.tok at (u ++ b ∷ []))) - at) (u ++ b ∷ []))) ≡ true
      → Stays at u v b (entries (read_part R.tok at (u ++ b ∷ [])))
  stays_spoilt at u v b h =
      let s : List ℕ = u ++ b ∷ [] in
      let r : Reading = read_part R.tok at s in
      let es : List Entry = entries r in
      let k : ℕ = end_of at es - at in
      let both = and_true (R.stops b) (spoilt R (drop k s)) h in
      let some = spoilt_some (drop k s) both.1 in
      let le : end_of at es ≤ at + length u = omega (arith, length-drop k s, length-append u (b ∷ [])) in
      stable R.tok R.stops O.laws es at u [] v b (last_of r) both.0 (all_entries r) le
      ∙ ap (λ (w : List ℕ). es ▸ read_part R.tok (end_of at es) w) (rest_on u v b k (omega arith))

  stays_none : (at : ℕ) (u v : List ℕ) (b : ℕ) → Stays at u v b []
  unfolding end_of
  stays_none at u v b =
      ap (read_part R.tok at) (sym (append_assoc u (b ∷ []) v) ∙ ap (λ (k : ℕ). drop k (u ++ b ∷ []) ++ v) (sym (sub_self at)))

  -- the entries that b decides are those of every text that goes on behind b, and what is left is read on from there
  pub stays : (at : ℕ) (u v : List ℕ) (b : ℕ) → Stays at u v b (decided R at (u ++ b ∷ []) b)
  unfolding decided
  stays at u v b =
      let r : Reading = read_part R.tok at (u ++ b ∷ []) in
      either (bool_cases (R.closes b && eqb (end_of at (entries r)) (at + length (u ++ b ∷ []))))
      (λ h. rw h (stays_closed at u v b h))
      (λ h. rw h (either (bool_cases (R.decides b)) (λ g. rw g (stays_before at u v b (O.deciders b g)))
      (λ g. rw g (either (bool_cases (R.stops b && spoilt R (drop (end_of at (entries r) - at) (u ++ b ∷ [])))) (λ f. rw f (stays_spoilt at u v b f)) (λ f. rw f (stays_none at u v b))))))

  -- a byte that does not stop decides nothing
  pub none_decided : (at : ℕ) (s : List ℕ) (b : ℕ) → R.stops b ≡ false → decided R at s b ≡ []
  unfolding decided
  none_decided at s b h =
      let c : R.closes b ≡ false = only (R.closes b) (R.stops b) (O.closers b) h in
      let d : R.decides b ≡ false = only (R.decides b) (R.stops b) (O.deciders b) h in
      rw (c, d, h)
    where
      only : (x y : Bool) → (x ≡ true → y ≡ true) → y ≡ false → x ≡ false
      only x y f g = either (bool_cases x) (λ t. let z : ◌≡◌ {A = ℕ} 0 1 = clash (sym (f t) ∙ g) in absurd (omega arith)) (λ t. t)
        where
          clash : true ≡ false → ◌≡◌ {A = ℕ} 0 1
          clash q = cc
