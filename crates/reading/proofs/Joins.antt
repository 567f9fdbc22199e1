-- Where the new reading joins the old one: from an entry of each that starts at the same byte of the same end of the text, the same tokens follow. Of entries
-- only their fields are spoken of, so that a field more changes no statement. Assumes nothing.
use Prim.Native.Nat.{◌+◌, ◌-◌, ◌≤◌, ℕ}
use native.Mathlib.Omega.{arith}
use mathlib.Core.Bool.{Bool, ◌&&◌, true}
use mathlib.Core.List.{map, List, [], ◌∷◌}
use mathlib.Core.Path.{◌∙◌, ◌≡◌, ap, ap₂, refl, subst, sym}
use lib.Dec.{eqb}
use lib.ListN.{drop, length, length-drop}
use borrow.Author.Tests.{eq-eqb, eqb-true, le-leb}
use Rattle.reading.proofs.Steps.{drop_on, first, not_broken, not_complete, tokens_token}
use Rattle.reading.specs.Kept.{are_moved, is_moved, Replaced, all_behind}
use Rattle.reading.specs.Owed.{Laws}
use Rattle.reading.specs.Readings.{◌▸◌, Reading, place, placed, read_part}
use Rattle.reading.specs.Readings.Reading.{complete, entry}
use Rattle.reading.specs.Tokens.{Answer, Token, Tokens, reach, tokens, ungapped}
use Rattle.reading.specs.Tokens.Tokens.{done, fault, next}
use Rattle.rows.specs.declared.Entry.{Entry}
use Rattle.text.proofs.Choices.{and_true}

-- ---- an entry moved

-- what `is_moved` says: x is y, moved by the change from a text of o bytes to one of n
pub record Moved (o n : ℕ) (y x : Entry) : Type 0 where
  pub kind_same : x.kind ≡ y.kind
  pub start_moved : x.start + o ≡ y.start + n
  pub end_moved : x.end + o ≡ y.end + n
  pub detail_same : x.detail ≡ y.detail
  pub gap_same : x.gap ≡ y.gap

module _ (o n : ℕ) (y x : Entry) where
  pub moved_test : Moved o n y x → is_moved o n y x ≡ true
  unfolding is_moved
  moved_test m =
      simp (
        eq-eqb x.kind y.kind m.kind_same,
        eq-eqb (x.start + o) (y.start + n) m.start_moved,
        eq-eqb (x.end + o) (y.end + n) m.end_moved,
        eq-eqb x.detail y.detail m.detail_same,
        eq-eqb x.gap y.gap m.gap_same,
      )

  pub test_moved : is_moved o n y x ≡ true → Moved o n y x
  unfolding is_moved
  test_moved h =
      let last : Bool = eqb x.detail y.detail && eqb x.gap y.gap in
      let a = and_true (eqb x.kind y.kind) (eqb (x.start + o) (y.start + n) && (eqb (x.end + o) (y.end + n) && last)) h in
      let b = and_true (eqb (x.start + o) (y.start + n)) (eqb (x.end + o) (y.end + n) && last) a.1 in
      let c = and_true (eqb (x.end + o) (y.end + n)) last b.1 in
      let d = and_true (eqb x.detail y.detail) (eqb x.gap y.gap) c.1 in
      record {
        kind_same = eqb-true x.kind y.kind a.0;
        start_moved = eqb-true (x.start + o) (y.start + n) b.0;
        end_moved = eqb-true (x.end + o) (y.end + n) c.0;
        detail_same = eqb-true x.detail y.detail d.0;
        gap_same = eqb-true x.gap y.gap d.1;
      }

-- an old entry at its new place; its numbers are right where it starts late enough
abbrev pub move : ℕ → ℕ → Entry → Entry
move o n y = record { kind = y.kind; start = y.start + n - o; end = y.end + n - o; detail = y.detail; gap = y.gap }

fields : (k k' s s' e e' d d' g g' : ℕ) → k ≡ k' → s ≡ s' → e ≡ e' → d ≡ d' → g ≡ g'
    → ◌≡◌ {A = Entry} (record { kind = k; start = s; end = e; detail = d; gap = g }) (record { kind = k'; start = s'; end = e'; detail = d'; gap = g' })
fields k k' s s' e e' d d' g g' p q r z w = cc

pub moved_is : (o n : ℕ) (y x : Entry) → Moved o n y x → x ≡ move o n y
moved_is o n y x m =
    fields x.kind y.kind x.start (y.start + n - o) x.end (y.end + n - o) x.detail y.detail x.gap y.gap
    m.kind_same (omega (arith, m.start_moved)) (omega (arith, m.end_moved)) m.detail_same m.gap_same

-- ---- tokens at another place

placed_moved : (a a' o n : ℕ) (t : Token) → a' + o ≡ a + n → Moved o n (placed a t) (placed a' t)
placed_moved a a' o n t h = record { kind_same = refl; start_moved = omega arith; end_moved = omega arith; detail_same = refl; gap_same = refl }

-- entries that the same tokens have at two places
pub record Shifted (o n a' : ℕ) (ts : Tokens) (es : List Entry) : Type 0 where
  pub shifted : place a' ts ≡ map (move o n) es ▸ complete
  pub all_moved : are_moved es (map (move o n) es) o n ≡ true

pub place_moved : (ts : Tokens) (es : List Entry) (a a' o n : ℕ) → a' + o ≡ a + n → place a ts ≡ es ▸ complete → Shifted o n a' ts es
unfolding place are_moved
place_moved done [] a a' o n h e = record { shifted = refl; all_moved = refl }
place_moved done (x ∷ es) a a' o n h e = not_complete e
place_moved (fault d) [] a a' o n h e = let z : ◌≡◌ {A = ℕ} 0 1 = cc in absurd (omega arith)
place_moved (fault d) (x ∷ es) a a' o n h e = not_broken e
place_moved (next t ts) [] a a' o n h e = not_complete (sym e)
place_moved (next t ts) (x ∷ es) a a' o n h e =
    let this : x ≡ placed a t = cc in
    let rest : place (a + reach t) ts ≡ es ▸ complete = cc in
    let ih = place_moved ts es (a + reach t) (a' + reach t) o n (omega arith) rest in
    let m = placed_moved a a' o n t h in
    let at : placed a' t ≡ move o n x = moved_is o n (placed a t) (placed a' t) m ∙ ap (move o n) (sym this) in
    let mx : Moved o n x (move o n x) = subst (λ (w : Entry). Moved o n x w) at (subst (λ (w : Entry). Moved o n w (placed a' t)) (sym this) m) in
    record {
      shifted = ap₂ entry at ih.shifted;
      all_moved = rw (moved_test o n x (move o n x) mx) ih.all_moved;
    }

-- entries start where their tokens are placed, or behind
pub place_behind : (ts : Tokens) (es : List Entry) (at b : ℕ) (r : Reading) → b ≤ at → place at ts ≡ es ▸ r → all_behind b es ≡ true
unfolding place all_behind
place_behind ts [] at b r h e = refl
place_behind done (x ∷ es) at b r h e = not_complete e
place_behind (fault d) (x ∷ es) at b r h e = not_broken e
place_behind (next t ts) (x ∷ es) at b r h e =
    let this : placed at t ≡ x = cc in
    let rest : place (at + reach t) ts ≡ es ▸ r = cc in
    let s : at + t.gap ≡ x.start = ap (λ (w : Entry). w.start) this in
    rw (le-leb b x.start (omega arith)) (place_behind ts es (at + reach t) b r (omega arith) rest)

module _ (tok : List ℕ → Answer) (quiet : ℕ → Bool) (laws : Laws tok quiet) where
  -- ---- an entry of a reading, seen from its start: its token, with nothing in front of it, and the tokens behind
  pub record Located (at : ℕ) (s : List ℕ) (y : Entry) (r : Reading) : Type 0 where
    pub this : Token
    pub behind : Tokens
    pub late : at ≤ y.start
    pub found : tokens tok (drop (y.start - at) s) ≡ next (ungapped this) behind
    pub kind_is : y.kind ≡ this.kind
    pub end_is : y.end ≡ y.start + this.len
    pub detail_is : y.detail ≡ this.detail
    pub rest_is : r ≡ place y.end behind

  pub locate : (es : List Entry) (at : ℕ) (s : List ℕ) (y : Entry) (r : Reading) → read_part tok at s ≡ es ▸ entry y r → Located at s y r
  locate [] at s y r h =
      let f = first tok quiet laws at s y r h in
      let t : Token = f.this in
      let start_is : y.start ≡ at + t.gap = ap (λ (x : Entry). x.start) f.entry_is in
      let ends : y.end ≡ at + reach t = ap (λ (x : Entry). x.end) f.entry_is in
      let g : y.start - at ≡ t.gap = omega arith in
      let b : Tokens = tokens tok (drop (reach t) s) in
      let l : drop (0 + t.len) (drop t.gap s) ≡ drop (reach t) s = drop_on t.gap (0 + t.len) (reach t) s (omega arith) in
      record {
        this = t;
        behind = b;
        late = omega arith;
        found = ap (λ (n : ℕ). tokens tok (drop n s)) g
            ∙ tokens_token tok quiet laws (drop t.gap s) (ungapped t) (laws.restart s t f.answer)
            ∙ ap (λ (z : List ℕ). next (ungapped t) (tokens tok z)) l;
        kind_is = ap (λ (x : Entry). x.kind) f.entry_is;
        end_is = omega arith;
        detail_is = ap (λ (x : Entry). x.detail) f.entry_is;
        rest_is = f.rest_is ∙ ap (λ (n : ℕ). place n b) (sym ends);
      }
  locate (e ∷ es) at s y r h =
      let f = first tok quiet laws at s e (es ▸ entry y r) h in
      let n : ℕ = reach f.this in
      let ih = locate es (at + n) (drop n s) y r (sym f.rest_is) in
      let l : drop (y.start - (at + n)) (drop n s) ≡ drop (y.start - at) s = drop_on n (y.start - (at + n)) (y.start - at) s (omega (arith, ih.late)) in
      record {
        this = ih.this;
        behind = ih.behind;
        late = omega (arith, ih.late);
        found = ap (tokens tok) (sym l) ∙ ih.found;
        kind_is = ih.kind_is;
        end_is = ih.end_is;
        detail_is = ih.detail_is;
        rest_is = ih.rest_is;
      }

  -- ---- the join
  pub record Join (o n : ℕ) (y x : Entry) (r r' : Reading) : Type 0 where
    pub this_moved : Moved o n y x
    pub new-end : x.start ≤ x.end
    pub behind : Tokens
    pub old_rest : r ≡ place y.end behind
    pub new_rest : r' ≡ place x.end behind

  -- an old text and a new one, and an entry of each that starts at the same byte behind what was replaced, and behind the same gap
  pub join : (old new : List ℕ) (a b e : ℕ) → Replaced old new a b e → (os ns : List Entry) (y x : Entry) (r r' : Reading)
      → read_part tok 0 old ≡ os ▸ entry y r → read_part tok 0 new ≡ ns ▸ entry x r'
      → e ≤ x.start → x.start + length old ≡ y.start + length new → x.gap ≡ y.gap
      → Join (length old) (length new) y x r r'
  join old new a b e R os ns y x r r' was now late same gaps =
      let ly = locate os 0 old y r was in
      let lx = locate ns 0 new x r' now in
      let tails : length new - e ≡ length old - b = sym (length-drop e new) ∙ ap length R.back ∙ length-drop b old in
      let m : ℕ = x.start - e in
      let ends_alike : drop (x.start - 0) new ≡ drop (y.start - 0) old =
      sym (drop_on e m (x.start - 0) new (omega arith)) ∙ ap (drop m) R.back ∙ drop_on b m (y.start - 0) old (omega (arith, R.in_old, R.in_new)) in
      let both : next (ungapped ly.this) ly.behind ≡ next (ungapped lx.this) lx.behind = sym ly.found ∙ ap (tokens tok) (sym ends_alike) ∙ lx.found in
      let toks : ungapped ly.this ≡ ungapped lx.this = cc in
      let rest : ly.behind ≡ lx.behind = cc in
      let len : ly.this.len ≡ lx.this.len = ap (λ (t : Token). t.len) toks in
      record {
        this_moved = record {
          kind_same = lx.kind_is ∙ sym (ap (λ (t : Token). t.kind) toks) ∙ sym ly.kind_is;
          start_moved = same;
          end_moved = omega (arith, lx.end_is, ly.end_is, len);
          detail_same = lx.detail_is ∙ sym (ap (λ (t : Token). t.detail) toks) ∙ sym ly.detail_is;
          gap_same = gaps;
        };
        new-end = omega (arith, lx.end_is);
        behind = lx.behind;
        old_rest = ly.rest_is ∙ ap (place y.end) rest;
        new_rest = lx.rest_is;
      }
