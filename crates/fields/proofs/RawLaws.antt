-- Raw names that fit the text: one by one, and the loops over rows. Assumes nothing.
use Prim.Native.Nat.{◌*◌, ◌+◌, ◌-◌, ◌<◌, ◌≤◌, suc, zero, ℕ}
use native.Mathlib.Nat.{le_of_suc-le-suc, not-suc-le-zero}
use native.Mathlib.Omega.{arith}
use mathlib.Core.Bool.{Bool, ◌&&◌, ◌||◌, false, true}
use mathlib.Core.List.{List, [], ◌∷◌}
use mathlib.Core.Path.{◌∙◌, ◌≡◌, ap, subst, sym}
use lib.Dec.{eqb, ltb}
use lib.ListN.{drop, get_or, length, length-drop}
use lib.Seq.{get_or-drop}
use borrow.Author.Tests.{eq-eqb, le-leb, le-ltb, lt-ltb, ltb-true, ne_eqb}
use Rattle.text.proofs.Choices.{and_false, and_one, and_true, or_left, or_right}
use Rattle.text.proofs.Lists.{head_at}
use Rattle.text.proofs.WordLaws.{starts_two}
use Rattle.text.specs.Words.{starts_with}
use Rattle.rows.proofs.OrderLaws.{Row, in_order_row}
use Rattle.rows.proofs.RowLaws.{entries_at, entries_next, length_entries}
use Rattle.rows.specs.Order.{in_order}
use Rattle.rows.specs.Rows.{entries_of, entry_at, width}
use Rattle.rows.specs.declared.Entry.{Entry}
use Rattle.fields.specs.Names.{raw_fits, raws_fit}

-- ---- one entry

module _ (text : List ℕ) (e : Entry) where
  pub raw_other : (e.kind ≡ 10 → ⊥) → raw_fits text e ≡ true
  unfolding raw_fits
  raw_other n = rw (ne_eqb e.kind 10 n)

  pub raw_other_test : eqb e.kind 10 ≡ false → raw_fits text e ≡ true
  unfolding raw_fits
  raw_other_test n = rw n

  raw_is : e.kind ≡ 10 → raw_fits text e ≡ (starts_with (0x72 ∷ 0x23 ∷ []) (drop e.start text) && ltb (e.start + 2) e.end)
  unfolding raw_fits
  raw_is k = rw (eq-eqb e.kind 10 k)

  -- a raw name that fits has more behind its mark
  pub raw_more : e.kind ≡ 10 → raw_fits text e ≡ true → e.start + 2 < e.end
  raw_more k f = ltb-true (e.start + 2) e.end (and_true (starts_with (0x72 ∷ 0x23 ∷ []) (drop e.start text)) (ltb (e.start + 2) e.end) (sym (raw_is k) ∙ f)).1

  pub raw_short : e.kind ≡ 10 → e.end ≤ e.start + 2 → raw_fits text e ≡ false
  raw_short k h =
      raw_is k
      ∙ ap (λ (b : Bool). starts_with (0x72 ∷ 0x23 ∷ []) (drop e.start text) && b) (le-ltb (e.start + 2) e.end h)
      ∙ and_false (starts_with (0x72 ∷ 0x23 ∷ []) (drop e.start text))

  -- where there is more, the mark's two bytes decide
  pub raw_mark : e.kind ≡ 10 → e.start + 2 < e.end → e.end ≤ length text
      → raw_fits text e ≡ (eqb (get_or text e.start 0) 0x72 && eqb (get_or text (e.start + 1) 0) 0x23)
  raw_mark k h l =
      let within : 2 ≤ length (drop e.start text) = rw (length-drop e.start text) (omega arith) in
      raw_is k
      ∙ ap (λ (b : Bool). starts_with (0x72 ∷ 0x23 ∷ []) (drop e.start text) && b) (lt-ltb (e.start + 2) e.end h)
      ∙ and_one (starts_with (0x72 ∷ 0x23 ∷ []) (drop e.start text))
      ∙ starts_two 0x72 0x23 (drop e.start text)
      ∙ rw (le-leb 2 (length (drop e.start text)) within, head_at text e.start, get_or-drop e.start text 1 0)

  pub raw_first : e.kind ≡ 10 → e.start + 2 < e.end → e.end ≤ length text → (get_or text e.start 0 ≡ 0x72 → ⊥) → raw_fits text e ≡ false
  raw_first k h l n = raw_mark k h l ∙ ap (λ (b : Bool). b && eqb (get_or text (e.start + 1) 0) 0x23) (ne_eqb (get_or text e.start 0) 0x72 n)

  pub raw_second : e.kind ≡ 10 → e.start + 2 < e.end → e.end ≤ length text → get_or text e.start 0 ≡ 0x72
      → raw_fits text e ≡ eqb (get_or text (e.start + 1) 0) 0x23
  raw_second k h l f = raw_mark k h l ∙ ap (λ (b : Bool). b && eqb (get_or text (e.start + 1) 0) 0x23) (eq-eqb (get_or text e.start 0) 0x72 f)

-- ---- a row of entries in order

pub row_at : (text tape : List ℕ) (count : ℕ) → in_order (entries_of count tape) (length text) ≡ true → (i : ℕ) → i < count → Row 0 (length text) (entry_at tape i)
unfolding in_order
row_at text tape count o i h =
    subst (λ (x : Entry). Row 0 (length text) x) (entries_at count i tape (entry_at tape i) h)
    (in_order_row (entries_of count tape) 0 (length text) o i (entry_at tape i) (omega (arith, length_entries count tape)))

-- what is asked of such an entry before it is looked at
pub row_fit : (text : List ℕ) (e x : Entry) → e ≡ x → Row 0 (length text) x → (e.start < e.end) × (e.end ≤ length text)
row_fit text e x is row =
    subst (λ (y : Entry). (y.start < y.end) × (y.end ≤ length text)) (sym is) (row.some, row.inside)

-- each of some entries
pub fits_each : (text : List ℕ) (es : List Entry) → raws_fit text es ≡ true → (k : ℕ) (d : Entry) → k < length es → raw_fits text (get_or es k d) ≡ true
unfolding raws_fit
fits_each text [] f k d l = absurd (not-suc-le-zero l)
fits_each text (e ∷ es) f zero d l = (and_true (raw_fits text e) (raws_fit text es) f).0
fits_each text (e ∷ es) f (suc k) d l = fits_each text es (and_true (raw_fits text e) (raws_fit text es) f).1 k d (le_of_suc-le-suc l)

-- ---- the loops over rows

module _ (text t : List ℕ) (count : ℕ) (whole : Bool) where
  -- what is left from row i on gives the whole
  abbrev pub FitLeft : ℕ → Type 0
  FitLeft i = raws_fit text (entries_of (count - i) (drop (width * i) t)) ≡ whole

  module _ (i : ℕ) (inv : FitLeft i) where
    -- row i decides together with those behind it
    row_fits : i < count → raw_fits text (entry_at t i) && raws_fit text (entries_of (count - (i + 1)) (drop (width * (i + 1)) t)) ≡ whole
    unfolding raws_fit
    row_fits h =
        let z : count - i ≡ suc (count - (i + 1)) = omega arith in
        sym (ap (raws_fit text) (ap (λ (n : ℕ). entries_of n (drop (width * i) t)) z ∙ entries_next (count - (i + 1)) i t)) ∙ inv

    pub fit_bad : i < count → raw_fits text (entry_at t i) ≡ false → false ≡ whole
    fit_bad h off = sym (ap (λ (b : Bool). b && raws_fit text (entries_of (count - (i + 1)) (drop (width * (i + 1)) t))) off) ∙ row_fits h

    pub fit_on : i < count → raw_fits text (entry_at t i) ≡ true → FitLeft (i + 1)
    fit_on h on = sym (ap (λ (b : Bool). b && raws_fit text (entries_of (count - (i + 1)) (drop (width * (i + 1)) t))) on) ∙ row_fits h

    pub fit_done : count ≤ i → true ≡ whole
    unfolding raws_fit entries_of
    fit_done h = let z : count - i ≡ 0 = omega arith in sym (ap (λ (n : ℕ). raws_fit text (entries_of n (drop (width * i) t))) z) ∙ inv

    fit_pass : (n : ℕ) → i + 1 ≡ n → i < count → eqb (entry_at t i).kind 10 ≡ false → FitLeft n
    fit_pass n z h off = subst FitLeft z (fit_on h (raw_other_test text (entry_at t i) off))

  -- none of four is raw
  pub fit_four : (i : ℕ) → FitLeft i → i + 4 ≤ count
      → (eqb (entry_at t i).kind 10 || (eqb (entry_at t (i + 1)).kind 10 || (eqb (entry_at t (i + 2)).kind 10 || eqb (entry_at t (i + 3)).kind 10))) ≡ false → FitLeft (i + 4)
  fit_four i inv h off =
      let a = eqb (entry_at t i).kind 10 in
      let b = eqb (entry_at t (i + 1)).kind 10 in
      let c = eqb (entry_at t (i + 2)).kind 10 in
      let d = eqb (entry_at t (i + 3)).kind 10 in
      let off₁ = or_right a (b || (c || d)) off in
      let off₂ = or_right b (c || d) off₁ in
      let one = fit_pass i inv (i + 1) (omega arith) (omega arith) (or_left a (b || (c || d)) off) in
      let two = fit_pass (i + 1) one (i + 2) (omega arith) (omega arith) (or_left b (c || d) off₁) in
      let three = fit_pass (i + 2) two (i + 3) (omega arith) (omega arith) (or_left c d off₂) in
      fit_pass (i + 3) three (i + 4) (omega arith) (omega arith) (or_right c d off₂)

  -- nor of the four behind them
  pub fit_eight : (i : ℕ) → FitLeft i → i + 8 ≤ count
      → (eqb (entry_at t i).kind 10 || (eqb (entry_at t (i + 1)).kind 10 || (eqb (entry_at t (i + 2)).kind 10 || eqb (entry_at t (i + 3)).kind 10))) ≡ false
      → (eqb (entry_at t (i + 4)).kind 10 || (eqb (entry_at t (i + 4 + 1)).kind 10 || (eqb (entry_at t (i + 4 + 2)).kind 10 || eqb (entry_at t (i + 4 + 3)).kind 10))) ≡ false
      → FitLeft (i + 8)
  fit_eight i inv h off off' =
      let z : i + 4 + 4 ≡ i + 8 = omega arith in
      subst FitLeft z (fit_four (i + 4) (fit_four i inv (omega arith) off) (omega arith) off')
