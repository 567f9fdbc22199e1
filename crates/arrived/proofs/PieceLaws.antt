-- What a byte gives, in three ways (`step-view`); and of a piece: what is left is the text from the end of its last entry on (`piece-rest`), its entries end within
-- the bytes taken (`piece-ends`), and each has its distance from the former one (`piece-gapped`). Over any reader that owes the laws. Assumes nothing.
use Prim.Native.Nat.{ℕ, ◌+◌, ◌-◌, ◌≤◌}
use native.Mathlib.Nat.{sub_self}
use native.Mathlib.Omega.{arith}
use mathlib.Core.Bool.{true, false}
use mathlib.Core.List.{List, [], ◌++◌, ◌∷◌, append_assoc, append-nil}
use mathlib.Core.Logic.{◌⊎◌, inl, inr}
use mathlib.Core.Path.{◌≡◌, ap, ap₂, refl, subst, sym, ◌∙◌}
use lib.ListN.{drop, length, length-append, length-drop}
use lib.Seq.{drop-append-le}
use Rattle.text.proofs.Choices.{bool_cases, either, or_right}
use Rattle.text.specs.Refusals.{placed_behind}
use Rattle.text.specs.declared.refusal.Refusal.{Refusal}
use Rattle.rows.specs.declared.Entry.{Entry}
use Rattle.reading.proofs.Stable.{ends_grow}
use Rattle.reading.proofs.Steps.{drop_on, first}
use Rattle.reading.specs.Readings.{Reading, end_of, read_part, ◌▸◌}
use Rattle.reading.specs.Tokens.{Answer, Token, reach}
use Rattle.reading.specs.Tokens.Answer.{refuse, stop, token}
use Rattle.arriving.proofs.Decides.{stays}
use Rattle.arriving.proofs.Timely.{ends_in}
use Rattle.arriving.specs.Arrivals.{Coming, Given, Passing, behind, by_answer, by_passing, decided, is_refused, left_at, looks, piece, step, taken}
use Rattle.arriving.specs.Arrivals.Coming.{going, halted, shut}
use Rattle.arriving.specs.Arrivals.Passing.{halt, pass}
use Rattle.arriving.specs.Owing.{Owes, Reader}
use Rattle.pieces.specs.Pieces.{gapped}

-- ---- the end of entries behind entries

pub end_append : (es fs : List Entry) (at : ℕ) → end_of at (es ++ fs) ≡ end_of (end_of at es) fs
unfolding end_of
end_append [] fs at = refl
end_append (e ∷ es) fs at = end_append es fs e.end

pub gapped_append : (es fs : List Entry) (at : ℕ) → gapped at (es ++ fs) ≡ gapped at es ++ gapped (end_of at es) fs
unfolding gapped end_of
gapped_append [] fs at = refl
gapped_append (e ∷ es) fs at =
    ap {B = List Entry} (λ (l : List Entry). record { kind = e.kind; start = e.start; end = e.end; detail = e.detail; gap = e.start - at } ∷ l) (gapped_append es fs e.end)

module _ (R : Reader) (bar : ℕ → List ℕ → ℕ → Passing) where
  -- ---- a byte
  -- these entries are the front of the reading, whatever follows, and what is left is read on from their end
  abbrev pub Fronts : ℕ → List ℕ → ℕ → List Entry → Type 0
  Fronts at x b es = (v : List ℕ) → read_part R.tok at (x ++ b ∷ v) ≡ es ▸ read_part R.tok (end_of at es) (drop (end_of at es - at) (x ++ b ∷ []) ++ v)

  -- what is left behind these entries
  abbrev pub left_by : ℕ → List ℕ → ℕ → List Entry → List ℕ
  left_by at x b es = drop (end_of at es - at) (x ++ b ∷ [])

  pub data Stepped (at : ℕ) (x : List ℕ) (b : ℕ) : Given → Type 0 where
    halts : (d : Refusal) → bar at x b ≡ halt d → Stepped at x b (record { entries = []; next = halted d; bytes = 0 })
    goes : (es : List Entry) → bar at x b ≡ pass → Fronts at x b es → (R.once (left_by at x b es) ≡ false) ⊎ (is_refused (R.tok (left_by at x b es)) ≡ false)
        → Stepped at x b (record { entries = es; next = going (end_of at es) (left_by at x b es); bytes = 1 })
    shuts : (es : List Entry) (d : Refusal) → bar at x b ≡ pass → Fronts at x b es → R.tok (left_by at x b es) ≡ refuse d
        → Stepped at x b (record { entries = es; next = shut (placed_behind (end_of at es) d); bytes = 1 })

  module _ (O : Owes R) where
    none_front : (at : ℕ) (x : List ℕ) (b : ℕ) → Fronts at x b []
    unfolding end_of
    none_front at x b v = ap (read_part R.tok at) (sym (append_assoc x (b ∷ []) v) ∙ ap (λ (k : ℕ). drop k (x ++ b ∷ []) ++ v) (sym (sub_self at)))

    not_once : (s : List ℕ) → R.settles s ≡ false → R.once s ≡ false
    not_once s h = either (bool_cases (R.once s)) (λ t. let z : true ≡ false = sym (O.at_once s t) ∙ h in let k : ◌≡◌ {A = ℕ} 0 1 = cc in absurd (omega arith)) (λ t. t)

    -- a byte that is looked at
    by_left : (at : ℕ) (x : List ℕ) (b : ℕ) (es : List Entry) → bar at x b ≡ pass → Fronts at x b es → Stepped at x b (behind R at (x ++ b ∷ []) es)
    unfolding left_at
    by_left at x b es p f =
        let s : List ℕ = left_by at x b es in
        either (bool_cases (R.settles s))
        (λ t. rw t (go (R.tok s) refl))
        (λ t. rw t (goes es p f (inl (not_once s t))))
      where
        go : (a : Answer) → R.tok (left_by at x b es) ≡ a → Stepped at x b (record { entries = es; next = by_answer a (end_of at es) (left_by at x b es); bytes = 1 })
        go (token t) e = goes es p f (inr (ap is_refused e))
        go stop e = goes es p f (inr (ap is_refused e))
        go (refuse d) e = shuts es d p f e

    -- one that is not
    kept_view : (at : ℕ) (x : List ℕ) (b : ℕ) → bar at x b ≡ pass → R.once (x ++ b ∷ []) ≡ false → Stepped at x b (record { entries = []; next = going at (x ++ b ∷ []); bytes = 1 })
    unfolding end_of
    kept_view at x b p o =
        let s : List ℕ = x ++ b ∷ [] in
        let k : drop (at - at) s ≡ s = ap (λ (n : ℕ). drop n s) (sub_self at) in
        subst (λ (t : List ℕ). Stepped at x b (record { entries = []; next = going at t; bytes = 1 })) k (goes [] p (none_front at x b) (inl (ap R.once k ∙ o)))

    taken_view : (at : ℕ) (x : List ℕ) (b : ℕ) → bar at x b ≡ pass → Stepped at x b (taken R at (x ++ b ∷ []) b)
    unfolding looks
    taken_view at x b p =
        let s : List ℕ = x ++ b ∷ [] in
        either (bool_cases (looks R s b))
        (λ t. rw t (by_left at x b (decided R at s b) p (λ v. stays R O at x v b)))
        (λ t. rw t (kept_view at x b p (or_right (R.stops b) (R.once s) t)))

    pub step_view : (at : ℕ) (x : List ℕ) (b : ℕ) → Stepped at x b (step R bar (going at x) b)
    step_view at x b = go (bar at x b) refl
      where
        go : (p : Passing) → bar at x b ≡ p → Stepped at x b (by_passing p (taken R at (x ++ b ∷ []) b))
        go pass e = taken_view at x b e
        go (halt d) e = halts d e

  -- ---- a piece

  -- one byte, and then others
  abbrev pub then : Given → List ℕ → Given
  then g w = record { entries = g.entries ++ (piece R bar g.next w).entries; next = (piece R bar g.next w).next; bytes = g.bytes + (piece R bar g.next w).bytes }

  pub piece_step : (c : Coming) (b : ℕ) (w : List ℕ) → piece R bar c (b ∷ w) ≡ then (step R bar c b) w
  unfolding piece
  piece_step c b w = refl

  -- nothing more is given
  abbrev pub staying : Coming → Given
  staying c = record { entries = []; next = c; bytes = 0 }

  pub piece_none : (c : Coming) → piece R bar c [] ≡ staying c
  unfolding piece
  piece_none c = refl

  pub shut_piece : (w : List ℕ) (d : Refusal) → piece R bar (shut d) w ≡ staying (shut d)
  unfolding piece
  shut_piece [] d = refl
  shut_piece (b ∷ w) d = ap (λ (h : Given). record { entries = h.entries; next = h.next; bytes = 0 + h.bytes }) (shut_piece w d)

  pub halted_piece : (w : List ℕ) (d : Refusal) → piece R bar (halted d) w ≡ staying (halted d)
  unfolding piece
  halted_piece [] d = refl
  halted_piece (b ∷ w) d = ap (λ (h : Given). record { entries = h.entries; next = h.next; bytes = 0 + h.bytes }) (halted_piece w d)

  -- what is left behind x and w, of which these entries were given
  pub record Left (at : ℕ) (x w : List ℕ) (g : Given) (to : ℕ) (r : List ℕ) : Type 0 where
    pub end_is : to ≡ end_of at g.entries
    pub late : at ≤ to
    pub within : to ≤ at + length (x ++ w)
    pub rest_is : r ≡ drop (to - at) (x ++ w)
    pub bytes_are : g.bytes ≡ length w

  pub same_going : (a a' : ℕ) (x x' : List ℕ) → going a x ≡ going a' x' → (a ≡ a') × (x ≡ x')
  same_going a a' x x' e = (cc, cc)

  module _ (O : Owes R) where
    -- where the entries that a byte gives end
    front_low : (at : ℕ) (x : List ℕ) (b : ℕ) (es : List Entry) → Fronts at x b es → at ≤ end_of at es
    front_low at x b es f = ends_grow R.tok R.stops O.laws es at (x ++ b ∷ []) (read_part R.tok (end_of at es) (left_by at x b es ++ [])) (f [])

    pub front_high : (at : ℕ) (x : List ℕ) (b : ℕ) (es : List Entry) → Fronts at x b es → end_of at es ≤ at + length (x ++ b ∷ [])
    front_high at x b es f = ends_in R O es at (x ++ b ∷ []) (read_part R.tok (end_of at es) (left_by at x b es ++ [])) (f [])

    pub left_length : (at : ℕ) (x : List ℕ) (b : ℕ) (es : List Entry) → Fronts at x b es → end_of at es + length (left_by at x b es) ≡ at + (length x + 1)
    left_length at x b es f =
        omega (arith, front_low at x b es f, front_high at x b es f, length-drop (end_of at es - at) (x ++ b ∷ []), length-append x (b ∷ []))

    pub left_on : (at : ℕ) (x : List ℕ) (b : ℕ) (es : List Entry) (w : List ℕ) → Fronts at x b es → left_by at x b es ++ w ≡ drop (end_of at es - at) (x ++ b ∷ w)
    left_on at x b es w f =
        sym (drop-append-le (end_of at es - at) (x ++ b ∷ []) w (omega (arith, front_high at x b es f)))
        ∙ ap (drop (end_of at es - at)) (append_assoc x (b ∷ []) w)

    pub piece_rest : (w x : List ℕ) (at to : ℕ) (r : List ℕ) → (piece R bar (going at x) w).next ≡ going to r → Left at x w (piece R bar (going at x) w) to r
    unfolding end_of piece
    piece_rest [] x at to r e =
        let (p, q) = same_going at to x r e in
        let k : to - at ≡ 0 = omega arith in
        record {
          end_is = sym p;
          late = omega arith;
          within = omega arith;
          rest_is = sym q ∙ sym (append-nil x) ∙ ap (λ (n : ℕ). drop n (x ++ [])) (sym k);
          bytes_are = refl;
        }
    piece_rest (b ∷ w) x at to r e = go (step_view O at x b) e (λ y a h. piece_rest w y a to r h)
      where
        go : {g : Given} → Stepped at x b g → (then g w).next ≡ going to r
            → ((y : List ℕ) (a : ℕ) → (piece R bar (going a y) w).next ≡ going to r → Left a y w (piece R bar (going a y) w) to r)
            → Left at x (b ∷ w) (then g w) to r
        go (halts d p) h ih =
            let z : halted d ≡ going to r = sym (ap (λ (k : Given). k.next) (halted_piece w d)) ∙ h in
            let k : ◌≡◌ {A = ℕ} 0 1 = cc in absurd (omega arith)
        go (shuts es d p f q) h ih =
            let d' : Refusal = placed_behind (end_of at es) d in
            let z : shut d' ≡ going to r = sym (ap (λ (k : Given). k.next) (shut_piece w d')) ∙ h in
            let k : ◌≡◌ {A = ℕ} 0 1 = cc in absurd (omega arith)
        go (goes es p f c) h ih =
            let mid : ℕ = end_of at es in
            let y : List ℕ = left_by at x b es in
            let l = ih y mid h in
            let low = front_low at x b es f in
            let long = left_length at x b es f in
            let fs : List Entry = (piece R bar (going mid y) w).entries in
            record {
              end_is = l.end_is ∙ sym (end_append es fs at);
              late = omega (arith, l.late);
              within = omega (arith, l.within, length-append y w, length-append x (b ∷ w));
              rest_is = l.rest_is ∙ ap (drop (to - mid)) (left_on at x b es w f) ∙ drop_on (mid - at) (to - mid) (to - at) (x ++ b ∷ w) (omega (arith, l.late));
              bytes_are = ap (λ (n : ℕ). 1 + n) l.bytes_are ∙ omega arith;
            }

    -- the entries end within the bytes taken
    pub piece_ends : (w x : List ℕ) (at : ℕ) → end_of at (piece R bar (going at x) w).entries ≤ at + length x + (piece R bar (going at x) w).bytes
    unfolding end_of piece
    piece_ends [] x at = omega arith
    piece_ends (b ∷ w) x at = go (step_view O at x b) (λ y a. piece_ends w y a)
      where
        go : {g : Given} → Stepped at x b g → ((y : List ℕ) (a : ℕ) → end_of a (piece R bar (going a y) w).entries ≤ a + length y + (piece R bar (going a y) w).bytes)
            → end_of at (then g w).entries ≤ at + length x + (then g w).bytes
        go (halts d p) ih = rw (halted_piece w d) (omega arith)
        go (shuts es d p f q) ih =
            rw (shut_piece w (placed_behind (end_of at es) d), append-nil es) (omega (arith, front_high at x b es f, length-append x (b ∷ [])))
        go (goes es p f c) ih =
            let mid : ℕ = end_of at es in
            let y : List ℕ = left_by at x b es in
            let k = ih y mid in
            let long = left_length at x b es f in
            rw (end_append es (piece R bar (going mid y) w).entries at) (omega arith)

    -- ---- each entry's gap is its distance from the former one
    pub read_gapped : (es : List Entry) (at : ℕ) (s : List ℕ) (r : Reading) → read_part R.tok at s ≡ es ▸ r → gapped at es ≡ es
    unfolding gapped
    read_gapped [] at s r h = refl
    read_gapped (e ∷ es) at s r h =
        let f = first R.tok R.stops O.laws at s e (es ▸ r) h in
        let t : Token = f.this in
        let end : e.end ≡ at + reach t = ap (λ (x : Entry). x.end) f.entry_is in
        let far : at + t.gap - at ≡ t.gap = omega arith in
        let one : record { kind = e.kind; start = e.start; end = e.end; detail = e.detail; gap = e.start - at } ≡ e =
        ap (λ (x : Entry). record { kind = x.kind; start = x.start; end = x.end; detail = x.detail; gap = x.start - at }) f.entry_is
        ∙ ap (λ (g : ℕ). record { kind = t.kind; start = at + t.gap; end = at + reach t; detail = t.detail; gap = g }) far
        ∙ sym f.entry_is in
        ap₂ {C = List Entry} (λ (x : Entry) (xs : List Entry). x ∷ xs) one
        (ap (λ (n : ℕ). gapped n es) end ∙ read_gapped es (at + reach t) (drop (reach t) s) r (sym f.rest_is))

    pub piece_gapped : (w x : List ℕ) (at : ℕ) → gapped at (piece R bar (going at x) w).entries ≡ (piece R bar (going at x) w).entries
    unfolding gapped piece
    piece_gapped [] x at = refl
    piece_gapped (b ∷ w) x at = go (step_view O at x b) (λ y a. piece_gapped w y a)
      where
        mine : (es : List Entry) → Fronts at x b es → gapped at es ≡ es
        mine es f = read_gapped es at (x ++ b ∷ []) (read_part R.tok (end_of at es) (left_by at x b es ++ [])) (f [])

        go : {g : Given} → Stepped at x b g → ((y : List ℕ) (a : ℕ) → gapped a (piece R bar (going a y) w).entries ≡ (piece R bar (going a y) w).entries)
            → gapped at (then g w).entries ≡ (then g w).entries
        go (halts d p) ih = rw (halted_piece w d)
        go (shuts es d p f q) ih = rw (shut_piece w (placed_behind (end_of at es) d), append-nil es) (mine es f)
        go (goes es p f c) ih =
            let fs : List Entry = (piece R bar (going (end_of at es) (left_by at x b es)) w).entries in
            gapped_append es fs at ∙ ap₂ {C = List Entry} (λ (u v : List Entry). u ++ v) (mine es f) (ih (left_by at x b es) (end_of at es))
