-- What the rule comes to is in order: behind every byte, what has come may go on so, or the refusal is one that may have been given (`fits-piece`).
-- Assumes nothing.
use Rattle.std.proofs.Common.{Err}
use Prim.Native.Nat.{ℕ, ◌+◌, ◌-◌, ◌<◌, ◌≤◌}
use native.Mathlib.Nat.{add-zero, sub_self}
use native.Mathlib.Omega.{arith}
use mathlib.Core.Bool.{true, false, not, ◌&&◌, ◌||◌}
use mathlib.Core.List.{List, [], ◌++◌, ◌∷◌, append-nil}
use mathlib.Core.Logic.{◌⊎◌, inl, inr}
use mathlib.Core.Path.{◌≡◌, ap, refl, subst, sym, ◌∙◌}
use lib.Dec.{eqb, leb}
use lib.ListN.{drop, length, length-append, length-drop}
use borrow.Author.Tests.{le-leb, leb-false, not-true}
use Rattle.text.proofs.Choices.{and_true, bool_cases, either, lt_or_le}
use Rattle.text.proofs.ClassLaws.{in_within}
use Rattle.text.proofs.Utf8Agree.{char_len_le}
use Rattle.text.specs.Classes.{within}
use Rattle.text.specs.Refusals.{entry_too_long, not_utf8, placed_behind, refusal, too_long, unexpected_char}
use Rattle.text.specs.declared.refusal.Refusal.{Refusal}
use Rattle.comments.proofs.GapLaws.{EndsBy, gap_bounded}
use Rattle.comments.specs.Gaps.{gap_of}
use Rattle.comments.specs.declared.gap.Gap.{Gap}
use Rattle.comments.specs.declared.gap.Gap.TheVariants as gap
use Rattle.rows.specs.declared.Entry.{Entry}
use Rattle.octets.proofs.Cutting.{bad_bounds}
use Rattle.octets.specs.Octets.{allowed_of}
use Rattle.octets.specs.declared.answer.Allowed.{Allowed}
use Rattle.octets.specs.declared.answer.Allowed.TheVariants.{All, Bad}
use Rattle.given.proofs.Front.{number-in, reason-fits}
use Rattle.given.proofs.Readings.{Inner-answer}
use Rattle.given.proofs.Tokens.{ron_inner}
use Rattle.given.specs.Given.{Inner, reasoned}
use Rattle.reading.proofs.Stable.{ends_grow}
use Rattle.reading.proofs.Steps.{first}
use Rattle.reading.specs.Readings.{Reading, end_of, read_part, ◌▸◌}
use Rattle.reading.specs.Tokens.{Token, reach}
use Rattle.reading.specs.Tokens.Answer.{refuse}
use Rattle.tokens.proofs.RonLaws.{gap_token, refused_within, token_is}
use Rattle.tokens.specs.Lexemes.{lexeme_of}
use Rattle.tokens.specs.Ron.{by_gap, lexeme_behind, ron_token}
use Rattle.tokens.specs.Token.{token_of}
use Rattle.arriving.specs.Arrivals.{Coming, Given, Passing, is_refused, piece}
use Rattle.arriving.specs.Arrivals.Coming.{going, halted, shut}
use Rattle.arriving.specs.Arrivals.Passing.{halt, pass}
use Rattle.settled.proofs.Owed.{ron}
use Rattle.settled.proofs.RonArrives.{ron_laws}
use Rattle.settled.specs.Bytes.{stops_byte}
use Rattle.settled.proofs.NothingEnds.{nothing, nothing_stays}
use Rattle.settled.specs.Settled.{once_behind, ron_once, ron_reader}
use Rattle.pieces.specs.Bars.{bar_by, bar_of, most_held}
use Rattle.pieces.specs.Orders.{is_given, most_taken, reason_fits}
use Rattle.arrived.specs.Ruled.{first_bar, rule_bar, size_bar, utf8_bar}
use Rattle.arrived.specs.Shown.{GoesOn, StopsSo}
use Rattle.arrived.proofs.Bounds.{entries_keep}
use Rattle.arrived.proofs.GapCuts.{gap_cut}
use Rattle.arrived.proofs.PieceLaws.{Fronts, Stepped, end_append, halted_piece, left_length, left_by, shut_piece, staying, step_view, then}

-- ---- refusals that may have been given

reason_given : (r : Refusal) → reasoned r ≡ true → reason_fits r ≡ true
unfolding reason_fits
reason_given r h =
    either (bool_cases (eqb r.number 13))
    (λ t. let k : within 1 8 r.reason ≡ true = rw t at h in rw (t, k))
    (λ t. let k : eqb r.reason 0 ≡ true = rw t at h in rw (t, k))

pub inner_given : (r : Refusal) (n : ℕ) → Inner r → r.place ≤ n → is_given r n ≡ true
unfolding is_given
inner_given r n h le =
    let k = number-in 4 21 r h in
    let one : within 1 21 r.number ≡ true = in_within 1 21 r.number (omega (arith, k.0), k.1) in
    rw (one, le-leb r.place n le, reason_given r (reason-fits 4 21 r h))

-- 1, 2 and 30
pub plain_given : (k p n : ℕ) → ((within 1 21 k || eqb k 30) && not (eqb k 13)) ≡ true → p ≤ n → is_given (refusal k p) n ≡ true
unfolding is_given reason_fits
plain_given k p n h le =
    let q = and_true (within 1 21 k || eqb k 30) (not (eqb k 13)) h in
    let o : eqb k 13 ≡ false = not-true (eqb k 13) q.1 in
    rw (q.0, le-leb p n le, o)

-- ---- what a byte that is taken says, and one that is not

bar_pass : (at : ℕ) (x : List ℕ) (b : ℕ) → bar_of at x b ≡ pass → (g : ℕ) → gap_of x ≡ gap.Clear g → length x < g + most_held
unfolding bar_of
bar_pass at x b h g e =
    let k : bar_by at x (gap.Clear g) ≡ pass = ap (bar_by at x) (sym e) ∙ h in
    either (bool_cases (leb (g + most_held) (length x)))
    (λ t. let q : halt (entry_too_long (at + g)) ≡ pass = rw t at k in let z : ◌≡◌ {A = ℕ} 0 1 = cc in absurd (omega arith))
    (λ t. leb-false (g + most_held) (length x) t)

bar_halt : (at : ℕ) (x : List ℕ) (b : ℕ) (d : Refusal) → bar_of at x b ≡ halt d → (g : ℕ) × (d ≡ entry_too_long (at + g)) × (g ≤ length x)
unfolding bar_of
bar_halt at x b d h = by (gap_of x) (gap_bounded x) h
  where
    by : (a : Gap) → EndsBy (length x) a → bar_by at x a ≡ halt d → (g : ℕ) × (d ≡ entry_too_long (at + g)) × (g ≤ length x)
    by (gap.Clear g) l h =
        either (bool_cases (leb (g + most_held) (length x)))
        (λ t. let q : halt (entry_too_long (at + g)) ≡ halt d = rw t at h in let z : entry_too_long (at + g) ≡ d = cc in (g, sym z, l))
        (λ t. let q : pass ≡ halt d = rw t at h in let z : ◌≡◌ {A = ℕ} 0 1 = cc in absurd (omega arith))
    by (gap.InLine n) l h = let z : ◌≡◌ {A = ℕ} 0 1 = cc in absurd (omega arith)
    by (gap.Refused r) l h = let z : ◌≡◌ {A = ℕ} 0 1 = cc in absurd (omega arith)

pub record Passes (at : ℕ) (x : List ℕ) (b : ℕ) : Type 0 where
  pub bar : bar_of at x b ≡ pass
  pub size : at + length x < most_taken
  pub part : ℕ
  pub utf8 : allowed_of (x ++ b ∷ []) ≡ All part

size_pass : (at : ℕ) (x : List ℕ) (b : ℕ) → size_bar at x b ≡ pass → bar_of at x b ≡ pass → Passes at x b
unfolding size_bar
size_pass at x b h bar =
    either (bool_cases (leb most_taken (at + length x)))
    (λ t. let q : halt too_long ≡ pass = rw t at h in let z : ◌≡◌ {A = ℕ} 0 1 = cc in absurd (omega arith))
    (λ t. let k : utf8_bar at (allowed_of (x ++ b ∷ [])) ≡ pass = rw t at h in go (allowed_of (x ++ b ∷ [])) refl k (leb-false most_taken (at + length x) t))
  where
    go : (a : Allowed) → allowed_of (x ++ b ∷ []) ≡ a → utf8_bar at a ≡ pass → at + length x < most_taken → Passes at x b
    go (All m) e k l = record { bar = bar; size = l; part = m; utf8 = e }
    go (Bad n k) e q l = let z : ◌≡◌ {A = ℕ} 0 1 = cc in absurd (omega arith)

pub rule_pass : (at : ℕ) (x : List ℕ) (b : ℕ) → rule_bar at x b ≡ pass → Passes at x b
unfolding rule_bar
rule_pass at x b h = go (bar_of at x b) refl h
  where
    go : (p : Passing) → bar_of at x b ≡ p → first_bar p (size_bar at x b) ≡ pass → Passes at x b
    go pass e k = size_pass at x b k e
    go (halt d) e k = let z : ◌≡◌ {A = ℕ} 0 1 = cc in absurd (omega arith)

size_halt : (at : ℕ) (x : List ℕ) (b : ℕ) (d : Refusal) → size_bar at x b ≡ halt d → is_given d (at + length x) ≡ true
unfolding size_bar within
size_halt at x b d h =
    either (bool_cases (leb most_taken (at + length x)))
    (λ t. let q : halt too_long ≡ halt d = rw t at h in
    let z : too_long ≡ d = cc in
    subst (λ (r : Refusal). is_given r (at + length x) ≡ true) z (plain_given 1 0 (at + length x) refl (omega arith)))
    (λ t. let k : utf8_bar at (allowed_of (x ++ b ∷ [])) ≡ halt d = rw t at h in go (allowed_of (x ++ b ∷ [])) refl k)
  where
    go : (a : Allowed) → allowed_of (x ++ b ∷ []) ≡ a → utf8_bar at a ≡ halt d → is_given d (at + length x) ≡ true
    go (All m) e k = let z : ◌≡◌ {A = ℕ} 0 1 = cc in absurd (omega arith)
    go (Bad n k) e q =
        let z : not_utf8 (at + k) ≡ d = cc in
        let l = bad_bounds (x ++ b ∷ []) n k e in
        subst (λ (r : Refusal). is_given r (at + length x) ≡ true) z (plain_given 2 (at + k) (at + length x) refl (omega (arith, l.0, l.1, length-append x (b ∷ []))))

rule_halt : (at : ℕ) (x : List ℕ) (b : ℕ) (d : Refusal) → rule_bar at x b ≡ halt d → is_given d (at + length x) ≡ true
unfolding rule_bar within
rule_halt at x b d h = go (bar_of at x b) refl h
  where
    go : (p : Passing) → bar_of at x b ≡ p → first_bar p (size_bar at x b) ≡ halt d → is_given d (at + length x) ≡ true
    go pass e k = size_halt at x b d k
    go (halt r) e k =
        let q : r ≡ d = cc in
        let w = bar_halt at x b r e in
        subst (λ (y : Refusal). is_given y (at + length x) ≡ true) (sym w.1 ∙ q) (plain_given 30 (at + w.0) (at + length x) refl (omega (arith, w.2)))

-- ---- what is left may be held

abbrev Held : List ℕ → Type 0
Held x = (g : ℕ) → gap_of x ≡ gap.Clear g → length x ≤ g + most_held

held_next : (at : ℕ) (x : List ℕ) (b : ℕ) → bar_of at x b ≡ pass → Held (x ++ b ∷ [])
held_next at x b h g e =
    either (lt_or_le (length x) g)
    (λ l. omega (arith, length-append x (b ∷ [])))
    (λ l. omega (arith, bar_pass at x b h g (gap_cut x (b ∷ []) g e l), length-append x (b ∷ [])))

held_left : (at : ℕ) (x : List ℕ) (b : ℕ) (es : List Entry) → bar_of at x b ≡ pass → Fronts ron_reader rule_bar at x b es → Held (left_by ron_reader rule_bar at x b es)
unfolding end_of
held_left at x b [] h f g q = subst Held (ap (λ (n : ℕ). drop n (x ++ b ∷ [])) (sym (sub_self at))) (held_next at x b h) g q
held_left at x b (e ∷ es) h f g q =
    let s : List ℕ = x ++ b ∷ [] in
    let r : Reading = read_part ron_token (end_of at (e ∷ es)) (left_by ron_reader rule_bar at x b (e ∷ es) ++ []) in
    let k = first ron_token stops_byte ron_laws at s e (es ▸ r) (f []) in
    let t : Token = k.this in
    let p : e.end ≡ at + reach t = ap (λ (y : Entry). y.end) k.entry_is in
    let far : at + reach t ≤ end_of (at + reach t) es = ends_grow ron_token stops_byte ron_laws es (at + reach t) (drop (reach t) s) r (sym k.rest_is) in
    let near = held_next at x b h t.gap (token_is s t k.answer).gap_is in
    omega (arith, ap (λ (n : ℕ). end_of n es) p, length-drop (end_of e.end es - at) s)

-- ---- no character of it is refused at once

once_by : (s : List ℕ) (a : Gap) → gap_of s ≡ a → once_behind s a ≡ true → is_refused (by_gap s a) ≡ true
once_by s (gap.Clear g) e h =
    let n = nothing (drop g s) h in
    let i : g < length s = omega (arith, n.come, char_len_le (drop g s), length-drop g s) in
    let is : lexeme_of (token_of (drop g s)) ≡ Err (unexpected_char 0) = ap (λ (t : List ℕ). lexeme_of (token_of t)) (sym (append-nil (drop g s))) ∙ ap lexeme_of (nothing_stays (drop g s) [] n) in
    ap is_refused (gap_token s g i ∙ ap (lexeme_behind g) is)
once_by s (gap.InLine n) e h = let z : ◌≡◌ {A = ℕ} 0 1 = cc in absurd (omega arith)
once_by s (gap.Refused r) e h = refl

pub once_refused : (s : List ℕ) → ron_once s ≡ true → is_refused (ron_token s) ≡ true
unfolding ron_once ron_token
once_refused s h = once_by s (gap_of s) refl h

calm : (s : List ℕ) → (ron_once s ≡ false) ⊎ (is_refused (ron_token s) ≡ false) → ron_once s ≡ false
calm s (inl e) = e
calm s (inr e) = either (bool_cases (ron_once s)) (λ t. let z : true ≡ false = sym (once_refused s t) ∙ e in let k : ◌≡◌ {A = ℕ} 0 1 = cc in absurd (omega arith)) (λ t. t)

-- ---- the rule keeps it so

-- an arrival behind n bytes, whose last entry ended at f
abbrev pub Fits : Coming → ℕ → ℕ → Type 0
Fits (going at rest) n f = (n ≡ at + length rest) × (f ≡ at) × ((part : ℕ) × GoesOn at rest part)
Fits (shut d) n f = StopsSo n f d
Fits (halted d) n f = StopsSo n f d

module _ (at : ℕ) (x : List ℕ) (part : ℕ) (k : GoesOn at x part) (b : ℕ) where
  goes_fit : (es : List Entry) → rule_bar at x b ≡ pass → Fronts ron_reader rule_bar at x b es
      → (ron_once (left_by ron_reader rule_bar at x b es) ≡ false) ⊎ (is_refused (ron_token (left_by ron_reader rule_bar at x b es)) ≡ false)
      → Fits (going (end_of at es) (left_by ron_reader rule_bar at x b es)) (at + length x + 1) (end_of at es)
  goes_fit es p f c =
      let t = rule_pass at x b p in
      let s : List ℕ = x ++ b ∷ [] in
      let left : List ℕ = left_by ron_reader rule_bar at x b es in
      let long = left_length ron_reader rule_bar ron at x b es f in
      let r : Reading = read_part ron_token (end_of at es) (left ++ []) in (
        omega arith,
        refl,
        (
          t.part,
          record {
            utf8 = entries_keep es at s r (f []) t.part t.utf8;
            calm = calm left c;
            size = omega (arith, t.size);
            held = held_left at x b es t.bar f;
          },
        ),
      )

  shut_fit : (es : List Entry) (d : Refusal) → rule_bar at x b ≡ pass → Fronts ron_reader rule_bar at x b es → ron_token (left_by ron_reader rule_bar at x b es) ≡ refuse d
      → StopsSo (at + length x + 1) (end_of at es) (placed_behind (end_of at es) d)
  shut_fit es d p f e =
      let t = rule_pass at x b p in
      let left : List ℕ = left_by ron_reader rule_bar at x b es in
      let long = left_length ron_reader rule_bar ron at x b es f in
      let inner : Inner d = subst Inner-answer e (ron_inner left) in
      record {
        given = inner_given (placed_behind (end_of at es) d) (at + length x + 1) inner (omega (arith, refused_within left d e));
        late = omega arith;
        size = omega (arith, t.size);
      }

  halt_fit : (d : Refusal) → rule_bar at x b ≡ halt d → StopsSo (at + length x) at d
  halt_fit d h = record { given = rule_halt at x b d h; late = omega arith; size = k.size }

-- behind a stop
stops_stay : (w : List ℕ) (c : Coming) (n f : ℕ) → piece ron_reader rule_bar c w ≡ staying ron_reader rule_bar c → Fits c n f
    → Fits (piece ron_reader rule_bar c w).next (n + (piece ron_reader rule_bar c w).bytes) (end_of f (piece ron_reader rule_bar c w).entries)
unfolding end_of
stops_stay w c n f e h = rw (e, add-zero n) h

pub fits_piece : (w : List ℕ) (c : Coming) (n f : ℕ) → Fits c n f
    → Fits (piece ron_reader rule_bar c w).next (n + (piece ron_reader rule_bar c w).bytes) (end_of f (piece ron_reader rule_bar c w).entries)
unfolding end_of piece
fits_piece [] c n f h = rw (add-zero n) h
fits_piece (b ∷ w) (shut d) n f h = stops_stay (b ∷ w) (shut d) n f (shut_piece ron_reader rule_bar (b ∷ w) d) h
fits_piece (b ∷ w) (halted d) n f h = stops_stay (b ∷ w) (halted d) n f (halted_piece ron_reader rule_bar (b ∷ w) d) h
fits_piece (b ∷ w) (going at x) n f h = go (step_view ron_reader rule_bar ron at x b) (λ c m e q. fits_piece w c m e q)
  where
    part : ℕ
    part = h.2.0

    on : (g : Given) → ((c : Coming) (m e : ℕ) → Fits c m e → Fits (piece ron_reader rule_bar c w).next (m + (piece ron_reader rule_bar c w).bytes) (end_of e (piece ron_reader rule_bar c w).entries))
        → Fits g.next (at + length x + g.bytes) (end_of at g.entries) → Fits (then ron_reader rule_bar g w).next (n + (then ron_reader rule_bar g w).bytes) (end_of f (then ron_reader rule_bar g w).entries)
    on g ih q =
        let m : ℕ = at + length x + g.bytes in
        let i : ℕ = (piece ron_reader rule_bar g.next w).bytes in
        let sum : m + i ≡ n + (g.bytes + i) = omega (arith, h.0) in
        let ends : end_of (end_of at g.entries) (piece ron_reader rule_bar g.next w).entries ≡ end_of f (then ron_reader rule_bar g w).entries =
        sym (end_append g.entries (piece ron_reader rule_bar g.next w).entries at) ∙ ap (λ (a : ℕ). end_of a (then ron_reader rule_bar g w).entries) (sym h.1) in
        subst (Fits (then ron_reader rule_bar g w).next (n + (g.bytes + i))) ends
        (subst (λ (j : ℕ). Fits (then ron_reader rule_bar g w).next j (end_of (end_of at g.entries) (piece ron_reader rule_bar g.next w).entries)) sum
        (ih g.next m (end_of at g.entries) q))

    go : {g : Given} → Stepped ron_reader rule_bar at x b g
        → ((c : Coming) (m e : ℕ) → Fits c m e → Fits (piece ron_reader rule_bar c w).next (m + (piece ron_reader rule_bar c w).bytes) (end_of e (piece ron_reader rule_bar c w).entries))
        → Fits (then ron_reader rule_bar g w).next (n + (then ron_reader rule_bar g w).bytes) (end_of f (then ron_reader rule_bar g w).entries)
    go (Stepped.halts d p) ih = on (record { entries = []; next = halted d; bytes = 0 }) ih (subst (λ (m : ℕ). StopsSo m at d) (sym (add-zero (at + length x))) (halt_fit at x part h.2.1 b d p))
    go (Stepped.goes es p q c) ih = on (record { entries = es; next = going (end_of at es) (left_by ron_reader rule_bar at x b es); bytes = 1 }) ih (goes_fit at x part h.2.1 b es p q c)
    go (Stepped.shuts es d p q e) ih = on (record { entries = es; next = shut (placed_behind (end_of at es) d); bytes = 1 }) ih (shut_fit at x part h.2.1 b es d p q e)
