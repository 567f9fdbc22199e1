-- The end of a text: what is kept, read as it stands. Assumes nothing.
use Rattle.std.proofs.Common.{Ok, Err}
use Prim.Native.Nat.{ℕ, suc, ◌+◌, ◌-◌, ◌<◌, ◌≤◌}
use native.Mathlib.Omega.{arith}
use mathlib.Core.Bool.{Bool, true, false, ◌&&◌}
use mathlib.Core.List.{List, [], ◌++◌, map}
use mathlib.Core.Path.{◌≡◌, ap, refl, sym, subst, ◌∙◌}
use lib.Dec.{eqb, leb, ltb}
use lib.ListN.{drop, length, take, length-append, length-drop}
use lib.Seq.{take-length}
use borrow.Author.Tests.{eq-eqb, le-ltb, leb-true, lt-ltb, ne_eqb}
use Rattle.comments.proofs.GapLaws.{EndsBy, gap_bounded}
use Rattle.comments.specs.Gaps.{gap_of}
use Rattle.comments.specs.declared.gap.Gap.{Gap}
use Rattle.comments.specs.declared.gap.Gap.TheVariants as gap
use Rattle.gaps.specs.Opens.{front, open_of}
use Rattle.gaps.specs.Passes.{passed_by, passed_of}
use Rattle.gaps.specs.declared.pass.Passed.{Passed}
use Rattle.gaps.specs.declared.pass.Passed.TheVariants.{Begins, Within, Unexpected}
use Rattle.gaps.specs.declared.state.Open.{Open}
use Rattle.gaps.specs.declared.state.Open.TheVariants.{Clear, Slash, Line, Block}
use Rattle.reading.proofs.Steps.{first, read_refuse, read_stop, read_token}
use Rattle.reading.specs.Owed.{quiet_byte}
use Rattle.reading.specs.Readings.{Reading, broken, complete, entries, entry, place, read_from, read_part}
use Rattle.reading.specs.Tokens.{Answer, Tokens, done, fault, next, reach, refuse, stop, token, tokens}
use Rattle.rows.specs.Rows.{flat, laid}
use Rattle.rows.specs.declared.Entry.{Entry}
use Rattle.text.proofs.Choices.{and_true, bool_cases, cond_cases, either}
use Rattle.text.proofs.Lists.{tail_part}
use Rattle.text.specs.Refusals.{eof, no_room, not_in_order, not_utf8, placed_behind, unclosed_block_comment, unexpected_char}
use Rattle.text.specs.declared.refusal.Refusal.{Refusal}
use Rattle.tokens.proofs.RonLaws.{laws, refused_within}
use Rattle.tokens.specs.Ron.{ron_token}
use Rattle.pieces.proofs.LayLaws.{length_gapped, length_moved}
use Rattle.pieces.specs.Ends.{Rest, ended_of, ending_of, ends_in, finish_of, fitting, last_of, placed_last, rest_by, rest_laid, rest_of}
use Rattle.pieces.specs.Orders.{in_order}
use Rattle.pieces.specs.Pieces.{gapped, moved_to, no_refusal}
use Rattle.pieces.specs.inner.Lasts.{ended_by, ends_with, last_from}
use Rattle.pieces.specs.inner.Scans.{ending_of as scanEnding, scanned_by, scanned_of}
use Rattle.read.specs.declared.scanned.Scanned.{Scanned}
use Rattle.pieces.specs.declared.state.Arrival.{Arrival}
use Rattle.pieces.specs.declared.state.Ended.{Ended}
use Rattle.pieces.specs.declared.state.Ended.TheVariants as ended

-- ---- a reading and the same from another place

many_there : (ts : Tokens) (at k : ℕ) → length (entries (place at ts)) ≡ length (entries (place k ts))
unfolding place entries
many_there done at k = refl
many_there (fault r) at k = refl
many_there (next t ts) at k = ap suc (many_there ts (at + reach t) (k + reach t))

last_complete : (ts : Tokens) (at k : ℕ) → scanEnding (place k ts) ≡ Ok tt → last_of (place at ts) ≡ no_refusal
unfolding place scanEnding last_of
last_complete done at k h = refl
last_complete (fault r) at k h = let z : ◌≡◌ {A = ℕ} 0 1 = cc in absurd (omega arith)
last_complete (next t ts) at k h = last_complete ts (at + reach t) (k + reach t) h

last_broken : (ts : Tokens) (at k : ℕ) (d : Refusal) → scanEnding (place k ts) ≡ Err d → last_of (place (at + k) ts) ≡ placed_behind at d
unfolding place scanEnding last_of
last_broken done at k d h = let z : ◌≡◌ {A = ℕ} 0 1 = cc in absurd (omega arith)
last_broken (fault r) at k d h =
    let e : placed_behind k r ≡ d = cc in
    let z : at + k + r.place ≡ at + (k + r.place) = omega arith in
    ap (λ (x : ℕ). record { number = r.number; reason = r.reason; place = x }) z ∙ ap (placed_behind at) e
last_broken (next t ts) at k d h =
    let z : at + k + reach t ≡ at + (k + reach t) = omega arith in
    ap (λ (x : ℕ). last_of (place x ts)) z ∙ last_broken ts at (k + reach t) d h

-- the place of a refusal lies within what is read
broken_by : (at : ℕ) (s : List ℕ) (x : Refusal) (a : Answer) → ron_token s ≡ a → read_part ron_token at s ≡ broken x → x.place ≤ at + length s
broken_by at s x stop q h = let w : complete ≡ broken x = sym (read_stop ron_token quiet_byte laws at s q) ∙ h in let z : ◌≡◌ {A = ℕ} 0 1 = cc in absurd (omega arith)
broken_by at s x (token t) q h =
    let w : entry _ _ ≡ broken x = sym (read_token ron_token quiet_byte laws at s t q) ∙ h in let z : ◌≡◌ {A = ℕ} 0 1 = cc in absurd (omega arith)
broken_by at s x (refuse d) q h =
    let w : broken (placed_behind at d) ≡ broken x = sym (read_refuse ron_token quiet_byte laws at s d q) ∙ h in
    let e : placed_behind at d ≡ x = cc in
    omega (arith, ap (λ (y : Refusal). y.place) e, refused_within s d q)

broken_within : (r : Reading) (at : ℕ) (s : List ℕ) (d : Refusal) → read_part ron_token at s ≡ r → scanEnding r ≡ Err d → d.place ≤ at + length s
unfolding scanEnding
broken_within complete at s d h e = let z : ◌≡◌ {A = ℕ} 0 1 = cc in absurd (omega arith)
broken_within (broken x) at s d h e =
    let q : x ≡ d = cc in
    subst (λ (y : Refusal). y.place ≤ at + length s) q (broken_by at s x (ron_token s) refl h)
broken_within (entry x r) at s d h e =
    let f = first ron_token quiet_byte laws at s x r h in
    let t = f.this in
    let fit : reach t ≤ length s = laws.inside s t f.answer in
    let ih : d.place ≤ at + reach t + length (drop (reach t) s) = broken_within r (at + reach t) (drop (reach t) s) d (sym f.rest_is) e in
    omega (arith, length-drop (reach t) s)

module _ (s : List ℕ) (from : ℕ) (sc : Scanned) (q : sc ≡ scanned_of (take (length s - from) (drop from s))) where
  scan_is : sc ≡ scanned_by (entries (read_part ron_token 0 (drop from s))) (scanEnding (read_part ron_token 0 (drop from s)))
  unfolding scanned_of
  scan_is = q ∙ ap scanned_of (tail_part s from)

  pub scan_count : sc.count ≡ length (entries (read_from ron_token s from))
  scan_count = ap (λ (x : Scanned). x.count) scan_is ∙ many_there (tokens ron_token (drop from s)) 0 from

  pub scan_complete : sc.ending ≡ Ok tt → last_of (read_from ron_token s from) ≡ no_refusal
  scan_complete h = last_complete (tokens ron_token (drop from s)) from 0 (sym (ap (λ (x : Scanned). x.ending) scan_is) ∙ h)

  pub scan_broken : (d : Refusal) → sc.ending ≡ Err d → last_of (read_from ron_token s from) ≡ placed_behind from d
  scan_broken d h =
      let z : from ≡ from + 0 = omega arith in
      ap (λ (x : ℕ). last_of (place x (tokens ron_token (drop from s)))) z
      ∙ last_broken (tokens ron_token (drop from s)) from 0 d (sym (ap (λ (x : Scanned). x.ending) scan_is) ∙ h)

  pub scan_within : (d : Refusal) → sc.ending ≡ Err d → d.place ≤ length s
  scan_within d h =
      let b = broken_within (read_part ron_token 0 (drop from s)) 0 (drop from s) d refl (sym (ap (λ (x : Scanned). x.ending) scan_is) ∙ h) in
      omega (arith, b, length-drop from s)

-- ---- where whitespace and comments end

-- a place that is told lies within the bytes
abbrev pub Lies : ℕ → Passed → Type 0
Lies n (Begins k) = k ≤ n
Lies n (Within o) = Unit {0}
Lies n (Unexpected p) = p ≤ n

lies_by : (n before : ℕ) (o : Open) (g : Gap) → EndsBy (before + n) g → Lies n (passed_by g o before (before + n))
lies_by n before o (gap.Clear g) b = cond_cases (Lies n) (ltb g (before + n)) (Begins (g - before)) (Within Clear) (λ e. omega arith) (λ e. tt)
lies_by n before o (gap.InLine m) b = tt
lies_by n before o (gap.Refused r) b = cond_cases (Lies n) (eqb r.number 5) (Unexpected (r.place - before)) (Within o) (λ e. omega arith) (λ e. tt)

pub passed_lies : (o : Open) (s : List ℕ) → Lies (length s) (passed_of o s)
unfolding passed_of
passed_lies o s =
    let l : length (front o ++ s) ≡ length (front o) + length s = length-append (front o) s in
    subst (λ (m : ℕ). Lies (length s) (passed_by (gap_of (front o ++ s)) (open_of (front o ++ s)) (length (front o)) m)) (sym l)
    (lies_by (length s) (length (front o)) (open_of (front o ++ s)) (gap_of (front o ++ s)) (subst (λ (m : ℕ). EndsBy m (gap_of (front o ++ s))) l (gap_bounded (front o ++ s))))

-- ---- the rest of a state

-- a reading of what is kept, at its places in the text
abbrev pub rest_as : Arrival → Reading → Rest
rest_as a r = record { entries = gapped a.former (map (moved_to (a.taken - a.kept)) (entries r)); refusal = placed_last (a.taken - a.kept) (last_of r) }

module _ (a : Arrival) (s : List ℕ) where
  ending_cut : 0 < a.part → ending_of a s ≡ record { entries = []; refusal = not_utf8 (a.taken - a.part) }
  unfolding ending_of
  ending_cut h = simp (lt-ltb 0 a.part h)

  pub ending_by : (p : Passed) → a.part ≤ 0 → passed_of a.gap s ≡ p → ending_of a s ≡ rest_as a (rest_by p s)
  unfolding ending_of rest_of
  ending_by p h e = simp (le-ltb 0 a.part h, e)

rest_complete : (a : Arrival) → rest_as a complete ≡ record { entries = []; refusal = no_refusal }
unfolding entries gapped last_of
rest_complete a = refl

rest_broken : (a : Arrival) (d : Refusal) → eqb d.number 0 ≡ false → rest_as a (broken d) ≡ record { entries = []; refusal = placed_behind (a.taken - a.kept) d }
unfolding entries gapped last_of
rest_broken a d h = simp h

-- ---- answers

-- a refusal told from further in front twice; one without a number is none
twice_behind : (b from count : ℕ) (d : Refusal) → ended_by count (placed_behind (b + from) d) ≡ ended_by count (placed_last b (placed_behind from d))
twice_behind b from count d =
    let z : b + from + d.place ≡ b + (from + d.place) = omega arith in
    either (bool_cases (eqb d.number 0)) (λ e. simp e) (λ e. simp (e, z))

-- an answer and the tape behind it are those of a rest
abbrev pub Answers : ℕ → Rest → List ℕ → Ended → List ℕ → Type 0
Answers room e tape r tape' = (r ≡ ended_of (fitting room e)) × (tape' ≡ rest_laid (fitting room e) tape)

module _ (room : ℕ) (tape : List ℕ) where
  -- no entries
  pub none_given : (d : Refusal) → Answers room (record { entries = []; refusal = d }) tape (ended_by 0 d) tape
  unfolding laid flat
  none_given d = let h : ltb room 0 ≡ false = le-ltb room 0 (omega arith) in (simp h, simp h)

  pub same_answers : (e e' : Rest) (r : Ended) (tape' : List ℕ) → e ≡ e' → Answers room e' tape r tape' → Answers room e tape r tape'
  same_answers e e' r tape' q w = subst (λ (x : Rest). Answers room x tape r tape') (sym q) w

  module _ (a : Arrival) (s : List ℕ) (end : ℕ) (z : a.taken - a.kept + length s ≡ end) where
    pub within_given : (o : Open) → Answers room (rest_as a (ends_in o (length s))) tape (ends_with o end) tape
    within_given Clear = same_answers (rest_as a complete) _ _ tape (rest_complete a) (none_given no_refusal)
    within_given Line = same_answers (rest_as a complete) _ _ tape (rest_complete a) (none_given no_refusal)
    within_given Slash =
        same_answers (rest_as a (broken (eof (length s)))) _ _ tape (rest_broken a (eof (length s)) refl ∙ ap (λ (x : ℕ). record { entries = []; refusal = eof x }) z) (none_given (eof end))
    within_given (Block level last) =
        same_answers (rest_as a (broken (unclosed_block_comment (length s)))) _ _ tape
        (rest_broken a (unclosed_block_comment (length s)) refl ∙ ap (λ (x : ℕ). record { entries = []; refusal = unclosed_block_comment x }) z) (none_given (unclosed_block_comment end))

  pub cut_given : (a : Arrival) (s : List ℕ) → 0 < a.part → Answers room (ending_of a s) tape (ended.Stopped 0 (not_utf8 (a.taken - a.part))) tape
  cut_given a s h =
      same_answers (ending_of a s) (record { entries = []; refusal = not_utf8 (a.taken - a.part) }) (ended.Stopped 0 (not_utf8 (a.taken - a.part))) tape (ending_cut a s h) (none_given (not_utf8 (a.taken - a.part)))

  pub unexpected_given : (a : Arrival) (p : ℕ) → Answers room (rest_as a (broken (unexpected_char p))) tape (ended.Stopped 0 (unexpected_char (a.taken - a.kept + p))) tape
  unexpected_given a p = same_answers (rest_as a (broken (unexpected_char p))) _ _ tape (rest_broken a (unexpected_char p) refl) (none_given (unexpected_char (a.taken - a.kept + p)))

  -- entries that fit
  told_by : (e : Rest) (count : ℕ) → length e.entries ≡ count → count ≤ room → Answers room e tape (ended_by count e.refusal) (laid e.entries tape)
  told_by e count m h =
      let t : ltb room (length e.entries) ≡ false = ap (ltb room) m ∙ le-ltb room count h in
      (sym (simp t (ap (λ (k : ℕ). ended_by k e.refusal) m)), sym (simp t))

  -- the entries of a reading
  module _ (a : Arrival) (s : List ℕ) (from : ℕ) (sc : Scanned) (q : sc ≡ scanned_of (take (length s - from) (drop from s))) where
    many : length (last_from a s from).entries ≡ sc.count
    many =
        let es : List Entry = entries (read_from ron_token s from) in
        length_gapped a.former (map (moved_to (a.taken - a.kept)) es) ∙ length_moved (a.taken - a.kept) es ∙ sym (scan_count s from sc q)

    pub no_room_given : (d : Refusal) → d ≡ no_room → room < sc.count → Answers room (last_from a s from) tape (ended.Refused d) tape
    no_room_given d e h =
        let t : ltb room (length (last_from a s from).entries) ≡ true = ap (ltb room) many ∙ lt-ltb room sc.count h in
        (simp (e, t), simp t)

    module _ (h : sc.count ≤ room) (tape' : List ℕ)
        (l : tape' ≡ laid (gapped a.former (map (moved_to (a.taken - a.kept)) (take sc.count (entries (read_from ron_token s from))))) tape) where
      whole_laid : tape' ≡ laid (last_from a s from).entries tape
      whole_laid =
          let es : List Entry = entries (read_from ron_token s from) in
          l ∙ ap (λ (x : List Entry). laid (gapped a.former (map (moved_to (a.taken - a.kept)) x)) tape) (ap (λ (k : ℕ). take k es) (scan_count s from sc q) ∙ take-length es)

      given_by : (r : Ended) → r ≡ ended_by sc.count (last_from a s from).refusal → Answers room (last_from a s from) tape r tape'
      given_by r e = let w = told_by (last_from a s from) sc.count many h in (e ∙ w.0, whole_laid ∙ w.1)

      pub complete_given : sc.ending ≡ Ok tt → Answers room (last_from a s from) tape (ended.Given sc.count) tape'
      complete_given c = given_by (ended.Given sc.count) (sym (simp (scan_complete s from sc q c)))

      pub broken_given : (d x : Refusal) → sc.ending ≡ Err d → x ≡ placed_behind (a.taken - a.kept + from) d → (r : Ended) → r ≡ ended_by sc.count x
          → Answers room (last_from a s from) tape r tape'
      broken_given d x c w r y =
          let b : ℕ = a.taken - a.kept in
          given_by r (y ∙ ap (ended_by sc.count) w ∙ twice_behind b from sc.count d ∙ sym (ap (λ (z : Refusal). ended_by sc.count (placed_last b z)) (scan_broken s from sc q d c)))

-- ---- the call

module _ (a : Arrival) (buffer : List ℕ) (room : ℕ) (fit : Bool) (f : fit ≡ in_order a && leb (a.kept + 0) (length buffer)) where
  fit_is : fit ≡ in_order a && leb a.kept (length buffer)
  fit_is = let z : a.kept + 0 ≡ a.kept = omega arith in f ∙ ap (λ (k : ℕ). in_order a && leb k (length buffer)) z

  pub finish_unfit : fit ≡ false → finish_of a buffer room ≡ Err not_in_order
  unfolding finish_of
  finish_unfit h = simp (sym fit_is ∙ h)

  pub finish_own : (tape : List ℕ) → fit ≡ true → (a.refusal.number ≡ 0 → ⊥)
      → (ended.Stopped 0 a.refusal ≡ ended_of (finish_of a buffer room)) × (tape ≡ rest_laid (finish_of a buffer room) tape)
  unfolding finish_of laid flat
  finish_own tape h n =
      let e : eqb a.refusal.number 0 ≡ false = ne_eqb a.refusal.number 0 n in
      (sym (simp (sym fit_is ∙ h, e)), sym (simp (sym fit_is ∙ h, e)))

  pub finish_rest : fit ≡ true → a.refusal.number ≡ 0 → finish_of a buffer room ≡ fitting room (ending_of a (take a.kept buffer))
  unfolding finish_of
  finish_rest h n = simp (sym fit_is ∙ h, eq-eqb a.refusal.number 0 n)

  pub fit_order : fit ≡ true → in_order a ≡ true
  fit_order h = (and_true (in_order a) (leb a.kept (length buffer)) (sym fit_is ∙ h)).0

  pub fit_there : fit ≡ true → a.kept ≤ length buffer
  fit_there h = leb-true a.kept (length buffer) (and_true (in_order a) (leb a.kept (length buffer)) (sym fit_is ∙ h)).1
