-- What the bytes of a part decide first, byte by byte, and what the code leaves out: bytes that nobody looks at, and bytes before the first token's end. Assumes
-- nothing.
use Prim.Native.Nat.{ℕ, zero, suc, ◌+◌, ◌-◌, ◌<◌, ◌≤◌}
use native.Mathlib.Nat.{add-zero}
use native.Mathlib.Omega.{arith}
use mathlib.Core.Bool.{Bool, true, false, cond, ◌||◌}
use mathlib.Core.List.{List, [], ◌++◌, ◌∷◌}
use mathlib.Core.Path.{◌≡◌, ap, refl, subst, sym, ◌∙◌}
use lib.Dec.{eqb, leb, ltb}
use lib.ListN.{drop, get_or, length, take}
use lib.Seq.{drop-cons, drop-length, get_or-take, length-take-le, split_at, take-length, take-suc, take-take}
use borrow.Author.Tests.{eq-eqb, eqb-true, le-leb, le-ltb, lt-leb, lt-ltb, ltb-true, ne_eqb}
use Rattle.text.proofs.Choices.{bool_cases, cond_cases, cond_same, either, lt_or_le, or_true}
use Rattle.text.proofs.Utf8Agree.{char_len_le}
use Rattle.text.specs.Refusals.{unexpected_char}
use Rattle.text.specs.Utf8.{char_len}
use Rattle.text.specs.declared.refusal.Refusal.{Refusal}
use Rattle.comments.specs.Gaps.{gap_of}
use Rattle.comments.specs.declared.gap.Gap.TheVariants as gap
use Rattle.reading.proofs.Steps.{read_refuse}
use Rattle.reading.specs.Readings.{end_of, entries}
use Rattle.reading.specs.Tokens.{Answer, Token, reach, refuse, stop, token}
use Rattle.tokens.specs.Ron.{answer_of, ron_token}
use Rattle.tokens.specs.declared.following.Following.{Following}
use Rattle.tokens.specs.declared.following.Following.TheVariants as following
use Rattle.tokens.specs.declared.lexeme.Lexeme.{Lexeme}
use Rattle.arriving.proofs.Waits.{Waits, keeping, kept_byte}
use Rattle.arriving.proofs.Waits.Waits.{ends_later, not_ended}
use Rattle.arriving.specs.Arrivals.{Given, Passing, behind, decided, decided_of, left_at, looks, pass, taken, up_to}
use Rattle.arriving.specs.Owing.{tells_end}
use Rattle.settled.proofs.Owed.{ron}
use Rattle.settled.proofs.RonArrives.{ron_laws}
use Rattle.settled.specs.Bytes.{stops_byte}
use Rattle.settled.specs.Settled.{ron_once, ron_reader, ron_settles, starts_nothing}
use Rattle.pieces.specs.Come.{later}
use Rattle.pieces.specs.inner.Judges.{gives_of, judged_of, verdict_of}
use Rattle.pieces.specs.inner.Waiting.{behind_stops, beyond_by, beyond_of, decides, next_stop, waited_from, waited_of}
use Rattle.pieces.specs.declared.verdict.Verdict.{Verdict}
use Rattle.pieces.specs.declared.verdict.Verdict.TheVariants.{Nothing, Shuts}
use Rattle.pieces.proofs.FrontLaws.{gap_take, nothing_come, nothing_take, nothing_token, nothing_yet, once_take, stop_no_char}
use Rattle.pieces.proofs.StopLaws.{behind_bounds, next_bounds, next_plain, next_stops}

-- what the byte at k decides behind those before it
abbrev pub seen_at : List ℕ → ℕ → Verdict
seen_at part k = verdict_of (taken ron_reader 0 (take (k + 1) part) (get_or part k 0))

-- ---- byte by byte

from_cons : (x w : List ℕ) (b : ℕ)
    → waited_from x (b ∷ w)
    ≡ cond (decides (verdict_of (taken ron_reader 0 (x ++ b ∷ []) b))) (record { bytes = length (x ++ b ∷ []); verdict = verdict_of (taken ron_reader 0 (x ++ b ∷ []) b) })
    (waited_from (x ++ b ∷ []) w)
unfolding waited_from
from_cons x w b = refl

pub wait_step : (part : List ℕ) (k : ℕ) → k < length part
    → waited_of part k ≡ cond (decides (seen_at part k)) (record { bytes = k + 1; verdict = seen_at part k }) (waited_of part (k + 1))
unfolding waited_of
wait_step part k l =
    let b = get_or part k 0 in
    let z : k + 1 ≡ suc k = omega arith in
    let e : take k part ++ b ∷ [] ≡ take (k + 1) part = sym (take-suc part k 0 l) ∙ ap (λ (n : ℕ). take n part) (sym z) in
    let d : drop (suc k) part ≡ drop (k + 1) part = ap (λ (n : ℕ). drop n part) (sym z) in
    ap (waited_from (take k part)) (drop-cons part k 0 l) ∙ from_cons (take k part) (drop (suc k) part) b
    ∙ ap (λ (s : List ℕ). cond (decides (verdict_of (taken ron_reader 0 s b))) (record { bytes = length s; verdict = verdict_of (taken ron_reader 0 s b) }) (waited_from s (drop (suc k) part))) e
    ∙ ap (λ (n : ℕ). cond (decides (seen_at part k)) (record { bytes = n; verdict = seen_at part k }) (waited_from (take (k + 1) part) (drop (suc k) part)))
    (length-take-le (k + 1) part (omega arith))
    ∙ ap (λ (w : List ℕ). cond (decides (seen_at part k)) (record { bytes = k + 1; verdict = seen_at part k }) (waited_from (take (k + 1) part) w)) d

pub wait_found : (part : List ℕ) (k : ℕ) → k < length part → decides (seen_at part k) ≡ true → waited_of part k ≡ record { bytes = k + 1; verdict = seen_at part k }
wait_found part k l e = wait_step part k l ∙ ap (λ (t : Bool). cond t (record { bytes = k + 1; verdict = seen_at part k }) (waited_of part (k + 1))) e

pub wait_on : (part : List ℕ) (k : ℕ) → k < length part → decides (seen_at part k) ≡ false → waited_of part k ≡ waited_of part (k + 1)
wait_on part k l e = wait_step part k l ∙ ap (λ (t : Bool). cond t (record { bytes = k + 1; verdict = seen_at part k }) (waited_of part (k + 1))) e

wait_many : (n : ℕ) (part : List ℕ) (k : ℕ) → k + n ≤ length part → ((i : ℕ) → k ≤ i → i < k + n → decides (seen_at part i) ≡ false) → waited_of part k ≡ waited_of part (k + n)
wait_many zero part k l f = ap (waited_of part) (sym (add-zero k))
wait_many (suc n) part k l f =
    let z : k + 1 + n ≡ k + suc n = omega arith in
    wait_on part k (omega arith) (f k (omega arith) (omega arith)) ∙ wait_many n part (k + 1) (omega arith) (λ i a b. f i (omega arith) (omega arith)) ∙ ap (waited_of part) z

-- bytes that decide nothing are passed over
pub wait_past : (part : List ℕ) (k m : ℕ) → k ≤ m → m ≤ length part → ((i : ℕ) → k ≤ i → i < m → decides (seen_at part i) ≡ false) → waited_of part k ≡ waited_of part m
wait_past part k m a b f =
    let z : k + (m - k) ≡ m = omega arith in
    wait_many (m - k) part k (omega arith) (λ i x y. f i x (omega arith)) ∙ ap (waited_of part) z

pub wait_end : (part : List ℕ) → waited_of part (length part) ≡ record { bytes = length part; verdict = Nothing }
unfolding waited_of waited_from
wait_end part = rw (drop-length part, take-length part)

-- ---- bytes that decide nothing

keeps_none : (s : List ℕ) → decides (verdict_of (keeping 0 s 1)) ≡ false
unfolding gives_of
keeps_none s = refl

-- nobody looks at it
pub unlooked_none : (part : List ℕ) (k : ℕ) → gap_of part ≡ gap.Clear 0 → stops_byte (get_or part k 0) ≡ false → starts_nothing (take (k + 1) part) ≡ false → decides (seen_at part k) ≡ false
unfolding looks
unlooked_none part k g s n =
    let o : ron_once (take (k + 1) part) ≡ false = once_take part (k + 1) g ∙ n in
    ap (λ (t : Bool). decides (verdict_of (cond t (behind ron_reader 0 (take (k + 1) part) (decided ron_reader 0 (take (k + 1) part) (get_or part k 0))) (keeping 0 (take (k + 1) part) 1))))
    (ap (λ (t : Bool). t || ron_once (take (k + 1) part)) s ∙ o)
    ∙ keeps_none (take (k + 1) part)

-- the first token of more bytes ends behind it, or has not ended
pub waiting_none : (part : List ℕ) (k end n : ℕ) → k < n → k < end → end ≤ length part → Waits n (ron_token (take end part)) → decides (seen_at part k) ≡ false
waiting_none part k end n l m h w =
    let b = get_or part k 0 in
    let x = take k part in
    let v = drop (suc k) (take end part) in
    let e : take end part ≡ x ++ b ∷ v =
    split_at (take end part) k 0 (omega (arith, length-take-le end part h))
    ∙ ap (λ (u : List ℕ). u ++ get_or (take end part) k 0 ∷ v) (take-take k end part (omega arith))
    ∙ ap (λ (c : ℕ). x ++ c ∷ v) (get_or-take end part k 0 m) in
    let one : k + 1 ≡ suc k = omega arith in
    let z : x ++ b ∷ [] ≡ take (k + 1) part = sym (take-suc part k 0 (omega arith)) ∙ ap (λ (i : ℕ). take i part) (sym one) in
    let free : ℕ → List ℕ → ℕ → Passing = λ at s c. pass in
    let kept : taken ron_reader 0 (x ++ b ∷ []) b ≡ keeping 0 (x ++ b ∷ []) 1 =
    kept_byte ron_reader free ron 0 n x v b (omega (arith, length-take-le k part (omega arith))) (subst (λ (s : List ℕ). Waits n (ron_token s)) e w) in
    ap (λ (s : List ℕ). decides (verdict_of (taken ron_reader 0 s b))) (sym z) ∙ ap (λ (g : Given). decides (verdict_of g)) kept ∙ keeps_none (x ++ b ∷ [])

-- up to the next stop byte
pub stop_past : (part : List ℕ) (q : ℕ) → gap_of part ≡ gap.Clear 0 → starts_nothing part ≡ false → q ≤ length part → waited_of part q ≡ waited_of part (next_stop part q)
stop_past part q g n l =
    let b = next_bounds part q l in
    wait_past part q (next_stop part q) b.0 b.1 (λ i x y. unlooked_none part i g (next_plain part q i x y) (nothing_take part (i + 1) n))

tells-end : (r : Refusal) → r.number ≡ 17 → tells_end r ≡ true
unfolding tells_end
tells-end r e = rw e

-- a place that may be gone on from instead
abbrev pub Goes : List ℕ → ℕ → ℕ → Type 0
Goes part from to = (from ≤ to) × (to ≤ length part) × (waited_of part from ≡ waited_of part to)

-- up to the first token's last byte, or the last stop byte of a string that is not closed
pub beyond_goes : (part : List ℕ) (from : ℕ) → from ≤ length part → Goes part from (beyond_of part from)
unfolding beyond_of
beyond_goes part from l = go (ron_token (take end part)) refl
  where
    end : ℕ
    end = behind_stops part from

    bounds : (from ≤ end) × (end ≤ length part)
    bounds = behind_bounds stops_byte part from l

    stays : Goes part from from
    stays = (omega arith, l, refl)

    upto : (a : Answer) (n : ℕ) → ron_token (take end part) ≡ a → Waits n a → from ≤ n → n ≤ end → Goes part from n
    upto a n q w x y =
        (x, omega (arith, bounds.1), wait_past part from n x (omega (arith, bounds.1)) (λ i u v. waiting_none part i end n v (omega arith) bounds.1 (subst (Waits n) (sym q) w)))

    go : (a : Answer) → ron_token (take end part) ≡ a → Goes part from (beyond_by a from end)
    go (token t) q =
        let h : reach t ≤ length (take end part) = ron.laws.inside (take end part) t q in
        let k = length-take-le end part bounds.1 in
        cond_cases (Goes part from) (ltb (from + 1) (reach t)) (reach t - 1) from
        (λ e. let m : from + 1 < reach t = ltb-true (from + 1) (reach t) e in upto (token t) (reach t - 1) q (ends_later t (omega arith)) (omega arith) (omega arith))
        (λ e. stays)
    go stop q = stays
    go (refuse r) q =
        cond_cases (Goes part from) (eqb r.number 17) end from
        (λ e. upto (refuse r) end q (not_ended r (tells-end r (eqb-true r.number 17 e))) bounds.0 (omega arith))
        (λ e. stays)

-- without a stop byte there is no other place
pub beyond_idle : (part : List ℕ) (from end : ℕ) → end ≡ behind_stops part from → from ≤ length part → end ≤ from → from ≡ beyond_of part from
unfolding beyond_of
beyond_idle part from end e l m = go (ron_token (take (behind_stops part from) part)) refl
  where
    bounds : (from ≤ behind_stops part from) × (behind_stops part from ≤ length part)
    bounds = behind_bounds stops_byte part from l

    go : (a : Answer) → ron_token (take (behind_stops part from) part) ≡ a → from ≡ beyond_by a from (behind_stops part from)
    go (token t) q =
        let h : reach t ≤ length (take (behind_stops part from) part) = ron.laws.inside (take (behind_stops part from) part) t q in
        sym (ap (λ (b : Bool). cond b (reach t - 1) from) (le-ltb (from + 1) (reach t) (omega (arith, length-take-le (behind_stops part from) part bounds.1, e))))
    go stop q = refl
    go (refuse d) q = cond_cases (λ (n : ℕ). from ≡ n) (eqb d.number 17) (behind_stops part from) from (λ b. omega (arith, e, bounds.0)) (λ b. refl)

-- the code's answers
module _ (part : List ℕ) (from end : ℕ) (r : Following) (e : end ≡ behind_stops part from) (q : answer_of r ≡ ron_token (take end part)) where
  by-answer : (f : Following) → r ≡ f → beyond_by (answer_of f) from end ≡ beyond_of part from
  unfolding beyond_of
  by-answer f h = ap (λ (a : Answer). beyond_by a from end) (ap answer_of (sym h) ∙ q) ∙ ap (λ (n : ℕ). beyond_by (ron_token (take n part)) from n) e

  module _ (g : ℕ) (l : Lexeme) (h : r ≡ following.Token g l) where
    pub token_fits : from ≤ length part → g + l.len ≤ length part
    token_fits le =
        let t : Token = record { gap = g; len = l.len; kind = l.kind; detail = l.detail } in
        let b = behind_bounds stops_byte part from le in
        let n : reach t ≤ length (take end part) = ron.laws.inside (take end part) t (sym q ∙ ap answer_of h) in
        omega (arith, e, b.1, length-take-le end part (omega (arith, e, b.1)))

    pub beyond_later : from + 1 < g + l.len → g + l.len - 1 ≡ beyond_of part from
    beyond_later k = sym (ap (λ (t : Bool). cond t (g + l.len - 1) from) (lt-ltb (from + 1) (g + l.len) k)) ∙ by-answer (following.Token g l) h

    pub beyond_here : g + l.len ≤ from + 1 → from ≡ beyond_of part from
    beyond_here k = sym (ap (λ (t : Bool). cond t (g + l.len - 1) from) (le-ltb (from + 1) (g + l.len) k)) ∙ by-answer (following.Token g l) h

  pub beyond_none : r ≡ following.End → from ≡ beyond_of part from
  beyond_none h = by-answer following.End h

  module _ (d : Refusal) (h : r ≡ following.Refused d) where
    pub beyond_open : d.number ≡ 17 → end ≡ beyond_of part from
    beyond_open k = sym (ap (λ (t : Bool). cond t end from) (eq-eqb d.number 17 k)) ∙ by-answer (following.Refused d) h

    pub beyond_refused : (d.number ≡ 17 → ⊥) → from ≡ beyond_of part from
    beyond_refused k = sym (ap (λ (t : Bool). cond t end from) (ne_eqb d.number 17 k)) ∙ by-answer (following.Refused d) h

-- ---- a stop byte is judged

pub judged_is : (part : List ℕ) (k : ℕ) → k < length part → stops_byte (get_or part k 0) ≡ true → judged_of (take (k + 1) part) ≡ seen_at part k
unfolding judged_of looks
judged_is part k l s =
    let t = take (k + 1) part in
    let n : length t - 1 ≡ k = omega (arith, length-take-le (k + 1) part (omega arith)) in
    let b : get_or t (length t - 1) 0 ≡ get_or part k 0 = ap (λ (i : ℕ). get_or t i 0) n ∙ get_or-take (k + 1) part k 0 (omega arith) in
    let y : (stops_byte (get_or part k 0) || ron_once t) ≡ true = ap (λ (q : Bool). q || ron_once t) s in
    ap (λ (c : ℕ). verdict_of (behind ron_reader 0 t (decided ron_reader 0 t c))) b
    ∙ sym (ap (λ (q : Bool). verdict_of (cond q (behind ron_reader 0 t (decided ron_reader 0 t (get_or part k 0))) (keeping 0 t 1))) y)

-- ---- where no token starts with the first character

refused_none : (s : List ℕ) (b : ℕ) (d : Refusal) → ron_token s ≡ refuse d → decided ron_reader 0 s b ≡ []
unfolding decided entries up_to
refused_none s b d h =
    ap (decided_of ron_reader 0 s b) (read_refuse ron_token stops_byte ron_laws 0 s d h) ∙ simp cond_same

shuts : (s : List ℕ) (b : ℕ) → ron_once s ≡ true → ron_token s ≡ refuse (unexpected_char 0) → verdict_of (taken ron_reader 0 s b) ≡ Shuts 0 0 (unexpected_char 0)
unfolding looks left_at end_of
shuts s b o t =
    let y : (stops_byte b || ron_once s) ≡ true = ap (λ (q : Bool). stops_byte b || q) o ∙ or_true (stops_byte b) in
    let no : decided ron_reader 0 s b ≡ [] = refused_none s b (unexpected_char 0) t in
    let z : ron_settles s ≡ true = ron.at_once s o in
    rw (y, no) (rw (z, t))

module _ (part : List ℕ) (g : gap_of part ≡ gap.Clear 0) (h : starts_nothing part ≡ true) where
  shuts_at : (k : ℕ) → k < length part → char_len part ≤ k + 1 → seen_at part k ≡ Shuts 0 0 (unexpected_char 0)
  shuts_at k l c =
      let n = nothing_come part (k + 1) (omega arith) h c in
      shuts (take (k + 1) part) (get_or part k 0) (once_take part (k + 1) g ∙ n) (nothing_token (take (k + 1) part) (gap_take part (k + 1) g) n)

  -- a byte of it before its last
  unlooked_yet : (k : ℕ) → k < length part → k + 1 < char_len part → decides (seen_at part k) ≡ false
  unlooked_yet k l c =
      let no : stops_byte (get_or part k 0) ≡ false =
      either (bool_cases (stops_byte (get_or part k 0)))
      (λ s. let u = stop_no_char (take k part) (drop (suc k) part) (get_or part k 0) s in
      absurd (omega (arith, u, ap char_len (split_at part k 0 l), length-take-le k part (omega arith))))
      (λ s. s) in
      unlooked_none part k g no (nothing_yet part (k + 1) (omega arith) c)

  waits_at : (k seen : ℕ) → k + 1 ≡ later (char_len part) (seen + 1) → seen ≤ k → k < length part → char_len part ≤ k + 1 → ((i : ℕ) → seen ≤ i → i < k → i + 1 < char_len part)
      → waited_of part seen ≡ record { bytes = later (char_len part) (seen + 1); verdict = Shuts 0 0 (unexpected_char 0) }
  waits_at k seen e a b c f =
      let s = shuts_at k b c in
      wait_past part seen k a (omega arith) (λ i x y. unlooked_yet i (omega arith) (f i x y))
      ∙ wait_found part k b (ap decides s)
      ∙ ap (λ (v : Verdict). record { bytes = k + 1; verdict = v }) s
      ∙ ap (λ (n : ℕ). record { bytes = n; verdict = Shuts 0 0 (unexpected_char 0) }) e

  pub nothing_waits : (seen : ℕ) → seen < length part → waited_of part seen ≡ record { bytes = later (char_len part) (seen + 1); verdict = Shuts 0 0 (unexpected_char 0) }
  unfolding later
  nothing_waits seen l =
      either (lt_or_le (seen + 1) (char_len part))
      (λ x. let z = char_len_le part in
      let e : char_len part - 1 + 1 ≡ cond (leb (char_len part) (seen + 1)) (seen + 1) (char_len part) = rw (lt-leb (char_len part) (seen + 1) x) (omega arith) in
      waits_at (char_len part - 1) seen e (omega arith) (omega arith) (omega arith) (λ i a b. omega arith))
      (λ x. let e : seen + 1 ≡ cond (leb (char_len part) (seen + 1)) (seen + 1) (char_len part) = rw (le-leb (char_len part) (seen + 1) x) in
      waits_at seen seen e (omega arith) l x (λ i a b. absurd (omega arith)))

-- ---- a turn of the loop: from q on, the next stop byte at j

module _ (part : List ℕ) (seen : ℕ) (g : gap_of part ≡ gap.Clear 0) (n : starts_nothing part ≡ false) (q : ℕ) (i : Goes part seen q) (j : ℕ) (e : j ≡ next_stop part q) where
  bounds : (q ≤ j) × (j ≤ length part)
  bounds = let b = next_bounds part q i.1 in (omega (arith, e, b.0), omega (arith, e, b.1))

  at_stop : waited_of part seen ≡ waited_of part j
  at_stop = i.2 ∙ stop_past part q g n i.1 ∙ ap (waited_of part) (sym e)

  -- there is none
  pub none_left : j ≡ length part → record { bytes = j; verdict = Nothing } ≡ waited_of part seen
  none_left z = ap (λ (k : ℕ). record { bytes = k; verdict = Nothing }) z ∙ sym (at_stop ∙ ap (waited_of part) z ∙ wait_end part)

  module _ (o : j ≡ length part → ⊥) where
    pub stop_inside : j < length part
    stop_inside = omega (arith, bounds.1, o)

    stop_byte : stops_byte (get_or part j 0) ≡ true
    stop_byte = ap (λ (k : ℕ). stops_byte (get_or part k 0)) e ∙ next_stops part q (omega (arith, e, stop_inside))

    pub judge_ready : length part ≤ 65536
        → (0 < length (take (j + 1) part)) × (length (take (j + 1) part) ≤ 65536) × (stops_byte (get_or (take (j + 1) part) (length (take (j + 1) part) - 1) 0) ≡ true)
    judge_ready le =
        let l : length (take (j + 1) part) ≡ j + 1 = length-take-le (j + 1) part (omega (arith, stop_inside)) in
        let m : length (take (j + 1) part) - 1 ≡ j = omega (arith, l) in (
          omega (arith, l),
          omega (arith, l, stop_inside),
          ap (λ (k : ℕ). stops_byte (get_or (take (j + 1) part) k 0)) m ∙ ap stops_byte (get_or-take (j + 1) part j 0 (omega arith)) ∙ stop_byte,
        )

    module _ (v : Verdict) (y : v ≡ judged_of (take (j + 1) part)) where
      seen_is : v ≡ seen_at part j
      seen_is = y ∙ judged_is part j stop_inside stop_byte

      -- it decides something
      pub found_there : decides v ≡ true → record { bytes = j + 1; verdict = v } ≡ waited_of part seen
      found_there d =
          ap (λ (x : Verdict). record { bytes = j + 1; verdict = x }) seen_is ∙ sym (at_stop ∙ wait_found part j stop_inside (ap decides (sym seen_is) ∙ d))

      -- or nothing
      pub goes-on : decides v ≡ false → (m : ℕ) → m ≡ beyond_of part (j + 1) → Goes part seen m
      goes-on d m h =
          let b = beyond_goes part (j + 1) (omega (arith, stop_inside)) in
          (omega (arith, i.0, bounds.0, h, b.0), omega (arith, h, b.1), at_stop ∙ wait_on part j stop_inside (ap decides (sym seen_is) ∙ d) ∙ b.2 ∙ ap (waited_of part) (sym h))

    pub goes_far : (m : ℕ) → m ≡ beyond_of part (j + 1) → length part - m < length part - q
    goes_far m h = let b = beyond_goes part (j + 1) (omega (arith, stop_inside)) in omega (arith, stop_inside, bounds.0, h, b.0)
