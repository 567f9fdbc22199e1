-- Where a text stands behind a run of bytes: the code's numbers say what specs/Pieces says of the bytes behind the last entry's end.
--     Agrees           what stops the text, what is open and what is kept are the same by both
--     agrees_within, agrees_stopped, agrees_behind    so they are, wherever it stands
-- Assumes nothing.
use Prim.Native.Nat.{ℕ, ◌+◌, ◌-◌, ◌<◌, ◌≤◌, ◌^◌}
use native.Mathlib.Omega.{arith}
use mathlib.Core.Bool.{Bool, true, false, cond}
use mathlib.Core.List.{List, [], ◌∷◌, ◌++◌}
use mathlib.Core.Path.{◌≡◌, ap, refl, sym, ◌∙◌}
use lib.Dec.{leb, ltb}
use lib.ListN.{drop, length, length-drop, take, take-append-drop}
use lib.Seq.{drop-append-le, length-take-le}
use borrow.Author.Tests.{le-leb, le-ltb, lt-leb, lt-ltb}
use Rattle.text.proofs.Choices.{bool_cases, either, lt_or_le}
use Rattle.text.specs.Refusals.{entry_too_long, unexpected_char}
use Rattle.text.specs.declared.refusal.Refusal.{Refusal}
use Rattle.comments.specs.Gaps.{gap_from, gap_of}
use Rattle.comments.specs.declared.gap.Gap.{Gap}
use Rattle.comments.specs.declared.gap.Gap.TheVariants as gap
use Rattle.reading.proofs.Steps.{drop_on}
use Rattle.octets.proofs.Cutting.{cut_few}
use Rattle.octets.specs.Octets.{Cut}
use Rattle.gaps.specs.Opens.{kept_of, open_of}
use Rattle.gaps.specs.Passes.{passed_of}
use Rattle.gaps.specs.declared.pass.Passed.{Passed}
use Rattle.gaps.specs.declared.state.Open.{Open}
use Rattle.gaps.specs.declared.state.Open.TheVariants.{Clear}
use Rattle.arriving.specs.Arrivals.{Passing, halt, pass}
use Rattle.pieces.proofs.CutLaws.{gap_cut}
use Rattle.pieces.proofs.PassedLaws.{Passes, odd_stays, passes}
use Rattle.pieces.specs.Bars.{bar_by, bar_of, most_held}
use Rattle.pieces.specs.Come.{Standing, behind, stopped, within}
use Rattle.pieces.specs.Pieces.{by_bar, kept_at, no_refusal, open_at, stop_by}
use Rattle.pieces.specs.inner.Runs.{stands_by}
use Rattle.pieces.specs.inner.Steps.{StopFits, kept_from, open_in, stop_of}
use Rattle.pieces.specs.declared.turn.Stands.{Stands}
use Rattle.pieces.specs.declared.turn.Stands.TheVariants as stands

-- ---- what bars the next byte

-- something has begun
bar_begun : (at g b : ℕ) (rest : List ℕ) → gap_of rest ≡ gap.Clear g → bar_of at rest b ≡ cond (leb (g + most_held) (length rest)) (halt (entry_too_long (at + g))) pass
unfolding bar_of
bar_begun at g b rest e = ap (bar_by at rest) e

-- nothing has begun, or too little
pub bar_free : (at b : ℕ) (rest : List ℕ) → ((g : ℕ) → gap_of rest ≡ gap.Clear g → length rest < g + most_held) → bar_of at rest b ≡ pass
unfolding bar_of
bar_free at b rest f = go (gap_of rest) refl
  where
    go : (a : Gap) → gap_of rest ≡ a → bar_by at rest a ≡ pass
    go (gap.Clear g) e = ap (λ (t : Bool). cond t (halt (entry_too_long (at + g))) pass) (lt-leb (g + most_held) (length rest) (f g e))
    go (gap.InLine n) e = refl
    go (gap.Refused r) e = refl

-- a byte that is barred: by 30 at the start of what has begun
pub bar_halts : (at b : ℕ) (rest : List ℕ) (d : Refusal) → bar_of at rest b ≡ halt d → (g : ℕ) × (g ≤ length rest) × (d ≡ entry_too_long (at + g))
unfolding bar_of
bar_halts at b rest d h = go (gap_of rest) h
  where
    go : (a : Gap) → bar_by at rest a ≡ halt d → (g : ℕ) × (g ≤ length rest) × (d ≡ entry_too_long (at + g))
    go (gap.Clear g) e =
        either (lt_or_le (length rest) (g + most_held))
        (λ l. let z : pass ≡ halt d = ap (λ (t : Bool). cond t (halt (entry_too_long (at + g))) pass) (sym (lt-leb (g + most_held) (length rest) l)) ∙ e in
        let y : ◌≡◌ {A = ℕ} 0 1 = cc in absurd (omega arith))
        (λ l. let z : halt (entry_too_long (at + g)) ≡ halt d = ap (λ (t : Bool). cond t (halt (entry_too_long (at + g))) pass) (sym (le-leb (g + most_held) (length rest) l)) ∙ e in
        (g, omega arith, cc))
    go (gap.InLine n) e = let y : ◌≡◌ {A = ℕ} 0 1 = cc in absurd (omega arith)
    go (gap.Refused r) e = let y : ◌≡◌ {A = ℕ} 0 1 = cc in absurd (omega arith)

-- ---- the same by both

-- what is open and kept where the text goes on, the bytes behind `whole` being those of a character that has not come whole
pub record On (s : List ℕ) (whole : ℕ) (t : Standing) (n : Stands) : Type 0 where
  pub opens : open_at t (length (drop whole s)) ≡ open_in n
  pub keeps : kept_at t (drop whole s) ≡ drop (kept_from n whole) s
  pub from : kept_from n whole ≤ length s

-- the text goes on where no refusal is given: then no byte follows
pub record GoesOn (s : List ℕ) (whole : ℕ) (t : Standing) (n : Stands) (follows : Bool) (d : Refusal) : Type 0 where
  pub all : follows ≡ false
  pub none : d ≡ no_refusal
  pub on : On s whole t n

pub record Agrees (s : List ℕ) (whole : ℕ) (t : Standing) (n : Stands) : Type 0 where
  pub stops : (base : ℕ) (follows : Bool) (why : Refusal) → stop_by t base follows why ≡ stop_of n (length s) base follows why
  pub fits : (base : ℕ) → base + length s < 2 ^ 64 → StopFits n (length s) base
  pub goes : (base : ℕ) (follows : Bool) (why : Refusal) → 0 < why.number → (stop_of n (length s) base follows why).number ≡ 0
      → GoesOn s whole t n follows (stop_of n (length s) base follows why)

-- where a byte that follows is refused
goes_barred : (s : List ℕ) (whole : ℕ) (t : Standing) (n : Stands) (follows : Bool) (d : Refusal) → On s whole t n → 0 < d.number → (cond follows d no_refusal).number ≡ 0
    → GoesOn s whole t n follows (cond follows d no_refusal)
goes_barred s whole t n true d o h e = absurd (omega arith)
goes_barred s whole t n false d o h e = record { all = refl; none = refl; on = o }

pub agrees_stopped : (s : List ℕ) (whole : ℕ) (d : Refusal) → 0 < d.number → d.place ≤ length s → Agrees s whole (stopped d) (stands.Stopped d)
agrees_stopped s whole d h l = record {
  stops = λ base follows why. refl;
  fits = λ base k. omega arith;
  goes = λ base follows why g e. absurd (omega arith);
}

pub agrees_within : (s : List ℕ) (whole : ℕ) (o : Open) → whole ≤ length s → Agrees s whole (within o) (stands.Within o)
agrees_within s whole o h = record {
  stops = λ base follows why. refl;
  fits = λ base k. tt;
  goes = λ base follows why g e. goes_barred s whole (within o) (stands.Within o) follows why (record { opens = refl; keeps = refl; from = h }) g e;
}

module _ (s : List ℕ) (whole : ℕ) (inside : whole ≤ length s) (c : Cut (drop whole s)) (at : ℕ) (h : at ≤ length s) where
  -- what stands behind the last entry's end, and its whole characters
  abbrev rest : List ℕ
  rest = drop at s

  abbrev cut : ℕ
  cut = length s - whole

  abbrev x : List ℕ
  x = take (length (drop at s) - (length s - whole)) (drop at s)

  cut_is : length (drop whole s) ≡ cut
  cut_is = length-drop whole s

  cut_small : cut ≤ 3
  cut_small = omega (arith, cut_is, cut_few c)

  x_length : length x ≡ length rest - cut
  x_length = length-take-le (length rest - cut) rest (omega arith)

  -- where there is one, the rest is these and then the bytes of a character
  split : 0 < length x → rest ≡ x ++ drop whole s
  split p =
      let e : at + (length rest - cut) ≡ whole = omega (arith, length-drop at s, x_length) in
      sym (take-append-drop (length rest - cut) rest) ∙ ap (λ (v : List ℕ). x ++ v) (drop_on at (length rest - cut) whole s e)

  -- what is kept of them is all from some place on
  kept-from : (k : ℕ) → 0 < length x → k ≤ length x → drop k x ++ drop whole s ≡ drop (at + k) s
  kept-from k p l =
      sym (drop-append-le k x (drop whole s) l) ∙ ap (drop k) (sym (split p)) ∙ drop_on at k (at + k) s refl

  -- the standing's own numbers
  open_is : (o : Open) → open_of x ≡ o → open_at (behind at rest) (length (drop whole s)) ≡ o
  open_is o e = ap (λ (k : ℕ). open_of (take (length rest - k) rest)) cut_is ∙ e

  kept_is : (k : List ℕ) → kept_of x ≡ k → kept_at (behind at rest) (drop whole s) ≡ k ++ drop whole s
  kept_is k e = ap (λ (n : ℕ). kept_of (take (length rest - n) rest) ++ drop whole s) cut_is ∙ ap (λ (v : List ℕ). v ++ drop whole s) e

  -- nothing bars the next byte
  free : (base : ℕ) (follows : Bool) (why : Refusal) → ((g : ℕ) → gap_of rest ≡ gap.Clear g → length rest < g + most_held) → stop_by (behind at rest) base follows why ≡ cond follows why no_refusal
  free base follows why f = ap (λ (q : Passing). cond follows (by_bar q base why) no_refusal) (bar_free at 0 rest f)

  begun_agrees : (k : ℕ) → k < length x → gap_of x ≡ gap.Clear k → open_of x ≡ Clear → kept_of x ≡ drop k x → Agrees s whole (behind at rest) (stands.Begun (at + k))
  begun_agrees k l g o e =
      let some : 0 < length x = omega arith in
      let begins : gap_of rest ≡ gap.Clear k = ap gap_of (split some) ∙ gap_cut x (drop whole s) k g l c in
      let long : length s ≡ at + length rest = omega (arith, length-drop at s) in
      let low : at + k ≤ length s = omega (arith, x_length) in
      record {
        stops = λ base follows why. (ap (λ (q : Passing). cond follows (by_bar q base why) no_refusal) (bar_begun at k 0 rest begins)
            ∙ either (lt_or_le (length s - (at + k)) most_held)
            (λ p. rw (lt-ltb (length s - (at + k)) most_held p, lt-leb (k + most_held) (length rest) (omega arith)))
            (λ p. rw (le-ltb (length s - (at + k)) most_held p, le-leb (k + most_held) (length rest) (omega arith))));
        fits = λ base n. (low, omega arith);
        goes = λ base follows why p q. goes_barred s whole (behind at rest) (stands.Begun (at + k)) follows (cond (ltb (length s - (at + k)) most_held) why (entry_too_long (base + (at + k))))
            (record { opens = open_is Clear o; keeps = kept_is (drop k x) e ∙ kept-from k some (omega arith); from = low })
            (either (bool_cases (ltb (length s - (at + k)) most_held)) (λ t. rw t p) (λ t. rw t (omega arith))) q;
      }

  within_agrees : (o : Open) → open_of x ≡ o → kept_of x ≡ [] → ((v : List ℕ) (g : ℕ) → gap_of (x ++ v) ≡ gap.Clear g → length x ≤ g) → Agrees s whole (behind at rest) (stands.Within o)
  within_agrees o e k f =
      let small : (g : ℕ) → gap_of rest ≡ gap.Clear g → length rest < g + most_held =
      λ g q. either (lt_or_le 0 (length x))
      (λ p. let b = f (drop whole s) g (ap gap_of (sym (split p)) ∙ q) in omega (arith, x_length, cut_small))
      (λ p. omega (arith, x_length, cut_small)) in
      record {
        stops = λ base follows why. free base follows why small;
        fits = λ base n. tt;
        goes = λ base follows why p q. goes_barred s whole (behind at rest) (stands.Within o) follows why (record { opens = open_is o e; keeps = kept_is [] k; from = inside }) p q;
      }

  odd_some : (p : ℕ) → gap_of x ≡ gap.Refused (unexpected_char p) → 0 < length x
  unfolding gap_of gap_from
  odd_some p g = go x g
    where
      go : (y : List ℕ) → gap_from y 0 0 ≡ gap.Refused (unexpected_char p) → 0 < length y
      go [] e = let z : ◌≡◌ {A = ℕ} 0 1 = cc in absurd (omega arith)
      go (b ∷ y) e = omega arith

  odd_agrees : (p : ℕ) → gap_of x ≡ gap.Refused (unexpected_char p) → open_of x ≡ Clear → kept_of x ≡ x → Agrees s whole (behind at rest) (stands.Held at)
  odd_agrees p g o e =
      let some = odd_some p g in
      let small : (n : ℕ) → gap_of rest ≡ gap.Clear n → length rest < n + most_held = λ n q. absurd (odd_stays x (drop whole s) p n g (ap gap_of (sym (split some)) ∙ q)) in
      let z : at + 0 ≡ at = omega arith in
      record {
        stops = λ base follows why. free base follows why small;
        fits = λ base n. tt;
        goes = λ base follows why i q. goes_barred s whole (behind at rest) (stands.Held at) follows why
            (record { opens = open_is Clear o; keeps = kept_is x e ∙ kept-from 0 some (omega arith) ∙ ap (λ (k : ℕ). drop k s) z; from = h }) i q;
      }

  by_passes : {p : Passed} → Passes x p → Agrees s whole (behind at rest) (stands_by p at)
  by_passes (Passes.begins k l g o e) = begun_agrees k l g o e
  by_passes (Passes.within o e k f) = within_agrees o e k f
  by_passes (Passes.unexpected p g o e) = odd_agrees p g o e

  pub agrees_behind : Agrees s whole (behind at (drop at s)) (stands_by (passed_of Clear (take (length (drop at s) - (length s - whole)) (drop at s))) at)
  agrees_behind = by_passes (passes x)
