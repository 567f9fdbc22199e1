-- A piece of a text: the next bytes stand behind those that are kept, and the rest is as it was. Assumes nothing.
use Rattle.std.proofs.Common.{Ok, Err}
use Prim.Native.Nat.{ℕ, zero, suc, min, ◌+◌, ◌-◌, ◌≤◌}
use native.Mathlib.Nat.{not-suc-le-zero, le_of_suc-le-suc}
use native.Mathlib.Omega.{arith, min_cases}
use mathlib.Core.Bool.{Bool, true, false, cond}
use mathlib.Core.List.{List, [], ◌∷◌, ◌++◌, append-nil}
use mathlib.Core.Path.{◌≡◌, refl, sym, ap, ◌∙◌}
use lib.Dec.{eqb}
use lib.ListN.{length, take, drop, length-append, length-drop, drop_of_length-le}
use lib.Seq.{length-take-le, take_all, take-append-le, drop-append-add, drop-drop}
use borrow.Rule.Slice.PartMut.{put_mid}
use Rattle.lines.specs.Ascii.{ascii}
use Rattle.lines.specs.Out.{put}
use Rattle.lines.specs.Over.{over}
use Rattle.pieces.specs.Pieces.{Outcome, arrived_of, kept_in, piece_of}
use Rattle.pieces.specs.declared.state.Arrival.{Arrival}
use Rattle.pieces.specs.declared.state.Arrived.TheVariants as arrived
use Rattle.text.specs.Refusals.{Told}
use Rattle.text.specs.declared.refusal.Refusal.{Refusal}
use Rattle.text.proofs.Lists.{tail_part}
use Rattle.arrivals.specs.Arrives.{next_of, piece_text}
use Rattle.arrivals.specs.declared.arrive_text.Stand.{Stand}
use Rattle.arrivals.specs.inner.Stands.{next_by, held_in, told_in, said_text, Turned}
use Rattle.arrivals.proofs.AnyLaws.{front_both}
use Rattle.arrivals.proofs.CallLaws.{whole_part}

-- ---- the state behind a piece

next_choice : (z : Bool) (n : ℕ) (d : Refusal) (s a : Arrival) → next_by s (cond z (arrived.Given n a) (arrived.Stopped n d a)) ≡ a
next_choice true n d s a = refl
next_choice false n d s a = refl

pub next_says : (s : Arrival) (told : Told Outcome) → next_by s (arrived_of told) ≡ next_of s told
next_says s (Ok o) = next_choice (eqb o.next.refusal.number 0) (length o.entries) o.next.refusal s o.next
next_says s (Err r) = refl

-- ---- bytes over others, and a front of them

-- as many as there are
least_taken : (k m : ℕ) (s : List ℕ) → length s ≡ m → take (min k m) s ≡ take k s
least_taken k m s e =
    min_cases k m _ (λ p q. ap (λ (i : ℕ). take i s) q)
    λ p q. ap (λ (i : ℕ). take i s) q ∙ take_all m s (omega (arith, e)) ∙ sym (take_all k s (omega (arith, e, p)))

-- where there is room for all
pub over_whole : (s d : List ℕ) → length s ≤ length d → over s d ≡ s ++ drop (length s) d
unfolding over
over_whole [] d h = refl
over_whole (a ∷ s) [] h = absurd (not-suc-le-zero h)
over_whole (a ∷ s) (b ∷ d) h = ap (λ (l : List ℕ). a ∷ l) (over_whole s d (le_of_suc-le-suc h))

over_dropped : (s d : List ℕ) (k : ℕ) → length s ≤ k → drop k (over s d) ≡ drop k d
unfolding over
over_dropped [] d k h = refl
over_dropped (a ∷ s) [] k h = refl
over_dropped (a ∷ s) (b ∷ d) zero h = absurd (not-suc-le-zero h)
over_dropped (a ∷ s) (b ∷ d) (suc k) h = over_dropped s d k (le_of_suc-le-suc h)

-- ---- the bytes, moved

module _ (text : List ℕ) (kept from n : ℕ) (h : kept ≤ from) (l : from + n ≤ length text) where
  -- the next n bytes
  abbrev piece : List ℕ
  piece = take n (drop from text)

  piece_long : length piece ≡ n
  piece_long = length-take-le n (drop from text) (omega (arith, length-drop from text))

  -- what stands behind those that are kept
  moved_over : (part q : List ℕ) → part ≡ take (length text - kept) (drop kept text) → q ≡ over (take n (drop (from - kept) part)) part → q ≡ over piece (drop kept text)
  moved_over part q e f =
      let all : part ≡ drop kept text = e ∙ tail_part text kept in
      let there : kept + (from - kept) ≡ from = omega arith in
      f ∙ ap (λ (x : List ℕ). over (take n (drop (from - kept) x)) x) all
      ∙ ap (λ (x : List ℕ). over (take n x) (drop kept text)) (drop-drop (from - kept) kept text ∙ ap (λ (k : ℕ). drop k text) there)

  pub moved_text : (q : List ℕ) → q ≡ over (take n (drop (from - kept) (take (length text - kept) (drop kept text)))) (take (length text - kept) (drop kept text))
      → put_mid kept (length text - kept) text q ≡ take kept text ++ over piece (drop kept text)
  moved_text q e =
      let most : length (drop kept text) ≤ length text - kept = omega (arith, length-drop kept text) in
      let none : drop (length text - kept) (drop kept text) ≡ [] = drop_of_length-le (drop kept text) most in
      ap (λ (x : List ℕ). take kept text ++ (q ++ x)) none
      ∙ ap (λ (x : List ℕ). take kept text ++ x) (append-nil q ∙ moved_over (take (length text - kept) (drop kept text)) q refl e)

  module _ (moved : List ℕ) (e : moved ≡ take kept text ++ over piece (drop kept text)) where
    kept_long : kept ≡ length (take kept text)
    kept_long = sym (length-take-le kept text (omega arith))

    -- what is kept, and the piece
    pub held_front : take (kept + n - 0) moved ≡ take kept text ++ piece
    held_front =
        whole_part (kept + n) moved
        ∙ front_both (take kept text) piece text moved kept refl kept_long e n (sym piece_long) (omega arith)

    rest_moved : drop (from + n) moved ≡ drop (from + n) text
    rest_moved =
        let there : length (take kept text) + (from - kept + n) ≡ from + n = omega (arith, kept_long) in
        let behind : kept + (from - kept + n) ≡ from + n = omega arith in
        ap (drop (from + n)) e ∙ ap (λ (k : ℕ). drop k (take kept text ++ over piece (drop kept text))) (sym there)
        ∙ drop-append-add (take kept text) (over piece (drop kept text)) (from - kept + n)
        ∙ over_dropped piece (drop kept text) (from - kept + n) (omega (arith, piece_long))
        ∙ drop-drop (from - kept + n) kept text ∙ ap (λ (k : ℕ). drop k text) behind

    module _ (buffer : List ℕ) (long : length buffer ≡ kept + n) where
      -- the rest of the text, behind the buffer
      pub rest_left : drop (from + n) (put_mid 0 (kept + n - 0) moved buffer) ≡ drop (from + n) text
      rest_left =
          let there : length buffer + (from - kept) ≡ from + n = omega (arith, long) in
          let behind : (kept + n - 0) + (from - kept) ≡ from + n = omega arith in
          ap (λ (k : ℕ). drop k (buffer ++ drop (kept + n - 0) moved)) (sym there)
          ∙ drop-append-add buffer (drop (kept + n - 0) moved) (from - kept)
          ∙ drop-drop (from - kept) (kept + n - 0) moved ∙ ap (λ (k : ℕ). drop k moved) behind ∙ rest_moved

      -- what is kept of it, as far as there is any
      pub kept_left : (k m : ℕ) → m ≡ min k (kept + n) → take m (put_mid 0 (kept + n - 0) moved buffer) ≡ take k buffer
      kept_left k m f =
          take-append-le m buffer (drop (kept + n - 0) moved) (omega (arith, f, long))
          ∙ ap (λ (i : ℕ). take i buffer) f ∙ least_taken k (kept + n) buffer long

-- ---- where the text stands behind a piece

module _ (s : Stand) (n : ℕ) (text : List ℕ) (room : ℕ) (h : s.kept ≤ s.from) (l : s.from + n ≤ length text) where
  abbrev moves : List ℕ → List ℕ
  moves q = put_mid s.kept (length text - s.kept) text q

  abbrev part : List ℕ
  part = take (length text - s.kept) (drop s.kept text)

  module _ (q : List ℕ) (e : q ≡ over (take n (drop (s.from - s.kept) part)) part) where
    is_moved : moves q ≡ take s.kept text ++ over (take n (drop s.from text)) (drop s.kept text)
    is_moved = moved_text text s.kept s.from n h l q e

    is_held : take (s.kept + n - 0) (moves q) ≡ held_in s n text
    unfolding held_in
    is_held = held_front text s.kept s.from n h l (moves q) is_moved

    -- the piece that the code gives
    abbrev told : Told Outcome
    told = piece_of s.state (take (s.kept + n - 0) (moves q)) n room

    is_told : told ≡ told_in s n text room
    is_told = ap (λ (x : List ℕ). piece_of s.state x n room) is_held

    pub turned_said : (out end : List ℕ × ℕ) → end ≡ put out (piece_text told ++ ascii " | ") → end ≡ put out (said_text s n text room)
    turned_said out end p = p ∙ ap (λ (x : Told Outcome). put out (piece_text x ++ ascii " | ")) is_told

    pub turned : (buffer : List ℕ) → buffer ≡ kept_in told (take (s.kept + n - 0) (moves q)) → length buffer ≡ length (take (s.kept + n - 0) (moves q))
        → (left : Arrival) → left ≡ next_of s.state told → (k : ℕ) → k ≡ min left.kept (s.kept + n) → (at : ℕ)
        → Turned s n text room (record { state = left; kept = k; from = s.from + n; at = at }) (put_mid 0 (s.kept + n - 0) (moves q) buffer)
    turned buffer b same left f k g at =
        let is-next : left ≡ next_of s.state (told_in s n text room) = f ∙ ap (next_of s.state) is_told in
        let long : length buffer ≡ s.kept + n = same ∙ held_long in
        let is_kept : buffer ≡ kept_in (told_in s n text room) (held_in s n text) =
        b ∙ ap (λ (x : Told Outcome). kept_in x (take (s.kept + n - 0) (moves q))) is_told ∙ ap (kept_in (told_in s n text room)) is_held in (
          is-next,
          kept_left text s.kept s.from n h l (moves q) is_moved buffer long left.kept k g
              ∙ ap (take left.kept) is_kept
              ∙ ap (λ (a : Arrival). take a.kept (kept_in (told_in s n text room) (held_in s n text))) is-next,
          refl,
          omega (arith, g),
          rest_left text s.kept s.from n h l (moves q) is_moved buffer long,
        )
      where
        held_long : length (take (s.kept + n - 0) (moves q)) ≡ s.kept + n
        held_long =
            ap length is_moved_front ∙ length-append (take s.kept text) (take n (drop s.from text))
            ∙ omega (arith, length-take-le s.kept text (omega arith), length-take-le n (drop s.from text) (omega (arith, length-drop s.from text)))
          where
            is_moved_front : take (s.kept + n - 0) (moves q) ≡ take s.kept text ++ take n (drop s.from text)
            is_moved_front = held_front text s.kept s.from n h l (moves q) is_moved
