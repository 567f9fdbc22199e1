-- `Q NUMBERS STATE KEPT PIECE`, word by word. Assumes nothing.
use Rattle.std.specs.Prelude.{Option, Some, None}
use Prim.Native.Nat.{ℕ, ◌+◌, ◌-◌, ◌≤◌}
use native.Mathlib.Omega.{arith}
use mathlib.Core.Bool.{Bool, true, false, cond}
use mathlib.Core.List.{List, [], ◌++◌, append-nil}
use mathlib.Core.Path.{◌≡◌, refl, sym, ap, subst, ◌∙◌}
use lib.Dec.{eqb}
use lib.ListN.{length, take, drop, length-drop, drop_of_length-le}
use lib.Seq.{take-append_seam, take-append-add}
use borrow.Author.Tests.{eq-eqb, ne_eqb}
use borrow.Rule.Slice.PartMut.{put_mid}
use Rattle.lines.specs.Out.{put}
use Rattle.lines.specs.Over.{over}
use Rattle.lines.proofs.Laws.{over_front}
use Rattle.pieces.specs.Ends.{finish_of}
use Rattle.pieces.specs.declared.state.Arrival.{Arrival}
use Rattle.show.specs.Answers.{bad_text}
use Rattle.stored.specs.Numbers.{state_of}
use Rattle.text.proofs.Choices.{cond_cases}
use Rattle.text.proofs.Lists.{tail_part}
use Rattle.words.specs.Hex.{hex_in, pairs}
use Rattle.words.specs.Number.{decimal_of}
use Rattle.words.specs.Numbers.{numbers_in, numbers_of}
use Rattle.words.specs.Said.{by_number, by_hex, by_list}
use Rattle.words.specs.Split.{first_word, behind_word}
use Rattle.words.proofs.SaidLaws.{hex_said, tape_said}
use Rattle.arrivals.specs.Arrives.{end_text}
use Rattle.arrivals.specs.States.{spoken_by}
use Rattle.arrivals.specs.Any.{is_end, last_by, last_of, spoken_of, piece_line, call_by, call_text, unfit_text, room_for, state_line, any_line}
use Rattle.arrivals.specs.declared.arrive_any.Last.{Last}
use Rattle.arrivals.specs.declared.arrive_any.Last.TheVariants as last
use Rattle.arrivals.specs.declared.states.Spoken.{Spoken}
use Rattle.arrivals.specs.declared.states.Spoken.TheVariants as spoken
use Rattle.arrivals.specs.inner.Calls.{Holds, called_text}
use Rattle.arrivals.proofs.WordLaws.{hex_fits}

-- ---- the last word

module _ (word : List ℕ) (room : ℕ) where
  pub last_piece : (n : ℕ) → hex_in word room ≡ Some n → last.Piece n ≡ last_of word room
  unfolding last_of
  last_piece n e = sym (ap (λ (h : Option ℕ). last_by h word) e)

  pub last_end : hex_in word room ≡ None → is_end word ≡ true → last.End ≡ last_of word room
  unfolding last_of
  last_end e f = sym (ap (λ (h : Option ℕ). last_by h word) e ∙ ap (λ (b : Bool). cond b last.End last.Bad) f)

  pub last_none : hex_in word room ≡ None → is_end word ≡ false → last.Bad ≡ last_of word room
  unfolding last_of
  last_none e f = sym (ap (λ (h : Option ℕ). last_by h word) e ∙ ap (λ (b : Bool). cond b last.End last.Bad) f)

module _ (word text : List ℕ) (k : ℕ) where
  -- the room behind the first k
  pub last_room : (r : Option ℕ) → r ≡ hex_in word (length (take (length text - k) (drop k text))) → r ≡ hex_in word (length text - k)
  last_room r e = e ∙ ap (λ (s : List ℕ). hex_in word (length s)) (tail_part text k) ∙ ap (hex_in word) (length-drop k text)

  pub last_held : (left : List ℕ) → left ≡ over (pairs word) (take (length text - k) (drop k text))
      → put_mid k (length text - k) text left ≡ take k text ++ over (pairs word) (drop k text)
  last_held left e =
      let most : length (drop k text) ≤ length text - k = omega (arith, length-drop k text) in
      let none : drop (length text - k) (drop k text) ≡ [] = drop_of_length-le (drop k text) most in
      ap (λ (x : List ℕ). take k text ++ (left ++ x)) none
      ∙ ap (λ (x : List ℕ). take k text ++ x) (append-nil left ∙ e ∙ ap (over (pairs word)) (tail_part text k))

-- ---- the state

module _ (word : List ℕ) (kept : ℕ) (tape : List ℕ) where
  abbrev nine : Bool → Spoken
  nine b = cond b (spoken_by (state_of (numbers_of word) kept)) spoken.Bad

  spoken-by : (k : Option ℕ) (b : Bool) → numbers_in word (length tape) ≡ k → eqb (length (numbers_of word)) 9 ≡ b
      → spoken_of word kept (length tape) ≡ by_list k spoken.Bad (nine b)
  unfolding spoken_of
  spoken-by k b e f =
      ap (λ (x : Option ℕ). by_list x spoken.Bad (nine (eqb (length (numbers_of word)) 9))) e ∙ ap (λ (x : Bool). by_list k spoken.Bad (nine x)) f

  pub no_numbers : numbers_in word (length tape) ≡ None → spoken.Bad ≡ spoken_of word kept (length tape)
  no_numbers e = sym (spoken-by None (eqb (length (numbers_of word)) 9) e refl)

  module _ (n : ℕ) (e : numbers_in word (length tape) ≡ Some n) (stored s : List ℕ) (l : stored ≡ over (numbers_of word) tape) (f : s ≡ take n stored) where
    same : s ≡ numbers_of word
    same = tape_said word tape stored s n e l f

    pub not_nine : (length s ≡ 9 → ⊥) → spoken.Bad ≡ spoken_of word kept (length tape)
    not_nine h =
        sym (spoken-by (Some n) false e (ap (λ (x : List ℕ). eqb (length x) 9) (sym same) ∙ ne_eqb (length s) 9 h))

    pub nine_said : length s ≡ 9 → (r : Spoken) → r ≡ spoken_by (state_of s kept) → r ≡ spoken_of word kept (length tape)
    nine_said h r p =
        p ∙ ap (λ (x : List ℕ). spoken_by (state_of x kept)) same
        ∙ sym (spoken-by (Some n) true e (ap (λ (x : List ℕ). eqb (length x) 9) (sym same) ∙ eq-eqb (length s) 9 h))

-- ---- what is held

module _ (word : List ℕ) (room k space : ℕ) (h : k + room ≤ space) where
  holds_by : (x : Option ℕ) → hex_in word room ≡ x → Holds (last_by x word) k space
  holds_by (Some n) e = let fits : n ≤ room = (hex_fits word room n e).1 in omega arith
  holds_by None e = cond_cases (λ (l : Last). Holds l k space) (is_end word) last.End last.Bad (λ t. tt) (λ f. tt)

  pub holds_last : (l : Last) → l ≡ last_of word room → Holds l k space
  unfolding last_of
  holds_last l e = subst (λ (x : Last). Holds x k space) (sym e) (holds_by (hex_in word room) refl)

-- the bytes kept and the piece stand at the front
module _ (kept w text held : List ℕ) (k : ℕ) (f : take k text ≡ kept) (g : k ≡ length kept) (e : held ≡ take k text ++ over w (drop k text)) where
  both : held ≡ kept ++ over w (drop k text)
  both = e ∙ ap (λ (x : List ℕ). x ++ over w (drop k text)) f

  pub front_kept : take k held ≡ kept
  front_kept = ap (take k) both ∙ ap (λ (n : ℕ). take n (kept ++ over w (drop k text))) g ∙ take-append_seam kept (over w (drop k text))

  pub front_both : (n : ℕ) → n ≡ length w → n ≤ length text - k → take (k + n) held ≡ kept ++ w
  front_both n p h =
      ap (take (k + n)) both ∙ ap (λ (m : ℕ). take (m + n) (kept ++ over w (drop k text))) g ∙ take-append-add kept (over w (drop k text)) n
      ∙ ap (λ (x : List ℕ). kept ++ x) (ap (λ (m : ℕ). take m (over w (drop k text))) p ∙ over_front w (drop k text) (omega (arith, p, h, length-drop k text)))

-- ---- the call

module _ (word kept text held : List ℕ) (k : ℕ) (f : take k text ≡ kept) (g : k ≡ length kept)
    (e : held ≡ take k text ++ over (pairs word) (drop k text)) (a : Arrival) (room : ℕ) where
  abbrev Same : Last → Type 0
  Same l = called_text l a k held room ≡ call_by l a kept (pairs word) room

  called_by : (x : Option ℕ) → hex_in word (length text - k) ≡ x → Same (last_by x word)
  called_by (Some n) h =
      let fits : (n ≡ length (pairs word)) × (n ≤ length text - k) = hex_fits word (length text - k) n h in
      ap (λ (s : List ℕ). piece_line a s n room) (front_both kept (pairs word) text held k f g e n fits.0 fits.1)
      ∙ ap (λ (m : ℕ). piece_line a (kept ++ pairs word) m room) fits.0
  called_by None h =
      cond_cases Same (is_end word) last.End last.Bad
      (λ t. ap (λ (s : List ℕ). end_text (finish_of a s room)) (front_kept kept (pairs word) text held k f g e)) (λ t. refl)

  -- what is said of the text is said of what is kept and the piece
  pub called_same : (l : Last) → l ≡ last_of word (length text - k) → called_text l a k held room ≡ call_by l a kept (pairs word) room
  unfolding last_of
  called_same l p = subst Same (sym p) (called_by (hex_in word (length text - k)) refl)

-- ---- `STATE KEPT PIECE`

module _ (n : ℕ) (words : List ℕ) (space numbers : ℕ) (out end : List ℕ × ℕ) where
  abbrev kept_word : List ℕ
  kept_word = first_word (behind_word words)

  abbrev last_word : List ℕ
  last_word = behind_word (behind_word words)

  abbrev line_own : Spoken → Last → List ℕ
  line_own sp l = call_text sp l (pairs kept_word) (pairs last_word) (room_for n numbers)

  abbrev line_by : Option ℕ → List ℕ
  line_by h = by_hex h bad_text (line_own (spoken_of (first_word words) (length (pairs kept_word)) numbers) (last_of last_word (space - length (pairs kept_word))))

  line_bad : hex_in kept_word space ≡ None → end ≡ put out bad_text → end ≡ put out (state_line n words space numbers)
  unfolding state_line
  line_bad e p = p ∙ sym (ap (λ (h : Option ℕ). put out (line_by h)) e)

  line_good : (k : ℕ) → hex_in kept_word space ≡ Some k → (sp : Spoken) → sp ≡ spoken_of (first_word words) k numbers
      → (l : Last) → l ≡ last_of last_word (space - k) → end ≡ put out (line_own sp l) → end ≡ put out (state_line n words space numbers)
  unfolding state_line
  line_good k e sp q l r p =
      p ∙ ap (λ (x : Spoken). put out (line_own x l)) q ∙ ap (λ (x : Last). put out (line_own (spoken_of (first_word words) k numbers) x)) r
      ∙ ap (λ (m : ℕ). put out (line_own (spoken_of (first_word words) m numbers) (last_of last_word (space - m)))) (hex_fits kept_word space k e).0
      ∙ sym (ap (λ (h : Option ℕ). put out (line_by h)) e)

-- by what the code's calls say
module _ (n : ℕ) (words text tape two word : List ℕ) (a : two ≡ behind_word words) (b : word ≡ first_word two) (h : Option ℕ) (left : List ℕ)
    (c : h ≡ hex_in word (length text)) (d : left ≡ over (pairs word) text) (out end : List ℕ × ℕ) where
  abbrev Says : Type 0
  Says = end ≡ put out (state_line n words (length text) (length tape))

  is_kept : word ≡ first_word (behind_word words)
  is_kept = b ∙ ap (λ (s : List ℕ). first_word s) a

  reads_kept : h ≡ hex_in (first_word (behind_word words)) (length text)
  reads_kept = c ∙ ap (λ (s : List ℕ). hex_in s (length text)) is_kept

  pub over_no_text : h ≡ None → end ≡ put out bad_text → Says
  over_no_text e p = line_bad n words (length text) (length tape) out end (sym reads_kept ∙ e) p

  module _ (k : ℕ) (e : h ≡ Some k) where
    said_kept : hex_in word (length text) ≡ Some k
    said_kept = sym c ∙ e

    pub kept_fits : k ≤ length text
    kept_fits = (hex_fits word (length text) k said_kept).1

    module _ (third : List ℕ) (f : third ≡ behind_word two) (same : length left ≡ length text) (l : Last) (g : l ≡ last_of third (length left - k)) where
      pub held_fits : (held : List ℕ) → length held ≡ length left → Holds l k (length held)
      held_fits held long = holds_last third (length left - k) k (length held) (omega (arith, kept_fits, same, long)) l g

      is_last : l ≡ last_of (behind_word (behind_word words)) (length text - k)
      is_last =
          g ∙ ap (λ (s : List ℕ). last_of s (length left - k)) (f ∙ ap (λ (s : List ℕ). behind_word s) a)
          ∙ ap (λ (m : ℕ). last_of (behind_word (behind_word words)) (m - k)) same

      module _ (first : List ℕ) (q : first ≡ first_word words) (sp : Spoken) (r : sp ≡ spoken_of first k (length tape)) where
        by_call : end ≡ put out (call_text sp l (pairs (first_word (behind_word words))) (pairs (behind_word (behind_word words))) (room_for n (length tape))) → Says
        by_call p =
            line_good n words (length text) (length tape) out end k (sym reads_kept ∙ e) sp
            (r ∙ ap (λ (s : List ℕ). spoken_of s k (length tape)) q) l is_last p

        pub over_unfit : sp ≡ spoken.Unfit → end ≡ put out (unfit_text l) → Says
        over_unfit v p =
            by_call (p ∙ sym (ap (λ (x : Spoken). put out (call_text x l (pairs (first_word (behind_word words))) (pairs (behind_word (behind_word words))) (room_for n (length tape)))) v))

        pub over_no_state : sp ≡ spoken.Bad → end ≡ put out bad_text → Says
        over_no_state v p =
            by_call (p ∙ sym (ap (λ (x : Spoken). put out (call_text x l (pairs (first_word (behind_word words))) (pairs (behind_word (behind_word words))) (room_for n (length tape)))) v))

        pub over_state : (s : Arrival) → sp ≡ spoken.State s → (held rest : List ℕ) → held ≡ take k left ++ over (pairs third) (drop k left)
            → length rest ≡ length tape → end ≡ put out (called_text l s k held (room_for n (length rest))) → Says
        over_state s v held rest z long p =
            let kept : List ℕ = pairs word in
            let front : take k left ≡ kept = ap (take k) d ∙ hex_said word text k said_kept in
            by_call (p ∙ ap (λ (m : ℕ). put out (called_text l s k held (room_for n m))) long
            ∙ ap (put out) (called_same third kept left held k front (hex_fits word (length text) k said_kept).0 z s (room_for n (length tape)) l g)
            ∙ ap (λ (x : List ℕ). put out (call_by l s (pairs x) (pairs third) (room_for n (length tape)))) is_kept
            ∙ ap (λ (x : List ℕ). put out (call_by l s (pairs (first_word (behind_word words))) (pairs x) (room_for n (length tape)))) (f ∙ ap (λ (s : List ℕ). behind_word s) a)
            ∙ sym (ap (λ (x : Spoken). put out (call_text x l (pairs (first_word (behind_word words))) (pairs (behind_word (behind_word words))) (room_for n (length tape)))) v))

-- ---- `NUMBERS` before them

module _ (words : List ℕ) (space numbers : ℕ) (out end : List ℕ × ℕ) where
  abbrev any_by : Option ℕ → List ℕ
  any_by d = by_number d bad_text (λ n. state_line n (behind_word words) space numbers)

  pub any_bad : decimal_of (first_word words) ≡ None → end ≡ put out bad_text → end ≡ put out (any_line words space numbers)
  unfolding any_line
  any_bad e p = p ∙ sym (ap (λ (d : Option ℕ). put out (any_by d)) e)

  pub any_good : (n : ℕ) → decimal_of (first_word words) ≡ Some n → (rest : List ℕ) → rest ≡ behind_word words
      → end ≡ put out (state_line n rest space numbers) → end ≡ put out (any_line words space numbers)
  unfolding any_line
  any_good n e rest f p =
      p ∙ ap (λ (s : List ℕ). put out (state_line n s space numbers)) f ∙ sym (ap (λ (d : Option ℕ). put out (any_by d)) e)
