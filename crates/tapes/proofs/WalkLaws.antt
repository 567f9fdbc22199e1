-- What is said of a tape that is walked into marked links. Assumes nothing.
use Rattle.std.proofs.Common.{Ok, Err}
use Rattle.std.specs.Prelude.{Option, Some, None}
use Prim.Native.Nat.{ℕ, ◌+◌, ◌-◌, min}
use mathlib.Core.Bool.{Bool}
use mathlib.Core.List.{List, ◌++◌}
use mathlib.Core.Path.{◌≡◌, refl, sym, ap, ◌∙◌}
use lib.ListN.{length, take, drop}
use Rattle.lent.specs.Marks.{mark_at, marked, kept_from}
use Rattle.lines.specs.Out.{put}
use Rattle.lines.specs.Over.{over}
use Rattle.lines.proofs.OutLaws.{then}
use Rattle.read.specs.Read.{read_answer, read_tape}
use Rattle.sarridok.specs.Walked.{walk_of, links_after}
use Rattle.show.specs.Answers.{bad_text, clean_text, refused_text}
use Rattle.show.specs.Walks.{links_text}
use Rattle.text.specs.Refusals.{Told}
use Rattle.text.specs.declared.refusal.Refusal.{Refusal}
use Rattle.words.specs.Hex.{hex_in, pairs}
use Rattle.words.specs.Number.{decimal_of}
use Rattle.words.specs.Numbers.{numbers_in, numbers_of}
use Rattle.words.specs.Said.{by_number, by_hex, by_list}
use Rattle.words.specs.Split.{first_word, behind_word}
use Rattle.lent.proofs.MarkLaws.{marked_length}
use Rattle.words.proofs.SaidLaws.{part_said, tape_said}
use Rattle.lines.proofs.LineLaws.{line4}
use Rattle.tapes.specs.Walks.{asked, links_left, walked_text, walks_text, walk_in, read_walk, walk_of_text, walk_line, front_of, by_said, any_line}
use Rattle.tapes.specs.declared.walks.Asked.{Asked}

-- ---- a walk into marked links

module _ (text tape : List ℕ) (q : Asked) (links before left : List ℕ) (m : before ≡ marked mark_at (length links) 0 links)
    (e : left ≡ links_after text tape q.count q.limit before) where
  pub links-left : left ≡ links_left text tape q links
  unfolding links_left
  links-left = e ∙ ap (links_after text tape q.count q.limit) m

  module _ (out mid end : List ℕ × ℕ) (clean : Bool) (z : end ≡ put mid (clean_text clean)) where
    -- what was told is the walk's answer
    by_told : (a : Told Unit) → a ≡ walk_of text tape q.count q.limit (length before) → end ≡ put out (walked_text a q.count left)
        → end ≡ put out (walks_text text tape q links)
    unfolding walks_text
    by_told a t s =
        let same : length before ≡ length links = ap length m ∙ marked_length mark_at (length links) 0 links in
        s ∙ ap (λ (x : Told Unit). put out (walked_text x q.count left)) (t ∙ ap (walk_of text tape q.count q.limit) same)
        ∙ ap (λ (x : List ℕ). put out (walked_text (walk_of text tape q.count q.limit (length links)) q.count x)) links-left

    pub walked_said : (a : Told Unit) → a ≡ walk_of text tape q.count q.limit (length before) → a ≡ Ok tt → (s : List ℕ) → s ≡ take q.count left
        → mid ≡ put out (links_text s) → clean ≡ kept_from mark_at (drop q.count left) q.count
        → end ≡ put out (walks_text text tape q links)
    walked_said a t g s f p k =
        by_told (Ok tt) (sym g ∙ t)
        (then out mid end (links_text s) (clean_text clean) p z ∙ ap (λ (x : List ℕ). put out (links_text x ++ clean_text clean)) f
        ∙ ap (λ (b : Bool). put out (links_text (take q.count left) ++ clean_text b)) k)

    pub refused_said : (a : Told Unit) → a ≡ walk_of text tape q.count q.limit (length before) → (r : Refusal) → a ≡ Err r
        → mid ≡ put out (refused_text r) → clean ≡ kept_from mark_at left 0 → end ≡ put out (walks_text text tape q links)
    refused_said a t r g p k =
        by_told (Err r) (sym g ∙ t)
        (then out mid end (refused_text r) (clean_text clean) p z ∙ ap (λ (b : Bool). put out (refused_text r ++ clean_text b)) k)

-- ---- the first three words of `W`

module _ (words : List ℕ) where
  -- by what the words say
  abbrev front_by : Option ℕ → Option ℕ → Option ℕ → Option Asked
  front_by a b d = by_number a None (λ limit. by_number b None (λ room. by_number d None (λ count. Some (asked count limit room))))

  front_is : (a b d : Option ℕ) → a ≡ decimal_of (first_word words) → b ≡ decimal_of (first_word (behind_word words))
      → d ≡ decimal_of (first_word (behind_word (behind_word words))) → front_by a b d ≡ front_of words
  unfolding front_of
  front_is a b d e f g =
      ap (λ (x : Option ℕ). front_by x b d) e ∙ ap (λ (x : Option ℕ). front_by (decimal_of (first_word words)) x d) f
      ∙ ap (λ (x : Option ℕ). front_by (decimal_of (first_word words)) (decimal_of (first_word (behind_word words))) x) g

  pub front_first : None ≡ decimal_of (first_word words) → None ≡ front_of words
  front_first e = front_is None (decimal_of (first_word (behind_word words))) (decimal_of (first_word (behind_word (behind_word words)))) e refl refl

  pub front_second : (limit : ℕ) → Some limit ≡ decimal_of (first_word words) → None ≡ decimal_of (first_word (behind_word words))
      → None ≡ front_of words
  front_second limit e f = front_is (Some limit) None (decimal_of (first_word (behind_word (behind_word words)))) e f refl

  pub front_third : (limit room : ℕ) → Some limit ≡ decimal_of (first_word words) → Some room ≡ decimal_of (first_word (behind_word words))
      → None ≡ decimal_of (first_word (behind_word (behind_word words))) → None ≡ front_of words
  front_third limit room e f g = front_is (Some limit) (Some room) None e f g

  pub front_asks : (limit room count : ℕ) → Some limit ≡ decimal_of (first_word words) → Some room ≡ decimal_of (first_word (behind_word words))
      → Some count ≡ decimal_of (first_word (behind_word (behind_word words))) → Some (asked count limit room) ≡ front_of words
  front_asks limit room count e f g = front_is (Some limit) (Some room) (Some count) e f g

-- ---- `W LIMIT LINKS COUNT HEX N,N,..`

-- the fourth word and those behind it
abbrev pub behind3 : List ℕ → List ℕ
behind3 words = behind_word (behind_word (behind_word words))

pub behinds : (words a b d : List ℕ) → a ≡ behind_word words → b ≡ behind_word a → d ≡ behind_word b → d ≡ behind3 words
behinds words a b d e f g = g ∙ ap (λ (s : List ℕ). behind_word s) f ∙ ap (λ (s : List ℕ). behind_word (behind_word s)) e

-- the fourth word, and the list behind it
abbrev pub word4 : List ℕ → List ℕ
word4 words = first_word (behind3 words)

abbrev pub behind4 : List ℕ → List ℕ
behind4 words = behind_word (behind3 words)

module _ (words text tape links : List ℕ) where
  -- what the rooms for text and tape hold afterwards
  abbrev held_text : List ℕ
  held_text = over (pairs (word4 words)) text

  abbrev held_tape : List ℕ
  held_tape = over (numbers_of (behind4 words)) tape

  abbrev any_own : Asked → List ℕ → List ℕ → List ℕ × List ℕ × List ℕ × List ℕ
  any_own q s t = ((walk_in s t q links).0, held_text, held_tape, (walk_in s t q links).1)

  -- by what the words say
  abbrev any_by : Option Asked → Option ℕ → Option ℕ → List ℕ × List ℕ × List ℕ × List ℕ
  any_by d h k =
      by_said d (bad_text, text, tape, links) (λ q.
      by_hex h (bad_text, held_text, tape, links) (by_list k (bad_text, held_text, held_tape, links) (any_own q (pairs (word4 words)) (numbers_of (behind4 words)))))

  any_is : (d : Option Asked) (h : Option ℕ) (k : Option ℕ) → front_of words ≡ d → hex_in (word4 words) (length text) ≡ h → numbers_in (behind4 words) (length tape) ≡ k
      → any_line words text tape links ≡ any_by d h k
  unfolding any_line
  any_is d h k e f g =
      ap (λ (x : Option Asked). any_by x (hex_in (word4 words) (length text)) (numbers_in (behind4 words) (length tape))) e
      ∙ ap (λ (x : Option ℕ). any_by d x (numbers_in (behind4 words) (length tape))) f ∙ ap (λ (x : Option ℕ). any_by d h x) g

  pub any_no_front : front_of words ≡ None → any_line words text tape links ≡ (bad_text, text, tape, links)
  any_no_front e = any_is None _ _ e refl refl

  module _ (q : Asked) (e : front_of words ≡ Some q) where
    pub any_no_text : hex_in (word4 words) (length text) ≡ None → any_line words text tape links ≡ (bad_text, held_text, tape, links)
    any_no_text f = any_is (Some q) None _ e f refl

    module _ (n : ℕ) (f : hex_in (word4 words) (length text) ≡ Some n) where
      pub any_no_tape : numbers_in (behind4 words) (length tape) ≡ None → any_line words text tape links ≡ (bad_text, held_text, held_tape, links)
      any_no_tape g = any_is (Some q) (Some n) None e f g

      pub any_goes : (m : ℕ) → numbers_in (behind4 words) (length tape) ≡ Some m → (left s stored t after : List ℕ) (out end : List ℕ × ℕ)
          → left ≡ held_text → s ≡ take (n - 0) left → stored ≡ held_tape → t ≡ take m stored
          → (end ≡ put out (walk_in s t q links).0) × (after ≡ (walk_in s t q links).1)
          → (end ≡ put out (any_line words text tape links).0) × (left ≡ (any_line words text tape links).1) × (stored ≡ (any_line words text tape links).2)
          × (after ≡ (any_line words text tape links).3)
      any_goes m g left s stored t after out end l ls r rt a =
          let same_text : s ≡ pairs (word4 words) = part_said (word4 words) text left s n f l ls in
          let same-tape : t ≡ numbers_of (behind4 words) = tape_said (behind4 words) tape stored t m g r rt in
          line4 out end (walk_in s t q links).0 left stored after held_text held_tape (walk_in s t q links).1 (any_line words text tape links)
          (any_is (Some q) (Some n) (Some m) e f g ∙ ap (λ (u : List ℕ). any_own q u (numbers_of (behind4 words))) (sym same_text) ∙ ap (λ (u : List ℕ). any_own q s u) (sym same-tape))
          a.0 l r a.1

-- ---- a text that is read, then walked

module _ (text tape links : List ℕ) (limit : ℕ) (left : List ℕ) (e : left ≡ read_tape text tape) (out end : List ℕ × ℕ) (after : List ℕ) where
  abbrev Walks : Told ℕ → List ℕ → Type 0
  Walks a read = (end ≡ put out (read_walk a text limit read links).0) × (after ≡ (read_walk a text limit read links).1)

  abbrev Walked : Type 0
  Walked = (end ≡ put out (walk_of_text text limit tape links).0) × (left ≡ read_tape text tape) × (after ≡ (walk_of_text text limit tape links).1)

  pub read_walked : (a : Told ℕ) → a ≡ read_answer text (length tape) → Walks a left → Walked
  unfolding walk_of_text
  read_walked a t w =
      let same : read_walk a text limit left links ≡ walk_of_text text limit tape links =
      ap (λ (x : Told ℕ). read_walk x text limit left links) t ∙ ap (λ (x : List ℕ). read_walk (read_answer text (length tape)) text limit x links) e in
      (w.0 ∙ ap (λ (x : List ℕ × List ℕ). put out x.0) same, e, w.1 ∙ ap (λ (x : List ℕ × List ℕ). x.1) same)

  pub accepted_walked : (n : ℕ) → Ok n ≡ read_answer text (length tape) → (q : Asked) → q ≡ asked n limit (min n 65536 + 16)
      → (end ≡ put out (walk_in text left q links).0) × (after ≡ (walk_in text left q links).1) → Walked
  accepted_walked n t q f w =
      read_walked (Ok n) t
      (w.0 ∙ ap (λ (x : Asked). put out (walk_in text left x links).0) f, w.1 ∙ ap (λ (x : Asked). (walk_in text left x links).1) f)

-- ---- `w LIMIT HEX`

module _ (words text tape links : List ℕ) where
  -- by what the words say
  abbrev walk_by : Option ℕ → Option ℕ → List ℕ × List ℕ × List ℕ × List ℕ
  walk_by d h =
      let two = behind_word words in
      by_number d (bad_text, text, tape, links) (λ limit.
      let walk = walk_of_text (pairs two) limit tape links in
      by_hex h (bad_text, over (pairs two) text, tape, links) (walk.0, over (pairs two) text, read_tape (pairs two) tape, walk.1))

  walk_is : walk_line words text tape links ≡ walk_by (decimal_of (first_word words)) (hex_in (behind_word words) (length text))
  unfolding walk_line
  walk_is = refl

  pub walk_no_limit : decimal_of (first_word words) ≡ None → walk_line words text tape links ≡ (bad_text, text, tape, links)
  walk_no_limit e = walk_is ∙ ap (λ (d : Option ℕ). walk_by d (hex_in (behind_word words) (length text))) e

  module _ (limit : ℕ) (e : decimal_of (first_word words) ≡ Some limit) where
    pub walk_bad : hex_in (behind_word words) (length text) ≡ None
        → walk_line words text tape links ≡ (bad_text, over (pairs (behind_word words)) text, tape, links)
    walk_bad f =
        walk_is ∙ ap (λ (d : Option ℕ). walk_by d (hex_in (behind_word words) (length text))) e ∙ ap (λ (h : Option ℕ). walk_by (Some limit) h) f

    pub walk_good : (n : ℕ) → hex_in (behind_word words) (length text) ≡ Some n → (s : List ℕ) → s ≡ pairs (behind_word words)
        → walk_line words text tape links
        ≡ ((walk_of_text s limit tape links).0, over (pairs (behind_word words)) text, read_tape s tape, (walk_of_text s limit tape links).1)
    walk_good n f s g =
        walk_is ∙ ap (λ (d : Option ℕ). walk_by d (hex_in (behind_word words) (length text))) e ∙ ap (λ (h : Option ℕ). walk_by (Some limit) h) f
        ∙ ap (λ (t : List ℕ). ((walk_of_text t limit tape links).0, over (pairs (behind_word words)) text, read_tape t tape, (walk_of_text t limit tape links).1)) (sym g)

    pub walk_goes : (n : ℕ) → hex_in (behind_word words) (length text) ≡ Some n → (left s read after : List ℕ) (out end : List ℕ × ℕ)
        → left ≡ over (pairs (behind_word words)) text → s ≡ take (n - 0) left
        → (end ≡ put out (walk_of_text s limit tape links).0) × (read ≡ read_tape s tape)
        × (after ≡ (walk_of_text s limit tape links).1)
        → (end ≡ put out (walk_line words text tape links).0) × (left ≡ (walk_line words text tape links).1)
        × (read ≡ (walk_line words text tape links).2) × (after ≡ (walk_line words text tape links).3)
    walk_goes n h left s read after out end f g a =
        line4 out end (walk_of_text s limit tape links).0 left read after
        (over (pairs (behind_word words)) text) (read_tape s tape) (walk_of_text s limit tape links).1
        (walk_line words text tape links) (walk_good n h s (part_said (behind_word words) text left s n h f g)) a.0 f a.1 a.2
