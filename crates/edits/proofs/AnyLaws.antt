-- `P`, step by step. Assumes nothing.
use Rattle.std.proofs.Common.{Ok, Err}
use Rattle.std.specs.Prelude.{Some, None}
use Prim.Native.Nat.{ℕ, ◌-◌, ◌≤◌}
use native.Mathlib.Omega.{arith}
use mathlib.Core.Bool.{Bool}
use mathlib.Core.List.{List, [], ◌++◌, append-nil}
use mathlib.Core.Path.{◌≡◌, sym, ap, subst, ◌∙◌}
use lib.ListN.{length, take, drop, drop_of_length-le}
use lib.Seq.{take_all}
use Rattle.text.specs.Words.{starts_with}
use Rattle.lines.specs.Out.{put}
use Rattle.lines.specs.Over.{over}
use Rattle.lines.proofs.OutLaws.{then}
use Rattle.repair.specs.Repair.{repair_of, repaired_tape}
use Rattle.repair.specs.declared.repairer.Repaired.{Repaired}
use Rattle.show.specs.Answers.{bad_text, clean_text, refused_text}
use Rattle.show.specs.Repairs.{counts_text, numbers_text}
use Rattle.text.specs.Refusals.{Told}
use Rattle.text.specs.declared.refusal.Refusal.{Refusal}
use Rattle.words.specs.Hex.{hex_in, pairs}
use Rattle.words.specs.Number.{decimal_of}
use Rattle.words.specs.Numbers.{numbers_in, numbers_of}
use Rattle.words.specs.Split.{first_word, behind_word}
use Rattle.words.proofs.SaidLaws.{hex_said, list_said}
use Rattle.edits.specs.declared.cuts.Cut.{Cut}
use Rattle.edits.specs.Repairs.{cut_of, told_of, tape_after, any_text, repair_in, front_of, any_line}
use Rattle.edits.proofs.LineLaws.{drop_taken, Line, Answered, answered}

-- ---- the first four words

module _ (words : List ℕ) where
  pub front_1 : decimal_of (first_word words) ≡ None → None ≡ front_of words
  unfolding front_of
  front_1 e = rw e

  module _ (count : ℕ) (e : decimal_of (first_word words) ≡ Some count) where
    pub front_2 : decimal_of (first_word (behind_word words)) ≡ None → None ≡ front_of words
    unfolding front_of
    front_2 f = rw (e, f)

    module _ (old : ℕ) (f : decimal_of (first_word (behind_word words)) ≡ Some old) where
      pub front_3 : decimal_of (first_word (behind_word (behind_word words))) ≡ None → None ≡ front_of words
      unfolding front_of
      front_3 g = rw (e, f, g)

      module _ (a : ℕ) (g : decimal_of (first_word (behind_word (behind_word words))) ≡ Some a) where
        pub front_4 : decimal_of (first_word (behind_word (behind_word (behind_word words)))) ≡ None → None ≡ front_of words
        unfolding front_of
        front_4 h = rw (e, f, g, h)

        pub front_5 : (b : ℕ) → decimal_of (first_word (behind_word (behind_word (behind_word words)))) ≡ Some b → Some (cut_of count old a b) ≡ front_of words
        unfolding front_of
        front_5 b h = rw (e, f, g, h)

-- ---- a repair

module _ (tape text aside : List ℕ) (q : Cut) (r : Told Repaired) (e : r ≡ repair_of tape q.count q.old q.a q.b text) where
  pub told_by : (a : Told Repaired) → r ≡ a → a ≡ told_of tape q text
  unfolding told_of
  told_by a f = sym f ∙ e

  module _ (left : List ℕ) (l : left ≡ repaired_tape tape q.count q.old q.a q.b text) where
    pub left_is : left ≡ tape_after tape q text
    unfolding tape_after
    left_is = l

    module _ (copy : List ℕ) (k : copy ≡ over tape aside) (out mid end : List ℕ × ℕ) where
      abbrev Says : Type 0
      Says = (end ≡ put out (any_text (told_of tape q text) (tape_after tape q text) (over tape aside))) × (left ≡ tape_after tape q text) × (copy ≡ over tape aside)

      pub any_accepted : (p : Repaired) → r ≡ Ok p → mid ≡ put out (counts_text p.count p.before p.behind)
          → end ≡ put mid (numbers_text left) → Says
      any_accepted p f g h = (
        then out mid end (counts_text p.count p.before p.behind) (numbers_text left) g h
            ∙ ap (λ (s : List ℕ). put out (counts_text p.count p.before p.behind ++ numbers_text s)) left_is
            ∙ ap (λ (t : Told Repaired). put out (any_text t (tape_after tape q text) (over tape aside))) (told_by (Ok p) f),
        left_is,
        k,
      )

      pub any_refused : (f : Refusal) → r ≡ Err f → mid ≡ put out (refused_text f)
          → (same : Bool) → same ≡ starts_with left copy → end ≡ put mid (clean_text same) → Says
      any_refused f g h same j i = (
        then out mid end (refused_text f) (clean_text same) h i
            ∙ ap (λ (b : Bool). put out (refused_text f ++ clean_text b)) j
            ∙ ap (λ (s : List ℕ). put out (refused_text f ++ clean_text (starts_with s copy))) left_is
            ∙ ap (λ (s : List ℕ). put out (refused_text f ++ clean_text (starts_with (tape_after tape q text) s))) k
            ∙ ap (λ (t : Told Repaired). put out (any_text t (tape_after tape q text) (over tape aside))) (told_by (Err f) g),
        left_is,
        k,
      )

-- ---- a part of the tape, or all of it

module _ (tape text aside : List ℕ) (q : Cut) (k : ℕ) (out end : List ℕ × ℕ) (last copy : List ℕ) where
  abbrev Repairs : List ℕ → Type 0
  Repairs t = (end ≡ put out (any_text (told_of t q text) (tape_after t q text) (over t aside))) × (last ≡ tape_after t q text) × (copy ≡ over t aside)

  abbrev In : List ℕ → List ℕ → List ℕ → Type 0
  In t rest after = (end ≡ put out (repair_in text q t rest aside).0) × (after ≡ (repair_in text q t rest aside).1) × (copy ≡ (repair_in text q t rest aside).2)

  pub repair-in : (t rest : List ℕ) → Repairs t → In t rest (last ++ rest)
  unfolding repair_in
  repair-in t rest h = (h.0, ap (λ (l : List ℕ). l ++ rest) h.1, h.2)

  pub lent_part : (m : ℕ) → m ≡ k → Repairs (take m tape) → In (take k tape) (drop k tape) (last ++ drop m tape)
  lent_part m e h = subst (λ (j : ℕ). In (take j tape) (drop j tape) (last ++ drop m tape)) e (repair-in (take m tape) (drop m tape) h)

  pub lent_all : length tape ≤ k → Repairs tape → In (take k tape) (drop k tape) last
  lent_all h s =
      subst (λ (t : List ℕ). In t (drop k tape) last) (sym (take_all k tape h))
      (subst (λ (d : List ℕ). In tape d last) (sym (drop_of_length-le tape h))
      (subst (λ (l : List ℕ). In tape [] l) (append-nil last) (repair-in tape [] s)))

-- ---- the line

abbrev five : List ℕ → List ℕ
five words = behind_word (behind_word (behind_word (behind_word words)))

module _ (words text tape aside : List ℕ) where
  pub line_1 : front_of words ≡ None → any_line words text tape aside ≡ (bad_text, text, tape, aside)
  unfolding any_line
  line_1 e = rw e

  module _ (q : Cut) (e : front_of words ≡ Some q) where
    second : hex_in (first_word (five words)) (length text) ≡ None
        → any_line words text tape aside ≡ (bad_text, over (pairs (first_word (five words))) text, tape, aside)
    unfolding any_line
    second f = rw (e, f)

    third : (n : ℕ) → hex_in (first_word (five words)) (length text) ≡ Some n → numbers_in (behind_word (five words)) (length tape) ≡ None
        → any_line words text tape aside ≡ (bad_text, over (pairs (first_word (five words))) text, over (numbers_of (behind_word (five words))) tape, aside)
    unfolding any_line
    third n f g = rw (e, f, g)

    abbrev repaired : List ℕ → List ℕ → List ℕ × List ℕ × List ℕ
    repaired w v = repair_in (pairs w) q (numbers_of v) (drop (length (numbers_of v)) (over (numbers_of v) tape)) aside

    abbrev whole : List ℕ → List ℕ → Line
    whole w v = ((repaired w v).0, over (pairs w) text, (repaired w v).1, (repaired w v).2)

    fourth : (n k : ℕ) → hex_in (first_word (five words)) (length text) ≡ Some n → numbers_in (behind_word (five words)) (length tape) ≡ Some k
        → any_line words text tape aside ≡ whole (first_word (five words)) (behind_word (five words))
    unfolding any_line
    fourth n k f g = rw (e, f, g)

    module _ (w : List ℕ) (ew : w ≡ first_word (five words)) where
      pub line_2 : hex_in w (length text) ≡ None → any_line words text tape aside ≡ (bad_text, over (pairs w) text, tape, aside)
      line_2 = subst (λ (x : List ℕ). hex_in x (length text) ≡ None → any_line words text tape aside ≡ (bad_text, over (pairs x) text, tape, aside)) (sym ew) second

      module _ (v : List ℕ) (ev : v ≡ behind_word (five words)) (n : ℕ) (f : hex_in w (length text) ≡ Some n) where
        there : hex_in (first_word (five words)) (length text) ≡ Some n
        there = sym (ap (λ (x : List ℕ). hex_in x (length text)) ew) ∙ f

        pub line_3 : numbers_in v (length tape) ≡ None → any_line words text tape aside ≡ (bad_text, over (pairs w) text, over (numbers_of v) tape, aside)
        line_3 g =
            third n there (sym (ap (λ (x : List ℕ). numbers_in x (length tape)) ev) ∙ g)
            ∙ ap (λ (x : List ℕ). (bad_text, over (pairs x) text, over (numbers_of (behind_word (five words))) tape, aside)) (sym ew)
            ∙ ap (λ (x : List ℕ). (bad_text, over (pairs w) text, over (numbers_of x) tape, aside)) (sym ev)

        module _ (k : ℕ) (g : numbers_in v (length tape) ≡ Some k) where
          line_4 : any_line words text tape aside ≡ whole w v
          line_4 =
              fourth n k there (sym (ap (λ (x : List ℕ). numbers_in x (length tape)) ev) ∙ g)
              ∙ ap (λ (x : List ℕ). whole x (behind_word (five words))) (sym ew) ∙ ap (whole w) (sym ev)

          module _ (read stored part : List ℕ) (er : read ≡ over (pairs w) text) (es : stored ≡ over (numbers_of v) tape) (ep : part ≡ take (n - 0) read) where
            bytes_are : part ≡ pairs w
            bytes_are =
                let same : n - 0 ≡ n = omega arith in
                ep ∙ ap (λ (m : ℕ). take m read) same ∙ ap (take n) er ∙ hex_said w text n f

            numbers_are : take k stored ≡ numbers_of v
            numbers_are = ap (take k) es ∙ list_said v tape k g

            rest_is : drop k stored ≡ drop (length (numbers_of v)) (over (numbers_of v) tape)
            rest_is =
                ap (drop k) es ∙ sym (drop_taken k (over (numbers_of v) tape))
                ∙ ap (λ (l : List ℕ). drop (length l) (over (numbers_of v) tape)) (list_said v tape k g)

            same_repair : repair_in part q (take k stored) (drop k stored) aside ≡ repaired w v
            same_repair =
                ap (λ (x : List ℕ). repair_in x q (take k stored) (drop k stored) aside) bytes_are
                ∙ ap (λ (x : List ℕ). repair_in (pairs w) q x (drop k stored) aside) numbers_are
                ∙ ap (λ (x : List ℕ). repair_in (pairs w) q (numbers_of v) x aside) rest_is

            pub line_repaired : (out end : List ℕ × ℕ) (after copy : List ℕ)
                → (end ≡ put out (repair_in part q (take k stored) (drop k stored) aside).0) × (after ≡ (repair_in part q (take k stored) (drop k stored) aside).1) × (copy ≡ (repair_in part q (take k stored) (drop k stored) aside).2)
                → Answered (any_line words text tape aside) out end read after copy
            line_repaired out end after copy h =
                answered (any_line words text tape aside) (whole w v) out end line_4 (
                  h.0 ∙ ap (λ (x : List ℕ × List ℕ × List ℕ). put out x.0) same_repair,
                  er,
                  h.1 ∙ ap (λ (x : List ℕ × List ℕ × List ℕ). x.1) same_repair,
                  h.2 ∙ ap (λ (x : List ℕ × List ℕ × List ℕ). x.2) same_repair,
                )
