-- What is promised of `integer`. Each line is a theorem's statement; its proof only says where it is proved. Assumes nothing.
use Rattle.std.proofs.Common.{Ok, Err}
use Prim.Native.Nat.{ℕ, ◌<◌}
use mathlib.Core.Bool.{Bool, cond, false, true}
use mathlib.Core.List.{List}
use mathlib.Core.Logic.{◌↔◌, ◌⊎◌}
use mathlib.Core.Path.{◌≡◌}
use lib.ListN.{drop, get_or, length}
use Rattle.text.specs.Judged.{judged_of, place_fits}
use Rattle.text.specs.Refusals.{Told, eof, expected_integer, integer_out_of_bounds, invalid_integer_digit, other_kind, underscore_at_beginning, unfit}
use Rattle.text.specs.declared.refusal.Refusal.{Refusal}
use Rattle.digits.specs.Digits.{run_of}
use Rattle.digits.specs.declared.Run.TheVariants.{Empty, NotDigit, Over, Underscore, Value}
use Rattle.integers.specs.Range.{NotBelow, Passes, Reads}
use Rattle.integers.specs.Width.{code_of, limit_of}
use Rattle.integers.specs.declared.integer.Value.{Value as Number}
use Rattle.integers.specs.declared.width.Width.{Width}
use Rattle.integers.proofs.Exactly as runs
use Rattle.rows.specs.Rows.{entry_at}
use Rattle.read.specs.Read.{read_answer, read_tape}
use Rattle.sarridok.specs.declared.integer_call.Typed.{Typed}
use Rattle.sarridok.specs.Typed.{integer_at, integer_of, placed_at}
use Rattle.sarridok.proofs.IntegerDetermined.{integer_determined}
use Rattle.written.specs.Accepted.{ByteAccepted, NumberAccepted}
use Rattle.written.specs.Refused.{DigitTooHigh, NoDigits, OtherByte, OtherWidth, OutOfBounds, TextEnds, UnderscoreFirst}
use Rattle.written.specs.Written.{AsWritten, IsWritten, byte_literal}
use Rattle.written.proofs.ByteWritten as bytes
use Rattle.written.proofs.IntegerAccepted as accepts
use Rattle.written.proofs.IntegerOthers as others
use Rattle.written.proofs.IntegerRefused as refusals
use Rattle.written.proofs.IntegerWritten.{accepted_written, written_accepted}
use Rattle.reread.proofs.Retyped.{read_integer}
use Rattle.fronts.specs.Fronts.{Boundary, FrontOf, PlacedOf, Sound}
use Rattle.fronts.proofs.Calls as fronts
use Rattle.fronts.proofs.Places as places
use Rattle.given.specs.Given.{Given}
use Rattle.given.proofs.Calls.{integer_given}

-- ---- digit runs, at every width

module _ (signed : Bool) (bits : ℕ) (minus : Bool) (base : ℕ) (positive : 0 < base) (run : List ℕ) where
  -- A digit run reads exactly when it isn't empty, has no underscore in front, holds only digits below the base and underscores, and its signed value fits.
  pub digits_read : (v : ℕ) → (run_of (limit_of signed bits minus) base run ≡ Value v) ↔ Reads signed bits minus base run v
  digits_read = runs.reads_exactly signed bits minus base positive run

  -- 7, 8, 9 and 10 exactly in their cases.
  pub digits_7 : (run_of (limit_of signed bits minus) base run ≡ Empty) ↔ (length run ≡ 0)
  digits_7 = runs.seven_exactly signed bits minus base positive run

  pub digits_8 : (run_of (limit_of signed bits minus) base run ≡ Underscore) ↔ (get_or run 0 0 ≡ 0x5f)
  digits_8 = runs.eight_exactly signed bits minus base positive run

  pub digits_9 : (i : ℕ) → (run_of (limit_of signed bits minus) base run ≡ NotDigit i) ↔ NotBelow (limit_of signed bits minus) base run i
  digits_9 = runs.nine_exactly signed bits minus base positive run

  pub digits_10 : (run_of (limit_of signed bits minus) base run ≡ Over) ↔ ((i : ℕ) × Passes (limit_of signed bits minus) base run i)
  digits_10 = runs.ten_exactly signed bits minus base positive run

-- ---- the call

module _ (text : List ℕ) (place : ℕ) (width : Width) where
  -- 1 and 2 exactly in their cases, and past both exactly where the text is sound.
  pub integer_front : FrontOf text (integer_of text place width) (cond (place_fits text place) (placed_at place (integer_at width (drop place text))) (Err unfit))
  integer_front = fronts.integer_front text place width

  -- 28 exactly where the place is no boundary of characters.
  pub integer_placed : Sound text → PlacedOf (Boundary text place) (integer_of text place width) (placed_at place (integer_at width (drop place text)))
  integer_placed = places.integer_placed text place width

  -- What is accepted, where no byte literal stands, is the number written at the place: by its sign, its prefix's base and its digits, the underscores
  -- left out. It is a number of the width, and the place answered is the one behind its digits and its suffix.
  pub integer_written : (t : Typed) → byte_literal (drop place text) ≡ false → integer_of text place width ≡ Ok t → IsWritten width (drop place text) × AsWritten width (drop place text) place t
  integer_written = accepted_written text place width

  -- And what is written there, fits the width and carries no other suffix is accepted.
  pub integer_accepts : judged_of text ≡ Ok tt → place_fits text place ≡ true → IsWritten width (drop place text) → (t : Typed) × (integer_of text place width ≡ Ok t)
  integer_accepts = written_accepted text place width

  -- A byte literal is accepted exactly as a u8, with the byte that it means.
  pub integer_byte : (t : Typed) → byte_literal (drop place text) ≡ true → (integer_of text place width ≡ Ok t) ↔ ByteAccepted width text place t
  integer_byte = bytes.byte_literal_exactly text place width

  -- Both in one: accepted exactly where such a number or byte literal stands.
  pub integer_accepted : (t : Typed) → (integer_of text place width ≡ Ok t) ↔ (NumberAccepted width text place t ⊎ ByteAccepted width text place t)
  integer_accepted = accepts.integer_accepted text place width

  -- 6, 7, 8, 9, 10 and 27 exactly in their cases.
  pub integer_6 : (p : ℕ) → (integer_of text place width ≡ Err (eof p)) ↔ TextEnds text place p
  integer_6 = others.integer_6 text place width

  pub integer_7 : (p : ℕ) → (integer_of text place width ≡ Err (expected_integer p)) ↔ NoDigits text place p
  integer_7 p = refusals.integer_7 text place width p

  pub integer_8 : (p : ℕ) → (integer_of text place width ≡ Err (underscore_at_beginning p)) ↔ UnderscoreFirst text place p
  integer_8 p = refusals.integer_8 text place width p

  pub integer_9 : (p : ℕ) → (integer_of text place width ≡ Err (invalid_integer_digit p)) ↔ DigitTooHigh width text place p
  integer_9 p = refusals.integer_9 text place width p

  pub integer_10 : (p : ℕ) → (integer_of text place width ≡ Err (integer_out_of_bounds p)) ↔ OutOfBounds width text place p
  integer_10 p = refusals.integer_10 text place width p

  pub integer_27 : (integer_of text place width ≡ Err other_kind) ↔ (OtherWidth width text place ⊎ OtherByte width text place)
  integer_27 = bytes.integer_27 text place width

  -- A refusal's number is 1, 2 or one of 4 to 29, and its reason 1 to 8 where that is 13, else 0.
  pub integer_numbers : (r : Refusal) → integer_of text place width ≡ Err r → Given r
  integer_numbers = integer_given text place width

  -- Two answers that meet the promise are equal.
  pub one_integer : (x y : Told Typed) → x ≡ integer_of text place width → y ≡ integer_of text place width → x ≡ y
  one_integer = integer_determined text place width

-- ---- the integers of an accepted read

-- Every integer of an accepted read is accepted again by `integer`, in the width that its detail says, and ends where its entry does.
pub integer_again : (text tape : List ℕ) (count k : ℕ) (width : Width) → read_answer text (length tape) ≡ Ok count → k < count
    → (entry_at (read_tape text tape) k).kind ≡ 11 → code_of width ≡ (entry_at (read_tape text tape) k).detail
    → (v : Number) × (integer_of text (entry_at (read_tape text tape) k).start width ≡ Ok (record { number = v; end = (entry_at (read_tape text tape) k).end }))
integer_again = read_integer
