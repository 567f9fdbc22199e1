-- Choices by a test: `cond`, `&&` and `||`. They stand in the leaf crate, and are handed on from here.
pub use Rattle.xid.proofs.Choices.{cond_cases, cond_same, bool_cases, either, lt_or_le, and_false, and_one, or_true, or_false, and_true, or_left, or_right, or_cases, chosen}
