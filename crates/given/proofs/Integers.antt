-- The refusals of integers are inner. They stand in crate inner, and are handed on from here.
pub use Rattle.inner.proofs.Integers.{Inner-numeral, Inner-integer, Inner-any, numeral_inner, typed_inner, any_inner}
