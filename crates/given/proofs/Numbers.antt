-- The refusals of floats and numbers are inner. They stand in crate inner, and are handed on from here.
pub use Rattle.inner.proofs.Numbers.{Inner-float, float_inner, Inner-number, number_inner}
