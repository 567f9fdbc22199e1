-- The refusals of whitespace and comments are inner. They stand in crate inner, and are handed on from here.
pub use Rattle.inner.proofs.Gaps.{Inner-gap, gap_inner}
