-- A choice between two answers of which the same holds. They stand in crate inner, and are handed on from here.
pub use Rattle.inner.proofs.Both.{both}
