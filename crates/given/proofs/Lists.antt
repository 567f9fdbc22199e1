-- The refusals of an attribute's list of extensions are inner. They stand in crate inner, and are handed on from here.
pub use Rattle.inner.proofs.Lists.{Inner-listed, list_inner}
