-- The refusals of attributes are inner. They stand in crate inner, and are handed on from here.
pub use Rattle.inner.proofs.Attributes.{Inner-attribute, attribute_inner}
