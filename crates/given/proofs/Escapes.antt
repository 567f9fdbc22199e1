-- The refusals of escapes are inner. They stand in crate inner, and are handed on from here.
pub use Rattle.inner.proofs.Escapes.{Inner-escape, escape_inner}
