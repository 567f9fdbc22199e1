-- The refusals of strings and byte strings are inner. They stand in crate inner, and are handed on from here.
pub use Rattle.inner.proofs.Strings.{Inner-literal, string_inner, byte_string_inner}
