-- The refusals of chars and byte literals are inner. They stand in crate inner, and are handed on from here.
pub use Rattle.inner.proofs.Chars.{Inner-char, char_inner, Inner-byte, byte_inner}
