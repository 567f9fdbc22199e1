-- The refusals of names are inner. They stand in crate inner, and are handed on from here.
pub use Rattle.inner.proofs.Words.{Inner-word, word_inner}
