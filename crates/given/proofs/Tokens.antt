-- The refusals of tokens, and of the token reader of RON, are inner. They stand in crate inner, and are handed on from here.
pub use Rattle.inner.proofs.Tokens.{Inner-lexeme, token_inner, ron_inner}
