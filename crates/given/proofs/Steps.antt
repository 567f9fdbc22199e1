-- The refusals of the steps through an attribute are inner. They stand in crate inner, and are handed on from here.
pub use Rattle.inner.proofs.Steps.{Inner-step, Inner-all, skip_inner, all-at, consume-from, consume, sign_inner}
