-- What the token reader cites of attributes: they are bounded, and decided by their own bytes. Assumes nothing.
pub use Rattle.attributes.proofs.Bounds.{Bounded-attribute, attribute_bounded}
pub use Rattle.attributes.proofs.Closes.{Within-attribute, attribute_closed}
