pub mod ReadSteps
pub mod PassLaws
pub mod ReadLaws
pub mod AcceptedReads
