pub mod SentenceLaws
pub mod ExcerptLaws
pub mod ExplainLaws
