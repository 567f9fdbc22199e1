pub mod GatherLaws
pub mod ListedLaws
pub mod LineLaws
