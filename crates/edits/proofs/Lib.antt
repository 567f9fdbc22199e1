pub mod MoveLaws
pub mod LineLaws
pub mod AnyLaws
pub mod TextLaws
pub mod CutLaws
