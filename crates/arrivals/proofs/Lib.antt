pub mod StateLaws
pub mod CallLaws
pub mod CleanLaws
pub mod WordLaws
pub mod AnyLaws
pub mod TurnLaws
pub mod TextLaws
