-- What no line's promise rests on: the contracts of inner functions.
pub mod Says
pub mod Calls
pub mod Stands
