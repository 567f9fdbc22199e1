-- What no promise of a piece or an end rests on: the contracts of inner functions.
pub mod Said
pub mod Turns
