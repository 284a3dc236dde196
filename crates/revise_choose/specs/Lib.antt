-- The definitions that the contracts of `revise_choose` cite.
pub mod Choose
pub mod Place
