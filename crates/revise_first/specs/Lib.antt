-- The definitions that the contracts of `revise_first` cite.
pub mod First
