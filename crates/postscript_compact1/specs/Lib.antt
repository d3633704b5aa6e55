-- The definitions that the contracts use for fonts and their parts (Technical Note 5176). The relations in the words of the Note are the
-- layout and the causes of FontSet, and the modules with names that end in Law. The others define the names in these. Computed has
-- definitions that compute the same, for the clauses `exact` and `value` and for proofs.
pub mod StandardStrings
pub mod FontSet
pub mod Index
pub mod IndexLaw
pub mod IndexAt
pub mod IndexCauses
pub mod Kinds
pub mod CharSets
pub mod ItemsLaw
pub mod Texts
pub mod TextsLaw
pub mod CharSetLaw
pub mod CharSetAt
pub mod CharSetCauses
pub mod Computed
pub mod Private
