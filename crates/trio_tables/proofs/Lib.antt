mod RowLemmas
mod TableLemmas
mod CellLemmas
mod StoredLemmas
mod MayLemmas
pub mod OutLemmas
