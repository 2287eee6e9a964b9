pub mod Kind
pub mod ByKind
pub mod Rights
pub mod Row
pub mod May
pub mod Sheets
pub mod Bundle
