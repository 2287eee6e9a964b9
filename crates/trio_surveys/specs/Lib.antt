pub mod Reading
pub mod SurveyLaws
pub mod Tree
pub mod Rows
