pub mod ActRuns
pub mod Headline
pub mod CopiedStay
pub mod Weighed
