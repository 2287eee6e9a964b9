pub mod ActRuns
