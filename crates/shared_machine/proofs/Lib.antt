pub mod Histories
pub mod RuleSteps
pub mod CallLaws
pub mod Sent
pub mod HistoryExamples
