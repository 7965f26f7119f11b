pub mod TableSteps
pub mod AskSteps
pub mod ReadSteps
pub mod UpperSteps
pub mod StatusTexts
pub mod ListSteps
