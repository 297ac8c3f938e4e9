pub mod Reflect
pub mod Groups
pub mod Exact
pub mod Listed
pub mod FaultLaws
pub mod Answers
pub mod AnswerLaws
