pub mod Numbers
pub mod Verdict
pub mod Model
pub mod Rules
pub mod Clauses
