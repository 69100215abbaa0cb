-- The rules of events: charts, histories, the refusals 8 to 14, the verdict, the figures of the sheet and what is printed.
pub mod Words
pub mod Limits
pub mod Lists
pub mod First
pub mod Chart
pub mod Charts
pub mod Event
pub mod Core
pub mod History
pub mod Refusals
pub mod Verdict
pub mod Sheet
pub mod Lines
pub mod Trace
pub mod Text
pub mod OldJudge
pub mod Lawful
