pub mod Sizes
pub mod Bytes
pub mod StepBytes
pub mod JournalBook
pub mod RowBook
pub mod Sound
pub mod WordRecord
