pub mod Numbers
pub mod Entries
pub mod Replies
pub mod Spoken
pub mod Trials
pub mod Turns
pub mod Views
