pub mod Record
pub mod Test
