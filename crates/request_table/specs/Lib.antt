pub mod Requests
pub mod Lending
