-- What mirrors the code.
pub mod Ends
pub mod Names
pub mod Tests
pub mod Attempts
pub mod OneForms
