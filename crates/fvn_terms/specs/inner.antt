-- What the code of recursive types asks for: lists of terms told apart by marks.
pub mod Code
