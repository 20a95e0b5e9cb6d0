-- What is promised of answers to `check`, `verify`, `unify` and `terminates`: the words of verdicts, of ends and of
-- weighings are for callers.
mod Checks
pub mod Verified
pub mod Unified
pub mod Weighed
mod Explored
mod Reaching
