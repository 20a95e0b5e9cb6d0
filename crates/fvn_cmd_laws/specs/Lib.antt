-- The laws of replies, and words for what answers to `unify`, verdicts of `verify` and weighings promise.
pub mod Unified
pub mod Verified
pub mod Weighed
pub mod Explored
pub mod Reaching
pub mod Laws
-- Passed on from below, so that crates above need not stand on more than they must.
pub use Rattle.fvn_cmd_exploring.specs.Searches as CmdExploringSearches
pub use Rattle.fvn_cmd_variants.specs.Solutions as CmdVariantsSolutions
pub use Rattle.fvn_cmd_variants.specs.Replies as CmdVariantsReplies
pub use Rattle.fvn_cmd_vunify.specs.Solutions as CmdVunifySolutions
pub use Rattle.fvn_cmd_vunify.specs.Replies as CmdVunifyReplies
pub use Rattle.fvn_cmd_vunify.specs.CmdUnifyEnds
pub use Rattle.fvn_cmd_vunify.specs.CmdUnifySolutions
pub use Rattle.fvn_cmd_vunify.specs.CmdUnifyReplies
pub use Rattle.fvn_cmd_verify.specs.Verdicts as CmdVerifyVerdicts
pub use Rattle.fvn_cmd_verify.specs.Replies as CmdVerifyReplies
pub use Rattle.fvn_cmd_check.specs.Checks as CmdCheckChecks
