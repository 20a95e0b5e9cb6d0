-- The words of the reply to `vunify`.
pub mod Asked
pub mod Solutions
pub mod Replies
pub mod Laws
pub mod inner
-- Passed on from below, so that crates above need not stand on more than they must.
pub use Rattle.fvn_cmd_unify.specs.Ends as CmdUnifyEnds
pub use Rattle.fvn_cmd_unify.specs.Solutions as CmdUnifySolutions
pub use Rattle.fvn_cmd_unify.specs.Asked as CmdUnifyAsked
pub use Rattle.fvn_cmd_unify.specs.Replies as CmdUnifyReplies
