-- The reply to a command is that of its crate.
use Rattle.std.proofs.Common.{IfOk, sym, subst}
use Rattle.fvn_cmd.specs.Texts.{bytes_of}
use Rattle.fvn_tool.specs.inner.Reading.{meant}
use Rattle.fvn_tool.specs.inner.Steps.{IsCommandReply}
use Rattle.fvn_tool.proofs.answer.reply.Goals as goal

pub returns-in-Verify : goal.returns-in-Verify
returns-in-Verify g c =
    subst (λ k. IfOk c.verify_reply.result (λ a. IsCommandReply (meant k) c.args.bytes.now a.status (bytes_of a.text))) (sym c.in-Verify.is) c.verify_reply.ensures

pub returns-in-Variants : goal.returns-in-Variants
returns-in-Variants g c =
    subst (λ k. IfOk c.variants_reply.result (λ a. IsCommandReply (meant k) c.args.bytes.now a.status (bytes_of a.text))) (sym c.in-Variants.is) c.variants_reply.ensures

pub returns-in-Vunify : goal.returns-in-Vunify
returns-in-Vunify g c =
    subst (λ k. IfOk c.vunify_reply.result (λ a. IsCommandReply (meant k) c.args.bytes.now a.status (bytes_of a.text))) (sym c.in-Vunify.is) c.vunify_reply.ensures
