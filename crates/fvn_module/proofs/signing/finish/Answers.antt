-- What is left to prove.
use Rattle.std.proofs.Common.{rules, ◌∙◌}
use Rattle.fvn_sorts.specs.Faults.{IsFirstFault}
use Rattle.fvn_module.proofs.Texts.{tops-of}
use Rattle.fvn_module.proofs.signing.finish.Goals as goal

pub returns-in-Err : goal.returns-in-Err
returns-in-Err c =
    let first : IsFirstFault c.args.builder c.in-Err.fault = search rules in
    record { ok = tt; err = (first, c.names_alone.ensures, c.in_ok-tops.ensures ∙ tops-of c.args.builder c.in-Err.fault c.requires first) }
