-- all are refused, or one look tells
use Rattle.std.proofs.lemmas.Bool.{false≢true}
use Rattle.fvn_cover.proofs.Sieving.{none_covers, covers_none}
use Rattle.fvn_cover.proofs.sieve.looked_over.Goals as goal

pub returns-then-apart : goal.returns-then-apart
returns-then-apart c =
    let d = c.args.sig.now in
    let out = c.of-out.result in
    let marks = c.args.marks.now in
    let v = c.args.v.now in
    let own = c.own_marks-own.result in
    let refused = c.refuses-apart.ensures c.if-apart.true in
    record {
      covered = (λ t. absurd (false≢true t), λ some. absurd (none_covers d out c.of-out.ensures marks v own c.own_marks-own.ensures refused c.args.list.now c.requires.marks c.requires.alike some));
      «open» = λ shut. covers_none d out c.of-out.ensures marks v own c.own_marks-own.ensures refused c.args.list.now c.requires.marks c.requires.alike;
    }

pub looked_through-requires-clause-flat : goal.looked_through-requires-clause-flat
looked_through-requires-clause-flat c = c.requires.flat

pub looked_through-requires-clause-alike : goal.looked_through-requires-clause-alike
looked_through-requires-clause-alike c = c.requires.alike

pub returns : goal.returns
returns c = c.in_ok-look.ensures
