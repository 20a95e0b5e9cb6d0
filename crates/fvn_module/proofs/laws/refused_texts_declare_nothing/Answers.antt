-- The law is a lemma.
use Rattle.fvn_module.proofs.OneText.{refused-apart}
use Rattle.fvn_module.proofs.laws.refused_texts_declare_nothing.Goals as goal

pub returns : goal.returns
returns c = λ bytes f m h a. refused-apart c.statements_are_determined.ensures bytes f m h a
