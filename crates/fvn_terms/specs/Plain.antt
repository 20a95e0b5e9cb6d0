-- The term that a plain term of the program stands for.
use Rattle.std.specs.Prelude.{List, [], ◌∷◌}
use Rattle.fvn_terms.specs.Term.{Term, Terms, var, app, none, more}
use Rattle.fvn_terms.specs.declared.plain.Plain.{Plain}
use Rattle.fvn_terms.specs.declared.plain.Plain.TheVariants.{Var, App}

-- the term that a plain term stands for
abbrev pub term : Plain → Term
term (Var x) = var x
term (App f us) = app f us

-- the terms that a list of plain terms stands for
abbrev pub terms : List Plain → Terms
terms [] = none
terms (t ∷ ts) = more (term t) (terms ts)
